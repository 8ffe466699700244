-- In front of claims none of whose lists keeps too much for a web stand no other lists that do
-- (`small_stays`), since one head stands there, and one row of lists (`lists_are_one`).
use Rattle.std.proofs.Common.{◌≡◌, ℕ, List, ◌++◌, Some, None, drop, length, take, sym, ap, subst, ◌∙◌, append_assoc}
use Rattle.std.specs.Io.{StartsWith}
use Rattle.std.proofs.lemmas.List.{append_cancel_left, take-append-drop}
use Rattle.cert_check.specs.Settings.{AreSmallStated, Ground, HasLargeLists, IsOpeningOf, Lists, Numbers, form_of, ground_text}
use Rattle.cert_check.proofs.StartLemmas.{at_front}
use Rattle.cert_check.proofs.ToldLists.{front_of, same_lists, short_lists}
use Rattle.cert_text.specs.declared.answers.CertHead.{CertHead}
use Rattle.cert_text.specs.declared.answers.Form.TheVariants.{First, Second, Third}
use Rattle.cert_text.proofs.HeadBacks.{heads_are_one}
use Rattle.fux_grid.specs.declared.exercise.Exercise.{Exercise}
use Rattle.fux_grid.specs.Exercises.{IsValid}
use Rattle.penalty_sheet.specs.declared.sheet.Sheet.{Sheet}
use Rattle.price_check.specs.Statements.{HasLargeStated}
use Rattle.price_check.specs.PriceLines.{Line}

first_other : First ≡ Third → ⊥
first_other same = cc

second_other : Second ≡ Third → ⊥
second_other same = cc

module _ (ex : Exercise) (valid : IsValid ex) (bytes : List ℕ) where
  -- what stands behind the head, where an opening stands at the front
  abbrev behind : (stated : Ground) (opening : List ℕ) → List ℕ
  behind stated opening = ground_text stated ++ drop (length opening) bytes

  parts : (stated : Ground) (head : CertHead) (opening : List ℕ) (opens : IsOpeningOf ex head stated opening)
      → StartsWith bytes opening → bytes ≡ opens.front ++ behind stated opening
  parts stated head opening opens begins =
      let later = drop (length opening) bytes in
      sym (take-append-drop (length opening) bytes) ∙ ap (λ xs. xs ++ later) begins ∙ ap (λ xs. xs ++ later) opens.is
      ∙ append_assoc opens.front (ground_text stated) later

  -- one head stands there
  one_head : (stated other : Ground) (head second : CertHead) (opening also : List ℕ)
      (opens : IsOpeningOf ex head stated opening) (its : IsOpeningOf ex second other also)
      → StartsWith bytes opening → StartsWith bytes also
      → (form_of stated ≡ form_of other) × (head ≡ second) × (length opens.front ≡ length its.front)
  one_head stated other head second opening also opens its begins too =
      heads_are_one ex bytes (form_of stated) (form_of other) head second (length opens.front) (length its.front) valid
      (at_front ex (form_of stated) head bytes opens.front (behind stated opening)
      (parts stated head opening opens begins) opens.heads)
      (at_front ex (form_of other) second bytes its.front (behind other also) (parts other second also its too) its.heads)

  pub lists_are_one : (lines others : List Line) (head second : CertHead) (opening also : List ℕ)
      → IsOpeningOf ex head (Lists lines) opening → IsOpeningOf ex second (Lists others) also
      → StartsWith bytes opening → StartsWith bytes also → lines ≡ others
  lists_are_one lines others head second opening also opens its begins too =
      let own = parts (Lists lines) head opening opens begins in
      let theirs = parts (Lists others) second also its too in
      let one = one_head (Lists lines) (Lists others) head second opening also opens its begins too in
      let fronts : opens.front ≡ its.front =
      sym (front_of bytes opens.front (behind (Lists lines) opening) own) ∙ ap (λ n. take n bytes) one.2
      ∙ front_of bytes its.front (behind (Lists others) also) theirs in
      same_lists ex lines others (drop (length opening) bytes) (drop (length also) bytes) valid.most_voices opens.fits its.fits
      (short_lists lines opens.front opening opens.is opens.short) (short_lists others its.front also its.is its.short)
      (append_cancel_left opens.front (behind (Lists lines) opening) (behind (Lists others) also)
      (sym own ∙ theirs ∙ ap (λ xs. xs ++ behind (Lists others) also) (sym fronts)))

  pub small_stays : (sheet : Sheet) (stated : Ground) (head : CertHead) (opening : List ℕ)
      → IsOpeningOf ex head stated opening → StartsWith bytes opening → AreSmallStated ex sheet stated
      → HasLargeLists ex sheet bytes → ⊥
  small_stays sheet (Numbers None) head opening opens begins small large =
      first_other (one_head (Numbers None) (Lists large.lists.lines) head large.head opening large.lists.opening
      opens large.lists.opens begins large.lists.begins).0
  small_stays sheet (Numbers (Some entries)) head opening opens begins small large =
      second_other (one_head (Numbers (Some entries)) (Lists large.lists.lines) head large.head opening
      large.lists.opening opens large.lists.opens begins large.lists.begins).0
  small_stays sheet (Lists lines) head opening opens begins small large =
      small (subst (λ (ls : List Line). HasLargeStated ex sheet ls)
      (sym (lists_are_one lines large.lists.lines head large.head opening large.lists.opening opens large.lists.opens
      begins large.lists.begins)) large.large)
