-- One head of any form at most stands at the front of bytes (`heads_are_one`), whatever stands
-- behind it (`heads_before`), and its text is short (`heads_are_brief`), so that a long front of
-- bytes tells where none goes on (`stops_whole`).
use Rattle.std.proofs.Common.{◌≡◌, ℕ, ◌+◌, ◌≤◌, ◌<◌, ◌^◌, List, ◌∷◌, ◌++◌, length, length-append, take, Option, Some, None, Result, Ok, refl, sym, ap, subst, ◌∙◌, arith}
use Rattle.std.specs.Prelude.{codes}
use Rattle.std.specs.Fmt.{decimal}
use Rattle.std.proofs.lemmas.Fmt.{length-decimal-le}
use Rattle.std.proofs.lemmas.List.{append_cancel_left, append_cancel_right, length-take, length-take-le, take-append-le, take-take}
use Rattle.fux_grid.specs.declared.exercise.Exercise.{Exercise}
use Rattle.fux_grid.specs.Exercises.{IsValid}
use Rattle.fux_grid.specs.Grid.{Grid}
use Rattle.fux_text.specs.declared.fault.TextKind.{TextKind}
use Rattle.text_lines.specs.Faults.{Fault}
use Rattle.fux_text.specs.Reading.{setting_alone}
use Rattle.fux_text.specs.Texts.{AreSingLinesOf}
use Rattle.fux_text.proofs.ReadTexts.{lines-read}
use Rattle.cert_text.specs.declared.answers.CertHead.{CertHead}
use Rattle.cert_text.specs.declared.answers.CertHead.TheVariants.{Best, Nothing}
use Rattle.cert_text.specs.declared.answers.Form.{Form}
use Rattle.cert_text.specs.declared.answers.Form.TheVariants.{First, Second, Third}
use Rattle.cert_text.specs.HeadTexts.{BeginsText, HasLines, Heads, TextStops, penalty_of}
use Rattle.cert_text.specs.HeadRows.{closing_text, opening_text}
use Rattle.cert_text.specs.SingItems.{IsHeadText, best_text, nothing_text}
use Rattle.cert_text.specs.WrittenLines.{HeadTextsAreShort, HeadsAreOne}
use Rattle.cert_text.proofs.HeadStops.{same-head}
use Rattle.cert_text.proofs.ItemTexts.{item_lines-short}
use Rattle.cert_text.proofs.SungScores.{written-are_items}

-- ---- one head

one_read : (read : Result Grid (Fault TextKind)) (s t : Grid) → read ≡ Ok s → read ≡ Ok t → s ≡ t
one_read read s t e f = cc

-- lines are those of one setting
pub lines_are_of_one : (ex : Exercise) (lines : List ℕ) (s t : Grid) → IsValid ex → AreSingLinesOf ex lines s
    → AreSingLinesOf ex lines t → s ≡ t
lines_are_of_one ex lines s t valid are also =
    one_read (setting_alone ex lines) s t (lines-read ex lines s valid are) (lines-read ex lines t valid also)

pub same_lines : (form : Form) (penalty : ℕ) (lines others : List ℕ)
    → best_text form penalty lines ≡ best_text form penalty others → lines ≡ others
same_lines form penalty lines others e =
    let closing = closing_text form in
    let xs = decimal penalty ++ 10 ∷ (lines ++ closing) in
    let ys = decimal penalty ++ 10 ∷ (others ++ closing) in
    let kinds : codes "best " ++ xs ≡ codes "best " ++ ys =
    append_cancel_left (opening_text form) (codes "best " ++ xs) (codes "best " ++ ys) e in
    let numbered : xs ≡ ys = append_cancel_left (codes "best ") xs ys kinds in
    let fed : 10 ∷ (lines ++ closing) ≡ 10 ∷ (others ++ closing) =
    append_cancel_left (decimal penalty) (10 ∷ (lines ++ closing)) (10 ∷ (others ++ closing)) numbered in
    let behind : lines ++ closing ≡ others ++ closing = cc in
    append_cancel_right lines others closing behind

same_setting : (ex : Exercise) (form : Form) (bytes : List ℕ) (h k : CertHead) → IsValid ex
    → penalty_of h ≡ penalty_of k → HasLines ex form bytes h → HasLines ex form bytes k → h ≡ k
same_setting ex form bytes Nothing Nothing valid e x y = refl
same_setting ex form bytes Nothing (Best q t) valid e x y = absurd (grind (arith, e))
same_setting ex form bytes (Best p s) Nothing valid e x y = absurd (grind (arith, e))
same_setting ex form bytes (Best p s) (Best q t) valid e x y =
    let same : p ≡ q = grind (arith, e) in
    let text : best_text form q x.0 ≡ best_text form q y.0 =
    ap (λ n. best_text form n x.0) (sym same) ∙ sym x.1 ∙ y.1 in
    let lines : x.0 ≡ y.0 = same_lines form q x.0 y.0 text in
    let score : s ≡ t = lines_are_of_one ex y.0 s t valid (subst (λ l. AreSingLinesOf ex l s) lines x.2) y.2 in
    ap (λ n. Best n s) same ∙ ap (λ g. Best q g) score

pub heads_are_one : (ex : Exercise) (bytes : List ℕ) (form other : Form) (h k : CertHead) (n m : ℕ) → IsValid ex
    → Heads ex form bytes h n → Heads ex other bytes k m → (form ≡ other) × (h ≡ k) × (n ≡ m)
heads_are_one ex bytes form other h k n m valid one two =
    let same = same-head ex valid bytes form other n m (penalty_of h) (penalty_of k) one.within two.within one.text
    two.text in
    let Lines : Form → ℕ → Type 0 = λ f i. HasLines ex f (take i bytes) k in (
      same.0,
      same_setting ex form (take n bytes) h k valid same.2 one.setting
          (subst (λ f. Lines f n) (sym same.0) (subst (Lines other) (sym same.1) two.setting)),
      same.1,
    )

-- ---- what stands behind a head

pub heads_before : (ex : Exercise) (form : Form) (front rest : List ℕ) (h : CertHead)
    → Heads ex form front h (length front) → Heads ex form (front ++ rest) h (length front)
heads_before ex form front rest h heads =
    let same : take (length front) front ≡ take (length front) (front ++ rest) =
    sym (take-append-le (length front) front rest (omega arith)) in
    record {
      within = omega (arith, length-append front rest);
      text = subst (λ xs. IsHeadText ex form xs (penalty_of h)) same heads.text;
      setting = subst (λ xs. HasLines ex form xs h) same heads.setting;
    }

-- ---- how long a head is

opening-short : (form : Form) → length (opening_text form) ≡ 11
opening-short form = refl

closing-short : (form : Form) → length (closing_text form) ≤ 11
closing-short First = omega arith
closing-short Second = omega arith
closing-short Third = omega arith

best-short : (form : Form) (penalty : ℕ) (lines : List ℕ) → penalty < 2 ^ 64
    → length (best_text form penalty lines) ≤ 48 + length lines
best-short form penalty lines below =
    let number : length (decimal penalty) ≤ 20 =
    length-decimal-le 20 penalty (omega arith) (omega (arith, below)) below in
    let closing = closing_text form in
    let rest = codes "best " ++ (decimal penalty ++ 10 ∷ (lines ++ closing)) in
    let whole = length-append (opening_text form) rest in
    let behind = length-append (decimal penalty) (10 ∷ (lines ++ closing)) in
    let last = length-append lines closing in
    omega (arith, number, opening-short form, closing-short form, whole, behind, last)

nothing-short : (form : Form) → length (nothing_text form) ≤ 27
nothing-short First = omega arith
nothing-short Second = omega arith
nothing-short Third = omega arith

-- so it has at most 4,876 bytes
pub heads_are_brief : (ex : Exercise) (form : Form) (text : List ℕ) (penalty : Option ℕ) → IsValid ex
    → IsHeadText ex form text penalty → length text ≤ 4876
heads_are_brief ex form text None valid is = omega (arith, ap length is, nothing-short form)
heads_are_brief ex form text (Some penalty) valid is =
    omega (
      arith,
      ap length is.text,
      best-short form penalty is.lines is.below,
      item_lines-short ex is.lines valid
          (written-are_items ex is.canonical.0 is.lines valid is.canonical.1),
    )

-- ---- a front as long as a head can be

module _ (ex : Exercise) (valid : IsValid ex) (bytes : List ℕ) (last : Form) where
  begun-short : (n : ℕ) → n ≤ length bytes → BeginsText ex last (take n bytes) → n < 5000
  begun-short n within begins =
      omega (
        arith,
        heads_are_brief ex begins.form (take n bytes ++ begins.rest) begins.penalty valid begins.whole,
        length-append (take n bytes) begins.rest,
        length-take-le n bytes within,
      )

  whole-short : (form : Form) (n : ℕ) (penalty : Option ℕ) → n ≤ length bytes
      → IsHeadText ex form (take n bytes) penalty → n < 5000
  whole-short form n penalty within is =
      omega (arith, heads_are_brief ex form (take n bytes) penalty valid is, length-take-le n bytes within)

  -- where a front of bytes is as long as a head can be, no head goes on farther by all of them
  pub stops_whole : (limit at : ℕ) → 5000 ≤ limit → TextStops ex last (take limit bytes) at → TextStops ex last bytes at
  stops_whole limit at large stop =
      let size = length-take limit bytes in
      let same = λ (n : ℕ) (few : n ≤ limit). take-take n limit bytes few in
      record {
        within = omega (arith, size, stop.within);
        begins = subst (BeginsText ex last) (same at (omega (arith, size, stop.within))) stop.begins;
        longest = λ n within begins.
            let few : n < 5000 = begun-short n within begins in
            stop.longest n (omega (arith, size, within, few, large))
            (subst (BeginsText ex last) (sym (same n (omega (arith, few, large)))) begins);
        unfinished = λ form among n penalty within is.
            let few : n < 5000 = whole-short form n penalty within is in
            stop.unfinished form among n penalty (omega (arith, size, within, few, large))
            (subst (λ xs. IsHeadText ex form xs penalty) (sym (same n (omega (arith, few, large)))) is);
      }

-- ---- as the laws say it

pub one-heads : HeadsAreOne
one-heads ex bytes form other head second n m valid one two =
    heads_are_one ex bytes form other head second n m valid one two

pub short-texts : HeadTextsAreShort
short-texts ex form text penalty valid is = omega (arith, heads_are_brief ex form text penalty valid is)
