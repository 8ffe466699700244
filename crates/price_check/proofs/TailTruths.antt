-- Whatever tail a prefix has, some entries state it (`stating_tail`), so what is told of claims by
-- tails is told of claims by lists (`tails_tell_truth`).
use Rattle.std.proofs.Common.{◌≡◌, ℕ, zero, suc, ◌+◌, ◌-◌, Bool, List, [], ◌∷◌, Option, Some, None, false, length, option_map, refl, sym, ap, ap₂, ◌∙◌, subst, if◌then◌else◌}
use Rattle.std.specs.Prelude.{◌↔◌, IsSomeAnd, IsTrue, is_none}
use Rattle.std.specs.Option.{option_map_or}
use Rattle.cert_law.specs.declared.judged.Judged.{Judged}
use Rattle.cert_law.specs.Cases.{Matter}
use Rattle.cert_law.specs.Claims.{IsNoBetter, IsTrueOf}
use Rattle.cert_law.specs.Entries.{columns_before, entry_at, number_in}
use Rattle.cert_law.specs.Prefixes.{IsJudged}
use Rattle.cert_law.specs.Tails.{entry_behind, number_of, tail_of, used_floor}
use Rattle.cert_law.specs.Truths.{IsFirstClaim, TellsTruth}
use Rattle.cert_law.specs.Writer.{first_claim, is_no_better, is_setting_of, least_break}
use Rattle.cert_text.specs.declared.claim.Claim.{Claim}
use Rattle.cert_text.specs.declared.claim.Claim.TheVariants.{Open, Broken, NoChain, Floor, TheScore}
use Rattle.cert_text.specs.declared.potential.Potential.{Potential}
use Rattle.cert_text.specs.declared.potential.Potential.TheVariants as stated
use Rattle.fux_grid.specs.declared.cell.Cell.{Cell}
use Rattle.fux_grid.specs.declared.exercise.Exercise.{Exercise}
use Rattle.fux_grid.specs.Menus.{menu_of}
use Rattle.fux_judge.specs.Links.{last_column}
use Rattle.penalty_sheet.specs.declared.sheet.Sheet.{Sheet}
use Rattle.price_check.specs.Certificates.{IsSharpTrueOf}
use Rattle.price_check.specs.Truths.{sharp_first_claim}
use Rattle.price_check.specs.PriceLists.{PriceList, sharp_floor, sharp_tail, spent_of}
use Rattle.price_check.proofs.ListSums.{tails_give_floors}

-- ---- entries that state a tail

copies : ℕ → Potential → List Potential
copies zero entry = []
copies (suc n) entry = entry ∷ copies n entry

last_copy : (n : ℕ) (entry : Potential) → entry_at (copies (suc n) entry) n ≡ entry
unfolding copies
last_copy zero entry = refl
last_copy (suc n) entry = last_copy n entry

-- the number of a prefix's entry
abbrev number_for : Exercise → ℕ → Option (List Cell) → ℕ
number_for ex size None = 0
number_for ex size (Some col) = 1 + columns_before ex (size - 1) + number_of (menu_of ex (size - 1)) col

entry_is : (ex : Exercise) (entries : List Potential) (size : ℕ) (last : Option (List Cell))
    → entry_behind ex entries size last ≡ entry_at entries (number_for ex size last)
entry_is ex entries size None = refl
entry_is ex entries size (Some col) = refl

stating : Option ℕ → Potential
stating None = stated.NoChain
stating (Some n) = stated.Least n

states : (tail : Option ℕ) → number_in (stating tail) ≡ tail
unfolding stating
states None = refl
states (Some n) = refl

entries_for : Exercise → List (List Cell) → Option ℕ → List Potential
entries_for ex p tail = copies (suc (number_for ex (length p) (last_column p))) (stating tail)

stating_tail : (ex : Exercise) (sheet : Sheet) (p : List (List Cell)) (tail : Option ℕ)
    → tail_of ex sheet (Some (entries_for ex p tail)) p ≡ tail
unfolding entries_for
stating_tail ex sheet p tail =
    ap number_in (entry_is ex (entries_for ex p tail) (length p) (last_column p)
    ∙ last_copy (number_for ex (length p) (last_column p)) (stating tail)) ∙ states tail

-- ---- claims

none_back : (f : ℕ → ℕ) (o : Option ℕ) → option_map f o ≡ None → o ≡ None
none_back f None e = refl
none_back f (Some n) e = cc

module _ (t : Matter) (lists : List PriceList) (p : List (List Cell)) where
  abbrev its_tail : Option ℕ
  its_tail = sharp_tail t.exercise t.sheet lists p

  abbrev its_entries : List Potential
  its_entries = entries_for t.exercise p its_tail

  tail_is : tail_of t.exercise t.sheet (Some its_entries) p ≡ its_tail
  tail_is = stating_tail t.exercise t.sheet p its_tail

  floor_is : used_floor t.exercise t.sheet (Some its_entries) p ≡ sharp_floor t.exercise t.sheet lists p
  unfolding used_floor
  floor_is =
      ap (option_map (λ tail. spent_of t.exercise t.sheet p + tail)) tail_is
      ∙ tails_give_floors t.exercise t.sheet lists p

  same_claim : (claim : Claim)
      → IsTrueOf t.exercise t.sheet t.head (Some its_entries) p claim
      ↔ IsSharpTrueOf t.exercise t.sheet t.head lists p claim
  same_claim Open = (λ h. h, λ h. h)
  same_claim (Broken rule) = (λ h. h, λ h. h)
  same_claim NoChain = (
    λ h. none_back (λ floor. floor - spent_of t.exercise t.sheet p) (sharp_floor t.exercise t.sheet lists p)
        (sym tail_is ∙ h),
    λ h. tail_is ∙ ap (option_map (λ floor. floor - spent_of t.exercise t.sheet p)) h,
  )
  same_claim Floor = (
    subst (λ (o : Option ℕ). IsSomeAnd o (IsNoBetter t.head p)) floor_is,
    subst (λ (o : Option ℕ). IsSomeAnd o (IsNoBetter t.head p)) (sym floor_is),
  )
  same_claim TheScore = (λ h. h, λ h. h)

  none_same : (f : ℕ → ℕ) (o : Option ℕ) → is_none (option_map f o) ≡ is_none o
  none_same f None = refl
  none_same f (Some n) = refl

  same_first : first_claim t.exercise t.sheet t.head (Some its_entries) p
      ≡ sharp_first_claim t.exercise t.sheet t.head lists p
  same_first =
      ap₂ (λ (none : Bool) (floor : Option ℕ). if is_setting_of t.head p then TheScore
      else option_map_or Broken (least_break t.exercise p) (if none then NoChain
      else (if option_map_or (is_no_better t.head p) floor false then Floor else Open)))
      (ap is_none tail_is ∙ none_same (λ floor. floor - spent_of t.exercise t.sheet p)
      (sharp_floor t.exercise t.sheet lists p)) floor_is

pub tails_tell_first : (t : Matter) (lists : List PriceList) (judged : Judged) (claim : Claim) (p : List (List Cell))
    → IsJudged t p judged → IsFirstClaim t judged (sharp_tail t.exercise t.sheet lists p) claim
    → claim ≡ sharp_first_claim t.exercise t.sheet t.head lists p
tails_tell_first t lists judged claim p known tells =
    tells (Some (its_entries t lists p)) p known (sym (tail_is t lists p)) ∙ same_first t lists p

pub tails_tell_truth : (t : Matter) (lists : List PriceList) (judged : Judged) (claim : Claim) (result : Bool)
    (p : List (List Cell)) → IsJudged t p judged
    → TellsTruth t judged (sharp_tail t.exercise t.sheet lists p) claim result
    → IsTrue result ↔ IsSharpTrueOf t.exercise t.sheet t.head lists p claim
tails_tell_truth t lists judged claim result p known tells =
    let own = tells (Some (its_entries t lists p)) p known (sym (tail_is t lists p)) in
    let same = same_claim t lists p claim in
    (λ h. same.0 (own.0 h), λ h. own.1 (same.1 h))
