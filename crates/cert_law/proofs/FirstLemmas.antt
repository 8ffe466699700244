-- The first claim, by what is known of a prefix (`first_rule`, `first_floor`).
use Rattle.std.proofs.Common.{◌≡◌, ℕ, ◌+◌, Bool, false, List, [], ◌∷◌, Option, Some, None, refl, ap, sym, ◌∙◌, if◌then◌else◌}
use Rattle.std.specs.Prelude.{is_none}
use Rattle.std.specs.List.{find}
use Rattle.std.specs.Option.{option_map_or}
use Rattle.cert_law.specs.Tails.{tail_of, used_floor}
use Rattle.cert_law.specs.Writer.{first_claim, is_no_better, is_setting_of, least_break, unbroken_claim}
use Rattle.cert_law.proofs.TruthLemmas.{floor-tail}
use Rattle.cert_text.specs.declared.answers.CertHead.{CertHead}
use Rattle.cert_text.specs.declared.claim.Claim.TheVariants.{Open, Broken, NoChain, Floor, TheScore}
use Rattle.cert_text.specs.declared.potential.Potential.{Potential}
use Rattle.fux_grid.specs.declared.cell.Cell.{Cell}
use Rattle.fux_grid.specs.declared.exercise.Exercise.{Exercise}
use Rattle.fux_judge.specs.Gauges.{least_of}
use Rattle.fux_judge.specs.Penalties.{paid}
use Rattle.penalty_sheet.specs.declared.sheet.Sheet.{Sheet}

pub find-same : (f g : ℕ → Bool) → ((x : ℕ) → f x ≡ g x) → (xs : List ℕ) → find f xs ≡ find g xs
find-same f g same [] = refl
find-same f g same (x ∷ xs) =
    ap (λ b. if b then Some x else find f xs) (same x) ∙ ap (λ o. if g x then Some x else o) (find-same f g same xs)

module _ (ex : Exercise) (sheet : Sheet) (head : CertHead) (stated : Option (List Potential)) (p : List (List Cell)) where
  unbroken : is_setting_of head p ≡ false → least_break ex p ≡ None → first_claim ex sheet head stated p
      ≡ unbroken_claim ex sheet head stated p
  unbroken s r =
      ap (λ b. if b then TheScore else option_map_or Broken (least_break ex p) (unbroken_claim ex sheet head stated p)) s
      ∙ ap (λ o. option_map_or Broken o (unbroken_claim ex sheet head stated p)) r

  -- it is of the least rule that is broken
  pub first_rule : (rule : ℕ) → is_setting_of head p ≡ false → least_break ex p ≡ Some rule
      → first_claim ex sheet head stated p ≡ Broken rule
  first_rule rule s r =
      ap (λ b. if b then TheScore else option_map_or Broken (least_break ex p) (unbroken_claim ex sheet head stated p)) s
      ∙ ap (λ o. option_map_or Broken o (unbroken_claim ex sheet head stated p)) r

  pub first_floor : (tail : ℕ) (b : Bool) → is_setting_of head p ≡ false → least_break ex p ≡ None
      → Some tail ≡ tail_of ex sheet stated p
      → b ≡ is_no_better head p (paid ex sheet p + least_of ex sheet p + tail)
      → first_claim ex sheet head stated p ≡ (if b then Floor else Open)
  first_floor tail b s r e better =
      unbroken s r ∙ ap (λ o. if is_none o then NoChain
      else (if option_map_or (is_no_better head p) (used_floor ex sheet stated p) false then Floor else Open)) (sym e)
      ∙ ap (λ o. if option_map_or (is_no_better head p) o false then Floor else Open)
      (floor-tail ex sheet stated p (Some tail) e)
      ∙ ap (λ t. if t then Floor else Open) (sym better)
