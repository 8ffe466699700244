-- Each claim that is written has a line (`own_fits`), and so have all (`claims_of-fit`).
use Rattle.std.proofs.Common.{◌≡◌, ◌⊎◌, inl, inr, ℕ, ◌≤◌, Bool, true, false, List, [], ◌∷◌, Option, Some, None, if◌then◌else◌, reverse, refl, subst, arith}
use Rattle.std.specs.List.{AllByRecursion, find}
use Rattle.std.specs.Option.{option_map_or}
use Rattle.std.proofs.lemmas.Bool.{cases_Bool}
use Rattle.cert_text.specs.Lines.{IsClaim}
use Rattle.cert_text.specs.declared.claim.Claim.TheVariants.{Open, Broken, Floor, TheScore}
use Rattle.cert_file.proofs.Fits.{claims-fit}
use Rattle.fux_pitch.specs.declared.pitch.Pitch.{Pitch}
use Rattle.cantus_space.specs.Broken.{rules_claimed}
use Rattle.cantus_space.specs.Rules.{floor_of}
use Rattle.cantus_space.specs.declared.plan.CantusPlan.{CantusPlan}
use Rattle.cantus_check.specs.Certificates.{tree_of}
use Rattle.cantus_check.specs.Claims.{Said, has_break_of}
use Rattle.cantus_check.specs.Writer.{claims_of, first_claim, is_cantus_of, is_no_better, least_break, unbroken_claim}

-- ---- the claims of a certificate

abbrev Between : ℕ → Type 0
Between rule = (1 ≤ rule) × (rule ≤ 26)

found_among : (test : ℕ → Bool) (rules : List ℕ) (rule : ℕ) → AllByRecursion Between rules → find test rules ≡ Some rule
    → Between rule
found_among test [] rule all h = cc
found_among test (r ∷ rules) rule all h = at (cases_Bool (test r)) (found_among test rules rule all.1)
  where
    at : (test r ≡ true) ⊎ (test r ≡ false) → (find test rules ≡ Some rule → Between rule) → Between rule
    at (inl t) later = let same : Some r ≡ Some rule = rw t at h in let one : r ≡ rule = cc in subst Between one all.0
    at (inr f) later = later (rw f at h)

are_between : AllByRecursion Between rules_claimed
are_between = (
  (omega arith, omega arith),
  (
    (omega arith, omega arith),
    (
      (omega arith, omega arith),
      (
        (omega arith, omega arith),
        ((omega arith, omega arith), ((omega arith, omega arith), tt)),
      ),
    ),
  ),
)

module _ (plan : CantusPlan) (said : Said) where
  pub own_fits : (ps : List Pitch) → IsClaim (first_claim plan said ps)
  own_fits ps = cantus (is_cantus_of said ps)
    where
      floor : (b : Bool) → IsClaim (if b then Floor else Open)
      floor true = (omega arith, omega arith)
      floor false = (omega arith, omega arith)

      rule : (o : Option ℕ) → least_break plan ps ≡ o → IsClaim (option_map_or Broken o (unbroken_claim plan said ps))
      rule (Some r) e = found_among (has_break_of plan ps) rules_claimed r are_between e
      rule None e = floor (is_no_better said ps (floor_of plan (reverse ps)))

      cantus : (b : Bool) → IsClaim (if b then TheScore
          else option_map_or Broken (least_break plan ps) (unbroken_claim plan said ps))
      cantus true = (omega arith, omega arith)
      cantus false = rule (least_break plan ps) refl

  pub claims_of-fit : AllByRecursion IsClaim (claims_of plan said)
  claims_of-fit = claims-fit (tree_of plan said) (first_claim plan said) own_fits plan.bars []
