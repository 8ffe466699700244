-- The tests of claims tell whether they are true.
use Rattle.std.proofs.Common.{◌≡◌, ℕ, ◌+◌, Bool, true, false, List, Option, Some, None, IsTrue, refl, ap, sym, ◌∙◌, subst, true≢false}
use Rattle.std.specs.Prelude.{IsSomeAnd, is_none, is_some, not, option_map, ◌↔◌}
use Rattle.cert_text.specs.declared.answers.CertHead.{CertHead}
use Rattle.cert_text.specs.declared.claim.Claim.TheVariants.{Floor, NoChain, TheScore}
use Rattle.cert_text.specs.declared.potential.Potential.{Potential}
use Rattle.cert_law.specs.Claims.{IsNoBetter, IsTrueOf}
use Rattle.cert_law.specs.Tails.{tail_of, used_floor}
use Rattle.cert_law.specs.Writer.{is_no_better, is_setting_of}
use Rattle.cert_law.proofs.WrittenClaims.{no_better_from_test, setting_from_test, test_from_no_better, test_from_setting}
use Rattle.fux_grid.specs.declared.cell.Cell.{Cell}
use Rattle.fux_grid.specs.declared.exercise.Exercise.{Exercise}
use Rattle.fux_judge.specs.Gauges.{least_of}
use Rattle.fux_judge.specs.Penalties.{paid}
use Rattle.penalty_sheet.specs.declared.sheet.Sheet.{Sheet}

pub floor-tail : (ex : Exercise) (sheet : Sheet) (stated : Option (List Potential)) (p : List (List Cell)) (tail : Option ℕ)
    → tail ≡ tail_of ex sheet stated p
    → used_floor ex sheet stated p ≡ option_map (λ r. paid ex sheet p + least_of ex sheet p + r) tail
unfolding used_floor
floor-tail ex sheet stated p tail e = ap (option_map (λ r. paid ex sheet p + least_of ex sheet p + r)) (sym e)

-- a test that fails where there is something
pub none_test : (o : Option ℕ) (b : Bool) → is_some o ≡ not b → b ≡ is_none o
none_test None true e = refl
none_test None false e = cc
none_test (Some x) true e = cc
none_test (Some x) false e = refl

none_from : (o : Option ℕ) → is_none o ≡ true → o ≡ None
none_from None h = refl
none_from (Some x) h = absurd (true≢false (sym h))

module _ (ex : Exercise) (sheet : Sheet) (head : CertHead) (stated : Option (List Potential)) (p : List (List Cell)) where
  pub floor_truth : (b : Bool) (tail : Option ℕ) (r spent cost : ℕ) → tail ≡ tail_of ex sheet stated p → tail ≡ Some r → spent
      ≡ paid ex sheet p → cost ≡ least_of ex sheet p
      → b ≡ is_no_better head p (spent + cost + r) → IsTrue b ↔ IsTrueOf ex sheet head stated p Floor
  floor_truth b tail r spent cost is some pays costs test = (there, back)
    where
      floor : used_floor ex sheet stated p ≡ Some (spent + cost + r)
      floor =
          floor-tail ex sheet stated p tail is ∙ ap (option_map (λ x. paid ex sheet p + least_of ex sheet p + x)) some
          ∙ ap (λ n. Some (n + least_of ex sheet p + r)) (sym pays) ∙ ap (λ n. Some (spent + n + r)) (sym costs)

      there : IsTrue b → IsSomeAnd (used_floor ex sheet stated p) (IsNoBetter head p)
      there h = subst (λ (f : Option ℕ). IsSomeAnd f (IsNoBetter head p)) (sym floor)
          (no_better_from_test head p (spent + cost + r) (sym test ∙ h))

      back : IsSomeAnd (used_floor ex sheet stated p) (IsNoBetter head p) → IsTrue b
      back h = test ∙ test_from_no_better head p (spent + cost + r)
          (subst (λ (f : Option ℕ). IsSomeAnd f (IsNoBetter head p)) floor h)

  pub no_floor_truth : (tail : Option ℕ) → tail ≡ tail_of ex sheet stated p → tail ≡ None → IsTrue false
      ↔ IsTrueOf ex sheet head stated p Floor
  no_floor_truth tail is none = (there, back)
    where
      floor : used_floor ex sheet stated p ≡ None
      floor = floor-tail ex sheet stated p tail is ∙ ap (option_map (λ x. paid ex sheet p + least_of ex sheet p + x)) none

      there : IsTrue false → IsSomeAnd (used_floor ex sheet stated p) (IsNoBetter head p)
      there h = absurd (true≢false (sym h))

      back : IsSomeAnd (used_floor ex sheet stated p) (IsNoBetter head p) → IsTrue false
      back h = absurd (subst (λ (f : Option ℕ). IsSomeAnd f (IsNoBetter head p)) floor h)

  pub no_chain_truth : (b : Bool) (tail : Option ℕ) → b ≡ is_none tail → tail ≡ tail_of ex sheet stated p
      → IsTrue b ↔ IsTrueOf ex sheet head stated p NoChain
  no_chain_truth b tail test is = (λ h. sym is ∙ none_from tail (sym test ∙ h), λ none. test ∙ ap is_none (is ∙ none))

  pub setting_truth : (b : Bool) → b ≡ is_setting_of head p → IsTrue b ↔ IsTrueOf ex sheet head stated p TheScore
  setting_truth b test = (λ h. setting_from_test head p (sym test ∙ h), λ h. test ∙ test_from_setting head p h)
