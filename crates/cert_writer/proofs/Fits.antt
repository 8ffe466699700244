-- Each claim that is written has a line (`own_fits`), and so have all (`claims_of-fit`); each rule that
-- is found broken has a name (`break_named`).
use Rattle.std.proofs.Common.{◌≡◌, ◌⊎◌, inl, inr, ℕ, ◌≤◌, Bool, true, false, ◌&&◌, ◌||◌, List, [], ◌∷◌, take, length, slice_index_or, Option, Some, None, if◌then◌else◌, refl, ap, sym, ◌∙◌, arith}
use Rattle.std.specs.Prelude.{is_none, nat_le}
use Rattle.std.specs.List.{AllByRecursion, find, list_all}
use Rattle.std.specs.Option.{option_map_or}
use Rattle.std.proofs.lemmas.Bool.{and_parts, and_right, both_ways, cases_Bool}
use Rattle.std.proofs.lemmas.Bool.Decides.{nat_tests}
use Rattle.cert_text.specs.Lines.{IsClaim}
use Rattle.cert_text.specs.declared.claim.Claim.TheVariants.{Open, Broken, NoChain, Floor, TheScore}
use Rattle.cert_law.specs.Cases.{Matter}
use Rattle.cert_law.specs.Certificates.{tree_of}
use Rattle.cert_law.specs.Claims.{has_break_of}
use Rattle.cert_law.specs.Tails.{tail_of, used_floor}
use Rattle.cert_law.specs.Writer.{claims_of, is_no_better, is_setting_of, least_break, unbroken_claim}
use Rattle.cert_writer.specs.Writing.{own_claim}
use Rattle.cert_file.proofs.Fits.{claims-fit}
use Rattle.fux_grid.specs.declared.cell.Cell.{Cell}
use Rattle.fux_grid.specs.Exercises.{columns_in, greatest_rule}
use Rattle.fux_judge.proofs.Ends.{from_none_below}
use Rattle.fux_judge.proofs.Unmixed.{is_of_mixed, unmixed_unbroken}
use Rattle.fux_judge.specs.Penalties.{newly_broken}
use Rattle.fux_judge.specs.Rules.{is_read, rules_read}

-- ---- the claims of a certificate

pub is_named : ℕ → Bool
is_named rule = nat_le 1 rule && nat_le rule greatest_rule

-- a claim names each rule that is read, but for those of mixed exercises
named_or_mixed : list_all (λ rule. is_named rule || is_of_mixed rule) rules_read ≡ true
unfolding rules_read is_named
named_or_mixed = refl

pub named_from_test : (rule : ℕ) → is_named rule ≡ true → (1 ≤ rule) × (rule ≤ greatest_rule)
unfolding is_named
named_from_test rule h =
    let parts = and_parts (nat_le 1 rule) (nat_le rule greatest_rule) h in
    (low rule parts.0, high rule parts.1)
  where
    low : (n : ℕ) → nat_le 1 n ≡ true → 1 ≤ n
    low n e = grind (arith, nat_tests)

    high : (n : ℕ) → nat_le n greatest_rule ≡ true → n ≤ greatest_rule
    high n e = grind (arith, nat_tests)

-- what is found passes the test, and each test that all pass
found_passes : (test each : ℕ → Bool) (rules : List ℕ) (rule : ℕ) → list_all each rules ≡ true
    → find test rules ≡ Some rule → (test rule ≡ true) × (each rule ≡ true)
found_passes test each [] rule all h = cc
found_passes test each (r ∷ rules) rule all h =
    let parts = and_parts (each r) (list_all each rules) all in
    at (cases_Bool (test r)) parts.0 (found_passes test each rules rule parts.1)
  where
    at : (test r ≡ true) ⊎ (test r ≡ false) → each r ≡ true
        → (find test rules ≡ Some rule → (test rule ≡ true) × (each rule ≡ true))
        → (test rule ≡ true) × (each rule ≡ true)
    at (inl t) here later =
        let same : Some r ≡ Some rule = rw t at h in
        let one : r ≡ rule = cc in
        (ap test (sym one) ∙ t, ap each (sym one) ∙ here)
    at (inr f) here later = later (rw f at h)

module _ (t : Matter) (unmixed : t.exercise.mixed ≡ None) where
  -- where the exercise isn't mixed, a rule that is found broken has a name
  no_mixed_break : (p : List (List Cell)) (rule : ℕ) → is_of_mixed rule ≡ true
      → has_break_of t.exercise p rule ≡ false
  no_mixed_break p rule mixed =
      and_right (is_read rule) _
      (from_none_below (λ k. newly_broken t.exercise (take k p) (slice_index_or p k []) rule) (length p)
      (λ k h. unmixed_unbroken t.exercise unmixed (take k p) (slice_index_or p k []) rule mixed))

  pub break_named : (p : List (List Cell)) (rule : ℕ) → least_break t.exercise p ≡ Some rule → is_named rule ≡ true
  break_named p rule e =
      let found = found_passes (has_break_of t.exercise p) (λ r. is_named r || is_of_mixed r) rules_read rule
      named_or_mixed e in
      at (is_named rule) (is_of_mixed rule) refl found.1 found.0
    where
      at : (a b : Bool) → is_of_mixed rule ≡ b → (a || b) ≡ true → has_break_of t.exercise p rule ≡ true → a ≡ true
      at true b mixed h broken = refl
      at false true mixed h broken = absurd (both_ways (has_break_of t.exercise p rule)
          (no_mixed_break p rule mixed) broken)
      at false false mixed h broken = h

  pub own_fits : (p : List (List Cell)) → IsClaim (own_claim t p)
  own_fits p = setting (is_setting_of t.head p)
    where
      floor : (b : Bool) → IsClaim (if b then Floor else Open)
      floor true = (omega arith, omega arith)
      floor false = (omega arith, omega arith)

      chain : (b : Bool) → IsClaim (if b then NoChain
          else (if option_map_or (is_no_better t.head p) (used_floor t.exercise t.sheet None p) false then Floor
          else Open))
      chain true = (omega arith, omega arith)
      chain false = floor (option_map_or (is_no_better t.head p) (used_floor t.exercise t.sheet None p) false)

      rule : (o : Option ℕ) → least_break t.exercise p ≡ o
          → IsClaim (option_map_or Broken o (unbroken_claim t.exercise t.sheet t.head None p))
      rule (Some r) e = named_from_test r (break_named p r e)
      rule None e = chain (is_none (tail_of t.exercise t.sheet None p))

      setting : (b : Bool) → IsClaim (if b then TheScore
          else option_map_or Broken (least_break t.exercise p) (unbroken_claim t.exercise t.sheet t.head None p))
      setting true = (omega arith, omega arith)
      setting false = rule (least_break t.exercise p) refl

  pub claims_of-fit : AllByRecursion IsClaim (claims_of t.exercise t.sheet t.head)
  claims_of-fit =
      claims-fit (tree_of t.exercise t.sheet t.head None) (own_claim t) own_fits (columns_in t.exercise) []
