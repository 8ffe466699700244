-- What is written for a head that holds is a valid certificate (`written_is_valid`): the first
-- claim of each prefix is true (`all_true`), since a whole setting that is alive is the head's, or
-- no better.
use Rattle.std.proofs.Common.{◌≡◌, ◌≢◌, ◌⊎◌, inl, inr, ℕ, zero, suc, ◌<◌, ◌≤◌, ◌==◌, nat_lt, Bool, true, false, ◌&&◌, ◌||◌, List, [], ◌∷◌, ◌++◌, if◌then◌else◌, length, Option, Some, None, refl, ap, sym, ◌∙◌, subst, arith, true≢false}
use Rattle.std.specs.Prelude.{IfSome, IsSomeAnd, is_none}
use Rattle.std.specs.List.{flat_map}
use Rattle.std.specs.Option.{option_map_or}
use Rattle.std.specs.declared.cmp.Ordering.{Ordering}
use Rattle.std.specs.declared.cmp.Ordering.TheVariants.{Less, Equal, Greater}
use Rattle.std.proofs.lemmas.Bool.{and_parts, cases_Bool, cases_lt, eq-eqb, eqb-true, lt-ltb, or_parts}
use Rattle.std.proofs.lemmas.Bool.Decides.{nat_tests}
use Rattle.std.specs.Ordering.{is_lt, is_eq}
use Rattle.cert_text.specs.declared.answers.CertHead.{CertHead}
use Rattle.cert_text.specs.declared.answers.CertHead.TheVariants.{Best, Nothing}
use Rattle.cert_text.specs.declared.claim.Claim.{Claim}
use Rattle.cert_text.specs.declared.claim.Claim.TheVariants.{Open, Broken, NoChain, Floor, TheScore}
use Rattle.cert_tree.proofs.OwnClaims.{written_from}
use Rattle.cert_tree.proofs.Finds.{find_passes}
use Rattle.cert_tree.specs.Trees.{AreTrueFrom, IsCertifiedFrom, claims_from}
use Rattle.cert_law.specs.Certificates.{Holds, IsCertificate, is_open, tree_of}
use Rattle.cert_law.specs.Entries.{AreTrueEntries}
use Rattle.cert_law.specs.Rests.{AreRests}
use Rattle.cert_law.specs.Claims.{IsNoBetter, IsSettingOf, IsTrueOf, has_break_of, longer_prefixes}
use Rattle.cert_text.specs.declared.potential.Potential.{Potential}
use Rattle.cert_law.specs.Tails.{tail_of, used_floor}
use Rattle.cert_law.proofs.FloorFacts.{FloorsHold}
use Rattle.cert_law.proofs.RestEntries.{rests_are_true}
use Rattle.cert_law.proofs.TailLemmas.{tail_is_rest, used-floor}
use Rattle.cert_law.specs.Writer.{claims_of, columns_order, first_claim, is_no_better, is_setting_of, least_break, unbroken_claim}
use Rattle.cert_law.proofs.PrefixTruths.{owed_are_true, sound, unbroken_if_none}
use Rattle.cert_law.proofs.Orders.{less-order, order-equal, order-itself, order-less}
use Rattle.floor_tables.specs.Floors.{rest_of}
use Rattle.fux_grid.specs.declared.cell.Cell.{Cell}
use Rattle.fux_grid.specs.declared.exercise.Exercise.{Exercise}
use Rattle.fux_grid.specs.Exercises.{IsValid, columns_in}
use Rattle.fux_grid.specs.Order.{IsEarlier}
use Rattle.fux_grid.proofs.OrderLemmas.{earlier-cases, earlier-itself}
use Rattle.fux_judge.proofs.Alive.{alive_orderly, unbroken_if_alive}
use Rattle.fux_judge.specs.Lawful.{IsLawful}
use Rattle.fux_judge.specs.Penalties.{has_strict_break, penalty_of}
use Rattle.fux_judge.specs.Rules.{rules_read}
use Rattle.penalty_sheet.specs.declared.sheet.Sheet.{Sheet}
use Rattle.rule_law.specs.Law.{below_from_test}
use Rattle.rule_law.specs.Prefixes.{IsPrefix, IsSetting}

less_from_test : (o : Ordering) → is_lt o ≡ true → o ≡ Less
less_from_test Less h = refl
less_from_test Equal h = cc
less_from_test Greater h = cc

equal_from_test : (o : Ordering) → is_eq o ≡ true → o ≡ Equal
equal_from_test Less h = cc
equal_from_test Equal h = refl
equal_from_test Greater h = cc

pub setting_from_test : (head : CertHead) (p : List (List Cell)) → is_setting_of head p ≡ true → IsSettingOf head p
setting_from_test Nothing p h = cc
setting_from_test (Best penalty score) p h =
    let parts = and_parts (length p == length score.columns) (is_eq (columns_order score.columns p)) h in
    let size : length p ≡ length score.columns = eqb-true (length p) (length score.columns) parts.0 in
    sym (order-equal score.columns p (sym size) (equal_from_test (columns_order score.columns p) parts.1))

pub test_from_setting : (head : CertHead) (p : List (List Cell)) → IsSettingOf head p → is_setting_of head p ≡ true
test_from_setting Nothing p h = absurd h
test_from_setting (Best penalty score) p h =
    ap (λ q. (length q == length score.columns) && is_eq (columns_order score.columns q)) h
    ∙ ap (λ b. b && is_eq (columns_order score.columns score.columns))
    (eq-eqb (length score.columns) (length score.columns) refl)
    ∙ ap is_eq (order-itself score.columns)

pub no_better_from_test : (head : CertHead) (p : List (List Cell)) (floor : ℕ) → is_no_better head p floor ≡ true
    → IsNoBetter head p floor
no_better_from_test Nothing p floor h = cc
no_better_from_test (Best penalty score) p floor h = at (cases_Bool (nat_lt penalty floor))
  where
    at : (nat_lt penalty floor ≡ true) ⊎ (nat_lt penalty floor ≡ false) → IsNoBetter (Best penalty score) p floor
    at (inl t) = inl (below_from_test penalty floor t)
    at (inr f) =
        let rest : ((floor == penalty) && is_lt (columns_order score.columns p)) ≡ true = rw f at h in
        let parts = and_parts (floor == penalty) (is_lt (columns_order score.columns p)) rest in
        inr (
          eqb-true floor penalty parts.0,
          order-less score.columns p
              (less_from_test (columns_order score.columns p) parts.1),
        )

floor_from_test : (head : CertHead) (p : List (List Cell)) (floor : Option ℕ)
    → option_map_or (is_no_better head p) floor false ≡ true → IsSomeAnd floor (IsNoBetter head p)
floor_from_test head p None h = absurd (true≢false (sym h))
floor_from_test head p (Some floor) h = no_better_from_test head p floor h

-- ---- each first claim is true

module _ (ex : Exercise) (sheet : Sheet) (few : ex.voices ≤ 4) (floors : FloorsHold ex sheet) (head : CertHead)
    (holds : Holds ex sheet head) (stated : Option (List Potential))
    (rests : (p : List (List Cell)) → IsPrefix ex p → tail_of ex sheet stated p ≡ rest_of ex sheet p) where
  -- the floor by the least sum over chains, where nothing is stated
  abbrev low : CertHead → List (List Cell) → Bool
  low said p = option_map_or (is_no_better said p) (used_floor ex sheet None p) false

  -- a lawful setting is the head's, or no better
  whole_is_closed : (head : CertHead) → Holds ex sheet head → (p : List (List Cell)) → IsLawful ex p
      → is_setting_of head p ≡ false → low head p ≡ false → ⊥
  whole_is_closed Nothing holds p lawful other better = holds p lawful
  whole_is_closed (Best penalty score) holds p lawful other better =
      at (earlier-cases score.columns p (holds.0.lawful.setting.whole ∙ sym lawful.setting.whole))
    where
      value : ℕ
      value = penalty_of ex sheet p

      fails : (nat_lt penalty value || ((value == penalty) && is_lt (columns_order score.columns p))) ≡ false
      fails = sym (ap (λ floor. option_map_or (is_no_better (Best penalty score) p) floor false)
          (used-floor ex sheet None p refl ∙ floors.at_end p lawful)) ∙ better

      same : value ≡ penalty
      same =
          let most = (or_parts (nat_lt penalty value) ((value == penalty) && is_lt (columns_order score.columns p))
          fails).0 in
          let least = holds.0.least p lawful in
          exactly penalty value (penalty_of ex sheet score.columns) most least holds.1
        where
          exactly : (a b c : ℕ) → nat_lt a b ≡ false → c ≤ b → c ≡ a → b ≡ a
          exactly a b c h l e = grind (arith, nat_tests)

      not_less : columns_order score.columns p ≡ Less → ⊥
      not_less h =
          let second = (or_parts (nat_lt penalty value) ((value == penalty) && is_lt (columns_order score.columns p))
          fails).1 in
          true≢false (sym (ap (λ b. b && is_lt (columns_order score.columns p)) (eq-eqb value penalty same)
          ∙ ap is_lt h) ∙ second)

      at : IsEarlier score.columns p ⊎ ((score.columns ≡ p) ⊎ IsEarlier p score.columns) → ⊥
      at (inl h) = not_less (less-order score.columns p h)
      at (inr (inl h)) = true≢false (sym (test_from_setting (Best penalty score) p (sym h)) ∙ other)
      at (inr (inr h)) =
          let differ : score.columns ≢ p = λ e. earlier-itself p (subst (λ (s : List (List Cell)). IsEarlier p s) e h)
          in
          not_less (less-order score.columns p (holds.0.first p lawful (same ∙ sym holds.1) differ))

  pub first_claim_true : (p : List (List Cell)) → IsPrefix ex p → IsTrueOf ex sheet head stated p (first_claim ex sheet head None p)
  first_claim_true p prefix = setting (is_setting_of head p) refl
    where
      open_claim : has_strict_break ex p ≡ false → is_setting_of head p ≡ false
          → low head p ≡ false → IsTrueOf ex sheet head stated p Open
      open_claim alive other better = (at (cases_lt (length p) (columns_in ex)), alive_orderly ex few p alive)
        where
          at : (length p < columns_in ex) ⊎ (columns_in ex ≤ length p) → length p < columns_in ex
          at (inl h) = h
          at (inr h) =
              let setting : IsSetting ex p = record { prefix = prefix; whole = omega (arith, h, prefix.few) } in
              let lawful : IsLawful ex p = record
              { setting = setting; unbroken = unbroken_if_alive ex few p setting alive } in
              absurd (whole_is_closed head holds p lawful other better)

      floor : (b : Bool) → low head p ≡ b → has_strict_break ex p
          ≡ false → is_setting_of head p ≡ false → IsTrueOf ex sheet head stated p (if b then Floor else Open)
      floor true e alive other =
          subst (λ (f : Option ℕ). IsSomeAnd f (IsNoBetter head p))
          (used-floor ex sheet None p refl ∙ sym (used-floor ex sheet stated p (rests p prefix)))
          (floor_from_test head p (used_floor ex sheet None p) e)
      floor false e alive other = open_claim alive other e

      chain : (rest : Option ℕ) → rest_of ex sheet p ≡ rest → has_strict_break ex p ≡ false → is_setting_of head p
          ≡ false → IsTrueOf ex sheet head stated p
          (if is_none rest then NoChain else
          (if low head p then Floor else Open))
      chain None e alive other = rests p prefix ∙ e
      chain (Some rest) e alive other =
          floor (low head p) refl alive other

      rule : (o : Option ℕ) → least_break ex p ≡ o → is_setting_of head p ≡ false
          → IsTrueOf ex sheet head stated p (option_map_or Broken o (unbroken_claim ex sheet head None p))
      rule (Some r) e other = find_passes (has_break_of ex p) rules_read r e
      rule None e other = chain (rest_of ex sheet p) refl (unbroken_if_none ex p e) other

      setting : (b : Bool) → is_setting_of head p ≡ b
          → IsTrueOf ex sheet head stated p (if b then TheScore
          else option_map_or Broken (least_break ex p) (unbroken_claim ex sheet head None p))
      setting true e = setting_from_test head p e
      setting false e = rule (least_break ex p) refl e

  pub all_true : AreTrueFrom (tree_of ex sheet head stated) (first_claim ex sheet head None) (columns_in ex) []
  all_true =
      owed_are_true ex (IsTrueOf ex sheet head stated) (first_claim ex sheet head None) first_claim_true (λ p h. h.0)

-- what is written doesn't depend on what is stated
each-same : (f g : List (List Cell) → List Claim) → ((p : List (List Cell)) → f p ≡ g p) → (ps : List (List (List Cell)))
    → flat_map f ps ≡ flat_map g ps
each-same f g same [] = refl
each-same f g same (p ∷ ps) =
    ap (λ claims. claims ++ flat_map f ps) (same p) ∙ ap (λ claims. g p ++ claims) (each-same f g same ps)

claims-same : (ex : Exercise) (sheet : Sheet) (head : CertHead) (stated : Option (List Potential))
    (own : List (List Cell) → Claim) (count : ℕ) (p : List (List Cell))
    → claims_from (tree_of ex sheet head stated) own count p ≡ claims_from (tree_of ex sheet head None) own count p
unfolding claims_from
claims-same ex sheet head stated own zero p = refl
claims-same ex sheet head stated own (suc count) p =
    ap (λ claims. own p ∷ (if is_open (own p) then claims else []))
    (each-same (claims_from (tree_of ex sheet head stated) own count) (claims_from (tree_of ex sheet head None) own count)
    (claims-same ex sheet head stated own count) (longer_prefixes ex p))

pub written_is_valid : (ex : Exercise) (sheet : Sheet) (valid : IsValid ex) (floors : FloorsHold ex sheet)
    (head : CertHead) (stated : Option (List Potential)) → IfSome stated (AreRests ex sheet) → Holds ex sheet head
    → IsCertificate ex sheet head stated (claims_of ex sheet head)
written_is_valid ex sheet valid floors head stated rests holds = record {
  sound = sound ex sheet head holds;
  entries = true_of stated rests;
  certified =
      subst (λ (claims : List Claim). IsCertifiedFrom (tree_of ex sheet head stated) [] claims)
      (claims-same ex sheet head stated (first_claim ex sheet head None) (columns_in ex) [])
      (written_from (tree_of ex sheet head stated) (first_claim ex sheet head None) (columns_in ex) []
      (all_true ex sheet valid.most_voices floors head holds stated (tail_is_rest ex sheet stated rests)));
}
  where
    true_of : (stated : Option (List Potential)) → IfSome stated (AreRests ex sheet)
        → IfSome stated (AreTrueEntries ex sheet)
    true_of None are = tt
    true_of (Some entries) are = rests_are_true ex sheet entries are valid

-- ---- tests of claims

pub test_from_no_better : (head : CertHead) (p : List (List Cell)) (floor : ℕ) → IsNoBetter head p floor
    → is_no_better head p floor ≡ true
test_from_no_better Nothing p floor h = absurd h
test_from_no_better (Best penalty score) p floor (inl h) =
    ap (λ b. b || ((floor == penalty) && is_lt (columns_order score.columns p))) (lt-ltb penalty floor h)
test_from_no_better (Best penalty score) p floor (inr h) =
    ap (λ b. nat_lt penalty floor || (b && is_lt (columns_order score.columns p))) (eq-eqb floor penalty h.0)
    ∙ ap (λ o. nat_lt penalty floor || is_lt o) (less-order score.columns p h.1) ∙ or_true (nat_lt penalty floor)
  where
    or_true : (b : Bool) → (b || true) ≡ true
    or_true true = refl
    or_true false = refl
