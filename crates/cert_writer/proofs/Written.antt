-- What is written by lists for a head that holds is a valid certificate (`written_is_valid`): the
-- first claim of each prefix is true (`all_true`), since a whole setting that is alive is the
-- head's, or no better.
use Rattle.std.proofs.Common.{◌≡◌, ◌≢◌, ◌⊎◌, inl, inr, ℕ, ◌+◌, ◌<◌, ◌≤◌, ◌==◌, nat_lt, Bool, true, false, ◌&&◌, List, [], if◌then◌else◌, length, option_map, Option, Some, None, refl, ap, sym, ◌∙◌, subst, arith, true≢false}
use Rattle.std.specs.Prelude.{IsSomeAnd, is_none}
use Rattle.std.specs.List.{AllByRecursion}
use Rattle.std.specs.Option.{option_map_or}
use Rattle.std.specs.declared.cmp.Ordering.TheVariants.{Less}
use Rattle.std.proofs.lemmas.Bool.{cases_lt, eq-eqb, or_parts}
use Rattle.std.proofs.lemmas.Bool.Decides.{nat_tests}
use Rattle.std.specs.Ordering.{is_lt}
use Rattle.cert_text.specs.declared.answers.CertHead.{CertHead}
use Rattle.cert_text.specs.declared.answers.CertHead.TheVariants.{Best, Nothing}
use Rattle.cert_text.specs.declared.claim.Claim.TheVariants.{Open, Broken, NoChain, Floor, TheScore}
use Rattle.cert_tree.proofs.OwnClaims.{written_from}
use Rattle.cert_tree.proofs.Finds.{find_passes}
use Rattle.cert_tree.specs.Trees.{AreTrueFrom}
use Rattle.cert_law.specs.Certificates.{Holds}
use Rattle.cert_law.specs.Claims.{IsNoBetter, has_break_of}
use Rattle.cert_law.specs.Writer.{columns_order, is_no_better, is_setting_of, least_break}
use Rattle.cert_law.proofs.Orders.{less-order}
use Rattle.cert_law.proofs.PrefixTruths.{owed_are_true, sound, unbroken_if_none}
use Rattle.cert_law.proofs.WrittenClaims.{no_better_from_test, setting_from_test, test_from_setting}
use Rattle.fux_grid.specs.declared.cell.Cell.{Cell}
use Rattle.fux_grid.specs.declared.exercise.Exercise.{Exercise}
use Rattle.fux_grid.specs.Exercises.{IsValid, columns_in}
use Rattle.fux_grid.specs.Order.{IsEarlier}
use Rattle.fux_grid.proofs.OrderLemmas.{earlier-cases, earlier-itself}
use Rattle.fux_judge.proofs.Alive.{alive_if_unbroken, alive_orderly, unbroken_if_alive}
use Rattle.fux_judge.proofs.LeastLaws.{paid_and_least_at_end}
use Rattle.fux_judge.specs.Lawful.{IsLawful}
use Rattle.fux_judge.specs.Penalties.{has_strict_break, penalty_of}
use Rattle.fux_judge.specs.Rules.{rules_read}
use Rattle.penalty_sheet.specs.declared.sheet.Sheet.{Sheet}
use Rattle.price_check.specs.Certificates.{IsFairList, IsSharpCertificate, IsSharpTrueOf, sharp_tree}
use Rattle.price_check.specs.PriceLists.{PriceList, sharp_floor, sharp_tail, spent_of}
use Rattle.price_check.specs.Truths.{sharp_first_claim, sharp_unbroken}
use Rattle.price_check.proofs.ListSums.{tails_give_floors}
use Rattle.cert_writer.specs.Laws.{priced_claims}
use Rattle.rule_law.specs.Prefixes.{IsPrefix, IsSetting}

-- ---- each first claim is true

module _ (ex : Exercise) (valid : IsValid ex) (sheet : Sheet) (lists : List PriceList) where
  -- the floor of a prefix is no less than what is paid and its lines cost at least
  floor_above : (p : List (List Cell)) (floor : ℕ) → sharp_floor ex sheet lists p ≡ Some floor → spent_of ex sheet p ≤ floor
  floor_above p floor e = at (sharp_tail ex sheet lists p) (tails_give_floors ex sheet lists p ∙ e)
    where
      at : (tail : Option ℕ) → option_map (λ n. spent_of ex sheet p + n) tail ≡ Some floor → spent_of ex sheet p ≤ floor
      at None h = cc
      at (Some n) h = let same : spent_of ex sheet p + n ≡ floor = cc in omega (arith, same)

  -- and so that of a whole setting is no less than its penalty
  whole_above : (p : List (List Cell)) (floor : ℕ) → IsLawful ex p → sharp_floor ex sheet lists p ≡ Some floor
      → penalty_of ex sheet p ≤ floor
  whole_above p floor lawful e =
      let spent : spent_of ex sheet p ≡ penalty_of ex sheet p =
      paid_and_least_at_end ex valid.most_voices sheet p lawful.setting
      (alive_if_unbroken ex valid.most_voices p lawful.setting lawful.unbroken) in
      omega (arith, spent, floor_above p floor e)

  -- a lawful setting is the head's, or no better
  whole_is_closed : (head : CertHead) → Holds ex sheet head → (p : List (List Cell)) (floor : ℕ) → IsLawful ex p
      → penalty_of ex sheet p ≤ floor → is_setting_of head p ≡ false → is_no_better head p floor ≡ false → ⊥
  whole_is_closed Nothing holds p floor lawful above other better = holds p lawful
  whole_is_closed (Best penalty score) holds p floor lawful above other better =
      at (earlier-cases score.columns p (holds.0.lawful.setting.whole ∙ sym lawful.setting.whole))
    where
      parts : (nat_lt penalty floor ≡ false) × (((floor == penalty) && is_lt (columns_order score.columns p)) ≡ false)
      parts = or_parts (nat_lt penalty floor) ((floor == penalty) && is_lt (columns_order score.columns p)) better

      same : (floor ≡ penalty) × (penalty_of ex sheet p ≡ penalty_of ex sheet score.columns)
      same =
          exactly penalty floor (penalty_of ex sheet p) (penalty_of ex sheet score.columns) parts.0 above
          (holds.0.least p lawful) holds.1
        where
          not_above : (a b : ℕ) → nat_lt a b ≡ false → b ≤ a
          not_above a b h = grind (arith, nat_tests)

          exactly : (a b c d : ℕ) → nat_lt a b ≡ false → c ≤ b → d ≤ c → d ≡ a → (b ≡ a) × (c ≡ d)
          exactly a b c d h more least e =
              let most = not_above a b h in (omega (arith, most, more, least, e), omega (arith, most, more, least, e))

      not_less : columns_order score.columns p ≡ Less → ⊥
      not_less h =
          true≢false (sym (ap (λ b. b && is_lt (columns_order score.columns p)) (eq-eqb floor penalty same.0)
          ∙ ap is_lt h) ∙ parts.1)

      at : IsEarlier score.columns p ⊎ ((score.columns ≡ p) ⊎ IsEarlier p score.columns) → ⊥
      at (inl h) = not_less (less-order score.columns p h)
      at (inr (inl h)) = true≢false (sym (test_from_setting (Best penalty score) p (sym h)) ∙ other)
      at (inr (inr h)) =
          let differ : score.columns ≢ p = λ e. earlier-itself p (subst (λ (s : List (List Cell)). IsEarlier p s) e h)
          in
          not_less (less-order score.columns p (holds.0.first p lawful same.1 differ))

  module _ (head : CertHead) (holds : Holds ex sheet head) where
    first_claim_true : (p : List (List Cell)) → IsPrefix ex p
        → IsSharpTrueOf ex sheet head lists p (sharp_first_claim ex sheet head lists p)
    first_claim_true p prefix = setting (is_setting_of head p) refl
      where
        open_claim : (floor : ℕ) → sharp_floor ex sheet lists p ≡ Some floor → has_strict_break ex p ≡ false
            → is_setting_of head p ≡ false → is_no_better head p floor ≡ false
            → IsSharpTrueOf ex sheet head lists p Open
        open_claim floor is alive other better =
            (at (cases_lt (length p) (columns_in ex)), alive_orderly ex valid.most_voices p alive)
          where
            at : (length p < columns_in ex) ⊎ (columns_in ex ≤ length p) → length p < columns_in ex
            at (inl h) = h
            at (inr h) =
                let setting : IsSetting ex p = record { prefix = prefix; whole = omega (arith, h, prefix.few) } in
                let lawful : IsLawful ex p = record
                { setting = setting; unbroken = unbroken_if_alive ex valid.most_voices p setting alive } in
                absurd (whole_is_closed head holds p floor lawful (whole_above p floor lawful is) other better)

        floor : (f : ℕ) (b : Bool) → sharp_floor ex sheet lists p ≡ Some f → is_no_better head p f ≡ b
            → has_strict_break ex p ≡ false → is_setting_of head p ≡ false
            → IsSharpTrueOf ex sheet head lists p (if b then Floor else Open)
        floor f true is e alive other =
            subst (λ (o : Option ℕ). IsSomeAnd o (IsNoBetter head p)) (sym is) (no_better_from_test head p f e)
        floor f false is e alive other = open_claim f is alive other e

        chain : (o : Option ℕ) → sharp_floor ex sheet lists p ≡ o → has_strict_break ex p ≡ false
            → is_setting_of head p ≡ false
            → IsSharpTrueOf ex sheet head lists p
            (if is_none o then NoChain else (if option_map_or (is_no_better head p) o false then Floor else Open))
        chain None is alive other = is
        chain (Some f) is alive other = floor f (is_no_better head p f) is refl alive other

        rule : (o : Option ℕ) → least_break ex p ≡ o → is_setting_of head p ≡ false
            → IsSharpTrueOf ex sheet head lists p (option_map_or Broken o (sharp_unbroken ex sheet head lists p))
        rule (Some r) e other = find_passes (has_break_of ex p) rules_read r e
        rule None e other = chain (sharp_floor ex sheet lists p) refl (unbroken_if_none ex p e) other

        setting : (b : Bool) → is_setting_of head p ≡ b
            → IsSharpTrueOf ex sheet head lists p (if b then TheScore
            else option_map_or Broken (least_break ex p) (sharp_unbroken ex sheet head lists p))
        setting true e = setting_from_test head p e
        setting false e = rule (least_break ex p) refl e

    pub all_true : AreTrueFrom (sharp_tree ex sheet head lists) (sharp_first_claim ex sheet head lists) (columns_in ex) []
    all_true =
        owed_are_true ex (IsSharpTrueOf ex sheet head lists) (sharp_first_claim ex sheet head lists) first_claim_true
        (λ p h. h.0)

pub written_is_valid : (ex : Exercise) (valid : IsValid ex) (sheet : Sheet) (lists : List PriceList) (head : CertHead)
    → Holds ex sheet head → AllByRecursion (IsFairList sheet) lists
    → IsSharpCertificate ex sheet head lists
    (priced_claims ex sheet head lists)
written_is_valid ex valid sheet lists head holds fair = record {
  sound = sound ex sheet head holds;
  fair = fair;
  certified =
      written_from (sharp_tree ex sheet head lists) (sharp_first_claim ex sheet head lists) (columns_in ex) []
      (all_true ex valid sheet lists head holds);
}
