-- At a quiet column no rule that is settled at once is broken, and no such toll costs anything.
use Rattle.std.proofs.Common.{◌≡◌, ℕ, ◌+◌, ◌*◌, ◌==◌, ◌&&◌, ◌||◌, Bool, true, false, not, List, [], ◌∷◌, ◌++◌, length, reverse, refl, ap, sym, ◌∙◌, arith}
use Rattle.std.specs.Prelude.{if◌then◌else◌, nat_lt}
use Rattle.std.specs.List.{list_all, list_any, sum_by}
use Rattle.std.proofs.lemmas.Bool.{and_parts, not-true}
use Rattle.std.proofs.lemmas.List.Sums.{sum_by-cons}
use Rattle.fux_grid.specs.declared.cell.Cell.{Cell}
use Rattle.fux_grid.specs.declared.exercise.Exercise.{Exercise}
use Rattle.rule_law.specs.Growth.{sum_by-none}
use Rattle.rule_law.specs.Quiet.{is_quiet}
use Rattle.penalty_sheet.specs.declared.sheet.Sheet.{Sheet}
use Rattle.penalty_sheet.specs.Weights.{weight_of}
use Rattle.fux_judge.specs.declared.moment.Moment.{Moment}
use Rattle.rule_law.specs.Law.{reading-at_end}
use Rattle.fux_judge.proofs.Facts.{rule_keeps, toll_keeps}
use Rattle.fux_judge.specs.Links.{others_at_once}
use Rattle.fux_judge.specs.Rules.{all_sets, breaks, costs, cost_at, is_broken, is_late, is_late_toll, rule_at, rules_at_once, rules_read, toll_at, tolls_at_once, tolls_read}
use Rattle.fux_judge.specs.Penalties.{is_strict_at, price_at_place}
use Rattle.fux_judge.specs.Steps.{is_strictly_broken_at_end, prices_at_end, toll_at_end}

pub none_passes : {X : Type 0} (test : X → Bool) (xs : List X) → ((x : X) → test x ≡ false) → list_any test xs ≡ false
none_passes test [] none = refl
none_passes test (x ∷ xs) none = rw (none x) (none_passes test xs none)

-- the tolls that are settled at once, without a column's own ones, aren't late
others_all_at_once : list_all (λ toll. not (is_late_toll toll)) others_at_once ≡ true
unfolding others_at_once tolls_at_once tolls_read toll_at
others_all_at_once = refl

module _ (ex : Exercise) (p : List (List Cell)) (col : List Cell) (quiet : is_quiet (length p) col ≡ true) where
  unbroken : (rule voices : ℕ) → is_late rule ≡ false → is_broken rule ex voices (p ++ col ∷ []) (length p) ≡ false
  unbroken rule voices n =
      reading-at_end (breaks rule ex voices) p col ∙ (rule_keeps rule).quiet n ex voices (length p) (reverse p) col quiet

  costless : (toll : ℕ) → is_late_toll toll ≡ false → cost_at toll ex (p ++ col ∷ []) (length p) ≡ 0
  costless toll n =
      reading-at_end (costs toll ex) p col ∙ (toll_keeps toll).quiet n ex (length p) (reverse p) col quiet

  no_strict_break : (rule : ℕ) → is_late rule ≡ false → is_strictly_broken_at_end ex p col rule ≡ false
  no_strict_break rule other =
      none_passes (λ voices. is_broken rule ex voices (p ++ col ∷ []) (length p) && is_strict_at rule ex voices (length p))
      all_sets
      (λ voices. ap (λ b. b && is_strict_at rule ex voices (length p)) (unbroken rule voices other))

  no_price : (rule : ℕ) → is_late rule ≡ false → prices_at_end ex p col rule ≡ 0
  no_price rule other =
      sum_by-none (λ voices. if is_broken rule ex voices (p ++ col ∷ []) (length p)
      then price_at_place rule ex voices (length p) else 0) all_sets
      (λ voices. ap (λ b. if b then price_at_place rule ex voices (length p) else 0) (unbroken rule voices other))

  settled_at_once : (rule : ℕ) → (nat_lt rule 32 && not (is_late rule)) ≡ true → is_late rule ≡ false
  settled_at_once rule h = not-true (is_late rule) (and_parts (nat_lt rule 32) (not (is_late rule)) h).1

  -- none of these rules
  pub none_broken : (rules : List ℕ) → list_all (λ rule. nat_lt rule 32 && not (is_late rule)) rules ≡ true → (r : ℕ)
      → list_any (λ rule. is_strictly_broken_at_end ex p col rule && r == rule) rules ≡ false
  none_broken [] h r = refl
  none_broken (rule ∷ rules) h r =
      let both = and_parts (nat_lt rule 32 && not (is_late rule))
      (list_all (λ rule. nat_lt rule 32 && not (is_late rule)) rules) h in
      rw (no_strict_break rule (settled_at_once rule both.0)) (none_broken rules both.1 r)

  pub none_strict : (rules : List ℕ) → list_all (λ rule. nat_lt rule 32 && not (is_late rule)) rules ≡ true
      → list_any (is_strictly_broken_at_end ex p col) rules ≡ false
  none_strict [] h = refl
  none_strict (rule ∷ rules) h =
      let both = and_parts (nat_lt rule 32 && not (is_late rule))
      (list_all (λ rule. nat_lt rule 32 && not (is_late rule)) rules) h in
      ap (λ b. b || list_any (is_strictly_broken_at_end ex p col) rules)
      (no_strict_break rule (settled_at_once rule both.0))
      ∙ none_strict rules both.1

  sum_of_none : (a b s : ℕ) → s ≡ a + b → a ≡ 0 → b ≡ 0 → s ≡ 0
  sum_of_none a b s e f g = omega arith

  pub none_priced : (rules : List ℕ) → list_all (λ rule. nat_lt rule 32 && not (is_late rule)) rules ≡ true
      → sum_by (prices_at_end ex p col) rules ≡ 0
  none_priced [] h = refl
  none_priced (rule ∷ rules) h =
      let both = and_parts (nat_lt rule 32 && not (is_late rule))
      (list_all (λ rule. nat_lt rule 32 && not (is_late rule)) rules) h in
      sum_of_none (prices_at_end ex p col rule) (sum_by (prices_at_end ex p col) rules) _
      (sum_by-cons (prices_at_end ex p col) rule rules) (no_price rule (settled_at_once rule both.0))
      (none_priced rules both.1)

  pub none_charged : (sheet : Sheet) → sum_by (toll_at_end ex sheet p col) others_at_once ≡ 0
  none_charged sheet = none_of others_at_once others_all_at_once
    where
      nothing : (toll n : ℕ) → n ≡ 0 → n * weight_of sheet toll ≡ 0
      nothing toll n e = ap (λ c. c * weight_of sheet toll) e ∙ none (weight_of sheet toll)
        where
          none : (w : ℕ) → 0 * w ≡ 0
          none w = omega arith

      none_of : (tolls : List ℕ) → list_all (λ toll. not (is_late_toll toll)) tolls ≡ true
          → sum_by (toll_at_end ex sheet p col) tolls ≡ 0
      none_of [] h = refl
      none_of (toll ∷ tolls) h =
          let both = and_parts (not (is_late_toll toll)) (list_all (λ toll. not (is_late_toll toll)) tolls) h in
          sum_of_none (toll_at_end ex sheet p col toll) (sum_by (toll_at_end ex sheet p col) tolls) _
          (sum_by-cons (toll_at_end ex sheet p col) toll tolls)
          (nothing toll (cost_at toll ex (p ++ col ∷ []) (length p))
          (costless toll (not-true (is_late_toll toll) both.0))) (none_of tolls both.1)

-- at a moment that is quiet, so is the column behind the prefix
pub quiet_then : (p : List (List Cell)) (m : Moment) → m.state.now.newest.len ≡ length p
    → is_quiet m.state.now.newest.len m.column.now ≡ true → is_quiet (length p) m.column.now ≡ true
quiet_then p m place quiet = sym (ap (λ i. is_quiet i m.column.now) place) ∙ quiet

-- the rules that are settled at once have numbers of rules that aren't late
pub all_numbers : list_all (λ rule. nat_lt rule 32 && not (is_late rule)) rules_at_once ≡ true
unfolding rules_at_once rules_read rule_at
all_numbers = refl
