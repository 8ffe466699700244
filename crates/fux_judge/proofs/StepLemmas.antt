-- A step tells which rules the column breaks (`step_breaks`, `breaks_by_parts`), and what it costs
-- (`step_pays`).
use Rattle.std.proofs.Common.{◌≡◌, ℕ, ◌+◌, ◌==◌, ◌&&◌, ◌||◌, Bool, true, false, List, [], ◌∷◌, ◌++◌, length, refl, ap, sym, ◌∙◌, arith}
use Rattle.std.specs.Prelude.{if◌then◌else◌, not}
use Rattle.std.specs.List.{list_all, list_any, sum_by}
use Rattle.std.proofs.lemmas.Bool.{eqb-true, not-true}
use Rattle.fux_grid.specs.declared.cell.Cell.{Cell}
use Rattle.fux_grid.specs.declared.exercise.Exercise.{Exercise}
use Rattle.rule_law.specs.Growth.{list_any-same, sum_by-same}
use Rattle.rule_law.specs.Law.{first_true, second_true}
use Rattle.rule_law.specs.Prefixes.{GoesOn}
use Rattle.penalty_sheet.specs.declared.sheet.Sheet.{Sheet}
use Rattle.fux_judge.specs.declared.moment.Moment.{Moment}
use Rattle.fux_judge.proofs.Parts.{list_any-parted}
use Rattle.fux_judge.specs.Links.{other_late_tolls, others_at_once, own_of}
use Rattle.fux_judge.specs.Rules.{all_sets, is_broken, is_late, is_read, late_rules, rule_at, rules_at_once, rules_read}
use Rattle.fux_judge.specs.Penalties.{is_strict_at, price_at_place, newly_broken, newly_paid}
use Rattle.fux_judge.specs.Moments.{is_strictly_broken_then, prices_then, toll_then}
use Rattle.fux_judge.specs.Steps.{breaks_late, is_strictly_broken_at_end, prices_at_end, prices_late, toll_at_end, toll_late}
use Rattle.fux_judge.proofs.OwnTolls.{own_apart}
use Rattle.fux_judge.proofs.StepPlaces.{all_at_once, all_late, newly_broken-at_once, newly_broken-late, newly_paid-parts}
use Rattle.fux_judge.proofs.PruningLemmas.{one_of}

and_false : (x : Bool) → (x && false) ≡ false
and_false true = refl
and_false false = refl

absorbs : (x y : Bool) → ((x && true) || (y && x)) ≡ x
absorbs true y = refl
absorbs false true = refl
absorbs false false = refl

picked_one : (X : ℕ → Bool) (r k : ℕ) (some others : Bool) (t : Bool) → (r == k) ≡ t → some ≡ (others && X r)
    → ((X k && t) || some) ≡ ((t || others) && X r)
picked_one X r k some others true e h =
    ap (λ b. (b && true) || some) (ap X (sym (eqb-true r k e))) ∙ ap (λ b. (X r && true) || b) h ∙ absorbs (X r) others
picked_one X r k some others false e h = ap (λ b. b || some) (and_false (X k)) ∙ h

-- what is asked of some rules one by one, and of one number, is asked of that number
pub picked : (X : ℕ → Bool) (r : ℕ) (rules : List ℕ) → list_any (λ rule. X rule && r == rule) rules
    ≡ (list_any (λ rule. r == rule) rules && X r)
picked X r [] = refl
picked X r (k ∷ rules) = picked_one X r k (list_any (λ rule. X rule && r == rule) rules)
    (list_any (λ rule. r == rule) rules) (r == k) refl (picked X r rules)

-- the rules that are read are those that are settled at once, and the late ones
read_in_parts : (test : ℕ → Bool) → list_any test rules_read ≡ (list_any test rules_at_once || list_any test late_rules)
unfolding rules_at_once late_rules
read_in_parts test = list_any-parted test is_late rules_read

read_by_parts : (r : ℕ) → is_read r ≡ (list_any (λ rule. r == rule) rules_at_once
    || list_any (λ rule. r == rule) late_rules)
read_by_parts r = read_in_parts (λ rule. r == rule)

-- two answers for two kinds are one for both
for_both : (a b x y n : Bool) → (a ≡ true → x ≡ n) → (b ≡ true → y ≡ n) → ((a && x) || (b && y)) ≡ ((a || b) && n)
for_both true true x y n h k = rw (h refl, k refl) (twice n)
  where
    twice : (n : Bool) → (n || n) ≡ n
    twice true = refl
    twice false = refl
for_both true false x y n h k = rw (h refl) (alone n)
  where
    alone : (n : Bool) → (n || false) ≡ n
    alone true = refl
    alone false = refl
for_both false true x y n h k = k refl
for_both false false x y n h k = refl

-- tests that agree where a third one holds, agree on a list of which each passes that one
any_where : (test f g : ℕ → Bool) (xs : List ℕ) → list_all test xs ≡ true → ((x : ℕ) → test x ≡ true → f x ≡ g x)
    → list_any f xs ≡ list_any g xs
any_where test f g [] h e = refl
any_where test f g (x ∷ xs) h e =
    ap (λ b. b || list_any f xs) (e x (first_true (test x) (list_all test xs) h))
    ∙ ap (λ b. g x || b) (any_where test f g xs (second_true (test x) (list_all test xs) h) e)

each_is_there : list_all (λ r. list_any (λ rule. r == rule) rules_at_once) rules_at_once ≡ true
unfolding rules_at_once rules_read rule_at
each_is_there = refl

-- a set of the rules settled at once that pass a test has some of them where some passes
pub some_at_once : (has test : ℕ → Bool) → ((r : ℕ) → has r ≡ list_any (λ rule. test rule && r == rule) rules_at_once)
    → list_any has rules_at_once ≡ list_any test rules_at_once
some_at_once has test same =
    any_where (λ r. list_any (λ rule. r == rule) rules_at_once) has test rules_at_once each_is_there
    (λ r there. same r ∙ picked test r rules_at_once ∙ ap (λ b. b && test r) there)

module _ (ex : Exercise) (p : List (List Cell)) (col : List Cell) where
  -- a strict break is of a rule that is settled at once, or of a late one
  pub breaks_by_parts : GoesOn ex p (col ∷ []) → list_any (newly_broken ex p col) rules_read
      ≡ (list_any (is_strictly_broken_at_end ex p col) rules_at_once || list_any (breaks_late ex p col) late_rules)
  breaks_by_parts on =
      read_in_parts (newly_broken ex p col)
      ∙ ap (λ b. b || list_any (newly_broken ex p col) late_rules)
      (any_where (λ rule. not (is_late rule)) (newly_broken ex p col) (is_strictly_broken_at_end ex p col) rules_at_once
      (all_at_once ex p col) (λ r h. newly_broken-at_once ex p col r (not-true (is_late r) h)))
      ∙ ap (λ b. list_any (is_strictly_broken_at_end ex p col) rules_at_once || b)
      (any_where is_late (newly_broken ex p col) (breaks_late ex p col) late_rules (all_late ex p col)
      (λ r h. newly_broken-late ex p col r h on))

  pub broken_late : GoesOn ex p (col ∷ []) → list_any (breaks_late ex p col) late_rules ≡ true
      → list_any (newly_broken ex p col) rules_read ≡ true
  broken_late on h = breaks_by_parts on ∙ ap (λ b. list_any (is_strictly_broken_at_end ex p col) rules_at_once || b) h
      ∙ either (list_any (is_strictly_broken_at_end ex p col) rules_at_once)
    where
      either : (b : Bool) → (b || true) ≡ true
      either true = refl
      either false = refl

  module _ (sheet : Sheet) (m : Moment) (same : m.exercise.now ≡ ex) (its : m.column.now ≡ col) where
    strictly_then : (rule : ℕ) → is_strictly_broken_then all_sets rule p m ≡ is_strictly_broken_at_end ex p col rule
    strictly_then rule = ap (λ e. list_any
        (λ voices. is_broken rule e voices (p ++ m.column.now ∷ []) (length p) && is_strict_at rule e voices (length p))
        all_sets) same ∙ ap (λ c. list_any
        (λ voices. is_broken rule ex voices (p ++ c ∷ []) (length p) && is_strict_at rule ex voices (length p))
        all_sets) its

    prices_then_are : (rule : ℕ) → prices_then all_sets rule p m ≡ prices_at_end ex p col rule
    prices_then_are rule = ap (λ e. sum_by
        (λ voices. if is_broken rule e voices (p ++ m.column.now ∷ []) (length p)
        then price_at_place rule e voices (length p) else 0) all_sets) same
        ∙ ap (λ c. sum_by (λ voices. if is_broken rule ex voices (p ++ c ∷ []) (length p)
        then price_at_place rule ex voices (length p) else 0) all_sets) its

    others_then_are : sum_by (toll_then sheet p m) others_at_once ≡ sum_by (toll_at_end ex sheet p col) others_at_once
    others_then_are = ap (λ e. sum_by (toll_at_end e sheet p m.column.now) others_at_once) same
        ∙ ap (λ c. sum_by (toll_at_end ex sheet p c) others_at_once) its

    -- what a step says of the rules
    pub step_breaks : GoesOn ex p (col ∷ []) → (r : ℕ)
        → (list_any (λ rule. is_strictly_broken_then all_sets rule p m && r == rule) rules_at_once
        || list_any (λ rule. breaks_late ex p col rule && r == rule) late_rules)
        ≡ (is_read r && newly_broken ex p col r)
    step_breaks on r =
        let settled_soon = list_any (λ rule. r == rule) rules_at_once in
        let settled_late = list_any (λ rule. r == rule) late_rules in
        ap (λ b. b || list_any (λ rule. breaks_late ex p col rule && r == rule) late_rules)
        (list_any-same (λ rule. is_strictly_broken_then all_sets rule p m && r == rule)
        (λ rule. is_strictly_broken_at_end ex p col rule && r == rule) rules_at_once
        (λ rule. ap (λ b. b && r == rule) (strictly_then rule))
        ∙ picked (is_strictly_broken_at_end ex p col) r rules_at_once)
        ∙ ap (λ b. (settled_soon && is_strictly_broken_at_end ex p col r) || b)
        (picked (breaks_late ex p col) r late_rules)
        ∙ for_both settled_soon settled_late (is_strictly_broken_at_end ex p col r) (breaks_late ex p col r)
        (newly_broken ex p col r)
        (λ e. sym (newly_broken-at_once ex p col r
        (not-true (is_late r) (one_of (λ rule. not (is_late rule)) r rules_at_once (all_at_once ex p col) e))))
        (λ e. sym (newly_broken-late ex p col r (one_of is_late r late_rules (all_late ex p col) e) on))
        ∙ ap (λ b. b && newly_broken ex p col r) (sym (read_by_parts r))

    -- a column that breaks no late rule strictly breaks some rule where it breaks one that is
    -- settled at once
    pub broken_at_once : GoesOn ex p (col ∷ []) → list_any (breaks_late ex p col) late_rules ≡ false
        → list_any (newly_broken ex p col) rules_read
        ≡ list_any (λ rule. is_strictly_broken_then all_sets rule p m) rules_at_once
    broken_at_once on h =
        breaks_by_parts on
        ∙ ap (λ b. list_any (is_strictly_broken_at_end ex p col) rules_at_once || b) h
        ∙ alone (list_any (is_strictly_broken_at_end ex p col) rules_at_once)
        ∙ sym (list_any-same (λ rule. is_strictly_broken_then all_sets rule p m) (is_strictly_broken_at_end ex p col)
        rules_at_once strictly_then)
      where
        alone : (b : Bool) → (b || false) ≡ b
        alone true = refl
        alone false = refl

    -- what a step says of the charges
    pub step_pays : GoesOn ex p (col ∷ []) → (charges own tolls later : ℕ) → charges
        ≡ sum_by (toll_then sheet p m) others_at_once + sum_by (λ rule. prices_then all_sets rule p m) rules_at_once
        → own ≡ own_of ex sheet (length p) col → tolls ≡ sum_by (toll_late ex sheet p col) other_late_tolls
        → later ≡ sum_by (prices_late ex p col) late_rules → charges + own + tolls + later ≡ newly_paid ex sheet p col
    step_pays on charges own tolls later e o t f =
        together _ _ _ _ _ _ _ _ _ e o t f others_then_are
        (sum_by-same (λ rule. prices_then all_sets rule p m) (prices_at_end ex p col) rules_at_once prices_then_are)
        (own_apart ex sheet p col on)
        ∙ sym (newly_paid-parts ex p col sheet on)
      where
        together : (a b c d k x y soon late : ℕ) → charges ≡ a + b → own ≡ c → tolls ≡ d → later ≡ k → a ≡ x → b ≡ y
            → soon + late ≡ x + c + d → charges + own + tolls + later ≡ soon + late + (y + k)
        together a b c d k x y soon late e o t f g h i = omega arith
