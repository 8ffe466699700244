-- What a column newly settles stands at its own place, or at the places of late rules: strict
-- breaks (`newly_broken-at_once`, `newly_broken-late`), and what is paid (`newly_paid-parts`,
-- `tolls_within`).
use Rattle.std.specs.Prelude.{◌≡◌, ℕ, zero, suc, ◌+◌, ◌-◌, ◌*◌, ◌<◌, ◌≤◌, Bool, true, false, not, ◌&&◌, ◌||◌, nat_lt, List, [], ◌∷◌, ◌++◌, length, if◌then◌else◌, refl}
use Rattle.std.specs.List.{list_all, list_any, sum_by}
use Rattle.std.proofs.Common.{ap, sym, ◌∙◌, arith, add-one}
use Rattle.std.proofs.lemmas.Bool.{false_from_ne_true, not-true}
use Rattle.std.proofs.lemmas.Bool.Decides.{nat_tests}
use Rattle.std.proofs.lemmas.List.{length-append}
use Rattle.std.proofs.lemmas.List.Sums.{sum_by-cons}
use Rattle.fux_grid.specs.declared.cell.Cell.{Cell}
use Rattle.fux_grid.specs.declared.exercise.Exercise.{Exercise}
use Rattle.rule_law.specs.Forms.{IsOf}
use Rattle.rule_law.specs.Growth.{any_below, any_below-same, any_below-list_any, sum_below, sum_below-same, sum_below-plus, sum_below-sum_by, newly, list_any-same, sum_by-same, sum_by-none}
use Rattle.rule_law.specs.Law.{first_true, second_true, test_from_below}
use Rattle.rule_law.specs.Places.{Row, reading_of, settled_by}
use Rattle.rule_law.specs.Prefixes.{GoesOn}
use Rattle.rule_law.specs.Rulebooks.{IsAmong, newly_breaks, newly_costs}
use Rattle.penalty_sheet.specs.declared.sheet.Sheet.{Sheet}
use Rattle.penalty_sheet.specs.Weights.{weight_of}
use Rattle.fux_judge.specs.Rules.{rules_read, tolls_read, all_sets, rule_at, toll_at, enough, cost_enough, is_broken, is_settled, cost_at, is_cost_settled, is_late, is_late_toll, rules_at_once, late_rules, tolls_at_once, late_tolls}
use Rattle.fux_judge.proofs.Facts.{rule_keeps, toll_keeps}
use Rattle.fux_judge.specs.Penalties.{is_strict_at, price_at_place, newly_broken_at, newly_broken, new_toll, new_price, new_tolls, new_prices, newly_paid}
use Rattle.fux_judge.specs.Steps.{is_strictly_broken_at_end, prices_at_end, toll_at_end, tolls_at_end, any_among, sum_among, sets_of_rule, breaks_late, prices_late, toll_late}
use Rattle.fux_judge.proofs.Ends.{from_none_below}
use Rattle.fux_judge.proofs.Parts.{list_all-kept, sum_by-parted}

below_false : (i n : ℕ) → n ≤ i → nat_lt i n ≡ false
below_false i n h = grind (arith, nat_tests)

-- what is settled at once is newly settled at the last place and nowhere else
module _ (row : Row Bool) (at_once : (i : ℕ) (behind : List (List Cell)) (now : List Cell) (ahead : List (List Cell))
    → row i behind now ahead ≡ true) (p : List (List Cell)) (col : List Cell) where
  settled_there : (s : List (List Cell)) (i : ℕ) → i < length s → settled_by row s i ≡ true
  settled_there s i h = rw (test_from_below i (length s) h) (at_once _ _ _ _)

  pub newly_before : (i : ℕ) → i < length p → newly (settled_by row) p col i ≡ false
  newly_before i h = ap (λ b. settled_by row (p ++ col ∷ []) i && not b) (settled_there p i h)
      ∙ and_false (settled_by row (p ++ col ∷ []) i)
    where
      and_false : (b : Bool) → (b && false) ≡ false
      and_false true = refl
      and_false false = refl

  pub newly_at_end : newly (settled_by row) p col (length p) ≡ true
  newly_at_end =
      ap (λ b. b && not (settled_by row p (length p)))
      (settled_there (p ++ col ∷ []) (length p) (omega (arith, length-append p (col ∷ []))))
      ∙ ap (λ b. not (b && reading_of row p (length p))) (below_false (length p) (length p) (omega arith))

or_last : (a b : Bool) → a ≡ false → (a || b) ≡ b
or_last true b h = cc
or_last false b h = refl

pub zero_below : (f : ℕ → ℕ) (n : ℕ) → ((i : ℕ) → i < n → f i ≡ 0) → sum_below f n ≡ 0
zero_below f zero h = refl
zero_below f (suc n) h = add_zeros (sum_below f n) (f n) (zero_below f n (λ i k. h i (omega arith))) (h n (omega arith))
  where
    add_zeros : (a b : ℕ) → a ≡ 0 → b ≡ 0 → a + b ≡ 0
    add_zeros a b e f = omega arith

-- what is there at the last of some numbers alone
last_alone : (f : ℕ → ℕ) (n : ℕ) → ((i : ℕ) → i < n → f i ≡ 0) → sum_below f (n + 1) ≡ f n
last_alone f n h = ap (sum_below f) (add-one n) ∙ ap (λ k. k + f n) (zero_below f n h) ∙ none_before (f n)
  where
    none_before : (n : ℕ) → 0 + n ≡ n
    none_before n = omega arith

-- what is there at some places in a row alone
or_assoc : (a b c : Bool) → (a || (b || c)) ≡ ((a || b) || c)
or_assoc true b c = refl
or_assoc false b c = refl

any_below-plus : (f : ℕ → Bool) (a b : ℕ) → any_below f (a + b) ≡ (any_below f a || any_below (λ k. f (a + k)) b)
any_below-plus f a zero = let e : a + 0 ≡ a = omega arith in ap (any_below f) e ∙ or_none (any_below f a)
  where
    or_none : (b : Bool) → b ≡ (b || false)
    or_none true = refl
    or_none false = refl
any_below-plus f a (suc b) =
    let e : a + suc b ≡ suc (a + b) = omega arith in
    ap (any_below f) e ∙ ap (λ x. x || f (a + b)) (any_below-plus f a b)
    ∙ sym (or_assoc (any_below f a) (any_below (λ k. f (a + k)) b) (f (a + b)))

sum_below-more : (f : ℕ → ℕ) (a b : ℕ) → sum_below f (a + b) ≡ sum_below f a + sum_below (λ k. f (a + k)) b
sum_below-more f a zero = let e : a + 0 ≡ a = omega arith in ap (sum_below f) e ∙ and_none (sum_below f a)
  where
    and_none : (n : ℕ) → n ≡ n + 0
    and_none n = omega arith
sum_below-more f a (suc b) =
    let e : a + suc b ≡ suc (a + b) = omega arith in
    ap (sum_below f) e ∙ ap (λ x. x + f (a + b)) (sum_below-more f a b)
    ∙ regroup (sum_below f a) (sum_below (λ k. f (a + k)) b) (f (a + b))
  where
    regroup : (x y z : ℕ) → x + y + z ≡ x + (y + z)
    regroup x y z = omega arith

or_right : (a b : Bool) → b ≡ false → (a || b) ≡ a
or_right true b h = refl
or_right false b h = h

pub any_among-alone : (f : ℕ → Bool) (first count n : ℕ) → first + count ≤ n
    → ((i : ℕ) → f i ≡ true → IsAmong first count i) → any_below f n ≡ any_among first count f
any_among-alone f first count n within only =
    let size : n ≡ first + (count + (n - (first + count))) = omega arith in
    ap (any_below f) size
    ∙ any_below-plus f first (count + (n - (first + count)))
    ∙ or_last (any_below f first) (any_below (λ k. f (first + k)) (count + (n - (first + count))))
    (from_none_below f first (λ i h. false_from_ne_true (f i) (λ e. before (only i e) h)))
    ∙ any_below-plus (λ k. f (first + k)) count (n - (first + count))
    ∙ or_right (any_among first count f) (any_below (λ k. f (first + (count + k))) (n - (first + count)))
    (from_none_below (λ k. f (first + (count + k))) (n - (first + count))
    (λ k h. false_from_ne_true (f (first + (count + k))) (λ e. behind k (only (first + (count + k)) e))))
  where
    before : {i : ℕ} → IsAmong first count i → i < first → ⊥
    before among h = omega (arith, among.from)

    behind : (k : ℕ) → IsAmong first count (first + (count + k)) → ⊥
    behind k among = omega (arith, among.to)

sum_among-alone : (f : ℕ → ℕ) (first count n : ℕ) → first + count ≤ n → ((i : ℕ) → i < first → f i ≡ 0)
    → ((i : ℕ) → first + count ≤ i → f i ≡ 0) → sum_below f n ≡ sum_among first count f
sum_among-alone f first count n within before behind =
    let size : n ≡ first + (count + (n - (first + count))) = omega arith in
    ap (sum_below f) size
    ∙ sum_below-more f first (count + (n - (first + count)))
    ∙ nothing_first (sum_below f first) _ (zero_below f first before)
    ∙ sum_below-more (λ k. f (first + k)) count (n - (first + count))
    ∙ nothing_last (sum_among first count f) _
    (zero_below (λ k. f (first + (count + k))) (n - (first + count))
    (λ k h. behind (first + (count + k)) (omega arith)))
  where
    nothing_first : (a b : ℕ) → a ≡ 0 → a + b ≡ b
    nothing_first a b e = omega arith

    nothing_last : (a b : ℕ) → b ≡ 0 → a + b ≡ a
    nothing_last a b e = omega arith

-- the same tests in another order
turned : (n b s : Bool) → (n && b && s) ≡ (b && (n && s))
turned true true s = refl
turned true false s = refl
turned false true s = refl
turned false false s = refl

turned_price : (n b : Bool) (x : ℕ) → (if n then (if b then x else 0) else 0) ≡ (if b then (if n then x else 0) else 0)
turned_price true b x = refl
turned_price false true x = refl
turned_price false false x = refl

module _ (ex : Exercise) (p : List (List Cell)) (col : List Cell) where
  enough_at_once : (rule : ℕ) → is_late rule ≡ false
      → (voices i : ℕ) (behind : List (List Cell)) (now : List Cell) (ahead : List (List Cell))
      → enough rule ex voices i behind now ahead ≡ true
  enough_at_once rule n = (rule_keeps rule).at_once n ex

  pub newly_broken-at_once : (rule : ℕ) → is_late rule ≡ false → newly_broken ex p col rule
      ≡ is_strictly_broken_at_end ex p col rule
  newly_broken-at_once rule n =
      list_any-same (λ voices. any_below (newly_broken_at rule ex voices p col) (length p + 1))
      (λ voices. is_broken rule ex voices (p ++ col ∷ []) (length p) && is_strict_at rule ex voices (length p))
      all_sets
      (λ voices.
      let fresh : ℕ → Bool = newly_broken_at rule ex voices p col in
      ap (any_below fresh) (add-one (length p))
      ∙ or_last (any_below fresh (length p)) (fresh (length p))
      (from_none_below fresh (length p)
      (λ i h. ap (λ b. b && is_broken rule ex voices (p ++ col ∷ []) i && is_strict_at rule ex voices i)
      (newly_before (enough rule ex voices) (enough_at_once rule n voices) p col i h)))
      ∙ ap (λ b. b && is_broken rule ex voices (p ++ col ∷ []) (length p) && is_strict_at rule ex voices (length p))
      (newly_at_end (enough rule ex voices) (enough_at_once rule n voices) p col))

  -- the prices that the column settles, of one rule at one place
  abbrev pub prices_of_rule : ℕ → ℕ → ℕ
  prices_of_rule rule i = sum_by (new_price ex p col i rule) all_sets

  prices-at_once : (rule : ℕ) → is_late rule ≡ false → sum_below (prices_of_rule rule) (length p + 1)
      ≡ prices_at_end ex p col rule
  prices-at_once rule n =
      last_alone (prices_of_rule rule) (length p)
      (λ i h. sum_by-none (new_price ex p col i rule) all_sets
      (λ voices. ap (λ b. if b then (if is_broken rule ex voices (p ++ col ∷ []) i then price_at_place rule ex voices i
      else 0) else 0) (newly_before (enough rule ex voices) (enough_at_once rule n voices) p col i h)))
      ∙ sum_by-same (new_price ex p col (length p) rule)
      (λ voices. if is_broken rule ex voices (p ++ col ∷ []) (length p)
      then price_at_place rule ex voices (length p) else 0) all_sets
      (λ voices. ap (λ b. if b then (if is_broken rule ex voices (p ++ col ∷ []) (length p)
      then price_at_place rule ex voices (length p) else 0) else 0)
      (newly_at_end (enough rule ex voices) (enough_at_once rule n voices) p col))

  -- for no sets but those of its form is a rule newly broken
  module _ (rule i : ℕ) where
    of_form : IsOf (sets_of_rule rule ex) (λ voices. is_broken rule ex voices (p ++ col ∷ []) i)
    of_form = (rule_keeps rule).form ex i _ _ _

    breaks_of_form : list_any (λ voices. newly_broken_at rule ex voices p col i) all_sets
        ≡ list_any (λ voices. newly_broken_at rule ex voices p col i) (sets_of_rule rule ex)
    breaks_of_form =
        let also : ℕ → Bool = λ voices. newly (is_settled rule ex voices) p col i && is_strict_at rule ex voices i in
        let turn : (sets : List ℕ) → list_any (λ voices. newly_broken_at rule ex voices p col i) sets
        ≡ list_any (λ voices. is_broken rule ex voices (p ++ col ∷ []) i && also voices) sets =
        λ sets. list_any-same (λ voices. newly_broken_at rule ex voices p col i)
        (λ voices. is_broken rule ex voices (p ++ col ∷ []) i && also voices) sets
        (λ voices. turned (newly (is_settled rule ex voices) p col i) (is_broken rule ex voices (p ++ col ∷ []) i)
        (is_strict_at rule ex voices i)) in
        turn all_sets ∙ of_form.any also ∙ sym (turn (sets_of_rule rule ex))

    prices_of_form : sum_by (new_price ex p col i rule) all_sets
        ≡ sum_by (new_price ex p col i rule) (sets_of_rule rule ex)
    prices_of_form =
        let price : ℕ → ℕ = λ voices. if newly (is_settled rule ex voices) p col i then price_at_place rule ex voices i
        else 0 in
        let turn : (sets : List ℕ) → sum_by (new_price ex p col i rule) sets
        ≡ sum_by (λ voices. if is_broken rule ex voices (p ++ col ∷ []) i then price voices else 0) sets =
        λ sets. sum_by-same (new_price ex p col i rule)
        (λ voices. if is_broken rule ex voices (p ++ col ∷ []) i then price voices else 0) sets
        (λ voices. turned_price (newly (is_settled rule ex voices) p col i) (is_broken rule ex voices (p ++ col ∷ []) i)
        (price_at_place rule ex voices i)) in
        turn all_sets ∙ of_form.sum price ∙ sym (turn (sets_of_rule rule ex))

  -- of a late rule, after an orderly prefix, all is at its places
  module _ (rule : ℕ) (late : is_late rule ≡ true) (on : GoesOn ex p (col ∷ [])) where
    among : (voices i : ℕ) → newly_breaks (rule_at rule) ex voices p col i ≡ true
        → IsAmong ((rule_at rule).first ex (length p)) ((rule_at rule).count ex (length p)) i
    among voices i h = (rule_keeps rule).places late ex voices p col i on h

    some_among : (sets : List ℕ) (i : ℕ) → list_any (λ voices. newly_broken_at rule ex voices p col i) sets ≡ true
        → IsAmong ((rule_at rule).first ex (length p)) ((rule_at rule).count ex (length p)) i
    some_among [] i h = cc
    some_among (voices ∷ sets) i h = at (newly_broken_at rule ex voices p col i) refl h (some_among sets i)
      where
        at : (b : Bool) → newly_broken_at rule ex voices p col i ≡ b
            → (b || list_any (λ voices. newly_broken_at rule ex voices p col i) sets) ≡ true
            → (list_any (λ voices. newly_broken_at rule ex voices p col i) sets ≡ true
            → IsAmong ((rule_at rule).first ex (length p)) ((rule_at rule).count ex (length p)) i)
            → IsAmong ((rule_at rule).first ex (length p)) ((rule_at rule).count ex (length p)) i
        at true e k later = among voices i
            (first_true (newly_breaks (rule_at rule) ex voices p col i) (is_strict_at rule ex voices i) e)
        at false e k later = later k

    pub newly_broken-late : newly_broken ex p col rule ≡ breaks_late ex p col rule
    newly_broken-late =
        sym (any_below-list_any (λ voices. newly_broken_at rule ex voices p col) all_sets (length p + 1))
        ∙ any_below-same (λ i. list_any (λ voices. newly_broken_at rule ex voices p col i) all_sets)
        (λ i. list_any (λ voices. newly_broken_at rule ex voices p col i) (sets_of_rule rule ex)) (length p + 1)
        (λ i h. breaks_of_form rule i)
        ∙ any_among-alone (λ i. list_any (λ voices. newly_broken_at rule ex voices p col i) (sets_of_rule rule ex))
        ((rule_at rule).first ex (length p)) ((rule_at rule).count ex (length p)) (length p + 1)
        ((rule_keeps rule).within ex (length p)) (some_among (sets_of_rule rule ex))

    free : (voices i : ℕ) → (IsAmong ((rule_at rule).first ex (length p)) ((rule_at rule).count ex (length p)) i → ⊥)
        → new_price ex p col i rule voices ≡ 0
    free voices i out = at (newly (is_settled rule ex voices) p col i) (is_broken rule ex voices (p ++ col ∷ []) i)
        (λ h. out (among voices i h))
      where
        at : (n b : Bool) → ((n && b) ≡ true → ⊥)
            → (if n then (if b then price_at_place rule ex voices i else 0) else 0) ≡ 0
        at true true h = absurd (h refl)
        at true false h = refl
        at false b h = refl

    prices-late : sum_below (prices_of_rule rule) (length p + 1) ≡ prices_late ex p col rule
    prices-late =
        sum_below-same (prices_of_rule rule) (λ i. sum_by (new_price ex p col i rule) (sets_of_rule rule ex))
        (length p + 1) (λ i h. prices_of_form rule i)
        ∙ sum_among-alone (λ i. sum_by (new_price ex p col i rule) (sets_of_rule rule ex))
        ((rule_at rule).first ex (length p)) ((rule_at rule).count ex (length p)) (length p + 1)
        ((rule_keeps rule).within ex (length p))
        (λ i h. sum_by-none (new_price ex p col i rule) (sets_of_rule rule ex)
        (λ voices. free voices i (λ among. not_before i among h)))
        (λ i h. sum_by-none (new_price ex p col i rule) (sets_of_rule rule ex)
        (λ voices. free voices i (λ among. not_behind i among h)))
      where
        not_before : (i : ℕ) {f c : ℕ} → IsAmong f c i → i < f → ⊥
        not_before i among h = omega (arith, among.from)

        not_behind : (i : ℕ) {f c : ℕ} → IsAmong f c i → f + c ≤ i → ⊥
        not_behind i among h = omega (arith, among.to)

  -- the rules that are read are those that are settled at once, and the late ones
  split_rules : (f : ℕ → ℕ) → sum_by f rules_read ≡ sum_by f rules_at_once + sum_by f late_rules
  unfolding rules_at_once late_rules
  split_rules f = sum_by-parted f is_late rules_read

  sum_where : (test : ℕ → Bool) (f g : ℕ → ℕ) (xs : List ℕ) → list_all test xs ≡ true
      → ((x : ℕ) → test x ≡ true → f x ≡ g x) → sum_by f xs ≡ sum_by g xs
  sum_where test f g [] h e = refl
  sum_where test f g (x ∷ xs) h e =
      sum_by-cons f x xs ∙ ap (λ n. n + sum_by f xs) (e x (first_true (test x) (list_all test xs) h))
      ∙ ap (λ n. g x + n) (sum_where test f g xs (second_true (test x) (list_all test xs) h) e)
      ∙ sym (sum_by-cons g x xs)

  pub all_at_once : list_all (λ rule. not (is_late rule)) rules_at_once ≡ true
  unfolding rules_at_once
  all_at_once = list_all-kept (λ rule. not (is_late rule)) rules_read

  pub all_late : list_all is_late late_rules ≡ true
  unfolding late_rules
  all_late = list_all-kept is_late rules_read

  pub prices_by_rules : sum_below (new_prices ex p col) (length p + 1)
      ≡ sum_by (λ rule. sum_below (prices_of_rule rule) (length p + 1)) rules_read
  prices_by_rules = sum_below-sum_by (λ rule i. sum_by (new_price ex p col i rule) all_sets) rules_read (length p + 1)

  -- what the column settles of prices, read at its own place and at the places of late rules
  pub prices_settled : GoesOn ex p (col ∷ []) → sum_below (new_prices ex p col) (length p + 1)
      ≡ sum_by (prices_at_end ex p col) rules_at_once + sum_by (prices_late ex p col) late_rules
  prices_settled on =
      let of : ℕ → ℕ = λ rule. sum_below (prices_of_rule rule) (length p + 1) in
      prices_by_rules ∙ split_rules of
      ∙ ap (λ n. n + sum_by of late_rules)
      (sum_where (λ rule. not (is_late rule)) of (prices_at_end ex p col) rules_at_once all_at_once
      (λ rule h. prices-at_once rule (not-true (is_late rule) h)))
      ∙ ap (λ n. sum_by (prices_at_end ex p col) rules_at_once + n)
      (sum_where is_late of (prices_late ex p col) late_rules all_late (λ rule h. prices-late rule h on))

  pub tolls_all_at_once : list_all (λ toll. not (is_late_toll toll)) tolls_at_once ≡ true
  unfolding tolls_at_once
  tolls_all_at_once = list_all-kept (λ toll. not (is_late_toll toll)) tolls_read

  pub tolls_all_late : list_all is_late_toll late_tolls ≡ true
  unfolding late_tolls
  tolls_all_late = list_all-kept is_late_toll tolls_read

  -- the tolls that are read are those that are settled at once, and the late ones
  split_tolls : (f : ℕ → ℕ) → sum_by f tolls_read ≡ sum_by f tolls_at_once + sum_by f late_tolls
  unfolding tolls_at_once late_tolls
  split_tolls f = sum_by-parted f is_late_toll tolls_read

  module _ (sheet : Sheet) where
    -- what the column settles of a toll at all places
    abbrev pub toll_settled : ℕ → ℕ
    toll_settled toll = sum_below (λ i. new_toll ex sheet p col i toll) (length p + 1)

    -- of one that a column settles alone, what it costs at the column's own place
    pub toll-soon : (toll : ℕ)
        → ((i : ℕ) (behind : List (List Cell)) (now : List Cell) (ahead : List (List Cell))
        → cost_enough toll ex i behind now ahead ≡ true)
        → toll_settled toll ≡ toll_at_end ex sheet p col toll
    toll-soon toll soon =
        last_alone (λ i. new_toll ex sheet p col i toll) (length p)
        (λ i h. ap (λ b. if b then cost_at toll ex (p ++ col ∷ []) i * weight_of sheet toll else 0)
        (newly_before (cost_enough toll ex) soon p col i h))
        ∙ ap (λ b. if b then toll_at_end ex sheet p col toll else 0) (newly_at_end (cost_enough toll ex) soon p col)

    -- so it is of one that is settled at once
    toll-at_once : (toll : ℕ) → is_late_toll toll ≡ false → toll_settled toll ≡ toll_at_end ex sheet p col toll
    toll-at_once toll n = toll-soon toll ((toll_keeps toll).at_once n ex)

    -- of a late one, after an orderly prefix, what it costs at its places
    pub toll-late : (toll : ℕ) → is_late_toll toll ≡ true → GoesOn ex p (col ∷ []) → toll_settled toll
        ≡ toll_late ex sheet p col toll
    toll-late toll late on =
        sum_among-alone (λ i. new_toll ex sheet p col i toll) ((toll_at toll).first ex (length p))
        ((toll_at toll).count ex (length p)) (length p + 1)
        ((toll_keeps toll).within ex (length p))
        (λ i h. unpaid i (λ among. not_before i among h)) (λ i h. unpaid i (λ among. not_behind i among h))
      where
        not_before : (i : ℕ) {f c : ℕ} → IsAmong f c i → i < f → ⊥
        not_before i among h = omega (arith, among.from)

        not_behind : (i : ℕ) {f c : ℕ} → IsAmong f c i → f + c ≤ i → ⊥
        not_behind i among h = omega (arith, among.to)

        weighed : (b : Bool) (c w : ℕ) → (if b then c else 0) ≡ 0 → (if b then c * w else 0) ≡ 0
        weighed true c w e = ap (λ n. n * w) e ∙ none w
          where
            none : (w : ℕ) → 0 * w ≡ 0
            none w = omega arith
        weighed false c w e = refl

        nothing : (n : ℕ) → (0 < n → ⊥) → n ≡ 0
        nothing zero h = refl
        nothing (suc n) h = absurd (h (omega arith))

        unpaid : (i : ℕ) → (IsAmong ((toll_at toll).first ex (length p)) ((toll_at toll).count ex (length p)) i → ⊥)
            → new_toll ex sheet p col i toll ≡ 0
        unpaid i out =
            weighed (newly (is_cost_settled toll ex) p col i) (cost_at toll ex (p ++ col ∷ []) i) (weight_of sheet toll)
            (nothing (newly_costs (toll_at toll) ex p col i) (λ h. out ((toll_keeps toll).places late ex p col i on h)))

    tolls_by_number : sum_below (new_tolls ex sheet p col) (length p + 1) ≡ sum_by toll_settled tolls_read
    tolls_by_number = sum_below-sum_by (λ toll i. new_toll ex sheet p col i toll) tolls_read (length p + 1)

    tolls_soon : sum_by toll_settled tolls_at_once ≡ tolls_at_end ex sheet p col
    tolls_soon = sum_where (λ toll. not (is_late_toll toll)) toll_settled (toll_at_end ex sheet p col) tolls_at_once
        tolls_all_at_once (λ toll h. toll-at_once toll (not-true (is_late_toll toll) h))

    tolls_parts : sum_below (new_tolls ex sheet p col) (length p + 1)
        ≡ tolls_at_end ex sheet p col + sum_by toll_settled late_tolls
    tolls_parts = tolls_by_number ∙ split_tolls toll_settled ∙ ap (λ n. n + sum_by toll_settled late_tolls) tolls_soon

    parts : newly_paid ex sheet p col ≡ tolls_at_end ex sheet p col + sum_by toll_settled late_tolls + sum_below
        (new_prices ex p col) (length p + 1)
    parts =
        sum_below-plus (new_tolls ex sheet p col) (new_prices ex p col) (length p + 1)
        ∙ ap (λ n. n + sum_below (new_prices ex p col) (length p + 1)) tolls_parts

    -- the column settles no less than what the tolls that are settled at once cost at its own place
    pub tolls_within : tolls_at_end ex sheet p col ≤ newly_paid ex sheet p col
    tolls_within = no_less _ _ _ _ parts
      where
        no_less : (a b c d : ℕ) → d ≡ a + b + c → a ≤ d
        no_less a b c d e = omega arith

    -- what it settles is what the tolls cost at its own place and late ones at theirs, and what
    -- relaxed breaks cost there and at the places of late rules
    pub newly_paid-parts : GoesOn ex p (col ∷ []) → newly_paid ex sheet p col
        ≡ tolls_at_end ex sheet p col + sum_by (toll_late ex sheet p col) late_tolls +
        (sum_by (prices_at_end ex p col) rules_at_once + sum_by (prices_late ex p col) late_rules)
    newly_paid-parts on =
        parts
        ∙ ap (λ n. tolls_at_end ex sheet p col + n + sum_below (new_prices ex p col) (length p + 1))
        (sum_where is_late_toll toll_settled (toll_late ex sheet p col) late_tolls tolls_all_late
        (λ toll h. toll-late toll h on))
        ∙ ap (λ n. tolls_at_end ex sheet p col + sum_by (toll_late ex sheet p col) late_tolls + n) (prices_settled on)
