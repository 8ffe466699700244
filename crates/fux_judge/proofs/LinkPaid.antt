-- After an orderly prefix a column that settles no strict break makes a link with the one before
-- it, which costs at most what the column settles (`link_is_paid`).
use Rattle.std.proofs.Common.{◌≡◌, ◌<◌, ℕ, ◌+◌, ◌*◌, ◌≤◌, ◌&&◌, ◌||◌, Bool, true, false, if◌then◌else◌, List, [], ◌∷◌, ◌++◌, length, reverse, Some, None, refl, ap, sym, ◌∙◌, add-one, subst, arith}
use Rattle.std.specs.Prelude.{IsSomeAnd}
use Rattle.std.specs.List.{list_any, sum_by}
use Rattle.std.proofs.lemmas.Bool.{and_parts}
use Rattle.std.proofs.lemmas.List.{get_or_default}
use Rattle.std.proofs.lemmas.List.Sums.{sum_by-cons}
use Rattle.fux_grid.specs.declared.cell.Cell.{Cell}
use Rattle.fux_grid.specs.declared.exercise.Exercise.{Exercise}
use Rattle.fux_grid.specs.Columns.{newest_column}
use Rattle.fux_grid.proofs.MenuLemmas.{menu_of-cantus, menu_of-contains}
use Rattle.rule_law.specs.Growth.{any_below, newly, sum_below}
use Rattle.rule_law.specs.NearLaw.{IsOrderlyPrefix, near_from_whole}
use Rattle.rule_law.specs.Nearby.{NearRow, near_of, previous_pitches, sounding_pitches, whole_of}
use Rattle.rule_law.specs.Places.{Row, reading_of}
use Rattle.rule_law.specs.Prefixes.{GoesOn, IsPrefix}
use Rattle.penalty_sheet.specs.declared.sheet.Sheet.{Sheet}
use Rattle.penalty_sheet.specs.Weights.{weight_of}
use Rattle.fux_judge.proofs.Alive.{prefix_before}
use Rattle.fux_judge.specs.Links.{behind_of, breaks_between, breaks_strictly, cost_between, is_rule_between, is_toll_between, last_column, link_of, newest_of}
use Rattle.fux_judge.specs.Penalties.{is_strict_at, new_prices, new_toll, new_tolls, newly_broken, newly_broken_at, newly_paid}
use Rattle.fux_judge.specs.Rules.{all_sets, breaks, cost_at, cost_enough, costs, enough, is_broken, is_cost_settled, is_settled, rules_read, tolls_read}
use Rattle.fux_judge.proofs.StepPlaces.{newly_at_end}
use Rattle.fux_judge.proofs.LinkLemmas.{HasNearRow, all_sound, has_row, has_toll_row, settled_soon, toll_settled_soon}

-- ---- what is known behind the last column

newest_known : (h : List (List Cell)) → newest_column (behind_of (newest_of h)) ≡ newest_column h
newest_known [] = refl
newest_known (col ∷ cols) = refl

latest_known : (h : List (List Cell)) → previous_pitches (behind_of (newest_of h)) ≡ sounding_pitches (newest_column h)
latest_known [] = refl
latest_known (col ∷ cols) = all_sound col

-- a row of neighbors reads from it what it reads from two neighbors alone
known : {R : Type 0} (row : NearRow R) (i : ℕ) (h : List (List Cell)) (next : List Cell)
    → whole_of row i (behind_of (newest_of h)) next [] ≡ near_of row i (newest_column h) next
known row i h next =
    ap (λ cells. row i cells (previous_pitches (behind_of (newest_of h))) next) (newest_known h)
    ∙ ap (λ pitches. row i (newest_column h) pitches next) (latest_known h)

-- ---- an orderly prefix

pub orderly_prefix : (ex : Exercise) → ex.cantus_voice < ex.voices → (p : List (List Cell)) (col : List Cell)
    → GoesOn ex p (col ∷ []) → IsOrderlyPrefix ex p
orderly_prefix ex there p col on =
    let prefix : IsPrefix ex p = prefix_before ex p col on.longer in
    record {
      follows = prefix.follows;
      full = λ k d within. let P : List Cell → Type 0 = λ c. length c ≡ ex.voices in
          subst P (get_or_default p k [] d within) (prefix.menus k within).full;
      cantus = λ i within. menu_of-cantus ex i _ there ((menu_of-contains ex i _).1 (prefix.menus i within));
      orderly = on.orderly;
    }

-- what is read of the last column and the new one is what is read of the new one in the whole list
module _ (ex : Exercise) (p : List (List Cell)) (col : List Cell) (prefix : IsOrderlyPrefix ex p) where
  pub read_near : {R : Type 0} (reads : Row R) → HasNearRow reads → reads (length p) (behind_of (last_column p)) col []
      ≡ reading_of reads (p ++ col ∷ []) (length p)
  read_near reads near =
      ap (λ (r : Row _). r (length p) (behind_of (last_column p)) col []) near.is
      ∙ known near.row (length p) (reverse p) col
      ∙ sym (near_from_whole ex near.row p col prefix)
      ∙ sym (ap (λ (r : Row _). reading_of r (p ++ col ∷ []) (length p)) near.is)

-- ---- where none of a list passes, none passes that passes less often

any_fewer : (f g : ℕ → Bool) (xs : List ℕ) → ((x : ℕ) → f x ≡ true → g x ≡ true) → list_any g xs ≡ false → list_any f xs
    ≡ false
any_fewer f g [] more none = refl
any_fewer f g (x ∷ xs) more none = at (f x) (g x) (more x) none (any_fewer f g xs more)
  where
    at : (a b : Bool) → (a ≡ true → b ≡ true) → (b || list_any g xs) ≡ false
        → (list_any g xs ≡ false → list_any f xs ≡ false) → (a || list_any f xs) ≡ false
    at true true m h later = cc
    at true false m h later = let both : false ≡ true = m refl in cc
    at false true m h later = cc
    at false false m h later = later h

any_more : (f g : ℕ → Bool) (xs : List ℕ) → ((x : ℕ) → f x ≡ true → g x ≡ true) → list_any f xs ≡ true → list_any g xs
    ≡ true
any_more f g [] more some = some
any_more f g (x ∷ xs) more some = at (f x) (g x) (more x) some (any_more f g xs more)
  where
    at : (a b : Bool) → (a ≡ true → b ≡ true) → (a || list_any f xs) ≡ true
        → (list_any f xs ≡ true → list_any g xs ≡ true) → (b || list_any g xs) ≡ true
    at a true m h later = refl
    at true false m h later = let both : false ≡ true = m refl in cc
    at false false m h later = later h

sum_no_more : (f g : ℕ → ℕ) (xs : List ℕ) → ((x : ℕ) → f x ≤ g x) → sum_by f xs ≤ sum_by g xs
sum_no_more f g [] less = omega arith
sum_no_more f g (x ∷ xs) less = omega (arith, sum_by-cons f x xs, sum_by-cons g x xs, less x, sum_no_more f g xs less)

last_below : (test : ℕ → Bool) (n : ℕ) → test n ≡ true → any_below test (n + 1) ≡ true
last_below test n h = ap (any_below test) (add-one n) ∙ ap (λ b. any_below test n || b) h ∙ or_true (any_below test n)
  where
    or_true : (b : Bool) → (b || true) ≡ true
    or_true true = refl
    or_true false = refl

last_within : (f : ℕ → ℕ) (n : ℕ) → f n ≤ sum_below f (n + 1)
last_within f n = let e : sum_below f (n + 1) ≡ sum_below f n + f n = ap (sum_below f) (add-one n) in omega (arith, e)

-- ---- the link

module _ (ex : Exercise) (p : List (List Cell)) (col : List Cell) (prefix : IsOrderlyPrefix ex p) where
  -- what it breaks strictly the column settles
  strict_between : (rule voices : ℕ) → (breaks_between ex (length p) (last_column p) col rule voices
      && is_strict_at rule ex voices (length p)) ≡ true
      → newly_broken_at rule ex voices p col (length p) ≡ true
  strict_between rule voices h =
      let parts = and_parts (breaks_between ex (length p) (last_column p) col rule voices)
      (is_strict_at rule ex voices (length p)) h in
      let both = and_parts (is_rule_between rule) (breaks rule ex voices (length p) (behind_of (last_column p)) col [])
      parts.0 in
      let settled : newly (is_settled rule ex voices) p col (length p)
      ≡ true = newly_at_end (enough rule ex voices) (settled_soon rule both.0 ex voices) p col in
      let broken : is_broken rule ex voices (p ++ col ∷ []) (length p)
      ≡ true = sym (read_near ex p col prefix (breaks rule ex voices) (has_row rule both.0 ex voices)) ∙ both.1 in
      rw (settled, broken, parts.1) refl

  breaks_settled : (rule : ℕ) → breaks_strictly ex (length p) (last_column p) col rule ≡ true
      → newly_broken ex p col rule ≡ true
  breaks_settled rule =
      any_more (λ voices. breaks_between ex (length p) (last_column p) col rule voices
      && is_strict_at rule ex voices (length p))
      (λ voices. any_below (newly_broken_at rule ex voices p col) (length p + 1)) all_sets
      (λ voices h. last_below (newly_broken_at rule ex voices p col) (length p) (strict_between rule voices h))

  unbroken_link : list_any (newly_broken ex p col) rules_read ≡ false
      → list_any (breaks_strictly ex (length p) (last_column p) col) rules_read ≡ false
  unbroken_link none = any_fewer (breaks_strictly ex (length p) (last_column p) col) (newly_broken ex p col) rules_read
      breaks_settled none

  module _ (sheet : Sheet) where
    -- and what a toll costs in it the column settles
    toll_settles : (toll : ℕ) → cost_between ex (length p) (last_column p) col toll * weight_of sheet toll ≤ new_toll ex
        sheet p col (length p) toll
    toll_settles toll = at (is_toll_between toll) refl
      where
        nothing : (w n : ℕ) → 0 * w ≤ n
        nothing w n = omega arith

        same : (a b : ℕ) → a ≡ b → a ≤ b
        same a b e = omega (arith, e)

        at : (b : Bool) → is_toll_between toll ≡ b
            → (if b then costs toll ex (length p) (behind_of (last_column p)) col [] else 0) * weight_of sheet toll ≤
            new_toll ex sheet p col (length p) toll
        at false e = nothing (weight_of sheet toll) (new_toll ex sheet p col (length p) toll)
        at true e =
            let settled : newly (is_cost_settled toll ex) p col (length p)
            ≡ true = newly_at_end (cost_enough toll ex) (toll_settled_soon toll e ex) p col in
            same _ _
            (ap (λ n. n * weight_of sheet toll) (read_near ex p col prefix (costs toll ex) (has_toll_row toll e ex))
            ∙ sym (ap (λ b. if b then cost_at toll ex (p ++ col ∷ []) (length p) * weight_of sheet toll else 0)
            settled))

    link_within : sum_by (λ toll. cost_between ex (length p) (last_column p) col toll * weight_of sheet toll) tolls_read
        ≤ newly_paid ex sheet p col
    link_within =
        no_more _ _ _ _ (sum_no_more _ (new_toll ex sheet p col (length p)) tolls_read toll_settles)
        (last_within (λ i. new_tolls ex sheet p col i + new_prices ex p col i) (length p))
      where
        no_more : (a b c d : ℕ) → a ≤ b → b + c ≤ d → a ≤ d
        no_more a b c d h k = omega arith

    pub link_at_most : list_any (newly_broken ex p col) rules_read ≡ false
        → IsSomeAnd (link_of ex sheet (length p) (last_column p) col) (λ cost. cost ≤ newly_paid ex sheet p col)
    unfolding link_of
    link_at_most none =
        let P : Bool → Type 0 = λ b. IsSomeAnd
        (if b then None else Some (sum_by
        (λ toll. cost_between ex (length p) (last_column p) col toll * weight_of sheet toll) tolls_read))
        (λ cost. cost ≤ newly_paid ex sheet p col) in
        subst P (sym (unbroken_link none)) link_within

pub link_is_paid : (ex : Exercise) → ex.cantus_voice < ex.voices
    → (sheet : Sheet) (p : List (List Cell)) (col : List Cell) → GoesOn ex p (col ∷ [])
    → list_any (newly_broken ex p col) rules_read ≡ false
    → IsSomeAnd (link_of ex sheet (length p) (last_column p) col) (λ cost. cost ≤ newly_paid ex sheet p col)
link_is_paid ex there sheet p col on none = link_at_most ex p col (orderly_prefix ex there p col on) sheet none
