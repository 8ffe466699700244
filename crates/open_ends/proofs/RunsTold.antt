-- From prefix to prefix each step leads to what is kept behind its column, and tells what Q14
-- counts there (`tells_runs`).
use Rattle.std.specs.Prelude.{◌≡◌, ℕ, ◌+◌, ◌-◌, ◌*◌, ◌%◌, ◌<◌, ◌≤◌, ◌&&◌, ◌||◌, Bool, true, false, nat_le, List, [], ◌∷◌, ◌++◌, length, reverse, if◌then◌else◌, refl}
use Rattle.std.specs.List.{list_all}
use Rattle.std.proofs.Common.{ap, sym, ◌∙◌, arith}
use Rattle.std.proofs.lemmas.Bool.{eqb-true}
use Rattle.std.proofs.lemmas.List.{length-append, length-reverse}
use Rattle.fux_grid.specs.declared.cell.Cell.{Cell}
use Rattle.fux_grid.specs.declared.exercise.Exercise.{Exercise}
use Rattle.fux_grid.specs.Columns.{Columns}
use Rattle.fux_grid.specs.Exercises.{bar_of, columns_in, slot_of}
use Rattle.fux_grid.proofs.Histories.{reverse-push}
use Rattle.rule_law.specs.Bars.{begins_bar}
use Rattle.rule_law.specs.Law.{reading-at_end}
use Rattle.rule_law.specs.Pairs.{count_pairs}
use Rattle.rule_law.specs.Voices.{voice_pairs}
use Rattle.motion_rules.specs.Runs.{four_bar_lines, imperfect_runs, keep_on, sound_imperfect, three_bar_lines}
use Rattle.motion_rules.proofs.RunLemmas.{count_pairs-written}
use Rattle.fux_judge.specs.Rules.{cost_at, costs, toll_at}
use Rattle.open_ends.specs.declared.runs.OpenRuns.{OpenRuns}
use Rattle.open_ends.specs.declared.runs.Run.{Run}
use Rattle.open_ends.specs.BarRuns.{bar_lines, bars_after, bars_kept, come_to_four, comes_to_four, count_of, for_pairs, in_a_row, pairs_after, run_after, run_in, while_it_may}
use Rattle.open_ends.specs.Runs.{TellsRuns, nothing, run_toll, runs_after, runs_ended, runs_in}
use Rattle.open_ends.proofs.InARow.{kept-none, kept_goes_on, kept_stays, kept_three, row-few, row-within, three_in_a_row}
use Rattle.open_ends.proofs.SameRuns.{open_from, run_from}

-- ---- all pairs

for_pairs-same : (f g : ℕ → ℕ → Run) → ((v w : ℕ) → f v w ≡ g v w) → for_pairs f ≡ for_pairs g
for_pairs-same f g e = rw (e 0 1, e 0 2, e 0 3, e 1 2, e 1 3, e 2 3) refl

count_pairs-where : (b : Bool) (test : ℕ → ℕ → Bool) → count_pairs (λ v w. b && test v w)
    ≡ (if b then count_pairs test else 0)
unfolding voice_pairs
count_pairs-where true test = refl
count_pairs-where false test = refl

gathered : (t l s l' s' : Bool) → (((t && l) && s) || ((t && l') && s')) ≡ (t && ((s && l) || (s' && l')))
gathered false l s l' s' = refl
gathered true l s l' s' = rw (swapped l s, swapped l' s') refl
  where
    swapped : (a b : Bool) → (a && b) ≡ (b && a)
    swapped true true = refl
    swapped true false = refl
    swapped false true = refl
    swapped false false = refl

-- what a step tells
abbrev step_to : OpenRuns → ℕ → OpenRuns × ℕ
step_to kept paid = (kept, paid)

abbrev step_of : List Run → ℕ → OpenRuns × ℕ
step_of pairs paid = step_to (open_from pairs) paid

-- ---- one column more

module _ (ex : Exercise) (p : Columns) (col : List Cell) where
  abbrev grown : Columns
  grown = p ++ col ∷ []

  -- so many bars are in a row behind the prefix
  abbrev so_far : ℕ → ℕ → ℕ → ℕ
  so_far degrees v w = in_a_row degrees (bar_lines (reverse p)) v w

  so_far-few : (degrees v w : ℕ) → 8 * so_far degrees v w ≤ length p + 7
  so_far-few degrees v w = omega (arith, row-few degrees v w (reverse p), length-reverse p)

  kept-grown : (degrees v w : ℕ)
      → bars_kept degrees ex grown v w ≡ while_it_may ex (length p) (in_a_row degrees (bar_lines (col ∷ reverse p)) v w)
  kept-grown degrees v w =
      let last : length grown - 1 ≡ length p = omega (arith, length-append p (col ∷ [])) in
      ap (λ i. while_it_may ex i (in_a_row degrees (bar_lines (reverse grown)) v w)) last
      ∙ ap (λ h. while_it_may ex (length p) (in_a_row degrees (bar_lines h) v w)) (reverse-push p col)

  costs_there : cost_at run_toll ex grown (length p) ≡ imperfect_runs (length p) (reverse p) col
  unfolding toll_at
  costs_there = reading-at_end (costs run_toll ex) p col

  abbrev told : OpenRuns × ℕ
  told = (runs_in ex grown, cost_at run_toll ex grown (length p))

  -- within a bar all is kept, and nothing is paid
  module _ (within : begins_bar (length p) ≡ false) where
    stays : (degrees v w : ℕ) → bars_kept degrees ex p v w ≡ bars_kept degrees ex grown v w
    stays degrees v w =
        kept_stays ex (length p) (so_far degrees v w) within
        ∙ ap (λ b. while_it_may ex (length p)
        (in_a_row degrees (if b then col ∷ bar_lines (reverse p) else bar_lines (reverse p)) v w))
        (sym (ap begins_bar (length-reverse p) ∙ within))
        ∙ sym (kept-grown degrees v w)

    runs_stay : step_of (for_pairs (run_in ex p)) 0 ≡ told
    runs_stay =
        ap (λ pairs. step_of pairs 0) (for_pairs-same (run_in ex p) (run_in ex grown)
        (λ v w. ap (λ n. run_from n (bars_kept 5 ex p v w)) (stays 2 v w)
        ∙ ap (run_from (bars_kept 2 ex grown v w)) (stays 5 v w)))
        ∙ ap (step_of (for_pairs (run_in ex grown)))
        (sym (costs_there ∙ ap (λ b. if b && nat_le 4 (bar_of (length p))
        then count_pairs (keep_on (four_bar_lines (reverse p) col)) else 0) within))

  -- where a bar begins runs go on, and those of three bars that do are paid
  module _ (here : length p < columns_in ex) (bar : begins_bar (length p) ≡ true) where
    slot : length p % 8 ≡ 0
    slot = eqb-true (slot_of (length p)) 0 bar

    behind : begins_bar (length (reverse p)) ≡ true
    behind = ap begins_bar (length-reverse p) ∙ bar

    goes_on : (degrees v w : ℕ)
        → while_it_may ex (length p) (bars_after (bars_kept degrees ex p v w) (sound_imperfect degrees col v w))
        ≡ bars_kept degrees ex grown v w
    goes_on degrees v w =
        kept_goes_on ex (length p) (so_far degrees v w) (sound_imperfect degrees col v w) slot (so_far-few degrees v w)
        ∙ ap (while_it_may ex (length p)) (sym (row-within degrees v w col (reverse p) [] behind (omega arith)))
        ∙ sym (kept-grown degrees v w)

    three : (degrees v w : ℕ) → nat_le 3 (bars_kept degrees ex p v w)
        ≡ (nat_le 4 (bar_of (length p)) && list_all (λ c. sound_imperfect degrees c v w) (three_bar_lines (reverse p)))
    three degrees v w =
        kept_three ex (length p) (so_far degrees v w) slot (so_far-few degrees v w) here
        ∙ three_in_a_row degrees v w (reverse p) behind
        ∙ ap (λ n. nat_le 4 (bar_of n) && list_all (λ c. sound_imperfect degrees c v w) (three_bar_lines (reverse p)))
        (length-reverse p)

    comes : (v w : ℕ) → comes_to_four (run_in ex p v w) col v w
        ≡ (nat_le 4 (bar_of (length p)) && keep_on (four_bar_lines (reverse p) col) v w)
    comes v w =
        ap (λ b. (b && sound_imperfect 2 col v w) || (nat_le 3 (bars_kept 5 ex p v w) && sound_imperfect 5 col v w))
        (three 2 v w)
        ∙ ap (λ b. ((nat_le 4 (bar_of (length p))
        && list_all (λ c. sound_imperfect 2 c v w) (three_bar_lines (reverse p))) && sound_imperfect 2 col v w)
        || (b && sound_imperfect 5 col v w)) (three 5 v w)
        ∙ gathered (nat_le 4 (bar_of (length p))) _ (sound_imperfect 2 col v w) _ (sound_imperfect 5 col v w)

    abbrev is_paid : ℕ → ℕ → Bool
    is_paid v w = nat_le 4 (bar_of (length p)) && keep_on (four_bar_lines (reverse p) col) v w

    counted : (v w : ℕ) → count_of (run_in ex p v w) col v w ≡ (if is_paid v w then 1 else 0)
    counted v w = ap (λ b. if b then 1 else 0) (comes v w)

    come : come_to_four (for_pairs (run_in ex p)) col ≡ cost_at run_toll ex grown (length p)
    come =
        count_pairs-written is_paid _ _ _ _ _ _ (counted 0 1) (counted 0 2) (counted 0 3) (counted 1 2) (counted 1 3)
        (counted 2 3)
        ∙ count_pairs-where (nat_le 4 (bar_of (length p))) (keep_on (four_bar_lines (reverse p) col))
        ∙ sym (costs_there ∙ ap (λ b. if b && nat_le 4 (bar_of (length p))
        then count_pairs (keep_on (four_bar_lines (reverse p) col)) else 0) bar)

    runs_go_on : step_of (pairs_after ex (length p) (for_pairs (run_in ex p)) col)
        (come_to_four (for_pairs (run_in ex p)) col) ≡ told
    runs_go_on =
        ap (λ pairs. step_of pairs (come_to_four (for_pairs (run_in ex p)) col))
        (for_pairs-same (λ v w. run_after ex (length p) (run_in ex p v w) col v w) (run_in ex grown)
        (λ v w. ap (λ n. run_from n (run_after ex (length p) (run_in ex p v w) col v w).sixths) (goes_on 2 v w)
        ∙ ap (run_from (bars_kept 2 ex grown v w)) (goes_on 5 v w)))
        ∙ ap (step_of (for_pairs (run_in ex grown))) come

  runs-told : length p < columns_in ex
      → step_to (runs_after ex (length p) (runs_in ex p) col) (runs_ended (length p) (runs_in ex p) col) ≡ told
  runs-told here = at (begins_bar (length p)) refl
    where
      at : (b : Bool) → begins_bar (length p) ≡ b
          → step_to (if b then open_from (pairs_after ex (length p) (for_pairs (run_in ex p)) col) else runs_in ex p)
          (if b then come_to_four (for_pairs (run_in ex p)) col else 0) ≡ told
      at true e = runs_go_on here e
      at false e = runs_stay e

  pub tells_runs : length p < columns_in ex → TellsRuns ex p col
  tells_runs here = record {
    kept = ap (λ (step : OpenRuns × ℕ). step.0) (runs-told here);
    ended = ap (λ (step : OpenRuns × ℕ). step.1) (runs-told here);
  }

pub runs-none : (ex : Exercise) → runs_in ex [] ≡ nothing
runs-none ex = ap open_from (for_pairs-same (run_in ex []) (λ v w. run_from 0 0)
    (λ v w. ap (λ n. run_from n n) (kept-none ex 0)))
