-- The runs of some pairs go on as those of all pairs do (`some_follow`), begin with none
-- (`some-none`), and count no more of Q14 than it does (`some_ended`).
use Rattle.std.specs.Prelude.{◌≡◌, ℕ, ◌+◌, ◌<◌, ◌≤◌, Bool, true, false, List, [], ◌∷◌, ◌++◌, length, if◌then◌else◌, refl}
use Rattle.std.proofs.Common.{ap, ◌∙◌, arith}
use Rattle.fux_grid.specs.declared.cell.Cell.{Cell}
use Rattle.fux_grid.specs.declared.exercise.Exercise.{Exercise}
use Rattle.fux_grid.specs.Columns.{Columns}
use Rattle.fux_grid.specs.Exercises.{columns_in}
use Rattle.rule_law.specs.Bars.{begins_bar}
use Rattle.fux_judge.specs.Rules.{cost_at}
use Rattle.open_ends.specs.declared.keeps.Pairs.{Pairs}
use Rattle.open_ends.specs.declared.runs.OpenRuns.{OpenRuns}
use Rattle.open_ends.specs.declared.runs.Run.{Run}
use Rattle.open_ends.specs.BarRuns.{come_to_four, count_of, followed_after, for_pairs, if_followed, no_run, of_pairs, pairs_after, run_after, run_in, run_of}
use Rattle.open_ends.specs.Runs.{kept_after, nothing, run_toll, runs_ended, runs_in}
use Rattle.open_ends.proofs.RunsTold.{runs-none, tells_runs}
use Rattle.open_ends.proofs.SameRuns.{open_from}

-- ---- six of them

six_same : (a b c d e f a' b' c' d' e' f' : Run) → a ≡ a' → b ≡ b' → c ≡ c' → d ≡ d' → e ≡ e' → f ≡ f'
    → (a ∷ b ∷ c ∷ d ∷ e ∷ f ∷ []) ≡ (a' ∷ b' ∷ c' ∷ d' ∷ e' ∷ f' ∷ [])
six_same a b c d e f a' b' c' d' e' f' p q r s t u = rw (p, q, r, s, t, u) refl

six_within : (a b c d e f a' b' c' d' e' f' : ℕ) → a ≤ a' → b ≤ b' → c ≤ c' → d ≤ d' → e ≤ e' → f ≤ f'
    → a + b + c + d + e + f ≤ a' + b' + c' + d' + e' + f'
six_within a b c d e f a' b' c' d' e' f' p q r s t u = omega (arith, p, q, r, s, t, u)

-- ---- how they go on

module _ (ex : Exercise) (pairs : Pairs) (i : ℕ) (now : List Cell) where
  one_on : (followed : Bool) (run : Run) (v w : ℕ)
      → if_followed followed (run_after ex i (if_followed followed run) now v w)
      ≡ if_followed followed (run_after ex i run now v w)
  one_on true run v w = refl
  one_on false run v w = refl

  some_on : (runs : List Run)
      → followed_after ex pairs i (of_pairs pairs runs) now ≡ of_pairs pairs (pairs_after ex i runs now)
  some_on runs =
      six_same _ _ _ _ _ _ _ _ _ _ _ _ (one_on pairs.v01 (run_of runs 0) 0 1) (one_on pairs.v02 (run_of runs 1) 0 2)
      (one_on pairs.v03 (run_of runs 2) 0 3) (one_on pairs.v12 (run_of runs 3) 1 2)
      (one_on pairs.v13 (run_of runs 4) 1 3) (one_on pairs.v23 (run_of runs 5) 2 3)

  abbrev only : OpenRuns → OpenRuns
  only kept = open_from (of_pairs pairs kept.pairs)

  -- where those of all pairs do
  kept_on : (runs more : List Run) (begins : Bool)
      → (if begins then open_from (pairs_after ex i runs now) else open_from runs) ≡ open_from more
      → (if begins then open_from (followed_after ex pairs i (of_pairs pairs runs) now)
      else open_from (of_pairs pairs runs))
      ≡ open_from (of_pairs pairs more)
  kept_on runs more true h = ap open_from (some_on runs) ∙ ap only h
  kept_on runs more false h = ap only h

module _ (ex : Exercise) (pairs : Pairs) where
  abbrev pub some_in : Columns → OpenRuns
  some_in p = open_from (of_pairs pairs (for_pairs (run_in ex p)))

  none_so : (followed : Bool) → if_followed followed no_run ≡ no_run
  none_so true = refl
  none_so false = refl

  pub some-none : some_in [] ≡ nothing
  some-none =
      ap (λ (kept : OpenRuns). open_from (of_pairs pairs kept.pairs)) (runs-none ex)
      ∙ ap open_from (six_same _ _ _ _ _ _ _ _ _ _ _ _ (none_so pairs.v01) (none_so pairs.v02) (none_so pairs.v03)
      (none_so pairs.v12) (none_so pairs.v13) (none_so pairs.v23))

  pub some_follow : (p : Columns) (col : List Cell) → length p < columns_in ex
      → kept_after ex pairs (length p) (some_in p) col ≡ some_in (p ++ col ∷ [])
  some_follow p col here =
      kept_on ex pairs (length p) col (for_pairs (run_in ex p)) (for_pairs (run_in ex (p ++ col ∷ [])))
      (begins_bar (length p)) (tells_runs ex p col here).kept

  -- ---- what they count

  none_within : (n m : ℕ) → n ≡ 0 → n ≤ m
  none_within n m e = omega (arith, e)

  same_within : (n : ℕ) → n ≤ n
  same_within n = omega arith

  one_counts : (followed : Bool) (run : Run) (now : List Cell) (v w : ℕ)
      → count_of (if_followed followed run) now v w ≤ count_of run now v w
  one_counts true run now v w = same_within (count_of run now v w)
  one_counts false run now v w = none_within (count_of no_run now v w) (count_of run now v w) refl

  some_come : (runs : List Run) (now : List Cell) → come_to_four (of_pairs pairs runs) now ≤ come_to_four runs now
  some_come runs now =
      six_within _ _ _ _ _ _ _ _ _ _ _ _ (one_counts pairs.v01 (run_of runs 0) now 0 1)
      (one_counts pairs.v02 (run_of runs 1) now 0 2) (one_counts pairs.v03 (run_of runs 2) now 0 3)
      (one_counts pairs.v12 (run_of runs 3) now 1 2) (one_counts pairs.v13 (run_of runs 4) now 1 3)
      (one_counts pairs.v23 (run_of runs 5) now 2 3)

  ended_within : (runs : List Run) (now : List Cell) (begins : Bool)
      → (if begins then come_to_four (of_pairs pairs runs) now else 0) ≤ (if begins then come_to_four runs now else 0)
  ended_within runs now true = some_come runs now
  ended_within runs now false = same_within 0

  no_more : (a b c : ℕ) → a ≤ b → b ≡ c → a ≤ c
  no_more a b c h e = omega (arith, h, e)

  pub some_ended : (p : Columns) (col : List Cell) → length p < columns_in ex
      → runs_ended (length p) (some_in p) col ≤ cost_at run_toll ex (p ++ col ∷ []) (length p)
  some_ended p col here =
      no_more (runs_ended (length p) (some_in p) col) (runs_ended (length p) (runs_in ex p) col)
      (cost_at run_toll ex (p ++ col ∷ []) (length p))
      (ended_within (for_pairs (run_in ex p)) col (begins_bar (length p))) (tells_runs ex p col here).ended
