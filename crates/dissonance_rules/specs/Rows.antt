-- Where the rules S11 and S14 are broken, and what the tolls Q1 and Q2 cost.
use Rattle.std.specs.Prelude.{ℕ, ◌-◌, ◌==◌, Bool, ◌&&◌, List, if◌then◌else◌}
use Rattle.std.specs.Int.{from_bool}
use Rattle.fux_grid.specs.declared.cell.Cell.{Cell}
use Rattle.fux_grid.specs.declared.exercise.Exercise.{Exercise}
use Rattle.fux_grid.specs.Cells.{cell_in}
use Rattle.rule_law.specs.Bars.{begins_bar, begins_inner_bar}
use Rattle.rule_law.specs.Nearby.{NearRow, whole_of}
use Rattle.rule_law.specs.Pairs.{count_pairs, one_starts, sound_perfect, sound_same_key}
use Rattle.rule_law.specs.Places.{Row, at_once}
use Rattle.rule_law.specs.Terms.{clash, starts}
use Rattle.rule_law.specs.Voices.{on_pair}

-- S11: at the beginning of a bar, neither the first nor the last, two voices sound the same key
abbrev pub meet_in_unison : Exercise → ℕ → List Cell → ℕ → ℕ → Bool
meet_in_unison ex i now v w = begins_inner_bar ex i && sound_same_key now v w

-- S14: at the beginning of a bar two voices both start a note, and they clash
abbrev pub clash_at_start : ℕ → List Cell → ℕ → ℕ → Bool
clash_at_start i now v w = begins_bar i && starts (cell_in now v) && starts (cell_in now w) && clash now v w

-- Q1: at the beginning of a bar, neither the first nor the last, the lowest and the highest voice
-- sound a perfect interval
abbrev pub is_outer_perfect : Exercise → ℕ → List Cell → Bool
is_outer_perfect ex i now = begins_inner_bar ex i && sound_perfect now 0 (ex.voices - 1)

-- Q2: within a bar, the pairs that sound the same key and of which one starts a note
abbrev pub struck_unisons : ℕ → List Cell → ℕ
struck_unisons i now = if begins_bar i then 0 else count_pairs (λ v w. one_starts now v w && sound_same_key now v w)

-- the rules 11 and 14, which look at one column alone
abbrev pub near_rows : ℕ → Exercise → ℕ → NearRow Bool
near_rows rule ex voices i before previous now =
    if rule == 11 then on_pair ex (meet_in_unison ex i now) voices
    else on_pair ex (clash_at_start i now) voices

-- a rule is broken at a place
abbrev pub broken_in : ℕ → Exercise → ℕ → Row Bool
broken_in rule ex voices = whole_of (near_rows rule ex voices)

-- both rules are settled at once
abbrev pub enough_after : ℕ → Exercise → ℕ → Row Bool
enough_after rule ex voices = at_once

-- the tolls 1 and 2, which look at one column alone
abbrev pub toll_rows : ℕ → Exercise → NearRow ℕ
toll_rows toll ex i before previous now =
    if toll == 1 then from_bool (is_outer_perfect ex i now) else struck_unisons i now

-- what a toll costs at a place, without its weight
abbrev pub cost_in : ℕ → Exercise → Row ℕ
cost_in toll ex = whole_of (toll_rows toll ex)

-- both tolls are settled at once
abbrev pub cost_enough : ℕ → Exercise → Row Bool
cost_enough toll ex = at_once
