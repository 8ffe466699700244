-- The rules and tolls of motion as a crate's book.
use Rattle.std.specs.Prelude.{ℕ, Bool, ◌==◌, ◌&&◌, ◌||◌, nat_le, true, false, if◌then◌else◌, List, [], ◌∷◌}
use Rattle.fux_grid.specs.declared.exercise.Exercise.{Exercise}
use Rattle.fux_grid.specs.Exercises.{is_mixed}
use Rattle.rule_law.specs.declared.table.Form.TheVariants.{TwoVoices}
use Rattle.rule_law.specs.declared.table.Kind.TheVariants.{Column, Pair, Window}
use Rattle.rule_law.specs.declared.table.Stands.TheVariants.{Anywhere, AtBars}
use Rattle.rule_law.specs.Bars.{begins_bar}
use Rattle.rule_law.specs.Nearby.{whole_of}
use Rattle.rule_law.specs.Places.{at_once}
use Rattle.rule_law.specs.Rulebooks.{RuleRow, Rulebook, TollRow}
use Rattle.motion_rules.specs.Afterbeats.{afterbeat_enough, afterbeat_row, moves_within_bars}
use Rattle.motion_rules.specs.InnerVoices.{inner_toll}
use Rattle.motion_rules.specs.Rows.{broken_in, cost_enough, cost_in, enough_after}
use Rattle.motion_rules.specs.Runs.{ends_four_bars, run_toll}

abbrev pub has_rule : ℕ → Bool
has_rule n = (n == 10) || (n == 16) || (n == 17) || (n == 18)

abbrev pub has_toll : ℕ → Bool
has_toll n = (n == 11) || (n == 12) || (n == 14)

-- S18, Q12 and Q14 are read among the newest columns
abbrev pub is_late : ℕ → Bool
is_late n = n == 18

abbrev pub is_late_toll : ℕ → Bool
is_late_toll n = (n == 12) || (n == 14)

abbrev pub at_once_row : ℕ → RuleRow
at_once_row n = record {
  form = TwoVoices;
  kind = if n == 10 then Column else Pair;
  stands = Anywhere;
  late = false;
  broken = broken_in n;
  enough = enough_after n;
  first = λ ex i. i;
  count = λ ex i. 1;
}

-- S18 may be broken at the column: a bar that isn't the first begins, and the species goes on
-- within bars or species are mixed
abbrev pub may_be_bare : Exercise → ℕ → Bool
may_be_bare ex i = (is_mixed ex || moves_within_bars ex.species) && begins_bar i && nat_le 8 i

abbrev pub late_row : ℕ → RuleRow
late_row n = record {
  form = TwoVoices;
  kind = Window;
  stands = AtBars;
  late = true;
  broken = afterbeat_row;
  enough = afterbeat_enough;
  first = λ ex i. i;
  count = λ ex i. if may_be_bare ex i then 1 else 0;
}

abbrev pub rule_row : ℕ → RuleRow
rule_row n = if is_late n then late_row n else at_once_row n

abbrev pub at_once_toll : ℕ → TollRow
at_once_toll n = record {
  kind = Pair;
  late = false;
  cost = cost_in n;
  enough = cost_enough n;
  first = λ ex i. i;
  count = λ ex i. 1;
}

-- Q12 costs nothing in two voices
abbrev pub inner_row : TollRow
inner_row = record {
  kind = Pair;
  late = true;
  cost = λ ex. whole_of (inner_toll ex);
  enough = λ ex. at_once;
  first = λ ex i. i;
  count = λ ex i. if nat_le 3 ex.voices then 1 else 0;
}

-- Q14 costs something at the beginnings of bars alone, from the fourth on
abbrev pub run_row : TollRow
run_row = record {
  kind = Window;
  late = true;
  cost = run_toll;
  enough = λ ex. at_once;
  first = λ ex i. i;
  count = λ ex i. if ends_four_bars i then 1 else 0;
}

abbrev pub late_toll : ℕ → TollRow
late_toll n = if n == 12 then inner_row else run_row

abbrev pub toll_row : ℕ → TollRow
toll_row n = if is_late_toll n then late_toll n else at_once_toll n

-- the late rules
abbrev pub late_rules : List ℕ
late_rules = 18 ∷ []

abbrev pub book : Rulebook
book = record {
  has_rule = has_rule;
  rule = rule_row;
  late_rules = late_rules;
  has_toll = has_toll;
  toll = toll_row;
}
