-- S23 and the tolls Q3 to Q6 as a crate's book.
use Rattle.std.specs.Prelude.{ℕ, Bool, ◌==◌, ◌&&◌, ◌||◌, nat_le, true, if◌then◌else◌, List, [], ◌∷◌}
use Rattle.fux_grid.specs.declared.exercise.Exercise.{Exercise}
use Rattle.rule_law.specs.declared.table.Form.TheVariants.{TwoVoices}
use Rattle.rule_law.specs.declared.table.Kind.TheVariants.{Column}
use Rattle.rule_law.specs.declared.table.Stands.TheVariants.{Anywhere}
use Rattle.rule_law.specs.Bars.{begins_bar, begins_inner_bar}
use Rattle.rule_law.specs.Rulebooks.{RuleRow, Rulebook, TollRow}
use Rattle.doubling_rules.specs.Rows.{broken_in, cost_enough, cost_in, enough_after, is_before_last_bar}

abbrev pub has_rule : ℕ → Bool
has_rule n = n == 23

abbrev pub has_toll : ℕ → Bool
has_toll n = (n == 3) || (n == 4) || (n == 5) || (n == 6)

-- S23 is read among the newest columns; it may be broken in the bar before the last
abbrev pub rule_row : ℕ → RuleRow
rule_row n = record {
  form = TwoVoices;
  kind = Column;
  stands = Anywhere;
  late = true;
  broken = broken_in n;
  enough = enough_after n;
  first = λ ex i. i;
  count = λ ex i. if is_before_last_bar ex i then 1 else 0;
}

-- a toll may cost something at the column: Q3 at the beginnings of bars but the first and the last,
-- Q4 and Q5 of all bars, Q3 and Q5 in three or four voices, and Q6 anywhere
abbrev pub may_cost : ℕ → Exercise → ℕ → Bool
may_cost toll ex i =
    if toll == 3 then nat_le 3 ex.voices && begins_inner_bar ex i
    else (if toll == 4 then begins_bar i
    else (if toll == 5 then nat_le 3 ex.voices && begins_bar i
    else true))

abbrev pub toll_row : ℕ → TollRow
toll_row n = record {
  kind = Column;
  late = true;
  cost = cost_in n;
  enough = cost_enough n;
  first = λ ex i. i;
  count = λ ex i. if may_cost n ex i then 1 else 0;
}

-- S23 is late
abbrev pub late_rules : List ℕ
late_rules = 23 ∷ []

abbrev pub book : Rulebook
book = record {
  has_rule = has_rule;
  rule = rule_row;
  late_rules = late_rules;
  has_toll = has_toll;
  toll = toll_row;
}
