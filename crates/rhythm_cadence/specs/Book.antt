-- The rules and tolls of rhythm and cadence as a crate's book.
use Rattle.std.specs.Prelude.{ℕ, Bool, ◌+◌, ◌-◌, ◌*◌, ◌/◌, ◌==◌, ◌||◌, nat_lt, true, false, if◌then◌else◌, List, [], ◌∷◌}
use Rattle.fux_grid.specs.Exercises.{columns_in}
use Rattle.rule_law.specs.declared.table.Form.TheVariants.{OneVoice, TwoVoices, AllVoices}
use Rattle.rule_law.specs.declared.table.Kind.TheVariants.{Column, Pair, Window}
use Rattle.rule_law.specs.declared.table.Stands.TheVariants.{Anywhere, AtBars, AtTheEnd}
use Rattle.rule_law.specs.Bars.{begins_inner_bar}
use Rattle.rule_law.specs.Nearby.{whole_of}
use Rattle.rule_law.specs.Places.{at_once}
use Rattle.rule_law.specs.Rulebooks.{RuleRow, Rulebook, TollRow, no_toll}
use Rattle.rhythm_cadence.specs.Cadence.{cadence_enough, cadence_row}
use Rattle.rhythm_cadence.specs.Inflections.{inflection_toll}
use Rattle.rhythm_cadence.specs.Patterns.{ligature_toll, pattern_enough, pattern_toll, settles_pattern}
use Rattle.rhythm_cadence.specs.Quavers.{quaver_enough, quaver_row}
use Rattle.rhythm_cadence.specs.Rows.{begins_last_bar, broken_in, enough_after}

abbrev pub has_rule : ℕ → Bool
has_rule n =
    (n == 1) || (n == 2) || (n == 3) || (n == 12) || (n == 13) || (n == 22) || (n == 24) || (n == 25)

-- the rules that are read from what a state keeps of its newest columns
abbrev pub is_late : ℕ → Bool
is_late n = (n == 3) || (n == 22) || (n == 25)

-- S1, S2, S12, S13 and S24. S13 and S24 are of the last bar
abbrev pub at_once_row : ℕ → RuleRow
at_once_row n = record {
  form = if n == 13 then TwoVoices else OneVoice;
  kind = if (n == 13) || (n == 24) then Column else (if n == 12 then Pair else Window);
  stands = if (n == 13) || (n == 24) then AtTheEnd else Anywhere;
  late = false;
  broken = broken_in n;
  enough = enough_after n;
  first = λ ex i. i;
  count = λ ex i. 1;
}

-- S3: a column may settle a break at the beginning of its bar
abbrev pub shape_rule : RuleRow
shape_rule = record {
  form = OneVoice;
  kind = Window;
  stands = AtBars;
  late = true;
  broken = broken_in 3;
  enough = enough_after 3;
  first = λ ex i. 8 * (i / 8);
  count = λ ex i. 1;
}

-- S22 is settled at once, where the last bar begins
abbrev pub cadence_rule : RuleRow
cadence_rule = record {
  form = AllVoices;
  kind = Window;
  stands = AtTheEnd;
  late = true;
  broken = cadence_row;
  enough = cadence_enough;
  first = λ ex i. i;
  count = λ ex i. if begins_last_bar ex i then 1 else 0;
}

-- S25: a column settles the one before it, and the last column of a setting itself too
abbrev pub quavers_settled : ℕ → ℕ → ℕ
quavers_settled columns i = if i == 0 then 0 else (if nat_lt (i + 1) columns then 1 else 2)

abbrev pub quaver_rule : RuleRow
quaver_rule = record {
  form = OneVoice;
  kind = Window;
  stands = Anywhere;
  late = true;
  broken = quaver_row;
  enough = quaver_enough;
  first = λ ex i. i - 1;
  count = λ ex. quavers_settled (columns_in ex);
}

abbrev pub late_row : ℕ → RuleRow
late_row n = if n == 3 then shape_rule else (if n == 22 then cadence_rule else quaver_rule)

abbrev pub rule_row : ℕ → RuleRow
rule_row n = if is_late n then late_row n else at_once_row n

abbrev pub has_toll : ℕ → Bool
has_toll n = (n == 15) || (n == 16) || (n == 21)

-- the tolls are all read so too
abbrev pub is_late_toll : ℕ → Bool
is_late_toll n = (n == 15) || (n == 16) || (n == 21)

-- Q15 is settled at once, at the beginning of an inner bar
abbrev pub ligature_row : TollRow
ligature_row = record {
  kind = Column;
  late = true;
  cost = λ ex. whole_of (ligature_toll ex);
  enough = λ ex. at_once;
  first = λ ex i. i;
  count = λ ex i. if begins_inner_bar ex i then 1 else 0;
}

-- Q16: the last column of a bar may settle it at the bar's first column
abbrev pub pattern_row : TollRow
pattern_row = record {
  kind = Window;
  late = true;
  cost = pattern_toll;
  enough = pattern_enough;
  first = λ ex i. i - 7;
  count = λ ex i. if settles_pattern i then 1 else 0;
}

-- Q21 is settled at once
abbrev pub inflection_row : TollRow
inflection_row = record {
  kind = Window;
  late = true;
  cost = inflection_toll;
  enough = λ ex. at_once;
  first = λ ex i. i;
  count = λ ex i. 1;
}

abbrev pub late_toll : ℕ → TollRow
late_toll n = if n == 15 then ligature_row else (if n == 21 then inflection_row else pattern_row)

abbrev pub toll_row : ℕ → TollRow
toll_row n = if is_late_toll n then late_toll n else no_toll

-- the late rules in the order in which they are asked: those of one voice first
abbrev pub late_rules : List ℕ
late_rules = 3 ∷ 25 ∷ 22 ∷ []

abbrev pub book : Rulebook
book = record {
  has_rule = has_rule;
  rule = rule_row;
  late_rules = late_rules;
  has_toll = has_toll;
  toll = toll_row;
}
