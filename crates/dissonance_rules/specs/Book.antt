-- The rules and tolls of dissonance as a crate's book. S15, S19, S20, S21, S27 and S28 are late:
-- they are read from the newest columns.
use Rattle.std.specs.Prelude.{ℕ, Bool, ◌+◌, ◌-◌, ◌%◌, ◌==◌, not, ◌&&◌, ◌||◌, true, false, if◌then◌else◌, List, [], ◌∷◌}
use Rattle.fux_grid.specs.declared.exercise.Exercise.{Exercise}
use Rattle.fux_grid.specs.Exercises.{is_mixed, slot_of}
use Rattle.rule_law.specs.declared.table.Form.TheVariants.{TwoVoices}
use Rattle.rule_law.specs.declared.table.Kind.TheVariants.{Column, Window}
use Rattle.rule_law.specs.declared.table.Stands.TheVariants.{Anywhere, AtBars}
use Rattle.rule_law.specs.Bars.{begins_bar}
use Rattle.rule_law.specs.Rulebooks.{RuleRow, Rulebook, TollRow}
use Rattle.dissonance_rules.specs.Clashes.{clash_enough, clash_row, is_told_later}
use Rattle.dissonance_rules.specs.Rows.{broken_in, cost_enough, cost_in, enough_after}

-- S15, S19, S20 and S21, and S27 and S28
abbrev pub is_late : ℕ → Bool
is_late n = (n == 15) || (n == 19) || (n == 20) || (n == 21) || (n == 27) || (n == 28)

abbrev pub has_rule : ℕ → Bool
has_rule n = (n == 11) || (n == 14) || is_late n

abbrev pub has_toll : ℕ → Bool
has_toll n = (n == 1) || (n == 2)

-- how many columns before the newest one S15 may be open for a voice of a species: until its next
-- note, or in species 3 and 5 the one after that. In florid bars, but for the first, a note starts
-- by the middle
abbrev pub reach : ℕ → ℕ
reach species =
    if (species == 2) || (species == 3) then 4
    else (if species == 4 then 8
    else 19)

-- a voice of a species, other than species 1, may start a note in a column
abbrev pub may_settle : ℕ → ℕ → Bool
may_settle species i =
    if species == 1 then false
    else (if (species == 2) || (species == 4) then i % 4 == 0
    else (if species == 3 then i % 2 == 0
    else not (i % 4 == 1)))

-- where species are mixed, the longest of these, and wherever a voice of some species may
abbrev pub passing_reach : Exercise → ℕ
passing_reach ex = if is_mixed ex then 19 else reach ex.species

abbrev pub may_settle_in : Exercise → ℕ → Bool
may_settle_in ex i = if is_mixed ex then not (i % 4 == 1) else may_settle ex.species i

-- S15 has places where one species is given, and S27 where species are mixed
abbrev pub has_places_in : ℕ → Exercise → Bool
has_places_in n ex = if n == 15 then not (is_mixed ex) else is_mixed ex

-- their places: a clash stays open for so many columns at most, and is settled where a note may
-- start
abbrev pub passing_count : ℕ → Exercise → ℕ → ℕ
passing_count n ex i = if has_places_in n ex && may_settle_in ex i then i + 1 - (i - passing_reach ex) else 0

-- the places of S20: the middle of a bar settles its beginning
abbrev pub resolution_count : ℕ → ℕ
resolution_count i = if slot_of i == 4 then 1 else 0

-- the places of S28: the column before does, where species are mixed
abbrev pub disturbance_count : Exercise → ℕ → ℕ
disturbance_count ex i = if is_mixed ex && (slot_of i == 3) then 1 else 0

-- the places of S19 and S21: their own columns, which begin bars
abbrev pub suspension_count : ℕ → ℕ
suspension_count i = if begins_bar i then 1 else 0

abbrev pub late_first : ℕ → Exercise → ℕ → ℕ
late_first n ex i =
    if is_told_later n then i - passing_reach ex
    else (if n == 20 then i - 4
    else (if n == 28 then i - 3
    else i))

abbrev pub late_count : ℕ → Exercise → ℕ → ℕ
late_count n ex i =
    if is_told_later n then passing_count n ex i
    else (if n == 20 then resolution_count i
    else (if n == 28 then disturbance_count ex i
    else suspension_count i))

abbrev pub at_once_row : ℕ → RuleRow
at_once_row n = record {
  form = TwoVoices;
  kind = Column;
  stands = AtBars;
  late = false;
  broken = broken_in n;
  enough = enough_after n;
  first = λ ex i. i;
  count = λ ex i. 1;
}

abbrev pub late_row : ℕ → RuleRow
late_row n = record {
  form = TwoVoices;
  kind = Window;
  stands = if is_told_later n then Anywhere else AtBars;
  late = true;
  broken = clash_row n;
  enough = clash_enough n;
  first = late_first n;
  count = late_count n;
}

abbrev pub rule_row : ℕ → RuleRow
rule_row n = if is_late n then late_row n else at_once_row n

abbrev pub toll_row : ℕ → TollRow
toll_row n = record {
  kind = Column;
  late = false;
  cost = cost_in n;
  enough = cost_enough n;
  first = λ ex i. i;
  count = λ ex i. 1;
}

-- the late rules
abbrev pub late_rules : List ℕ
late_rules = 15 ∷ 19 ∷ 20 ∷ 21 ∷ 27 ∷ 28 ∷ []

abbrev pub book : Rulebook
book = record {
  has_rule = has_rule;
  rule = rule_row;
  late_rules = late_rules;
  has_toll = has_toll;
  toll = toll_row;
}
