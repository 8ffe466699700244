-- All rules and tolls by their numbers: their rows stand in the rule crates.
use Rattle.std.specs.Prelude.{ℕ, ◌==◌, not, Bool, List}
use Rattle.std.specs.List.{filter, list_any, range_with_len}
use Rattle.fux_grid.specs.declared.exercise.Exercise.{Exercise}
use Rattle.fux_grid.specs.Exercises.{greatest_mixed_rule}
use Rattle.rule_law.specs.Forms as forms
use Rattle.rule_law.specs.Places.{Row, Reading, reading_of, settled_by}
use Rattle.rule_law.specs.Rulebooks.{RuleRow, Rulebook, TollRow, joined, nothing}
use Rattle.melody_rules.specs.Book as melody
use Rattle.motion_rules.specs.Book as motion
use Rattle.dissonance_rules.specs.Book as dissonance
use Rattle.rhythm_cadence.specs.Book as rhythm
use Rattle.doubling_rules.specs.Book as doubling
use Rattle.penalty_sheet.specs.Weights.{greatest_toll}

-- the crates' books as one
abbrev pub all_rules : Rulebook
all_rules =
    joined melody.book (joined motion.book (joined dissonance.book (joined rhythm.book (joined doubling.book nothing))))

-- the rule of a number, and the toll; a number that no crate has is never broken, and costs nothing
unfoldable pub rule_at : ℕ → RuleRow
rule_at = all_rules.rule

unfoldable pub toll_at : ℕ → TollRow
toll_at = all_rules.toll

-- the rules that are read: those of the books; no other is ever broken
unfoldable pub rules_read : List ℕ
rules_read = filter all_rules.has_rule (range_with_len 1 greatest_mixed_rule)

-- the tolls that are read; no other costs anything
unfoldable pub tolls_read : List ℕ
tolls_read = filter all_rules.has_toll (range_with_len 1 greatest_toll)

-- every set of voices, of four at most, by its bits
abbrev pub all_sets : List ℕ
all_sets = forms.all_sets

-- which crate has a rule, or a toll
abbrev pub is_of_melody : ℕ → Bool
is_of_melody = melody.has_rule

abbrev pub is_toll_of_motion : ℕ → Bool
is_toll_of_motion = motion.has_toll

abbrev pub is_toll_of_dissonance : ℕ → Bool
is_toll_of_dissonance = dissonance.has_toll

abbrev pub is_toll_of_melody : ℕ → Bool
is_toll_of_melody = melody.has_toll

abbrev pub is_toll_of_rhythm : ℕ → Bool
is_toll_of_rhythm = rhythm.has_toll

abbrev pub is_toll_of_doubling : ℕ → Bool
is_toll_of_doubling = doubling.has_toll

-- whether a rule is broken for a set of voices, and whether that is settled
abbrev pub breaks : ℕ → Exercise → ℕ → Row Bool
breaks rule = (rule_at rule).broken

abbrev pub enough : ℕ → Exercise → ℕ → Row Bool
enough rule = (rule_at rule).enough

-- what a toll costs, without its weight, and whether that is settled
abbrev pub costs : ℕ → Exercise → Row ℕ
costs toll = (toll_at toll).cost

abbrev pub cost_enough : ℕ → Exercise → Row Bool
cost_enough toll = (toll_at toll).enough

-- the readings at the places of a list of columns
abbrev pub is_broken : ℕ → Exercise → ℕ → Reading Bool
is_broken rule ex voices = reading_of (breaks rule ex voices)

abbrev pub is_settled : ℕ → Exercise → ℕ → Reading Bool
is_settled rule ex voices = settled_by (enough rule ex voices)

abbrev pub cost_at : ℕ → Exercise → Reading ℕ
cost_at toll ex = reading_of (costs toll ex)

abbrev pub is_cost_settled : ℕ → Exercise → Reading Bool
is_cost_settled toll ex = settled_by (cost_enough toll ex)

-- the rule is one of those that are read
abbrev pub is_read : ℕ → Bool
is_read rule = list_any (λ read. rule == read) rules_read

-- a rule is read when its column is among the newest ones: it may be settled later than at its own
-- column
abbrev pub is_late : ℕ → Bool
is_late rule = (rule_at rule).late

-- a toll is
abbrev pub is_late_toll : ℕ → Bool
is_late_toll toll = (toll_at toll).late

-- the rules that are settled at once, and the others
unfoldable pub rules_at_once : List ℕ
rules_at_once = filter (λ rule. not (is_late rule)) rules_read

unfoldable pub late_rules : List ℕ
late_rules = filter is_late rules_read

-- the tolls that are settled at once, and the others
unfoldable pub tolls_at_once : List ℕ
tolls_at_once = filter (λ toll. not (is_late_toll toll)) tolls_read

unfoldable pub late_tolls : List ℕ
late_tolls = filter is_late_toll tolls_read
