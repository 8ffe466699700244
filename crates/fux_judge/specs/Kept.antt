-- Rules that one test tells of for a whole column, and those that are left to read where it passes.
use Rattle.std.specs.Prelude.{ℕ, ◌==◌, ◌&&◌, ◌||◌, not, Bool, List, [], ◌∷◌, is_none}
use Rattle.std.specs.List.{filter, list_any}
use Rattle.fux_grid.specs.declared.cell.Cell.{Cell}
use Rattle.fux_grid.specs.Cells.{cell_in}
use Rattle.rule_law.specs.Nearby.{Pitches, pitch_at}
use Rattle.rule_law.specs.Terms.{starts}
use Rattle.fux_judge.specs.Rules.{is_of_melody, rules_at_once}

-- the rules of motion that one test tells of, those of dissonance, and those of one free voice that
-- aren't of melody
abbrev pub is_moving : ℕ → Bool
is_moving rule = ((rule == 10) || (rule == 16)) || (rule == 17)

abbrev pub is_close : ℕ → Bool
is_close rule = (rule == 11) || (rule == 14)

abbrev pub is_of_place : ℕ → Bool
is_of_place rule = ((rule == 1) || (rule == 2)) || (rule == 12)

-- the rules of the last bar alone
abbrev pub is_of_ending : ℕ → Bool
is_of_ending rule = (rule == 13) || (rule == 24)

-- of the rules that are settled at once, those that are left in a column that is smooth, clear and
-- in place
unfoldable pub rules_at_the_end : List ℕ
rules_at_the_end =
    filter (λ rule. not (is_of_place rule))
    (filter (λ rule. not (is_moving rule)) (filter (λ rule. not (is_of_melody rule)) rules_at_once))

-- those of them that are left before the last bar, and where no two voices come close or no bar
-- begins
unfoldable pub rules_at_a_bar : List ℕ
rules_at_a_bar = filter (λ rule. not (is_of_ending rule)) rules_at_the_end

unfoldable pub rules_within_bars : List ℕ
rules_within_bars = filter (λ rule. not (is_close rule)) rules_at_a_bar

-- a voice's first note starts in a column
abbrev pub begins_line : Pitches → List Cell → ℕ → Bool
begins_line previous now v = starts (cell_in now v) && is_none (pitch_at previous v)

-- so it does for some voice
abbrev pub some_begins : Pitches → List Cell → Bool
some_begins previous now = list_any (begins_line previous now) (0 ∷ 1 ∷ 2 ∷ 3 ∷ [])
