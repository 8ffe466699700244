-- What each voice pays by its own move.
use Rattle.std.specs.Prelude.{ℕ, ◌==◌, ◌+◌, Bool, ◌&&◌, List, [], ◌∷◌, Option, reverse, if◌then◌else◌}
use Rattle.std.specs.List.{sum_by}
use Rattle.fux_pitch.specs.declared.pitch.Pitch.{Pitch}
use Rattle.fux_grid.specs.declared.cell.Cell.{Cell}
use Rattle.fux_grid.specs.declared.exercise.Exercise.{Exercise}
use Rattle.fux_grid.specs.Cells.{cell_in}
use Rattle.fux_grid.specs.Columns.{line}
use Rattle.rule_law.specs.Growth.{sum_below}
use Rattle.rule_law.specs.Terms.{holds_of, move_from, previous_pitch}
use Rattle.rule_law.specs.Voices.{is_free}
use Rattle.melody_rules.specs.Rows.{before_last, charges_move, last_of, leaves_leap_open, pitches}
use Rattle.penalty_sheet.specs.declared.sheet.Sheet.{Sheet}
use Rattle.penalty_sheet.specs.Weights.{weight_of}

-- the tolls of melody, which are of one voice each time that they stand
abbrev pub tolls_of_melody : List ℕ
tolls_of_melody = 7 ∷ 8 ∷ 9 ∷ 10 ∷ 13 ∷ []

-- the others that are settled at once
abbrev pub tolls_of_pairs : List ℕ
tolls_of_pairs = 1 ∷ 2 ∷ 11 ∷ []

-- a toll of melody stands for a cell of a line, whose cells go from the newest to the oldest
abbrev pub stands : ℕ → List Cell → Cell → Bool
stands toll cells now =
    if toll == 13 then leaves_leap_open (before_last (pitches cells)) (last_of (pitches cells)) now
    else holds_of (charges_move toll) (move_from (previous_pitch cells) now)

-- what it costs a voice in the column that comes after a prefix: the toll's weight where it stands
-- for a free voice
abbrev pub voice_toll : Exercise → Sheet → List (List Cell) → List Cell → ℕ → ℕ → ℕ
voice_toll ex sheet p col v toll =
    if is_free ex v && stands toll (line v (reverse p)) (cell_in col v) then weight_of sheet toll else 0

-- what a move to a cell costs by its size: the weight of each of Q7 to Q10 that stands for it
abbrev pub size_charge : Sheet → Option Pitch → Cell → ℕ → ℕ
size_charge sheet previous now toll =
    if holds_of (charges_move toll) (move_from previous now) then weight_of sheet toll else 0

abbrev pub move_charge : Sheet → Option Pitch → Cell → ℕ
move_charge sheet previous now =
    size_charge sheet previous now 7 + size_charge sheet previous now 8
    + size_charge sheet previous now 9 + size_charge sheet previous now 10

-- what it costs a line that its next cell leaves a leap open: the weight of Q13
abbrev pub leap_charge : Sheet → List Cell → Cell → ℕ
leap_charge sheet cells now =
    if leaves_leap_open (before_last (pitches cells)) (last_of (pitches cells)) now then weight_of sheet 13 else 0

-- what all tolls of melody cost it
abbrev pub voice_charge : Exercise → Sheet → List (List Cell) → List Cell → ℕ → ℕ
voice_charge ex sheet p col v = sum_by (voice_toll ex sheet p col v) tolls_of_melody

-- what they cost the first voices
abbrev pub voice_charges : ℕ → Exercise → Sheet → List (List Cell) → List Cell → ℕ
voice_charges n ex sheet p col = sum_below (voice_charge ex sheet p col) n
