-- What the lines of the free voices cost by the gauges Q17 to Q20, and what they cost at least
-- while they go on.
use Rattle.std.specs.Prelude.{ℕ, ◌+◌, ◌*◌, Bool, List, reverse, if◌then◌else◌}
use Rattle.std.specs.Int.{from_bool}
use Rattle.std.specs.List.{filter, range_with_len, sum_by}
use Rattle.fux_grid.specs.declared.cell.Cell.{Cell}
use Rattle.fux_grid.specs.declared.exercise.Exercise.{Exercise}
use Rattle.fux_grid.specs.Columns.{line}
use Rattle.rule_law.specs.Voices.{is_free}
use Rattle.melody_rules.specs.Gauges.{gauges}
use Rattle.penalty_sheet.specs.declared.sheet.Sheet.{Sheet}
use Rattle.penalty_sheet.specs.Weights.{weight_of}

-- the free voices of an exercise
abbrev pub free_voices : Exercise → List ℕ
free_voices ex = filter (is_free ex) (range_with_len 0 ex.voices)

-- the cells of a voice in a list of columns, from the newest to the oldest
abbrev pub cells_of_voice : List (List Cell) → ℕ → List Cell
cells_of_voice p v = line v (reverse p)

-- what a whole line costs: the values of all gauges, each by its weight
abbrev pub cost_of_line : Sheet → List Cell → ℕ
cost_of_line sheet cells = sum_by (λ gauge. gauge.value cells * weight_of sheet gauge.number) gauges

-- what each line of a voice costs at least that begins so
abbrev pub least_of_line : Exercise → Sheet → ℕ → List Cell → ℕ
least_of_line ex sheet v cells = sum_by (λ gauge. gauge.least ex v cells * weight_of sheet gauge.number) gauges

-- what the line of a voice costs at least in each setting that a prefix begins, nothing where the
-- voice isn't free
abbrev pub least_of_voice : Exercise → Sheet → ℕ → List (List Cell) → ℕ
least_of_voice ex sheet v p = if is_free ex v then least_of_line ex sheet v (cells_of_voice p v) else 0

-- what the four values of a line cost together, each by its weight: that of the climax, whether
-- it's narrow, that of its leaps and of its strikes
abbrev pub cost_of_values : Sheet → ℕ → Bool → ℕ → ℕ → ℕ
cost_of_values sheet climax narrow leaps strikes =
    0 + climax * weight_of sheet 17 + from_bool narrow * weight_of sheet 18 + leaps * weight_of sheet 19 + strikes *
    weight_of sheet 20

-- what the lines of the free voices of a setting cost
abbrev pub gauges_of : Exercise → Sheet → List (List Cell) → ℕ
gauges_of ex sheet s = sum_by (λ v. cost_of_line sheet (cells_of_voice s v)) (free_voices ex)

-- what they cost at least in each setting that a prefix begins
abbrev pub least_of : Exercise → Sheet → List (List Cell) → ℕ
least_of ex sheet p = sum_by (λ v. least_of_line ex sheet v (cells_of_voice p v)) (free_voices ex)
