-- Which rules that a column breaks are told without judging all of it.
use Rattle.std.specs.Prelude.{◌≡◌, ℕ, ◌==◌, ◌&&◌, ◌^◌, Bool, nat_lt, List, [], ◌∷◌, Option, None, Some, false, length, reverse, if◌then◌else◌}
use Rattle.std.specs.List.{find, list_any}
use Rattle.fux_grid.specs.declared.cell.Cell.{Cell}
use Rattle.fux_grid.specs.declared.exercise.Exercise.{Exercise}
use Rattle.fux_grid.specs.Columns.{Columns, line}
use Rattle.fux_grid.specs.Exercises.{species_in}
use Rattle.fux_pitch.specs.declared.pitch.Pitch.{Pitch}
use Rattle.melody_rules.specs.Rows.{last_of, looks_back, pitches, voice_rule, window_rule}
use Rattle.rhythm_cadence.specs.Told.{leaves_by_cell}
use Rattle.rule_law.specs.Voices.{is_free}
use Rattle.fux_judge.specs.Links.{breaks_strictly}
use Rattle.fux_judge.specs.Penalties.{is_strict_at, newly_broken}
use Rattle.fux_judge.specs.Rules.{rules_read}
use Rattle.fux_judge.specs.Verdicts.{GoingOn}
use Rattle.fux_judge.specs.declared.state.State.{State}

-- the rules that a voice breaks by its cells: S3, and those of melody
abbrev pub voice_rules : List ℕ
voice_rules = 3 ∷ 4 ∷ 5 ∷ 6 ∷ 7 ∷ 8 ∷ 9 ∷ []

abbrev pub is_of_voice : ℕ → Bool
is_of_voice rule = list_any (λ other. rule == other) voice_rules

-- those of melody alone
abbrev pub line_rules : List ℕ
line_rules = 4 ∷ 5 ∷ 6 ∷ 7 ∷ 8 ∷ 9 ∷ []

abbrev pub is_of_line : ℕ → Bool
is_of_line rule = list_any (λ other. rule == other) line_rules

-- those from S10 to S14, which several voices break together
abbrev pub joint_rules : List ℕ
joint_rules = 10 ∷ 11 ∷ 12 ∷ 13 ∷ 14 ∷ []

-- those from S15 to S17
abbrev pub next_rules : List ℕ
next_rules = 15 ∷ 16 ∷ 17 ∷ []

-- those of these that a column decides by itself
abbrev pub alone_rules : List ℕ
alone_rules = 10 ∷ 11 ∷ 13 ∷ 14 ∷ []

-- the least of them that a column of place i breaks strictly, whatever stands before it
unfoldable pub least_alone : Exercise → ℕ → List Cell → Option ℕ
least_alone ex i col = find (breaks_strictly ex i None col) alone_rules

-- a rule that may be lacking is S10 or S11
abbrev pub is_early : Option ℕ → Bool
is_early None = false
is_early (Some rule) = nat_lt rule 12

-- a rule of melody is broken by a cell, after notes of these pitches
abbrev pub breaks_after : ℕ → List Pitch → Cell → ℕ → Bool
breaks_after species ps now rule =
    if looks_back rule then window_rule rule ps now else voice_rule rule species (last_of ps) now

-- it is by a cell of this voice after these cells, if it is there and free
abbrev pub breaks_in : Exercise → ℕ → List Cell → Cell → ℕ → Bool
breaks_in ex v cells now rule =
    nat_lt v ex.voices && (is_free ex v && breaks_after (species_in ex v) (pitches cells) now rule)

-- behind a prefix a voice breaks a rule of melody strictly by a cell
abbrev pub breaks_line : Exercise → Columns → ℕ → Cell → ℕ → Bool
breaks_line ex p v now rule =
    breaks_in ex v (line v (reverse p)) now rule && is_strict_at rule ex (2 ^ v) (length p)

-- so it breaks one of S4 to S9, or S3, by having no shape left
abbrev pub breaks_by_cell : Exercise → Columns → ℕ → Cell → ℕ → Bool
breaks_by_cell ex p v now rule = if rule == 3 then leaves_by_cell ex v p now else breaks_line ex p v now rule

-- the least of these rules that it breaks so
abbrev pub least_by_cell : Exercise → Columns → ℕ → Cell → Option ℕ
least_by_cell ex p v now = find (breaks_by_cell ex p v now) voice_rules

-- the least of them of which a column settles a strict break, if there is one
abbrev pub TellsLine : Exercise → State → List Cell → Option ℕ → Type 0
TellsLine ex state col told = GoingOn ex state col (λ p added. told ≡ find (newly_broken ex p added) voice_rules)

-- the least rule of which the column settles a strict break
abbrev pub least_newly_broken : Exercise → Columns → List Cell → Option ℕ
least_newly_broken ex p col = find (newly_broken ex p col) rules_read
