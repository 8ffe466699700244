-- The columns of a list around one place, as they are read from the newest columns of the list.
use Rattle.std.specs.Prelude.{◌≡◌, ℕ, ◌+◌, ◌<◌, ◌≤◌, true, length}
use Rattle.fux_grid.specs.declared.exercise.Exercise.{Exercise}
use Rattle.fux_grid.specs.Cells.{cell_in, pitch_of}
use Rattle.fux_grid.specs.Columns.{Columns, earlier, line, newest_column}
use Rattle.rule_law.specs.Newest.{AreNewestOf}
use Rattle.rule_law.specs.Terms.{previous_pitch}
use Rattle.rule_law.specs.Voices.{is_free}
use Rattle.rule_law.specs.declared.newest.NewestColumns.{NewestColumns}

-- before each column of the list a free voice sounds the pitch of its latest note, or has had no
-- note
abbrev pub SoundsOn : Exercise → Columns → Type 0
SoundsOn ex s =
    (v i : ℕ) → is_free ex v ≡ true → i < length s
    → previous_pitch (line v (earlier s i)) ≡ pitch_of (cell_in (newest_column (earlier s i)) v)

-- the newest columns of such a list of an exercise are kept, those from column `first` on among
-- them
pub record AreKeptFrom (ex : Exercise) (kept : NewestColumns) (s : Columns) (first : ℕ) : Type 0 where
  pub newest : AreNewestOf ex.voices s kept
  pub near : length s ≤ first + 25
  pub previous : SoundsOn ex s
