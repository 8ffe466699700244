-- What is written of a setting of a lesson is joined to the lesson again.
use Rattle.std.specs.Prelude.{◌≡◌, ℕ, ◌<◌, false, length, Result, Ok}
use Rattle.fux_grid.specs.declared.exercise.Exercise.{Exercise}
use Rattle.fux_grid.specs.Columns.{cell_at}
use Rattle.fux_grid.specs.Exercises.{IsFree}
use Rattle.fux_grid.specs.Grid.{Grid}
use Rattle.smf_score.specs.declared.join_fault.JoinFault.{JoinFault}
use Rattle.smf_score.specs.declared.manner.Manner.{Manner}
use Rattle.smf_score.specs.Joining.{IsJoined}
use Rattle.smf_score.specs.ReadBack.{IsSounding, respelled_cell}
use Rattle.smf_score.specs.Written.{smf_of}

-- the free voices have each pitch as its key is spelled
abbrev pub IsSpelled : Exercise → Grid → Type 0
IsSpelled lesson score =
    (v i : ℕ) → IsFree lesson v → i < length score.columns
    → respelled_cell (cell_at score.columns v i) ≡ cell_at score.columns v i

-- a file that is played as it is written: the lowest voice first, and notes as long as they sound
abbrev pub as_written : Manner
as_written = record { top_first = false; legato = false }

-- the file of a setting of a lesson, with a note in each voice, is this setting and no other
abbrev pub JoinsBack : Type 0
JoinsBack =
    (lesson : Exercise) (score : Grid) → IsSounding lesson score → IsSpelled lesson score
    → IsJoined lesson as_written (smf_of score) (Ok score)
    × ((other : Result Grid JoinFault) → IsJoined lesson as_written (smf_of score) other → other ≡ Ok score)
