-- After an orderly prefix two neighbors decide.
use Rattle.std.specs.Prelude.{◌≡◌, All, List, [], ◌∷◌, ◌++◌, length, reverse}
use Rattle.fux_grid.specs.declared.cell.Cell.{Cell}
use Rattle.fux_grid.specs.declared.exercise.Exercise.{Exercise}
use Rattle.fux_grid.specs.Columns.{HistoryFollows, newest_column}
use Rattle.fux_grid.specs.Exercises.{HasCantus}
use Rattle.fux_grid.specs.Orderly.{IsOrderly}
use Rattle.rule_law.specs.Places.{Reading, reading_of}
use Rattle.rule_law.specs.Nearby.{NearRow, whole_of, near_of, near_at_end}
use Rattle.rule_law.specs.OrderlyLaw.{cantus_sounds, orderly_rests_in_all}

-- an orderly prefix: its columns follow one another, have the exercise's voices and the cantus, and
-- no break of S3 is settled
pub record IsOrderlyPrefix (ex : Exercise) (p : List (List Cell)) : Type 0 where
  pub follows : HistoryFollows (reverse p)
  pub full : All (λ col. length col ≡ ex.voices) p
  pub cantus : HasCantus ex p
  pub orderly : IsOrderly ex p

-- at the column after an orderly prefix, the reading of the whole list is that of the two neighbors
abbrev pub IsNear : {R : Type 0} → Exercise → Reading R → NearRow R → Type 0
IsNear ex reads row = (p : List (List Cell)) (next : List Cell) → IsOrderlyPrefix ex p
    → reads (p ++ next ∷ []) (length p) ≡ near_of row (length p) (newest_column (reverse p)) next

-- so it is for each row of neighbors
pub near_from_whole : {R : Type 0} (ex : Exercise) (row : NearRow R) → IsNear ex (reading_of (whole_of row)) row
near_from_whole ex row p next prefix =
    near_at_end row p next prefix.follows (orderly_rests_in_all ex p prefix.full (cantus_sounds ex p prefix.cantus)
    prefix.orderly)
