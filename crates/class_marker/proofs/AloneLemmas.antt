-- The cells of the cantus follow one another where no other voice sounds.
use Rattle.std.proofs.Common.{◌≡◌, ℕ, Bool, true, false, List, [], ◌∷◌, ◌++◌, refl}
use Rattle.std.specs.Prelude.{map, ◌==◌, if◌then◌else◌}
use Rattle.std.specs.List.{AllByRecursion}
use Rattle.fux_pitch.specs.declared.pitch.Pitch.{Pitch}
use Rattle.fux_grid.specs.declared.cell.Cell.{Cell}
use Rattle.fux_grid.specs.declared.cell.Cell.TheVariants.{Rest, Hold}
use Rattle.fux_grid.specs.declared.exercise.Exercise.{Exercise}
use Rattle.fux_grid.proofs.PitchTests.{same_pitch-from_equal}
use Rattle.voice_lines.specs.Lines.{LineFollows, cantus_cells}
use Rattle.voice_lines.proofs.Scores.{start_follows}
use Rattle.class_marker.specs.Alone.{lone_line}

cantus_follows : (before : Cell) (cantus : List Pitch) → LineFollows before (cantus_cells cantus)
cantus_follows before [] = tt
cantus_follows before (p ∷ ps) =
    let h = same_pitch-from_equal p p refl in
    (start_follows before p, (h, (h, (h, (h, (h, (h, (h, cantus_follows (Hold p) ps))))))))

line_follows : (ex : Exercise) (v : ℕ) → LineFollows Rest (lone_line ex v)
line_follows ex v = by (v == ex.cantus_voice)
  where
    by : (b : Bool) → LineFollows Rest (if b then cantus_cells ex.cantus else [])
    by true = cantus_follows Rest ex.cantus
    by false = tt

pub lines_follow : (ex : Exercise) (vs : List ℕ) → AllByRecursion (LineFollows Rest) (map (lone_line ex) vs)
lines_follow ex [] = tt
lines_follow ex (v ∷ vs) = (line_follows ex v, lines_follow ex vs)
