-- Clefs.
use Rattle.std.specs.Prelude.{ℕ, ◌+◌, ◌-◌, ◌==◌, ◌&&◌, nat_le, List, [], ◌∷◌, min, max, if◌then◌else◌}
use Rattle.std.specs.List.{find}
use Rattle.std.specs.Option.{option_map_or}
use Rattle.fux_pitch.specs.declared.pitch.Pitch.{Pitch}
use Rattle.fux_pitch.specs.Pitch.{degree_of}
use Rattle.fux_grid.specs.declared.exercise.Exercise.{Exercise}
use Rattle.fux_grid.specs.declared.exercise.RangeLine.{RangeLine}
use Rattle.written_notes.specs.declared.clefs.Clef.{Clef}
use Rattle.written_notes.specs.declared.clefs.Clef.TheVariants.{Treble, Bass, Alto}
use Rattle.written_notes.specs.declared.clefs.Reach.{Reach}

-- the degree of a staff's middle line
abbrev pub middle_of : Clef → ℕ
middle_of Treble = 34
middle_of Bass = 22
middle_of Alto = 28

-- a clef is good for the degrees from this one: two ledger lines towards the middle of all staves,
-- one outward
abbrev pub fits_from : Clef → ℕ
fits_from Treble = 26
fits_from Bass = 16
fits_from Alto = 22

-- and up to this one
abbrev pub fits_to : Clef → ℕ
fits_to Treble = 40
fits_to Bass = 30
fits_to Alto = 34

-- by how many degrees a reach goes beyond those
abbrev pub degrees_missed : Clef → Reach → ℕ
degrees_missed clef reach = (fits_from clef - reach.low) + (reach.high - fits_to clef)

-- of the clefs that miss the least, the first
abbrev pub best_clef : Reach → Clef
best_clef reach =
    if nat_le (degrees_missed Treble reach) (degrees_missed Bass reach)
    && nat_le (degrees_missed Treble reach) (degrees_missed Alto reach) then Treble
    else (if nat_le (degrees_missed Bass reach) (degrees_missed Alto reach) then Bass else Alto)

-- the lower of a degree and of the lowest of pitches
abbrev pub least_with : ℕ → List Pitch → ℕ
least_with low [] = low
least_with low (p ∷ ps) = least_with (min (degree_of p) low) ps

-- the lowest degree of pitches, 255 for none, and the highest
abbrev pub least_degree : List Pitch → ℕ
least_degree ps = least_with 255 ps

abbrev pub greatest_degree : List Pitch → ℕ
greatest_degree [] = 0
greatest_degree (p ∷ ps) = max (degree_of p) (greatest_degree ps)

-- how far a cantus reaches
abbrev pub cantus_reach : List Pitch → Reach
cantus_reach cantus = record { low = least_degree cantus; high = greatest_degree cantus }

-- how far a range reaches
abbrev pub range_reach : RangeLine → Reach
range_reach line = record { low = degree_of line.low; high = degree_of line.high }

-- how far a free voice reaches, by its first range line, which is that of all bars
abbrev pub free_reach : List RangeLine → ℕ → Reach
free_reach lines v =
    option_map_or range_reach (find (λ line. line.voice == v) lines) (record { low = 0; high = 0 })

-- how far a voice reaches: the cantus by its pitches, a free voice by its range in all bars
abbrev pub reach_of : Exercise → ℕ → Reach
reach_of ex v = if v == ex.cantus_voice then cantus_reach ex.cantus else free_reach ex.ranges v

-- the clef of a voice
abbrev pub clef_of : Exercise → ℕ → Clef
clef_of ex v = best_clef (reach_of ex v)
