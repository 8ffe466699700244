use Rattle.std.proofs.Common.{◌≡◌, ◌-◌, ◌≤◌, ◌∷◌, ◌++◌, map}
use Rattle.fux_pitch.specs.Pitch.{degree_of}
use Rattle.drill_exercise.specs.Drill.{AreNaturals, walk}
use Rattle.drill_exercise.proofs.cantus.cantus.Given as goal

-- the pitches so far, and the degrees that are left, are those of the walk
abbrev pub invariant-loop : goal.invariant-loop
invariant-loop l =
    (29 ≤ l.degree)
    × (l.degree ≤ 33)
    × (map degree_of l.line.items ++ walk (23 - l.counter) l.x l.degree ≡ 29 ∷ walk 21 l.fn.n 29)
    × AreNaturals l.line.items
