use Rattle.std.proofs.Common.{◌≡◌, ◌++◌, drop}
use Rattle.smf_score.specs.Sounding.{cells_of}
use Rattle.smf_score.proofs.grid.cells_of.Given as goal

-- the cells so far, and those of the notes that are left, are all
abbrev pub invariant-loop-note : goal.invariant-loop-note
invariant-loop-note l =
    l.cells.items ++ cells_of l.at l.over (drop l.note-index l.notes) ≡ cells_of 0 l.over l.notes
