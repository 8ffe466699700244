use Rattle.std.proofs.Common.{◌≡◌, ◌++◌, take}
use Rattle.fux_grid.specs.Columns.{onsets_since}
use Rattle.class_marker.proofs.notes.push_between.Given as goal

-- the notes so far, and those of the columns that are left, are the notes
abbrev pub invariant-loop-start : goal.invariant-loop-start
invariant-loop-start l =
    l.notes.items ++ onsets_since (take l.end l.score.columns) l.v l.start
    ≡ l.fn.notes.items ++ onsets_since (take l.end l.score.columns) l.v l.from
