use Rattle.std.proofs.Common.{◌≡◌, ◌++◌, string_bytes, drop}
use Rattle.score_picture.specs.NoteRows.{shape_rows}
use Rattle.score_picture.proofs.notes.put_shapes.Given as goal

-- what is written so far, and what is left, are what is to be written
abbrev pub invariant-loop-shape : goal.invariant-loop-shape
invariant-loop-shape l =
    string_bytes l.out ++ shape_rows (drop l.shape-index l.shapes) ≡ string_bytes l.fn.out ++ shape_rows l.shapes
