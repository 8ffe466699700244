use Rattle.std.proofs.Common.{◌≡◌, ◌++◌, string_bytes, drop}
use Rattle.std.specs.List.{flat_map}
use Rattle.class_marker.specs.Explained.{explained_mark}
use Rattle.class_marker.proofs.explaining.put_all.Given as goal

-- what is written so far, and what is left, are what is to be written
abbrev pub invariant-loop-mark : goal.invariant-loop-mark
invariant-loop-mark l =
    string_bytes l.out ++ flat_map (explained_mark l.ex l.score.columns) (drop l.mark-index l.marks)
    ≡ string_bytes l.fn.out ++ flat_map (explained_mark l.ex l.score.columns) l.marks
