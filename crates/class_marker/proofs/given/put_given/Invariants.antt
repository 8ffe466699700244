use Rattle.std.proofs.Common.{◌≡◌, ◌++◌, string_bytes, drop}
use Rattle.std.specs.List.{flat_map}
use Rattle.fux_grid.specs.declared.given.Given.TheVariants.{Blank}
use Rattle.class_marker.specs.Asked.{given_from}
use Rattle.class_marker.proofs.given.put_given.Given as goal

-- what is written so far, and what is left, are what is to be written
abbrev pub invariant-loop-line : goal.invariant-loop-line
invariant-loop-line l =
    string_bytes l.out
    ++ flat_map (λ line. given_from l.voices line Blank 0 line.cells) (drop l.line-index l.lines)
    ≡ string_bytes l.fn.out
    ++ flat_map (λ line. given_from l.voices line Blank 0 line.cells) l.lines
