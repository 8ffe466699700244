use Rattle.std.proofs.Common.{◌≡◌, take, drop}
use Rattle.fux_grid.specs.Letters.{letters_of}
use Rattle.fux_grid.proofs.letters.letters_from.Given as goal

abbrev pub invariant-loop-slot : goal.invariant-loop-slot
invariant-loop-slot l = l.letters.items ≡ letters_of l.v (take l.slot (drop l.i l.score.columns))
