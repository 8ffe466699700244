-- What the reading of pitches keeps.
use Rattle.std.proofs.Common.{reverse, take}
use Rattle.cantus_space.specs.Nodes.{IsNodeOf}
use Rattle.cantus_space.proofs.lawful.node_of.Given as goal

-- the node stands for the pitches so far
abbrev pub invariant-loop-i : goal.invariant-loop-i
invariant-loop-i l = IsNodeOf l.space (reverse (take l.i l.pitches)) l.node
