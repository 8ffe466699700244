use Rattle.cert_writer.specs.Stating.{IsStating}
use Rattle.cert_writer.proofs.lists.lines_of_lists.Given as goal

abbrev pub invariant-loop-k : goal.invariant-loop-k
invariant-loop-k l = IsStating l.ex l.sheet l.stating
