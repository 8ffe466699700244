use Rattle.cert_writer.specs.Stating.{IsStating}
use Rattle.cert_writer.proofs.lists.put_list.Given as goal

abbrev pub invariant-loop-k : goal.invariant-loop-k
invariant-loop-k l = IsStating l.ex l.sheet l.stating
