use Rattle.cert_writer.specs.Stating.{IsStating}
use Rattle.cert_writer.proofs.lists.put_prices.Given as goal

abbrev pub invariant-loop-degree : goal.invariant-loop-degree
invariant-loop-degree l = IsStating l.ex l.sheet l.stating

abbrev pub invariant-loop-alter : goal.invariant-loop-alter
invariant-loop-alter l = IsStating l.ex l.sheet l.stating
