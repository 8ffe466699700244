use Rattle.std.proofs.Common.{subst}
use Rattle.floor_tables.proofs.RestLemmas.{start_is}
use Rattle.floor_tables.specs.Tables.{IsStart, Task}
use Rattle.cert_law.proofs.alone.AloneTablesTails.start.Goals as goal

pub returns : goal.returns
returns c =
    start_is c.args.self.now.exercise c.args.self.now.sheet c.start.result
    (subst (λ (t : Task). IsStart t.exercise t.sheet c.start.result) c.self.view_is c.start.ensures.start)
