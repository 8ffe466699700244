use Rattle.floor_tables.proofs.RestLemmas.{start_is}
use Rattle.cert_law.proofs.tails.TablesTails.start.Goals as goal

pub returns : goal.returns
returns c = start_is c.args.self.now.exercise c.args.self.now.sheet c.start.result c.start.ensures.start
