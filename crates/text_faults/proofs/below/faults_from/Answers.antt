use Rattle.text_faults.proofs.Told.{are_from}
use Rattle.text_faults.proofs.below.faults_from.Goals as goal

pub returns : goal.returns
returns c = are_from c.args.first c.args.bytes.now c.in_ok-faults.faults.items c.in_ok-faults.ensures
