use Rattle.cert_writer.proofs.Begun.{done_states}
use Rattle.cert_writer.proofs.stating.Stating.done.Goals as goal

pub returns : goal.returns
returns c = done_states c.args.ex.now c.args.sheet.now c.args.self c.requires
