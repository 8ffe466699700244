use Rattle.score_marker.proofs.LawfulCantus.{lawful_is_unmarked}
use Rattle.score_marker.proofs.law.lawful_is_unmarked.Goals as goal

pub returns : goal.returns
returns c = lawful_is_unmarked c.args.plan.now c.requires
