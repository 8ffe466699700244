use Rattle.std.proofs.Common.{take}
use Rattle.score_marker.proofs.setting.mark_place.Goals as goal

pub mark_rule-requires-clause-latest : goal.mark_rule-requires-clause-latest
mark_rule-requires-clause-latest c =
    c.latest-latest.ensures c.args.ex.now (take c.args.i c.args.score.now.columns) c.requires.past
