use Rattle.std.proofs.Common.{rules}
use Rattle.score_marker.specs.Setting.{sets_in_order}
use Rattle.score_marker.proofs.setting.voice_sets.Goals as goal

pub returns : goal.returns
unfolding sets_in_order
returns c = search rules
