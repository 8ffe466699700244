use Rattle.std.proofs.lemmas.Str.Pattern.{split_parts}
use Rattle.std.proofs.Common.{arith}
use Rattle.class_marker.proofs.ListLemmas.{cuts}
use Rattle.class_marker.proofs.list.next_line.Goals as goal

pub returns : goal.returns
returns c =
    cuts c.args.text.now c.split_once.result
    (split_parts 10 c.args.text.now c.split_once.result c.split_once.ensures.cases (omega arith))
