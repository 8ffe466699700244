use Rattle.std.proofs.Common.{None, Some, arith}
use Rattle.std.proofs.lemmas.Str.Pattern.{strip_suffix_char}
use Rattle.class_marker.proofs.LooseLineLemmas.{stripped, unstripped}
use Rattle.class_marker.proofs.loose_list.without_return.Goals as goal

pub returns-in-Some : goal.returns-in-Some
returns-in-Some c =
    stripped c.args.line.now c.in-Some.front.now
    (strip_suffix_char 13 c.args.line.now (Some c.in-Some.front) c.in-Some.ensures.cases (omega arith))

pub returns-in-None : goal.returns-in-None
returns-in-None c =
    unstripped c.args.line.now (strip_suffix_char 13 c.args.line.now None c.in-None.ensures.cases (omega arith))
