use Rattle.std.proofs.Common.{sym}
use Rattle.whole_lines.specs.Ended.{is_end}
use Rattle.whole_lines.proofs.EndedLemmas.{first_end, no_end}
use Rattle.whole_lines.proofs.words.word_len.Goals as goal

pub returns-in-Some-clause-cut : goal.returns-in-Some-clause-cut
returns-in-Some-clause-cut c = first_end is_end c.args.text.now c.in-Some.end (sym c.in-Some.ensures.first)

pub returns-in-None-clause-cut : goal.returns-in-None-clause-cut
returns-in-None-clause-cut c = no_end is_end c.args.text.now c.requires (sym c.in-None.ensures.first)
