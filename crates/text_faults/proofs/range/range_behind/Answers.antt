use Rattle.text_lines.specs.Words.{words_of}
use Rattle.text_faults.proofs.RangeLemmas.{range-behind}
use Rattle.text_faults.proofs.range.range_behind.Goals as goal

pub returns : goal.returns
returns c =
    rw (range-behind c.args.bars c.args.later c.args.voice c.in_ok-low.low c.in_ok-high.high (words_of c.args.words)
    (words_of c.in_ok-low.words) (words_of c.in_ok-high.words) c.in_ok-low.ensures c.in_ok-high.ensures) c.bars_in.ensures
