use Rattle.text_lines.specs.Words.{words_of}
use Rattle.text_faults.proofs.RangeLemmas.{lone-range}
use Rattle.text_faults.proofs.range.lone_range.Goals as goal

pub returns : goal.returns
returns c =
    rw (lone-range c.args.known c.args.bars c.args.later (words_of c.args.words) (words_of c.in_ok-voice.words)
    c.in_ok-voice.voice c.in_ok-voice.ensures) c.range_behind.ensures
