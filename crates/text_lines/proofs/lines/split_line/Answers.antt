use Rattle.std.proofs.Common.{◌+◌, sym}
use Rattle.std.proofs.lemmas.List.{take_rest}
use Rattle.text_lines.proofs.Parts.{lines-one, lines-first}
use Rattle.text_lines.proofs.lines.split_line.Goals as goal

pub returns-in-None-clause-lines : goal.returns-in-None-clause-lines
returns-in-None-clause-lines c = lines-one c.args.text.now c.requires (sym c.in-None.ensures.first)

pub returns-in-Some-clause-lines : goal.returns-in-Some-clause-lines
returns-in-Some-clause-lines c =
    rw (take_rest c.args.text.now (c.in-Some.end + 1), c.without_return.ensures.value)
    (lines-first c.args.text.now c.in-Some.end (sym c.in-Some.ensures.first))
