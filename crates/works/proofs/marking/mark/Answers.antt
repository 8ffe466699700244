use Rattle.works.proofs.marking.mark.Goals as goal

pub returns-in-Some : goal.returns-in-Some
returns-in-Some c = record {
  lines = c.in-Some.lines;
  told = rw c.in-Some.is at c.in_ok-lines.ensures;
  written = c.output_of.ensures;
}
