use Rattle.works.proofs.marking.cantus.Goals as goal

pub returns : goal.returns
returns c = record {
  lines = c.in_ok-lines.lines;
  told = record {
    marks = c.in_ok-marks.marks.items;
    exact = c.in_ok-marks.ensures;
    told = rw c.deref.ensures.value at c.in_ok-lines.ensures;
  };
  written = c.output_of.ensures;
}
