use Rattle.works.proofs.answering.mark_by.Goals as goal

pub returns : goal.returns
returns c = record {
  score = c.in-Some.score;
  given = c.in-Some.is;
  lines = c.in_ok-answer_lines.field-0;
  told = c.in_ok-answer_lines.ensures;
  written = c.output_of.ensures;
}
