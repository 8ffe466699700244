use Rattle.std.proofs.Common.{refl, ◌∙◌}
use Rattle.class_marker.proofs.telling.with_marks.Goals as goal

pub returns-clause-marks : goal.returns-clause-marks
returns-clause-marks c = λ rules score exact told. record {
  marks = c.args.marks.now;
  exact = exact;
  sheet = c.as_slice.result;
  are_shown = c.as_slice.ensures.value ∙ c.in_ok-sheet.ensures;
  counted = refl;
  picture = c.in_ok-picture.ensures;
  explained = told;
}
