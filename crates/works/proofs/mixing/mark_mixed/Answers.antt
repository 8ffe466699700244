use Rattle.std.proofs.Common.{List, subst}
use Rattle.class_marker.specs.Markings.{AreLinesOf}
use Rattle.fux_grid.specs.declared.exercise.Exercise.{Exercise}
use Rattle.score_marker.specs.declared.mark.Mark.{Mark}
use Rattle.works.proofs.mixing.mark_mixed.Goals as goal

pub returns : goal.returns
returns c = record {
  lines = c.in_ok-lines.lines;
  told = record {
    score = c.in-Some.score;
    given = c.in-Some.is;
    told = record {
      marks = c.in_ok-marks.marks.items;
      exact = c.in_ok-marks.ensures;
      told = subst (λ (ex : Exercise). AreLinesOf ex c.in_ok-marks.marks.items c.in_ok-lines.lines)
          c.mixed_as.ensures.value
          (subst (λ (marks : List Mark). AreLinesOf c.mixed_as.result marks c.in_ok-lines.lines) c.deref.ensures.value
          c.in_ok-lines.ensures);
    };
  };
  written = c.output_of.ensures;
}
