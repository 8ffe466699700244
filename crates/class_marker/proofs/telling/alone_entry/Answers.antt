use Rattle.std.proofs.Common.{ap, sym, ◌∙◌, subst}
use Rattle.class_marker.specs.Explained.{explained_marks}
use Rattle.score_marker.specs.Marks.{AreMarks}
use Rattle.class_marker.proofs.telling.alone_entry.Goals as goal

pub returns : goal.returns
returns c =
    let answer = c.args.answer.now in
    let score = c.in-Some.score in
    record {
      score = score;
      given = c.in-Some.is;
      shows = record {
        marked = c.in_ok-shown.ensures.marks answer score
            (subst (AreMarks answer score.columns) (sym c.deref-2.ensures.value) c.in_ok-marks.ensures)
            (c.in_ok-told.ensures
            ∙ ap (explained_marks answer score.columns) (c.deref.ensures.value ∙ sym c.deref-2.ensures.value));
        differences = c.in_ok-shown.ensures.differences;
      };
    }
