use Rattle.std.proofs.Common.{◌≡◌, ℕ, List, None, subst}
use Rattle.class_marker.specs.Markings.{IsContent}
use Rattle.fux_grid.specs.declared.exercise.Exercise.{Exercise}
use Rattle.fux_text.specs.Texts.{IsTextOf}
use Rattle.fux_text.proofs.ReadTexts.{too_long}
use Rattle.works.proofs.exercise.exercise_of.Goals as goal

pub returns-in_default-clause-reads : goal.returns-in_default-clause-reads
returns-in_default-clause-reads c = λ bytes content.
    too_long bytes (subst (λ text. IsContent 65536 text bytes) c.in_default.is content)

-- the exercise of a text isn't mixed
text_unmixed : (bytes : List ℕ) (ex : Exercise) → IsTextOf bytes ex → ex.mixed ≡ None
unfolding IsTextOf
text_unmixed bytes ex text = text.unmixed

pub returns-in-Ok-clause-unmixed : goal.returns-in-Ok-clause-unmixed
returns-in-Ok-clause-unmixed c = text_unmixed _ _ c.in-Ok.ensures.ok.0
