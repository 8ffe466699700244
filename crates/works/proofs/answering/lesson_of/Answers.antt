use Rattle.std.proofs.Common.{subst}
use Rattle.class_marker.specs.Markings.{IsContent}
use Rattle.fux_text.proofs.ReadTexts.{too_long}
use Rattle.works.proofs.answering.lesson_of.Goals as goal

pub returns-in_default-clause-reads : goal.returns-in_default-clause-reads
returns-in_default-clause-reads c = λ bytes content.
    too_long bytes (subst (λ text. IsContent 65536 text bytes) c.in_default.is content)
