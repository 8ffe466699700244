use Rattle.std.proofs.Common.{subst}
use Rattle.class_marker.specs.Markings.{IsContent}
use Rattle.fux_text.proofs.ReadTexts.{too_long}
use Rattle.class_marker.proofs.said.say_by.Goals as goal

pub returns-in_default : goal.returns-in_default
returns-in_default c = λ bytes content.
    too_long bytes (subst (λ text. IsContent 65536 text bytes) c.in_default.is content)
