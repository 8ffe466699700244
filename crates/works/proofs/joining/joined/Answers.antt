use Rattle.std.proofs.Common.{◌≡◌, Err, inl, refl, ◌∙◌, subst}
use Rattle.smf_bytes.specs.declared.fault.ByteFault.TheVariants.{TooLong}
use Rattle.class_marker.specs.Markings.{IsContent}
use Rattle.smf_score.specs.declared.join_fault.JoinFault.{JoinFault}
use Rattle.smf_score.specs.declared.join_fault.JoinFault.TheVariants as joined
use Rattle.smf_score.specs.declared.fault.SmfFault.TheVariants as faults
use Rattle.works.proofs.joining.joined.Goals as goal

pub returns-in_default : goal.returns-in_default
returns-in_default c = λ bytes content.
    (Err TooLong, inl (subst (λ file. IsContent 1048576 file bytes) c.in_default.is content, refl), refl)
