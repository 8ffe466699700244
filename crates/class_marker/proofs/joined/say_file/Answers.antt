use Rattle.std.proofs.Common.{Err, inl, refl, subst}
use Rattle.smf_bytes.specs.declared.fault.ByteFault.TheVariants.{TooLong}
use Rattle.class_marker.specs.Markings.{IsContent}
use Rattle.class_marker.proofs.joined.say_file.Goals as goal

pub returns-in_default : goal.returns-in_default
returns-in_default c = λ bytes content.
    (Err TooLong, inl (subst (λ file. IsContent 1048576 file bytes) c.in_default.is content, refl), refl)
