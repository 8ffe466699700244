use Rattle.std.proofs.Common.{◌≡◌, ℕ, List, Result, Err, inl, refl, ◌∙◌, subst}
use Rattle.smf_bytes.specs.declared.fault.ByteFault.TheVariants.{TooLong}
use Rattle.class_marker.specs.Markings.{IsContent}
use Rattle.fux_grid.specs.declared.exercise.Exercise.{Exercise}
use Rattle.smf_score.specs.declared.fault.SmfFault.{SmfFault}
use Rattle.smf_score.specs.declared.fault.SmfFault.TheVariants as faults
use Rattle.smf_score.specs.Reading.{FailsAs, IsReading}
use Rattle.works.proofs.playing.from_smf.Goals as goal

pub returns-in_default : goal.returns-in_default
returns-in_default c = λ bytes content.
    (Err TooLong, inl (subst (λ file. IsContent 1048576 file bytes) c.in_default.is content, refl), refl)

-- a fault other than want of memory is the reading
fails_so : (fault : SmfFault) (IsRead : Result Exercise SmfFault → Type 0) → (fault ≡ faults.Memory → ⊥)
    → FailsAs fault IsRead → IsRead (Err fault)
fails_so (faults.Bytes fault) IsRead other fails = fails
fails_so (faults.Key track tick) IsRead other fails = fails
fails_so (faults.ZeroNote track tick) IsRead other fails = fails
fails_so (faults.Overlap track tick) IsRead other fails = fails
fails_so (faults.VoiceCount count) IsRead other fails = fails
fails_so (faults.Bars count) IsRead other fails = fails
fails_so (faults.NotWhole bar) IsRead other fails = fails
fails_so faults.Memory IsRead other fails = absurd (other refl)

pub returns-in_default-fault : goal.returns-in_default-fault
returns-in_default-fault c = λ bytes content.
    let same = c.deref.ensures.value ∙ subst (λ file. IsContent 1048576 file bytes) c.in-Bytes.is content in
    subst (λ (read : List ℕ). IsReading c.args.head.now read (Err c.in-Err.fault)) same
    (fails_so c.in-Err.fault (IsReading c.args.head.now c.deref.result.now) c.in_default-fault.not-Memory
    c.in-Err.ensures.value)
