use Rattle.std.proofs.Common.{◌≡◌, List, subst, sym}
use Rattle.fux_pitch.specs.declared.pitch.Pitch.{Pitch}
use Rattle.cantus_space.specs.Lawful.{IsLawful, penalty_of}
use Rattle.cantus_check.specs.Certificates.{IsHeadSound}
use Rattle.cantus_check.proofs.checker.is_sound.Goals as goal

pub returns-in-Some-clause-sound : goal.returns-in-Some-clause-sound
returns-in-Some-clause-sound c = λ yes.
    let plan = c.args.space.now in
    let own = c.has_penalty.ensures.sound yes in
    subst (IsHeadSound plan) (sym c.in-Some.is)
    (subst (λ (cantus : List Pitch). IsLawful plan cantus × (penalty_of plan cantus ≡ c.in-Some.penalty))
    c.as_slice.ensures own)

pub returns-in-Some-clause-unsound : goal.returns-in-Some-clause-unsound
returns-in-Some-clause-unsound c = λ no sound.
    let plan = c.args.space.now in
    let own = subst (λ (cantus : List Pitch). IsLawful plan cantus × (penalty_of plan cantus ≡ c.in-Some.penalty))
    (sym c.as_slice.ensures) (subst (IsHeadSound plan) c.in-Some.is sound) in
    c.has_penalty.ensures.unsound no own.0 own.1
