-- A sound head that nothing refutes holds (`unrefuted_holds`).
use Rattle.std.specs.Prelude.{◌≡◌, ◌≢◌, ◌⊎◌, ◌<◌, ◌≤◌, List, Some, None}
use Rattle.std.proofs.Common.{arith, inl, inr, sym, ◌∙◌}
use Rattle.std.proofs.lemmas.Bool.{cases_lt}
use Rattle.fux_pitch.specs.declared.pitch.Pitch.{Pitch}
use Rattle.cantus_space.specs.declared.plan.CantusPlan.{CantusPlan}
use Rattle.cantus_space.specs.Lawful.{IsEarlier, IsLawful, penalty_of}
use Rattle.cantus_check.specs.Certificates.{Holds, IsHeadSound, Refutes}
use Rattle.cantus_check.specs.Claims.{Said}
use Rattle.cantus_check.specs.Orders.{earlier-cases}

module _ (plan : CantusPlan) where
  pub unrefuted_holds : (said : Said) → IsHeadSound plan said → ((t : List Pitch) → Refutes plan said t → ⊥)
      → Holds plan said
  unrefuted_holds None sound none = λ t lawful. none t record { sound = tt; lawful = lawful; better = tt }
  unrefuted_holds (Some best) sound none = (record { lawful = sound.0; least = least; first = first }, sound.1)
    where
      least : (t : List Pitch) → IsLawful plan t → penalty_of plan best.1 ≤ penalty_of plan t
      least t lawful = at (cases_lt (penalty_of plan t) best.0)
        where
          at : (penalty_of plan t < best.0) ⊎ (best.0 ≤ penalty_of plan t) → penalty_of plan best.1 ≤ penalty_of plan t
          at (inl less) = absurd (none t record { sound = sound; lawful = lawful; better = inl less })
          at (inr more) = omega (arith, sound.1, more)

      first : (t : List Pitch) → IsLawful plan t → penalty_of plan t ≡ penalty_of plan best.1 → best.1 ≢ t
          → IsEarlier best.1 t
      first t lawful same differ = at (earlier-cases best.1 t (sound.0.whole ∙ sym lawful.whole))
        where
          at : IsEarlier best.1 t ⊎ ((best.1 ≡ t) ⊎ IsEarlier t best.1) → IsEarlier best.1 t
          at (inl h) = h
          at (inr (inl h)) = absurd (differ h)
          at (inr (inr h)) =
              absurd (none t record { sound = sound; lawful = lawful; better = inr (same ∙ sound.1, h) })
