-- A move of a seventh, or of more than an octave, isn't melodic (`far_is_unmelodic`).
use Rattle.std.proofs.Common.{◌≡◌, ℕ, ◌<◌, ◌==◌, ◌&&◌, ◌||◌, Bool, true, false, zero, suc, refl, arith}
use Rattle.std.specs.Prelude.{nat_lt}
use Rattle.std.specs.Int.{int_signum}
use Rattle.std.specs.List.{list_any}
use Rattle.std.specs.Ordering.{int_eq}
use Rattle.std.proofs.lemmas.Bool.{ne_eqb}
use Rattle.fux_pitch.specs.declared.interval.Interval.{Interval}
use Rattle.rule_law.specs.Terms.{degrees_without_sign, rises, semitones_without_sign}
use Rattle.melody_rules.specs.Rows.{is_melodic, melodic_sizes}

-- no melodic move has more than seven degrees
wide : (n m : ℕ) (up : Bool) → 7 < n
    → (list_any (λ size. (n == size.0) && (m == size.1)) melodic_sizes || (((n == 5) && (m == 8)) && up)) ≡ false
wide n m up h =
    rw (
      ne_eqb n 0 (omega (arith, h)),
      ne_eqb n 1 (omega (arith, h)),
      ne_eqb n 2 (omega (arith, h)),
      ne_eqb n 3 (omega (arith, h)),
      ne_eqb n 4 (omega (arith, h)),
      ne_eqb n 5 (omega (arith, h)),
      ne_eqb n 7 (omega (arith, h)),
    )
    refl

-- by so many degrees and semitones, whatever their signs
far : (same : Bool) (n m : ℕ) (up : Bool) → (n == 6 || nat_lt 7 n) ≡ true
    → (same && (list_any (λ size. (n == size.0) && (m == size.1)) melodic_sizes || (((n == 5) && (m == 8)) && up)))
    ≡ false
far false n m up h = refl
far true zero m up h = cc
far true (suc zero) m up h = cc
far true (suc (suc zero)) m up h = cc
far true (suc (suc (suc zero))) m up h = cc
far true (suc (suc (suc (suc zero)))) m up h = cc
far true (suc (suc (suc (suc (suc zero))))) m up h = cc
far true (suc (suc (suc (suc (suc (suc zero)))))) m up h = refl
far true (suc (suc (suc (suc (suc (suc (suc zero))))))) m up h = cc
far true (suc (suc (suc (suc (suc (suc (suc (suc n)))))))) m up h =
    wide (suc (suc (suc (suc (suc (suc (suc (suc n)))))))) m up (omega arith)

pub far_is_unmelodic : (i : Interval) → (degrees_without_sign i == 6 || nat_lt 7 (degrees_without_sign i)) ≡ true
    → is_melodic i ≡ false
far_is_unmelodic i h =
    far (int_eq (int_signum i.degrees) (int_signum i.semitones)) (degrees_without_sign i) (semitones_without_sign i)
    (rises i) h
