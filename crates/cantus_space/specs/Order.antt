-- A lesser number's pitch is the lower one (`pitches_in_order`), and each pitch of a pool has a
-- number (`has_number`).
use Rattle.std.specs.Prelude.{◌≡◌, ℕ, ◌+◌, ◌-◌, ◌%◌, ◌<◌, ◌==◌, ◌||◌, ◌&&◌, pos, Bool, true, false, Option, Some, None, IsSome, refl}
use Rattle.std.specs.Ordering.{int_eq, ordering_then, int_cmp, nat_cmp}
use Rattle.std.specs.Cmp.{int_cmp_is}
use Rattle.std.specs.declared.cmp.Ordering.TheVariants.{Less}
use Rattle.std.proofs.Common.{arith, sym, ap, ◌∙◌, subst}
use Rattle.std.proofs.lemmas.Bool.{and_from, or_left}
use Rattle.std.proofs.lemmas.Int.{ints}
use Rattle.fux_pitch.specs.declared.mode.Mode.{Mode}
use Rattle.fux_pitch.specs.declared.pitch.Pitch.{Pitch}
use Rattle.fux_pitch.specs.Modes.{final_of, is_in_gamut}
use Rattle.fux_pitch.specs.Pitch.{alter_of, degree_of, key_of}
use Rattle.fux_pitch.specs.Spelling.{spelled}
use Rattle.fux_pitch.proofs.PitchLemmas.{key_of-number}
use Rattle.fux_pitch.proofs.SpellingLemmas.{key_of-spelled, spelled-known, spelled-own}
use Rattle.fux_grid.specs.Order.{pitch_order}
use Rattle.rhythm_cadence.specs.Rows.{is_final_in}
use Rattle.rule_law.specs.Law.{first_true, second_true}
use Rattle.cantus_space.specs.declared.plan.CantusPlan.{CantusPlan}
use Rattle.cantus_space.specs.Cantus.{is_in_pool, is_in_range, is_step_above, may_sound}
use Rattle.cantus_space.specs.Numbers.{numbered_pitch, pitch_or}

-- ---- each number's pitch has its key

pub key_of-numbered : (plan : CantusPlan) (k : ℕ) → k < 73 → key_of (numbered_pitch plan k) ≡ pos (k + 24)
key_of-numbered plan k h = at (spelled (k + 24)) refl ((spelled-known (k + 24)).1 (omega arith, omega (arith, h)))
  where
    at : (o : Option Pitch) → spelled (k + 24) ≡ o → IsSome (spelled (k + 24))
        → key_of (numbered_pitch plan k) ≡ pos (k + 24)
    at None e s = let none : false ≡ true = subst IsSome e s in absurd (cc)
    at (Some p) e s = ap (λ o. key_of (pitch_or plan.low o)) e ∙ key_of-spelled (k + 24) p e

lower_first : (p q : Pitch) (m n : ℕ) → key_of p ≡ pos m → key_of q ≡ pos n → m < n → pitch_order p q ≡ Less
lower_first p q m n e f h =
    let less : int_cmp (key_of p) (key_of q) ≡ Less =
    sym (int_cmp_is (key_of p) (key_of q) Less (rw (e, f) (omega (arith, ints)))) in
    ap (λ o. ordering_then o (nat_cmp (degree_of p) (degree_of q))) less

pub pitches_in_order : (plan : CantusPlan) (j k : ℕ) → j < k → k < 73
    → pitch_order (numbered_pitch plan j) (numbered_pitch plan k) ≡ Less
pitches_in_order plan j k h w =
    lower_first (numbered_pitch plan j) (numbered_pitch plan k) (j + 24) (k + 24)
    (key_of-numbered plan j (omega (arith, h, w))) (key_of-numbered plan k w) (omega (arith, h))

-- ---- each pitch of a pool has a number

pub record HasNumber (plan : CantusPlan) (p : Pitch) : Type 0 where
  pub number : ℕ
  pub small : number < 73
  pub is : numbered_pitch plan number ≡ p

gamut_has_number : (plan : CantusPlan) (bar : ℕ) (p : Pitch) → is_in_gamut plan.mode bar plan.bars p ≡ true
    → HasNumber plan p
gamut_has_number plan bar p h =
    let key = key_of-number p in
    let same : key.0 - 24 + 24 ≡ key.0 = omega (arith, key.2) in
    record {
      number = key.0 - 24;
      small = omega (arith, key.2, key.3);
      is = ap (pitch_or plan.low) (ap spelled same ∙ spelled-own plan.mode bar plan.bars p key.0 key.1 h);
    }

-- a natural is in each gamut
pub final_in_gamut : (mode : Mode) (bar bars : ℕ) (p : Pitch) → is_final_in mode p ≡ true → is_in_gamut mode bar bars p
    ≡ true
final_in_gamut mode bar bars p h =
    let natural : int_eq (alter_of p) (pos 0) ≡ true =
    second_true (degree_of p % 7 == final_of mode) (int_eq (alter_of p) (pos 0)) h in
    or_left _ _ (or_left (int_eq (alter_of p) (pos 0)) _ natural)

-- so that each pitch of a pool may sound in the bar
pub pool_sounds : (plan : CantusPlan) (bar : ℕ) (p : Pitch) → is_in_pool plan bar p ≡ true → may_sound plan bar p ≡ true
pool_sounds plan bar p h = at ((bar == 1) || (bar == plan.bars)) refl (bar + 1 == plan.bars) refl
  where
    at : (b : Bool) → ((bar == 1) || (bar == plan.bars)) ≡ b → (d : Bool) → (bar + 1 == plan.bars) ≡ d
        → may_sound plan bar p ≡ true
    at true e d f =
        let both : (is_in_range plan p && is_final_in plan.mode p) ≡ true = sym (rw e refl) ∙ h in
        and_from (is_in_gamut plan.mode bar plan.bars p) (is_in_range plan p)
        (final_in_gamut plan.mode bar plan.bars p
        (second_true (is_in_range plan p) (is_final_in plan.mode p) both))
        (first_true (is_in_range plan p) (is_final_in plan.mode p) both)
    at false e true f =
        let both : (may_sound plan bar p && is_step_above plan.mode p) ≡ true = sym (rw (e, f) refl) ∙ h in
        first_true (may_sound plan bar p) (is_step_above plan.mode p) both
    at false e false f = sym (rw (e, f) refl) ∙ h

pub has_number : (plan : CantusPlan) (bar : ℕ) (p : Pitch) → is_in_pool plan bar p ≡ true → HasNumber plan p
has_number plan bar p h =
    gamut_has_number plan bar p
    (first_true (is_in_gamut plan.mode bar plan.bars p) (is_in_range plan p) (pool_sounds plan bar p h))
