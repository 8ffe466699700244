-- A test of two equal pitches that may be lacking, and what it tells (`pitches_decide`).
use Rattle.std.specs.Prelude.{◌≡◌, ◌==◌, true, Option, Some, None, refl}
use Rattle.std.specs.Bool.{Decides}
use Rattle.std.specs.Option.{option_eq}
use Rattle.std.proofs.Common.{ap, sym, ◌∙◌}
use Rattle.std.proofs.lemmas.Bool.{and_from, eq-eqb}
use Rattle.fux_pitch.specs.declared.pitch.Pitch.{Pitch}
use Rattle.fux_pitch.specs.Pitch.{same_pitch}
use Rattle.fux_pitch.proofs.PitchLemmas.{equal_from_test}

pub pitch-same : (p q : Option Pitch) → option_eq same_pitch p q ≡ true → p ≡ q
pitch-same None None h = refl
pitch-same None (Some q) h = cc
pitch-same (Some p) None h = cc
pitch-same (Some p) (Some q) h = ap Some (equal_from_test p q h)

pub itself : (p : Option Pitch) → option_eq same_pitch p p ≡ true
itself None = refl
itself (Some p) =
    and_from (p.degree == p.degree) (p.key == p.key) (eq-eqb p.degree p.degree refl) (eq-eqb p.key p.key refl)

pub pitches_decide : (p q : Option Pitch) → Decides (option_eq same_pitch p q) (p ≡ q)
pitches_decide p q = (pitch-same p q, λ e. ap (option_eq same_pitch p) (sym e) ∙ itself p)
