use Rattle.std.proofs.Common.{rules, sym, refl, arith}
use Rattle.std.proofs.lemmas.Int.{ints}
use Rattle.fux_pitch.proofs.PitchLemmas.{pitch_at-is, pitch_at-none}
use Rattle.fux_pitch.proofs.pitch.Pitch.new.Goals as goal

pub returns-then-degree-lt7-clause-value : goal.returns-then-degree-lt7-clause-value
returns-then-degree-lt7-clause-value c = sym (pitch_at-none _ _ (λ h. search rules))

pub returns-then-key-lt24-clause-value : goal.returns-then-key-lt24-clause-value
returns-then-key-lt24-clause-value c = sym (pitch_at-none _ _ (λ h. search rules))

pub returns-clause-value : goal.returns-clause-value
returns-clause-value c = sym (pitch_at-is _ _ _ refl (omega (arith, ints)))
