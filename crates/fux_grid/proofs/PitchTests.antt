-- The test for equal pitches.
use Rattle.std.proofs.Common.{◌≡◌, ◌↔◌, Bool, true, ◌==◌, IsTrue, sym, ap, ◌∙◌}
use Rattle.std.proofs.lemmas.Bool.Decides.{Decides-and, Decides-eqb}
use Rattle.fux_pitch.specs.declared.pitch.Pitch.{Pitch}
use Rattle.fux_pitch.specs.Pitch.{same_pitch}
use Rattle.fux_pitch.proofs.PitchLemmas.{equal_from_test}

pub same_pitch-from_equal : (p q : Pitch) → p ≡ q → same_pitch p q ≡ true
same_pitch-from_equal p q e =
    (Decides-and (p.degree == q.degree) (p.key == q.key) (Decides-eqb p.degree q.degree)
    (Decides-eqb p.key q.key)).1 (ap (λ (r : Pitch). r.degree) e, ap (λ (r : Pitch). r.key) e)

-- an answer of the test tells whether the pitches are one
pub equal_by_test : (p q : Pitch) (answer : Bool) → answer ≡ same_pitch p q → IsTrue answer ↔ (p ≡ q)
equal_by_test p q answer e = (λ h. equal_from_test p q (sym e ∙ h), λ h. e ∙ same_pitch-from_equal p q h)
