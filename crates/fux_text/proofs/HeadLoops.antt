-- Reading pitches one after the other, as a loop does.
use Rattle.std.proofs.Common.{◌≡◌, ℕ, suc, ◌+◌, ◌-◌, ◌<◌, ◌≤◌, List, [], ◌∷◌, ◌++◌, Result, Ok, refl, sym, ap, ◌∙◌, arith}
use Rattle.fux_pitch.specs.declared.pitch.Pitch.{Pitch}
use Rattle.text_lines.specs.declared.fault.TextFault.{TextFault}
use Rattle.text_lines.specs.declared.fault.TextFault.TheVariants as faults
use Rattle.fux_text.specs.declared.fault.TextKind.TheVariants as kinds
use Rattle.text_lines.specs.Faults.{Fault, Fails, ◌>>=◌}
use Rattle.text_lines.specs.Reading.{done}
use Rattle.text_lines.specs.Rows.{place_in, row_in}
use Rattle.text_lines.specs.Words.{LineWords}
use Rattle.text_lines.proofs.RowLemmas.{row-place}
use Rattle.fux_text.specs.Head.{pitch_place, pitches_row}
use Rattle.fux_text.specs.declared.fault.TextKind.{TextKind}

one_more : (v count i : ℕ) (found : List Pitch) (at : LineWords) → i < count
    → row_in (pitches_row v (count - i) found) at
    ≡ (place_in (pitch_place kinds.Cantus) at >>= λ x. row_in (pitches_row v (count - (i + 1)) (found ++ x.0 ∷ [])) x.1)
one_more v count i found at lt =
    let k : count - i ≡ suc (count - (i + 1)) = omega arith in
    ap (λ n. row_in (pitches_row v n found) at) k
    ∙ row-place (pitch_place kinds.Cantus) (λ p. pitches_row v (count - (i + 1)) (found ++ p ∷ [])) at

-- one pitch more
pub pitches-more : (v count i : ℕ) (found : List Pitch) (at rest : LineWords) (p : Pitch)
    (total : Result (ℕ × List Pitch) (Fault TextKind))
    → i < count → place_in (pitch_place kinds.Cantus) at ≡ Ok (p, rest)
    → row_in (pitches_row v (count - i) found) at ≡ total
    → row_in (pitches_row v (count - (i + 1)) (found ++ p ∷ [])) rest ≡ total
pitches-more v count i found at rest p total lt h so_far = sym (one_more v count i found at lt ∙ rw h refl) ∙ so_far

-- no pitch where one is missing or wrong
pub pitches-fail : (e : TextFault TextKind) (v count i : ℕ) (found : List Pitch) (at : LineWords)
    (total : Result (ℕ × List Pitch) (Fault TextKind))
    → i < count → Fails e (place_in (pitch_place kinds.Cantus) at) → row_in (pitches_row v (count - i) found) at ≡ total
    → Fails e total
pitches-fail faults.Memory v count i found at total lt h so_far = tt
pitches-fail (faults.At kind line column) v count i found at total lt h so_far =
    sym so_far ∙ one_more v count i found at lt ∙ rw h refl

-- all of them
pub pitches-all : (v count i : ℕ) (found : List Pitch) (at : LineWords) (total : Result (ℕ × List Pitch) (Fault TextKind))
    → count ≤ i → row_in (pitches_row v (count - i) found) at ≡ total
    → total ≡ (done kinds.Cantus at >>= λ end. Ok (v, found))
unfolding row_in
pitches-all v count i found at total le so_far =
    let k : count - i ≡ 0 = omega arith in
    sym so_far ∙ rw k refl

-- no value where the line goes on
pub ends-fail : {A : Type 0} (e : TextFault TextKind) (end : Result (Unit {0}) (Fault TextKind)) (x : A) (total : Result A (Fault TextKind))
    → total ≡ (end >>= λ end. Ok x) → Fails e end → Fails e total
ends-fail faults.Memory end x total t h = tt
ends-fail (faults.At kind line column) end x total t h = t ∙ rw h refl
