-- One cell more of a line: its notes as bytes (`start_bytes`, `other_notes`), and one track more
-- (`tracks_more`).
use Rattle.std.proofs.Common.{◌≡◌, ℕ, suc, ◌+◌, ◌-◌, ◌<◌, ◌≤◌, List, ◌∷◌, ◌++◌, refl, sym, arith, append_assoc, add-one}
use Rattle.fux_pitch.specs.declared.pitch.Pitch.{Pitch}
use Rattle.fux_grid.specs.declared.cell.Cell.{Cell}
use Rattle.fux_grid.specs.declared.cell.Cell.TheVariants.{Rest, Hold, Start}
use Rattle.smf_score.specs.Lines.{holds_ahead, notes_of}
use Rattle.smf_score.specs.Written.{midi_key, note_bytes, notes_bytes, track_bytes, tracks_bytes}

-- a cell that starts no note
pub other_notes : (at : ℕ) (c : Cell) (cells : List Cell) → ((p : Pitch) → c ≡ Start p → ⊥)
    → (notes_of at (c ∷ cells) ≡ notes_of (at + 1) cells) × (holds_ahead (c ∷ cells) ≤ 1 + holds_ahead cells)
other_notes at Rest cells none = (rw add-one refl, omega arith)
other_notes at (Hold p) cells none = (rw add-one refl, omega arith)
other_notes at (Start p) cells none = absurd (none p refl)

-- the bytes of a note that starts
pub start_bytes : (v ended at len : ℕ) (p : Pitch) (cells : List Cell) (out : List ℕ) → len ≡ 1 + holds_ahead cells
    → (out ++ note_bytes v (at - ended) len (midi_key p)) ++ notes_bytes v (at + len) (notes_of (at + 1) cells)
    ≡ out ++ notes_bytes v ended (notes_of at (Start p ∷ cells))
start_bytes v ended at len p cells out e =
    let long : len ≡ suc (holds_ahead cells) = omega arith in
    let next : at + 1 ≡ suc at = add-one at in
    rw (long, next)
    (append_assoc out (note_bytes v (at - ended) (suc (holds_ahead cells)) (midi_key p))
    (notes_bytes v (at + suc (holds_ahead cells)) (notes_of (suc at) cells)))

-- the track of the next voice
pub tracks_more : (columns : List (List Cell)) (v n : ℕ) (out : List ℕ) → v < n
    → (out ++ track_bytes columns v) ++ tracks_bytes columns (v + 1) (n - (v + 1)) ≡ out
    ++ tracks_bytes columns v (n - v)
tracks_more columns v n out more =
    let k : n - v ≡ suc (n - (v + 1)) = omega arith in
    let next : suc v ≡ v + 1 = sym (add-one v) in
    rw (k, next) (append_assoc out (track_bytes columns v) (tracks_bytes columns (v + 1) (n - (v + 1))))
