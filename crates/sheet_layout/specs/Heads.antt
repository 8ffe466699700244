-- Where heads stand, and how their stems go.
use Rattle.std.specs.Prelude.{ℕ, ◌+◌, ◌-◌, ◌*◌, ◌==◌, ◌≡◌, ◌≤◌, Bool, nat_lt, List, Option, Some, None, max, min, if◌then◌else◌}
use Rattle.std.specs.List.{find}
use Rattle.std.specs.Option.{option_and_then}
use Rattle.fux_pitch.specs.declared.pitch.Pitch.{Pitch}
use Rattle.fux_pitch.specs.Pitch.{degree_of}
use Rattle.written_notes.specs.declared.bar.Written.{Written}
use Rattle.written_notes.specs.declared.beams.Beam.{Beam}
use Rattle.written_notes.specs.declared.beams.Beam.TheVariants.{Without, Begins, Ends}
use Rattle.written_notes.specs.Beams.{beam_of}
use Rattle.sheet_layout.specs.Spacing.{slot_x}
use Rattle.sheet_layout.specs.declared.heads.Head.{Head}

-- the height of a degree: four to a step, and the middle line at 600
abbrev pub height : ℕ → ℕ → ℕ
height middle degree = (600 + 4 * middle) - 4 * degree

-- the slot of the other quaver under a note's beam, for a note without a beam its own
abbrev pub other_slot : Beam → ℕ → ℕ
other_slot Without slot = slot
other_slot Begins slot = slot + 1
other_slot Ends slot = slot - 1

-- the pitch at a slot of these notes
abbrev pub pitch_at : List Written → ℕ → Option Pitch
pitch_at notes slot =
    option_and_then (λ (other : Written). other.pitch) (find (λ other. other.slot == slot) notes)

-- the degree of a pitch, another one where there is none
abbrev pub degree_or : Option Pitch → ℕ → ℕ
degree_or None degree = degree
degree_or (Some p) degree = degree_of p

-- the degree of the other quaver under a note's beam, its own where there is none
abbrev pub other_degree : List Written → Written → ℕ → ℕ
other_degree notes note degree =
    degree_or (pitch_at notes (other_slot (beam_of notes note) note.slot)) degree

-- a stem goes up below the middle line; two stems under a beam by the sum of their degrees
abbrev pub goes_up : ℕ → ℕ → ℕ → Bool
goes_up middle degree other = nat_lt (degree + other) (2 * middle)

-- where a stem ends: 28 beyond its head, and at the middle line at least; under a beam not much
-- nearer to the other head than to its own
abbrev pub tip : Bool → ℕ → ℕ → ℕ
tip up y other = if up then min (min y (other + 6) - 28) 600 else max (max y (other - 6) + 28) 600

-- where a stem stands: at the right of a head where it goes up, else at the left
abbrev pub stem_x : Bool → ℕ → ℕ
stem_x up x = if up then x + 5 else x - 5

-- the head of one of a bar's notes with this degree, among those of all voices, where the other
-- head under its beam has that one
abbrev pub head_with : List Written → List Written → ℕ → Written → ℕ → ℕ → Head
head_with all notes middle note degree other = record {
  x = slot_x all note.slot;
  y = height middle degree;
  next = slot_x all (min note.slot 7 + 1);
  far = height middle other;
  up = goes_up middle degree other;
  beam = beam_of notes note;
}

-- the head of one of a bar's notes with a pitch
abbrev pub head_of : List Written → List Written → ℕ → Written → Pitch → Head
head_of all notes middle note p =
    head_with all notes middle note (degree_of p) (other_degree notes note (degree_of p))

-- who reads a head's height knows its degree: 4 to a step down from the middle line's
abbrev pub HeightsTellDegrees : Type 0
HeightsTellDegrees =
    (middle degree : ℕ) → degree ≤ 150 → height middle degree + 4 * degree ≡ 600 + 4 * middle
