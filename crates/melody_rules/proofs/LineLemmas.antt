-- The notes of a line that grows by a cell.
use Rattle.std.proofs.Common.{◌≡◌, List, ◌∷◌, ap, sym, ◌∙◌}
use Rattle.std.specs.Prelude.{ℕ, Bool, pos, ◌-ℤ◌, int_lt, not, ◌&&◌}
use Rattle.std.specs.Int.{int_max, int_min}
use Rattle.fux_pitch.specs.declared.pitch.Pitch.{Pitch}
use Rattle.fux_grid.specs.declared.cell.Cell.{Cell}
use Rattle.fux_pitch.specs.Pitch.{key_of}
use Rattle.fux_grid.specs.declared.cell.Cell.TheVariants.{Rest, Hold, Start}
use Rattle.melody_rules.specs.declared.notes.VoiceNotes.{VoiceNotes}
use Rattle.melody_rules.specs.Held.{pitches-hold}
use Rattle.melody_rules.specs.Notes.{IsNotesOf}
use Rattle.melody_rules.specs.Keys.{least_key, span_is}
use Rattle.melody_rules.specs.Rows.{pitches, widens}

-- a hold adds no note
pub notes-hold : (p : Pitch) (cells : List Cell) (notes : VoiceNotes) → IsNotesOf cells notes
    → IsNotesOf (Hold p ∷ cells) notes
notes-hold p cells notes r =
    let same : pitches (Hold p ∷ cells) ≡ pitches cells = pitches-hold p cells in
    record {
      last = rw same r.last;
      before = rw same r.before;
      turning = rw same r.turning;
      greatest = rw same r.greatest;
      least = rw same r.least;
    }

-- and neither does a rest
pub notes-rest : (cells : List Cell) (notes : VoiceNotes) → IsNotesOf cells notes → IsNotesOf (Rest ∷ cells) notes
notes-rest cells notes r = record {
  last = r.last;
  before = r.before;
  turning = r.turning;
  greatest = r.greatest;
  least = r.least;
}

-- a note widens the span by the greatest key and the least
pub widens_is : (p : Pitch) (cells : List Cell) (notes : VoiceNotes) → IsNotesOf cells notes
    → widens (pitches cells) (Start p)
    ≡ (int_lt (pos 16) (int_max (key_of p) (pos notes.greatest) -ℤ int_min (key_of p) (pos notes.least))
    && not (int_lt (pos 16) (pos notes.greatest -ℤ pos notes.least)))
widens_is p cells notes r =
    (λ i. span_is 16 (p ∷ pitches cells) i && not (span_is 16 (pitches cells) i))
    ∙ ap (λ g. int_lt (pos 16) (int_max (key_of p) g -ℤ int_min (key_of p) (least_key (pitches cells)))
    && not (int_lt (pos 16) (g -ℤ least_key (pitches cells)))) (sym r.greatest)
    ∙ ap (λ l. int_lt (pos 16) (int_max (key_of p) (pos notes.greatest) -ℤ int_min (key_of p) l)
    && not (int_lt (pos 16) (pos notes.greatest -ℤ l))) (sym r.least)

-- so it is told by what is computed of them
pub widens_by : (p : Pitch) (cells : List Cell) (notes : VoiceNotes) (now : Cell) → now ≡ Start p
    → IsNotesOf cells notes
    → (key high low : ℕ) → pos key ≡ key_of p
    → pos high ≡ int_max (pos key) (pos notes.greatest) → pos low ≡ int_min (pos key) (pos notes.least)
    → (after before : Bool) → after ≡ int_lt (pos 16) (pos high -ℤ pos low)
    → before ≡ int_lt (pos 16) (pos notes.greatest -ℤ pos notes.least)
    → (after && not before) ≡ widens (pitches cells) now
widens_by p cells notes now e r key high low k h l after before a b =
    ap (λ t. t && not before) (a ∙ ap (λ x. int_lt (pos 16) (x -ℤ pos low))
    (h ∙ ap (λ z. int_max z (pos notes.greatest)) k)
    ∙ ap (λ x. int_lt (pos 16) (int_max (key_of p) (pos notes.greatest) -ℤ x))
    (l ∙ ap (λ z. int_min z (pos notes.least)) k))
    ∙ ap (λ t. int_lt (pos 16) (int_max (key_of p) (pos notes.greatest) -ℤ int_min (key_of p) (pos notes.least))
    && not t) b
    ∙ sym (widens_is p cells notes r)
    ∙ ap (widens (pitches cells)) (sym e)
