-- The notes of four voices.
use Rattle.std.proofs.Common.{◌≡◌, ℕ, ◌+◌, ◌<◌, Bool, true, ◌&&◌, nat_lt, List, [], ◌∷◌, map, Some, length, get_or, refl, ap, sym, ◌∙◌, arith}
use Rattle.std.specs.Prelude.{slice_get}
use Rattle.std.proofs.lemmas.Option.{slice_get-get_or}
use Rattle.fux_grid.specs.declared.cell.Cell.{Cell}
use Rattle.fux_grid.specs.declared.cell.Note.{Note}
use Rattle.fux_grid.specs.declared.exercise.Exercise.{Exercise}
use Rattle.fux_grid.specs.Cells.{notes_from, first_of}
use Rattle.fux_grid.specs.Columns.{line}
use Rattle.rule_law.specs.Law.{test_from_below}
use Rattle.rule_law.specs.Voices.{is_free, voice_of, holds_of_voice, on_free_voice}
use Rattle.rule_law.specs.Terms.{note_pitch, previous_pitch}
use Rattle.melody_rules.specs.declared.notes.VoiceNotes.{VoiceNotes}
use Rattle.melody_rules.specs.Notes.{AreNotesOf, IsNotesOf}
use Rattle.melody_rules.specs.Rows.{last_of}

-- the notes that are read at a voice are those of its line
pub notes_at : (behind : List (List Cell)) (voices : List VoiceNotes) (v : ℕ) (default : VoiceNotes)
    → AreNotesOf behind voices → length voices ≡ 4 → v < 4 → IsNotesOf (line v behind) (get_or voices v default)
notes_at behind voices v default are four here =
    are v (get_or voices v default) (slice_get-get_or voices v default (omega arith))

-- the pitch of the latest note
pub first_pitch : (ns : List Note) → last_of (map (λ n. n.pitch) ns) ≡ note_pitch (first_of ns)
first_pitch [] = refl
first_pitch (n ∷ ns) = refl

-- the latest of them is the latest note
pub latest_pitch : (cells : List Cell) (notes : VoiceNotes) → IsNotesOf cells notes → notes.last ≡ previous_pitch cells
latest_pitch cells notes r = r.last ∙ first_pitch (notes_from 0 cells)

-- four numbers, and what they are, have one sum
pub sum_of_four : (a b c d w x y z : ℕ) → a ≡ w → b ≡ x → c ≡ y → d ≡ z → a + b + c + d ≡ 0 + w + x + y + z
sum_of_four a b c d w x y z ea eb ec ed = omega arith

both : (a b x : Bool) → a ≡ true → b ≡ true → (a && (b && x)) ≡ x
both a b x ha hb = rw (ha, hb) refl

-- a test of the free voice of a set
pub on_free_voice-test : (ex : Exercise) (test : ℕ → Bool) (bits v : ℕ) → Some v ≡ voice_of bits → v < ex.voices
    → is_free ex v ≡ true → on_free_voice ex test bits ≡ test v
on_free_voice-test ex test bits v one there free =
    ap (holds_of_voice ex (λ w. is_free ex w && test w)) (sym one)
    ∙ both (nat_lt v ex.voices) (is_free ex v) (test v) (test_from_below v ex.voices there) free
