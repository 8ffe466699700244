-- The notes of a written file stand in order (`notes_in_order`), and are placed where they stand in
-- the score, each with its pitch as its key is spelled (`all_placed`).
use Rattle.std.proofs.Common.{◌≡◌, ◌≢◌, ℕ, zero, suc, ◌+◌, ◌*◌, ◌<◌, ◌≤◌, true, List, [], ◌∷◌, ◌++◌, get_or, map, Option, Some, None, Ok, refl, sym, ◌∙◌, ap, arith, max, ne_eqb, add-one, length, subst}
use Rattle.std.specs.Prelude.{IsSome, ⊤}
use Rattle.std.specs.List.{range_with_len}
use Rattle.std.specs.List.Sorted.{IsSortedBy}
use Rattle.std.specs.Option.{unwrap_or}
use Rattle.std.proofs.lemmas.Bool.{eq-eqb, le-ltb, lt-leb}
use Rattle.fux_pitch.specs.declared.pitch.Pitch.{Pitch}
use Rattle.fux_pitch.specs.Spelling.{spelled}
use Rattle.fux_pitch.proofs.SpellingLemmas.{spelled-known}
use Rattle.fux_grid.specs.declared.cell.Cell.{Cell}
use Rattle.fux_grid.specs.declared.cell.Cell.TheVariants.{Rest, Hold, Start}
use Rattle.fux_grid.specs.declared.cell.Note.{Note}
use Rattle.fux_grid.specs.Cells.{is_start}
use Rattle.fux_grid.specs.Columns.{line}
use Rattle.smf_score.specs.declared.placed.Placed.{Placed}
use Rattle.smf_score.specs.declared.played.Played.{Played}
use Rattle.smf_score.specs.Faults.{each}
use Rattle.smf_score.specs.Lines.{notes_of}
use Rattle.smf_score.specs.Order.{IsInOrder, is_before}
use Rattle.smf_score.specs.Placing.{joined, latest, note_placed, slot_of, voice_placed, voices_of, voices_placed, with_earlier}
use Rattle.smf_score.specs.ReadBack.{HasNote, respelled}
use Rattle.smf_score.specs.Written.{midi_key}
use Rattle.smf_score.proofs.EachLemmas.{each_map, each_then}
use Rattle.smf_score.proofs.FileBack.{AreInTurn, key_bounds, played_note, voice_in_turn, voice_notes, voices_played}
use Rattle.smf_score.proofs.OrderLemmas.{not_before_from}
use Rattle.smf_score.proofs.PlacingLemmas.{overlap_is, run_is_voice}
use Rattle.voice_lines.proofs.Scores.{line-cell}

-- ---- the order of the notes

-- no note is before the one in front of it, and the first isn't before a place
abbrev AreRising : ℕ → ℕ → List Played → Type 0
AreRising rank start [] = ⊤
AreRising rank start (note ∷ notes) =
    (rank ≤ note.rank) × (rank ≡ note.rank → start ≤ note.start) × AreRising note.rank note.start notes

rising_sorted : (rank start : ℕ) (notes : List Played) → AreRising rank start notes → IsSortedBy is_before notes
rising_sorted rank start [] rising k d from within = absurd (omega arith)
rising_sorted rank start (a ∷ []) rising k d from within = absurd (omega arith)
rising_sorted rank start (a ∷ b ∷ notes) rising zero d from within = not_before_from b a rising.2.0 rising.2.1
rising_sorted rank start (a ∷ b ∷ notes) rising (suc k) d from within =
    let next : suc k + 1 ≡ suc (k + 1) = omega arith in
    ap (λ n. is_before (get_or (a ∷ b ∷ notes) n d) (get_or (b ∷ notes) k d)) next
    ∙ rising_sorted a.rank a.start (b ∷ notes) rising.2 k d (omega arith) (omega arith)

rising_append : (most v ended rank start : ℕ) (notes : List Note) (later : List Played) → AreInTurn most ended notes
    → rank ≤ v → (rank ≡ v → start ≤ 240 * ended) → ((r s : ℕ) → r ≤ v → AreRising r s later)
    → AreRising rank start (map (played_note v) notes ++ later)
rising_append most v ended rank start [] later turn low early rising = rising rank start low
rising_append most v ended rank start (note ∷ notes) later turn low early rising = (
  low,
  λ same. omega (arith, early same, turn.0),
  rising_append most v (note.start + note.len) v (240 * note.start) notes later turn.2 (omega arith) (λ same. omega arith)
      rising,
)

rising_voices : (columns : List (List Cell)) (v more rank start : ℕ) → rank ≤ v
    → AreRising rank start (voices_played columns v more)
rising_voices columns v zero rank start low = tt
rising_voices columns v (suc more) rank start low =
    rising_append (length columns) (suc v) 0 rank start (voice_notes columns v) (voices_played columns (suc v) more)
    (voice_in_turn columns v (length columns) (omega arith)) (omega arith) (λ same. absurd (omega (arith, same, low)))
    (λ r s less. rising_voices columns (suc v) more r s less)

-- the notes stand in order
pub notes_in_order : (columns : List (List Cell)) (voices : ℕ)
    → IsInOrder (voices_played columns 0 voices) (voices_played columns 0 voices)
notes_in_order columns voices = record {
  sorted = rising_sorted 0 0 (voices_played columns 0 voices) (rising_voices columns 0 voices 0 0 (omega arith));
  stable = λ x. refl;
}

-- ---- a note on the grid

-- the key of each pitch is spelled
pub spelled_as : (p : Pitch) → spelled (midi_key p) ≡ Some (respelled p)
spelled_as p = at (spelled (midi_key p)) ((spelled-known (midi_key p)).1 (key_bounds p))
  where
    at : (o : Option Pitch) → IsSome o → o ≡ Some (unwrap_or o p)
    at None some = absurd cc
    at (Some q) some = refl

-- a note of a voice on the grid
abbrev pub placed_note : Note → Placed
placed_note note = record { start = note.start; end = note.start + note.len; pitch = respelled note.pitch }

-- the notes of these voices
abbrev pub placed_voices : List (List Cell) → List ℕ → List (List Placed)
placed_voices columns vs = map (λ v. map placed_note (voice_notes columns v)) vs

-- ---- a voice

-- the ticks of a slot lie at this slot
own_slot : (s : ℕ) → slot_of 480 (240 * s) ≡ s
own_slot s = omega arith

place_back : (rank ended : ℕ) (earlier : List Played) (note : Note) → latest 480 earlier ≤ ended → ended ≤ note.start
    → 1 ≤ note.len → note_placed 480 (earlier, played_note rank note) ≡ Ok (placed_note note)
place_back rank ended earlier note before early long =
    let after = note.start + note.len in
    rw (
      overlap_is 480 earlier (played_note rank note),
      spelled_as note.pitch,
      own_slot note.start,
      own_slot after,
      lt-leb after note.start (omega (arith, long)),
      le-ltb note.start (latest 480 earlier) (omega (arith, before, early)),
    ) refl

notes_back : (most rank ended : ℕ) (earlier : List Played) (notes : List Note) → latest 480 earlier ≤ ended
    → AreInTurn most ended notes
    → each (note_placed 480) (with_earlier earlier (map (played_note rank) notes)) ≡ Ok (map placed_note notes)
unfolding each
notes_back most rank ended earlier [] before turn = refl
notes_back most rank ended earlier (note ∷ notes) before turn =
    let next = played_note rank note in
    let after = note.start + note.len in
    let over : max (latest 480 earlier) (slot_of 480 (240 * after)) ≤ after =
    omega (arith, before, turn.0, own_slot after) in
    each_then (note_placed 480) (earlier, next) (with_earlier (next ∷ earlier) (map (played_note rank) notes))
    (placed_note note) (map placed_note notes) (place_back rank ended earlier note before turn.0 turn.1)
    (notes_back most rank after (next ∷ earlier) notes over turn.2)

-- ---- the voices

-- no note of a rank comes first
abbrev Apart : ℕ → List Played → Type 0
Apart rank [] = ⊤
Apart rank (note ∷ notes) = note.rank ≢ rank

run_back : (rank : ℕ) (note : Note) (notes : List Note) (rest : List Played) → Apart rank rest
    → voices_of (map (played_note rank) (note ∷ notes) ++ rest)
    ≡ map (played_note rank) (note ∷ notes) ∷ voices_of rest
run_back rank note [] [] apart = refl
run_back rank note [] (next ∷ rest) apart =
    ap (joined (played_note rank note)) (run_is_voice next rest)
    ∙ rw (ne_eqb next.rank rank apart)
    (ap (λ (voices : List (List Played)). (played_note rank note ∷ []) ∷ voices) (sym (run_is_voice next rest)))
run_back rank note (next ∷ notes) rest apart =
    ap (joined (played_note rank note)) (run_back rank next notes rest apart) ∙ rw (eq-eqb rank rank refl) refl

some_note : (at i : ℕ) (cells : List Cell) → is_start (get_or cells i Rest) ≡ true
    → (note : Note) × (notes : List Note) × (notes_of at cells ≡ note ∷ notes)
some_note at i [] starts = absurd cc
some_note at zero (Rest ∷ cells) starts = absurd cc
some_note at (suc i) (Rest ∷ cells) starts = some_note (suc at) i cells starts
some_note at zero (Hold p ∷ cells) starts = absurd cc
some_note at (suc i) (Hold p ∷ cells) starts = some_note (suc at) i cells starts
some_note at i (Start p ∷ cells) starts = (_, _, refl)

-- a voice with a note has a first one
has_first : (columns : List (List Cell)) (v : ℕ) → HasNote columns v
    → (note : Note) × (notes : List Note) × (voice_notes columns v ≡ note ∷ notes)
has_first columns v (i, within, starts) =
    some_note 0 i (line v columns)
    (ap is_start (line-cell v i columns within) ∙ starts)

-- the notes of these voices as they are played
abbrev played_voices : List (List Cell) → List ℕ → List (List Played)
played_voices columns vs = map (λ v. map (played_note (suc v)) (voice_notes columns v)) vs

-- the voices are those of the score, of which each has a note
voices_back : (columns : List (List Cell)) (v more : ℕ) → ((w : ℕ) → w < v + more → HasNote columns w)
    → (voices_of (voices_played columns v more) ≡ played_voices columns (range_with_len v more))
    × Apart v (voices_played columns v more)
voices_back columns v zero notes = (refl, tt)
voices_back columns v (suc more) notes =
    let first = has_first columns v (notes v (omega arith)) in
    let later = voices_back columns (suc v) more (λ w within. notes w (omega arith)) in
    let rest = voices_played columns (suc v) more in
    let other : suc v ≢ v = λ same. absurd (omega (arith, same)) in (
      ap (λ (ns : List Note). voices_of (map (played_note (suc v)) ns ++ rest)) first.2
          ∙ run_back (suc v) first.0 first.1 rest later.1
          ∙ ap (λ (ns : List Note). map (played_note (suc v)) ns ∷ voices_of rest) (sym first.2)
          ∙ ap (λ (voices : List (List Played)). map (played_note (suc v)) (voice_notes columns v) ∷ voices)
          (later.0 ∙ ap (λ w. played_voices columns (range_with_len w more)) (sym (add-one v))),
      subst (λ (ns : List Note). Apart v (map (played_note (suc v)) ns ++ rest)) (sym first.2) other,
    )

-- the notes of so many voices, of which each has one
pub all_placed : (columns : List (List Cell)) (voices : ℕ) → ((v : ℕ) → v < voices → HasNote columns v)
    → voices_placed 480 (voices_of (voices_played columns 0 voices))
    ≡ Ok (placed_voices columns (range_with_len 0 voices))
all_placed columns voices notes =
    ap (voices_placed 480) (voices_back columns 0 voices (λ v within. notes v (omega arith))).0
    ∙ each_map (voice_placed 480) (λ v. map (played_note (suc v)) (voice_notes columns v))
    (λ v. map placed_note (voice_notes columns v)) (range_with_len 0 voices)
    (λ v. notes_back (length columns) (suc v) 0 [] (voice_notes columns v) (omega arith)
    (voice_in_turn columns v (length columns) (omega arith)))
