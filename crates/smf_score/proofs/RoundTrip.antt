-- The file of a score reads back as its exercise with the score (`reads_back`).
use Rattle.std.proofs.Common.{◌≡◌, ℕ, zero, suc, ◌+◌, ◌*◌, ◌/◌, ◌<◌, ◌≤◌, Bool, List, [], ◌∷◌, ◌++◌, length, get_or, map, Result, Some, Ok, refl, sym, ◌∙◌, ap, subst, arith}
use Rattle.std.specs.List.{range_with_len}
use Rattle.std.proofs.lemmas.Bool.{le-leb, lt-ltb}
use Rattle.std.proofs.lemmas.List.{length-map}
use Rattle.std.proofs.lemmas.List.Elements.{All-map}
use Rattle.std.proofs.lemmas.List.FromFn.{get_or-map-range_with_len, length-map-range_with_len}
use Rattle.fux_pitch.specs.declared.pitch.Pitch.{Pitch}
use Rattle.fux_grid.specs.declared.cell.Cell.{Cell}
use Rattle.fux_grid.specs.declared.cell.Note.{Note}
use Rattle.fux_grid.specs.declared.exercise.Exercise.{Exercise}
use Rattle.fux_grid.specs.declared.exercise.Head.{Head}
use Rattle.fux_grid.specs.Columns.{line}
use Rattle.fux_grid.specs.Grid.{Grid}
use Rattle.smf_bytes.specs.Events.{File}
use Rattle.smf_score.specs.declared.fault.SmfFault.{SmfFault}
use Rattle.smf_score.specs.declared.placed.Placed.{Placed}
use Rattle.smf_score.specs.declared.played.Layout.{Layout}
use Rattle.smf_score.specs.declared.played.Played.{Played}
use Rattle.smf_score.specs.declared.strokes.Stroke.{Stroke}
use Rattle.smf_score.specs.Cantus.{cantus_in}
use Rattle.smf_score.specs.Exercise.{bars_in, bars_within, exercise_in, exercise_with, last_end, last_slot, voices_in}
use Rattle.smf_score.specs.Lines.{notes_of}
use Rattle.smf_score.specs.Order.{IsInOrder}
use Rattle.smf_score.specs.Placing.{voices_of, voices_placed}
use Rattle.smf_score.specs.Played.{notes_in}
use Rattle.smf_score.specs.ReadBack.{IsHeadOf, IsReadBack, IsSounding, ReadsBack, respelled, respelled_cell, respelled_score}
use Rattle.smf_score.specs.Reading.{IsReading, OfStrokes, exercise_of_notes}
use Rattle.smf_score.specs.Sounding.{lines_of}
use Rattle.smf_score.specs.Written.{smf_of}
use Rattle.smf_score.proofs.CantusLemmas.{cantus_back}
use Rattle.smf_score.proofs.CellsBack.{lines_back, respelled_columns, respelled_line}
use Rattle.smf_score.proofs.EachLemmas.{value_then}
use Rattle.smf_score.proofs.FileBack.{AreInTurn, file_back, file_header, turn_within, voice_in_turn, voice_notes, voices_played}
use Rattle.smf_score.proofs.NotesBack.{all_placed, notes_in_order, placed_note, placed_voices}
use Rattle.smf_score.proofs.ReadingLemmas.{reading_once}
use Rattle.smf_score.proofs.ValidLemmas.{exercise_is}
use Rattle.voice_lines.specs.Lines.{cantus_cells, note_cells, score_of}
use Rattle.voice_lines.proofs.CantusLines.{cantus_line}
use Rattle.voice_lines.proofs.Scores.{score_own}

-- ---- how long it is

last_most : (most ended : ℕ) (notes : List Note) → AreInTurn most ended notes → last_end (map placed_note notes) ≤ most
last_most most ended [] turn = omega arith
last_most most ended (note ∷ notes) turn =
    let after = note.start + note.len in
    omega (arith, last_most most after notes turn.2, turn_within most after notes turn.2)

voices_most : (columns : List (List Cell)) (vs : List ℕ) → last_slot (placed_voices columns vs) ≤ length columns
voices_most columns [] = omega arith
voices_most columns (v ∷ vs) =
    let turn = voice_in_turn columns v (length columns) (omega arith) in
    omega (arith, voices_most columns vs, last_most (length columns) 0 (voice_notes columns v) turn)

-- a cantus sounds to its end
cantus_last : (at : ℕ) (cantus : List Pitch) → 1 ≤ length cantus
    → last_end (map placed_note (notes_of at (cantus_cells cantus))) ≡ at + 8 * length cantus
cantus_last at [] some = absurd (omega arith)
cantus_last at (p ∷ []) some = omega arith
cantus_last at (p ∷ q ∷ cantus) some =
    omega (arith, cantus_last (suc (suc (suc (suc (suc (suc (suc (suc at)))))))) (q ∷ cantus) (omega arith))

end_within : (voices : List (List Placed)) (v : ℕ) → last_end (get_or voices v []) ≤ last_slot voices
end_within [] v = omega arith
end_within (notes ∷ voices) zero = omega arith
end_within (notes ∷ voices) (suc v) = omega (arith, end_within voices v)

bars_back : (notes : List (List Placed)) (bars : ℕ) → last_slot notes ≡ 8 * bars → 3 ≤ bars → bars ≤ 24
    → bars_in notes ≡ Ok bars
bars_back notes bars e few many =
    let count : (last_slot notes + 7) / 8 ≡ bars = omega (arith, e) in
    ap bars_within count ∙ rw (le-leb 3 bars few, le-leb bars 24 many) refl

voices_back : (head : Head) (voices : ℕ) → 2 ≤ voices → voices ≤ 4 → head.cantus_voice < voices
    → head.species_voice < voices → voices_in head voices ≡ Ok voices
voices_back head voices few many cantus species =
    rw (
      le-leb 2 voices few,
      le-leb voices 4 many,
      lt-ltb head.cantus_voice voices cantus,
      lt-ltb head.species_voice voices species,
    ) refl

respelled_cantus : (cantus : List Pitch)
    → map respelled_cell (cantus_cells cantus) ≡ cantus_cells (map respelled cantus)
respelled_cantus [] = refl
respelled_cantus (p ∷ cantus) =
    ap (λ (cells : List Cell). note_cells (respelled p) 8 ++ cells) (respelled_cantus cantus)

-- ---- the exercise

module _ (ex : Exercise) (score : Grid) (head : Head) (sounding : IsSounding ex score) (of : IsHeadOf ex head) where
  abbrev vs : List ℕ
  vs = range_with_len 0 ex.voices

  abbrev placed : List (List Placed)
  placed = placed_voices score.columns vs

  abbrev columns : List (List Cell)
  columns = respelled_columns score.columns

  pub whole : length score.columns ≡ 8 * ex.bars
  whole = sounding.given.complete.whole

  pub count : score.voices ≡ ex.voices
  count = sounding.given.complete.voices

  lines : lines_of ex.bars placed ≡ map (λ v. line v columns) vs
  lines = lines_back score.columns ex.bars vs sounding.follows whole

  pub own_cantus : line ex.cantus_voice score.columns ≡ cantus_cells ex.cantus
  own_cantus = cantus_line ex score.columns (omega (arith, whole, sounding.valid.whole_cantus)) sounding.given.cantus

  cantus_read : cantus_in ex.bars (get_or (lines_of ex.bars placed) head.cantus_voice []) ≡ Ok (map respelled ex.cantus)
  cantus_read =
      let v = ex.cantus_voice in
      let cells : get_or (lines_of ex.bars placed) head.cantus_voice [] ≡ cantus_cells (map respelled ex.cantus) =
      ap (λ w. get_or (lines_of ex.bars placed) w []) of.cantus_voice
      ∙ ap (λ (ls : List (List Cell)). get_or ls v []) lines
      ∙ get_or-map-range_with_len (λ w. line w columns) 0 ex.voices v v [] sounding.valid.cantus_there (omega arith)
      ∙ sym (respelled_line v score.columns)
      ∙ ap (map respelled_cell) own_cantus ∙ respelled_cantus ex.cantus in
      let bars : ex.bars ≡ length (map respelled ex.cantus) =
      omega (arith, sounding.valid.whole_cantus, length-map ex.cantus respelled) in
      ap (cantus_in ex.bars) cells
      ∙ ap (λ n. cantus_in n (cantus_cells (map respelled ex.cantus))) bars
      ∙ cantus_back 0 (map respelled ex.cantus)

  pub last_is : last_slot placed ≡ 8 * ex.bars
  last_is =
      let v = ex.cantus_voice in
      let own : get_or placed v [] ≡ map placed_note (notes_of 0 (cantus_cells ex.cantus)) =
      get_or-map-range_with_len (λ w. map placed_note (voice_notes score.columns w)) 0 ex.voices v v []
      sounding.valid.cantus_there (omega arith)
      ∙ ap (λ (cells : List Cell). map placed_note (notes_of 0 cells)) own_cantus in
      let some : 1 ≤ length ex.cantus = omega (arith, sounding.valid.whole_cantus, sounding.valid.fewest_bars) in
      let last = cantus_last 0 ex.cantus some in
      omega (arith, whole, sounding.valid.whole_cantus, voices_most score.columns vs, last, end_within placed v, ap last_end own)

  -- what is read
  abbrev read_exercise : Exercise
  read_exercise = exercise_with head placed ex.voices ex.bars (map respelled ex.cantus)

  exercise_back : exercise_in head placed ≡ Ok read_exercise
  exercise_back =
      let valid = sounding.valid in
      exercise_is head placed ex.voices ex.bars (map respelled ex.cantus)
      (ap (voices_in head) (length-map-range_with_len (λ v. map placed_note (voice_notes score.columns v)) 0 ex.voices)
      ∙ voices_back head ex.voices valid.fewest_voices valid.most_voices
      (omega (arith, of.cantus_voice, valid.cantus_there)) of.species_voice)
      (bars_back placed ex.bars last_is valid.fewest_bars valid.most_bars) cantus_read

  setting_read : read_exercise.setting ≡ Some (respelled_score score)
  setting_read =
      ap (λ (ls : List (List Cell)). Some (score_of (8 * ex.bars) ls)) lines
      ∙ ap Some (score_own (8 * ex.bars) ex.voices columns (length-map score.columns (map respelled_cell) ∙ whole)
      (All-map (λ (col : List Cell). length col ≡ ex.voices) (map respelled_cell) score.columns
      (λ i d within. length-map _ respelled_cell ∙ sounding.full i d within))
      ∙ ap (λ v. record { voices = v; columns = columns }) (sym count))

  is_read_back : IsReadBack ex score head read_exercise
  is_read_back = record {
    mode = refl;
    voices = refl;
    bars = refl;
    species = refl;
    species_voice = refl;
    mixed = refl;
    cantus_voice = of.cantus_voice;
    cantus = refl;
    relax = refl;
    given = refl;
    setting = setting_read;
  }

  notes_read : exercise_of_notes head 480 (voices_played score.columns 0 ex.voices) ≡ Ok read_exercise
  unfolding exercise_of_notes
  notes_read =
      value_then (voices_placed 480 (voices_of (voices_played score.columns 0 ex.voices))) _ placed
      (all_placed score.columns ex.voices sounding.notes)
      ∙ exercise_back

  file_read : IsReading head (smf_of score) (Ok read_exercise)
  file_read =
      let few : length score.columns ≤ 192 = omega (arith, whole, sounding.valid.most_bars) in
      let file = file_back score few (omega (arith, count, sounding.valid.most_voices)) in
      let read : File = record { header = file_header score.voices; answers = file.0 } in
      let played = voices_played score.columns 0 ex.voices in
      let notes : notes_in (layout head.top_first) file.2 ≡ played =
      ap (λ t. notes_in (layout t) file.2) of.lowest_first ∙ file.4 ∙ ap (voices_played score.columns 0) count in (
        Ok read,
        file.1,
        subst (λ (r : Result (List Stroke) SmfFault). OfStrokes head read r (Ok read_exercise)) (sym file.3) (
          played,
          subst (λ (ns : List Played). IsInOrder ns played) (sym notes) (notes_in_order score.columns ex.voices),
          sym notes_read,
        ),
      )
    where
      layout : Bool → Layout
      layout t = record { format = 1; top_first = t }

-- what is written reads back
pub reads_back : ReadsBack
reads_back ex score head sounding of =
    let exercise = read_exercise ex score head sounding of in
    let read = file_read ex score head sounding of in (
      exercise,
      (read, λ other h. reading_once head (smf_of score) other (Ok exercise) h read),
      is_read_back ex score head sounding of,
    )
