-- The file of a setting of a lesson is joined to it again (`joins_back`), and is joined to it so
-- alone (`joined_once`).
use Rattle.std.proofs.Common.{◌≡◌, ◌≢◌, ne_eqb, ℕ, zero, suc, ◌+◌, ◌*◌, ◌/◌, ◌%◌, ◌<◌, ◌≤◌, Bool, true, false, List, [], ◌∷◌, ◌++◌, Contains, filter, length, get_or, map, Option, Some, None, Result, Ok, Err, refl, sym, ◌∙◌, ap, subst, arith}
use Rattle.std.specs.Prelude.{◌==◌, if◌then◌else◌, unsigned_abs}
use Rattle.std.specs.List.{range_with_len}
use Rattle.std.specs.Option.{option_to_list, unwrap_or}
use Rattle.std.proofs.lemmas.Bool.{eq-eqb, le-ltb}
use Rattle.std.proofs.lemmas.List.{length-map, ext_get_or}
use Rattle.std.proofs.lemmas.List.FromFn.{get_or-map-range_with_len, get_or-range_with_len, length-map-range_with_len, length-range_with_len}
use Rattle.std.proofs.Math.ListN.{get_or-map}
use Rattle.fux_pitch.specs.declared.pitch.Pitch.{Pitch}
use Rattle.fux_pitch.proofs.SpellingLemmas.{key_of-from_spelled}
use Rattle.fux_grid.specs.declared.cell.Cell.{Cell}
use Rattle.fux_grid.specs.declared.cell.Cell.TheVariants.{Rest}
use Rattle.fux_grid.specs.declared.exercise.Exercise.{Exercise}
use Rattle.fux_grid.specs.declared.exercise.Head.{Head}
use Rattle.fux_grid.specs.Cells.{cell_in}
use Rattle.fux_grid.specs.Columns.{line}
use Rattle.fux_grid.specs.Exercises.{IsFree}
use Rattle.fux_grid.specs.Grid.{Grid}
use Rattle.smf_bytes.specs.declared.fault.ByteFault.{ByteFault}
use Rattle.smf_bytes.specs.Events.{Answers, File}
use Rattle.smf_bytes.specs.Messages.{Message, Off, On, Other, Meta, System}
use Rattle.smf_bytes.proofs.FileLemmas.{file_is}
use Rattle.smf_score.specs.declared.fault.SmfFault.{SmfFault}
use Rattle.smf_score.specs.declared.placed.Placed.{Placed}
use Rattle.smf_score.specs.declared.played.Played.{Played}
use Rattle.smf_score.specs.declared.strokes.Stroke.{Stroke}
use Rattle.smf_score.specs.Lines.{notes_of}
use Rattle.smf_score.specs.Order.{IsInOrder}
use Rattle.smf_score.specs.Faults.{each}
use Rattle.smf_score.specs.Placing.{voice_placed, voices_of, voices_placed}
use Rattle.smf_score.proofs.EachLemmas.{each_ok, ok_is}
use Rattle.smf_score.specs.Played.{notes_in}
use Rattle.smf_score.specs.ReadBack.{IsHeadOf, IsSounding, respelled, respelled_cell}
use Rattle.smf_score.specs.Sounding.{cells_of}
use Rattle.smf_score.specs.Strokes.{strokes_in}
use Rattle.smf_score.specs.Written.{midi_key, smf_of}
use Rattle.smf_score.proofs.CellsBack.{lines_back, respelled_line}
use Rattle.smf_score.proofs.FileBack.{file_back, file_header, meant_by, meant_in, voice_notes, voices_played}
use Rattle.smf_score.proofs.NotesBack.{all_placed, notes_in_order, placed_note, placed_voices, spelled_as}
use Rattle.smf_score.proofs.OrderLemmas.{one_order}
use Rattle.smf_score.proofs.RoundTrip.{last_is, own_cantus}
use Rattle.smf_score.specs.declared.join_fault.JoinFault.{JoinFault}
use Rattle.smf_score.specs.declared.manner.Manner.{Manner}
use Rattle.smf_score.specs.declared.meters.Signature.{Signature}
use Rattle.smf_score.specs.LessonCantus.{are_late, bar_fault, cantus_fault, in_bar}
use Rattle.smf_score.specs.Joined.{bars_in, joined, line_of, score_in, unless, voices_fault}
use Rattle.smf_score.specs.Meters.{meter_in, signature_in, signature_of, signatures_in}
use Rattle.smf_score.specs.Orders.{cantus_at, only, sounding, sounds, voice_of}
use Rattle.smf_score.specs.JoinBack.{IsSpelled, JoinsBack, as_written}
use Rattle.smf_score.specs.Joining.{IsJoined, OfHeader, OfMeter, OfStrokes, joined_notes, joined_voices}
use Rattle.smf_score.specs.Staves.{voices_heard}
use Rattle.smf_score.proofs.JoinedLemmas.{counted}
use Rattle.voice_lines.specs.Lines.{cantus_cells, score_of}
use Rattle.voice_lines.proofs.Scores.{line-cell, score_own}

-- ---- one reading

module _ (lesson : Exercise) (manner : Manner) (a b : Result Grid JoinFault) where
  meter_once : (file : File) (strokes : List Stroke) (r : Result ℕ JoinFault)
      → OfMeter lesson manner file strokes r a → OfMeter lesson manner file strokes r b → a ≡ b
  meter_once file strokes (Err fault) first second = first ∙ sym second
  meter_once file strokes (Ok wholes) first second =
      let notes = notes_in (record { format = file.header.format; top_first = manner.top_first }) strokes in
      let same = one_order notes first.0 second.0 first.1 second.1 in
      first.2 ∙ ap (λ (ns : List Played). joined_notes lesson manner.legato (wholes * file.header.division) ns) same ∙ sym second.2

  strokes_once : (file : File) (r : Result (List Stroke) SmfFault) → OfStrokes lesson manner file r a
      → OfStrokes lesson manner file r b → a ≡ b
  strokes_once file (Err fault) first second = first ∙ sym second
  strokes_once file (Ok strokes) first second =
      meter_once file strokes (meter_in file.header.division (signatures_in file.answers)) first second

  header_once : (r : Result File ByteFault) → OfHeader lesson manner r a → OfHeader lesson manner r b → a ≡ b
  header_once (Err fault) first second = first ∙ sym second
  header_once (Ok file) first second = strokes_once file (strokes_in file.answers) first second

  pub joined_once : (bytes : List ℕ) → IsJoined lesson manner bytes a → IsJoined lesson manner bytes b → a ≡ b
  joined_once bytes (one, file, first) (other, same, second) =
      header_once one first (subst (λ (r : Result File ByteFault). OfHeader lesson manner r b)
      (file_is bytes other same ∙ sym (file_is bytes one file)) second)

-- ---- the signatures of a written file

-- what is meant by a signature
abbrev signature_meant : ℕ × ℕ × List ℕ → Option Signature
signature_meant (tick, number, bytes) = if number == 0x58 then signature_in tick bytes else None

abbrev meant_signatures : List (ℕ × ℕ × List ℕ) → List Signature
meant_signatures [] = []
meant_signatures (one ∷ more) = option_to_list (signature_meant one) ++ meant_signatures more

-- an event's signature is the one that is meant by it
one_signature : (tick : ℕ) (message : Message) (rest : List (ℕ × ℕ × List ℕ))
    → meant_signatures (meant_by tick message ++ rest) ≡ option_to_list (signature_of tick message) ++ meant_signatures rest
one_signature tick (Off channel key) rest = refl
one_signature tick (On channel key velocity) rest = refl
one_signature tick (Other channel) rest = refl
one_signature tick (System bytes) rest = refl
one_signature tick (Meta number bytes) rest = by (number == 0x2F) refl
  where
    by : (b : Bool) → number == 0x2F ≡ b
        → meant_signatures ((if b then [] else (tick, number, bytes) ∷ []) ++ rest)
        ≡ option_to_list (signature_of tick (Meta number bytes)) ++ meant_signatures rest
    by true ends =
        let other : number == 0x58 ≡ false = grind (arith, ends) in
        rw other refl
    by false on = refl

signatures_are : (answers : Answers) → signatures_in answers ≡ meant_signatures (meant_in answers)
signatures_are [] = refl
signatures_are (Ok event ∷ answers) =
    ap (λ l. option_to_list (signature_of event.tick event.message) ++ l) (signatures_are answers)
    ∙ sym (one_signature event.tick event.message (meant_in answers))
signatures_are (Err fault ∷ answers) = refl

-- ---- voices with tracks of their own

-- as many are read as there are
each_long : {X Y : Type 0} (read : X → Result Y SmfFault) (xs : List X) (ys : List Y) → each read xs ≡ Ok ys
    → length xs ≡ length ys
unfolding each
each_long read [] ys all = ap length (ok_is [] ys all)
each_long read (x ∷ xs) ys all =
    let parts = each_ok read x xs ys all in
    let more = each_long read xs parts.1 parts.3 in
    omega (arith, more, ap length parts.4)

-- where there are as many tracks as the lesson has voices, each is a voice
own_tracks : (lesson : Exercise) (division : ℕ) (notes : List Played) → lesson.voices ≤ length (voices_of notes)
    → voices_heard lesson false division notes ≡ voices_placed division (voices_of notes)
own_tracks lesson division notes many = rw (le-ltb (length (voices_of notes)) lesson.voices many) refl

-- ---- the notes of a cantus

-- a whole note of each pitch
abbrev whole_notes : ℕ → List Pitch → List Placed
whole_notes at [] = []
whole_notes at (p ∷ cantus) =
    record { start = at; end = at + 8; pitch = respelled p }
    ∷ whole_notes (suc (suc (suc (suc (suc (suc (suc (suc at)))))))) cantus

cantus_notes : (at : ℕ) (cantus : List Pitch)
    → map placed_note (notes_of at (cantus_cells cantus)) ≡ whole_notes at cantus
cantus_notes at [] = refl
cantus_notes at (p ∷ []) = refl
cantus_notes at (p ∷ q ∷ cantus) =
    ap (λ (ns : List Placed). record { start = at; end = at + 8; pitch = respelled p } ∷ ns)
    (cantus_notes (suc (suc (suc (suc (suc (suc (suc (suc at)))))))) (q ∷ cantus))

-- a pitch has the key that it is spelled by
own_key : (p : Pitch) → midi_key (respelled p) ≡ midi_key p
own_key p = ap unsigned_abs (key_of-from_spelled (midi_key p) (Some (respelled p)) (sym (spelled_as p)))

own_sound : (at : ℕ) (cantus : List Pitch) → sounds cantus (whole_notes at cantus) ≡ true
own_sound at [] = refl
own_sound at (p ∷ cantus) =
    rw (eq-eqb (midi_key (respelled p)) (midi_key p) (own_key p))
    (own_sound (suc (suc (suc (suc (suc (suc (suc (suc at)))))))) cantus)

-- no note begins in a bar before the first
none_before : (bar at : ℕ) (cantus : List Pitch) → 8 * bar + 8 ≤ at → in_bar bar (whole_notes at cantus) ≡ []
none_before bar at [] later = refl
none_before bar at (p ∷ cantus) later =
    let other : at / 8 ≢ bar = λ same. omega (arith, same, later) in
    rw (ne_eqb (at / 8) bar other)
    (none_before bar (suc (suc (suc (suc (suc (suc (suc (suc at)))))))) cantus (omega (arith, later)))

-- a note of a bar that went by changes nothing
gone_by : (bar : ℕ) (cantus : List Pitch) (note : Placed) (notes : List Placed) → note.start / 8 < bar
    → cantus_fault bar cantus (note ∷ notes) ≡ cantus_fault bar cantus notes
gone_by bar [] note notes before = refl
gone_by bar (p ∷ cantus) note notes before =
    let other : note.start / 8 ≢ bar = λ same. omega (arith, same, before) in
    rw (ne_eqb (note.start / 8) bar other, gone_by (bar + 1) cantus note notes (omega (arith, before))) refl

-- a cantus has no fault
no_fault : (bar at : ℕ) (cantus : List Pitch) → at ≡ 8 * bar → cantus_fault bar cantus (whole_notes at cantus) ≡ None
no_fault bar at [] is = refl
no_fault bar at (p ∷ cantus) is =
    let next = suc (suc (suc (suc (suc (suc (suc (suc at))))))) in
    let rest = whole_notes next cantus in
    let first : Placed = record { start = at; end = at + 8; pitch = respelled p } in
    let here : at / 8 ≡ bar = omega (arith, is) in
    let begins : at % 8 ≡ 0 = omega (arith, is) in
    let ends : at + 8 ≡ 8 * bar + 8 = omega (arith, is) in
    let alone : in_bar bar (first ∷ rest) ≡ first ∷ [] =
    rw (eq-eqb (at / 8) bar here, none_before bar next cantus (omega (arith, is))) refl in
    let right : bar_fault bar p (first ∷ []) ≡ None =
    rw (begins, ends, le-ltb (8 * bar + 8) (8 * bar + 8) (omega arith), eq-eqb (midi_key (respelled p)) (midi_key p) (own_key p)) refl in
    rw (alone, right)
    (gone_by (bar + 1) cantus first rest (omega (arith, here))
    ∙ no_fault (bar + 1) next cantus (omega (arith, is)))

-- ---- where the cantus is

-- what one of some numbers is, where it is the only one, or else that number
only_or : (xs : List ℕ) (x : ℕ) → Contains xs x → unwrap_or (only xs) x ≡ x
only_or [] x one = refl
only_or (y ∷ []) x (zero, within, is) = is
only_or (y ∷ []) x (suc k, within, is) = absurd (omega (arith, within))
only_or (y ∷ z ∷ xs) x one = refl

kept : (p : ℕ → Bool) (xs : List ℕ) (x : ℕ) → Contains xs x → p x ≡ true → Contains (filter p xs) x
kept p [] x (k, within, is) passes = absurd (omega (arith, within))
kept p (y ∷ ys) x (zero, within, is) passes = rw (ap p is ∙ passes) (0, omega arith, is)
kept p (y ∷ ys) x (suc k, within, is) passes = by (p y) refl (kept p ys x (k, omega (arith, within), is) passes)
  where
    by : (b : Bool) → p y ≡ b → Contains (filter p ys) x → Contains (filter p (y ∷ ys)) x
    by true here (k, within, is) = rw here (suc k, omega (arith, within), is)
    by false here below = rw here below

-- ---- the setting

module _ (lesson : Exercise) (score : Grid) (sounding_is : IsSounding lesson score) (own : IsSpelled lesson score) where
  abbrev columns : List (List Cell)
  columns = score.columns

  abbrev cantus : ℕ
  cantus = lesson.cantus_voice

  -- a head of the lesson
  abbrev head : Head
  head = record {
    mode = lesson.mode;
    species = lesson.species;
    species_voice = lesson.species_voice;
    cantus_voice = lesson.cantus_voice;
    top_first = false;
  }

  of_head : IsHeadOf lesson head
  of_head = record { species_voice = sounding_is.valid.species_there; cantus_voice = refl; lowest_first = refl }

  abbrev placed : List (List Placed)
  placed = placed_voices columns (range_with_len 0 lesson.voices)

  long : length placed ≡ lesson.voices
  long = length-map-range_with_len (λ v. map placed_note (voice_notes columns v)) 0 lesson.voices

  whole : length columns ≡ 8 * lesson.bars
  whole = sounding_is.given.complete.whole

  -- the notes of a voice
  placed_at : (v : ℕ) → v < lesson.voices → get_or placed v [] ≡ map placed_note (voice_notes columns v)
  placed_at v there =
      get_or-map-range_with_len (λ w. map placed_note (voice_notes columns w)) 0 lesson.voices v v [] there (omega arith)

  cantus_is : get_or placed cantus [] ≡ whole_notes 0 lesson.cantus
  cantus_is =
      placed_at cantus sounding_is.valid.cantus_there
      ∙ ap (λ (cells : List Cell). map placed_note (notes_of 0 cells)) (own_cantus lesson score head sounding_is of_head)
      ∙ cantus_notes 0 lesson.cantus

  -- the cantus is found at its place
  found : cantus_at lesson placed ≡ cantus
  found =
      let there : cantus < length placed = omega (arith, long, sounding_is.valid.cantus_there) in
      only_or (sounding lesson.cantus placed) cantus
      (kept (λ v. sounds lesson.cantus (get_or placed v [])) (range_with_len 0 (length placed)) cantus (
        cantus,
        omega (arith, there, length-range_with_len 0 (length placed)),
        get_or-range_with_len 0 (length placed) cantus cantus there ∙ omega arith,
      )
      (ap (sounds lesson.cantus) cantus_is ∙ own_sound 0 lesson.cantus))

  voice_is : (v : ℕ) → voice_of lesson placed v ≡ get_or placed v []
  voice_is v = rw (found, eq-eqb cantus cantus refl) refl

  -- ---- its lines

  -- the cells of a voice with each pitch as its key is spelled
  own_line : (v : ℕ) → IsFree lesson v → map respelled_cell (line v columns) ≡ line v columns
  own_line v free =
      let count : length (line v columns) ≡ length columns = length-map columns (λ (col : List Cell). cell_in col v) in
      ext_get_or Rest (map respelled_cell (line v columns)) (line v columns) (length-map (line v columns) respelled_cell)
      (λ i within.
      let there : i < length columns = omega (arith, within, count, length-map (line v columns) respelled_cell) in
      get_or-map respelled_cell (line v columns) i Rest
      ∙ ap respelled_cell (line-cell v i columns there) ∙ own v i free there ∙ sym (line-cell v i columns there))

  free_line : (v : ℕ) → IsFree lesson v → cells_of 0 (8 * lesson.bars) (get_or placed v []) ≡ line v columns
  free_line v free =
      ap (cells_of 0 (8 * lesson.bars)) (placed_at v free.there)
      ∙ ap (λ (ls : List (List Cell)). get_or ls 0 []) (lines_back columns lesson.bars (v ∷ []) sounding_is.follows whole)
      ∙ sym (respelled_line v columns) ∙ own_line v free

  one_line : (v : ℕ) → v < lesson.voices → line_of lesson placed v ≡ line v columns
  one_line v there = by (v == cantus) refl
    where
      by : (b : Bool) → v == cantus ≡ b
          → (if b then cantus_cells lesson.cantus else cells_of 0 (8 * lesson.bars) (voice_of lesson placed v))
          ≡ line v columns
      by true is =
          let same : v ≡ cantus = grind (arith, is) in
          sym (own_cantus lesson score head sounding_is of_head) ∙ ap (λ w. line w columns) (sym same)
      by false is =
          let other : v ≢ cantus = λ same. grind (arith, is, same) in
          ap (cells_of 0 (8 * lesson.bars)) (voice_is v) ∙ free_line v (record { there = there; no_cantus = other })

  some_lines : (from count : ℕ) → from + count ≤ lesson.voices
      → map (line_of lesson placed) (range_with_len from count) ≡ map (λ v. line v columns) (range_with_len from count)
  some_lines from zero within = refl
  some_lines from (suc more) within =
      rw (one_line from (omega (arith, within)), some_lines (from + 1) more (omega (arith, within))) refl

  score_back : score_in lesson placed ≡ score
  score_back =
      ap (score_of (8 * lesson.bars)) (some_lines 0 lesson.voices (omega arith))
      ∙ score_own (8 * lesson.bars) lesson.voices columns whole sounding_is.full
      ∙ ap (λ v. record { voices = v; columns = columns }) (sym sounding_is.given.complete.voices)

  -- ---- it has no fault

  none_late : (cantus : List Pitch) → are_late (whole_notes 0 cantus) ≡ false
  none_late [] = refl
  none_late (p ∷ ps) = refl

  right : voices_fault lesson placed ≡ None
  right =
      let notes : voice_of lesson placed cantus ≡ whole_notes 0 lesson.cantus = voice_is cantus ∙ cantus_is in
      let last = last_is lesson score head sounding_is of_head in
      let bars : bars_in placed ≡ lesson.bars = omega (arith, last) in
      rw (notes, none_late lesson.cantus, eq-eqb (bars_in placed) lesson.bars bars) (no_fault 0 0 lesson.cantus refl)

  joined_is : joined lesson placed ≡ Ok score
  joined_is =
      counted lesson placed long ∙ ap (λ fault. unless fault (Ok (score_in lesson placed))) right ∙ ap Ok score_back

  notes_joined : joined_notes lesson false 480 (voices_played columns 0 lesson.voices) ≡ Ok score
  unfolding joined_notes
  notes_joined =
      let notes = voices_played columns 0 lesson.voices in
      let own = all_placed columns lesson.voices sounding_is.notes in
      let tracks = each_long (voice_placed 480) (voices_of notes) placed own in
      ap (joined_voices lesson) (own_tracks lesson 480 notes (omega (arith, tracks, long)) ∙ own) ∙ joined_is

  file_joined : IsJoined lesson as_written (smf_of score) (Ok score)
  file_joined =
      let few : length columns ≤ 192 = omega (arith, whole, sounding_is.valid.most_bars) in
      let count = sounding_is.given.complete.voices in
      let file = file_back score few (omega (arith, count, sounding_is.valid.most_voices)) in
      let read : File = record { header = file_header score.voices; answers = file.0 } in
      let played = voices_played columns 0 lesson.voices in
      let notes : notes_in (record { format = 1; top_first = false }) file.2 ≡ played =
      file.4 ∙ ap (voices_played columns 0) count in
      let meter : meter_in 480 (signatures_in file.0) ≡ Ok 1 =
      ap (meter_in 480) (signatures_are file.0 ∙ ap meant_signatures file.5) in (
        Ok read,
        file.1,
        subst (λ (r : Result (List Stroke) SmfFault). OfStrokes lesson as_written read r (Ok score)) (sym file.3)
            (subst (λ (r : Result ℕ JoinFault). OfMeter lesson as_written read file.2 r (Ok score)) (sym meter) (
              played,
              subst (λ (ns : List Played). IsInOrder ns played) (sym notes) (notes_in_order columns lesson.voices),
              sym notes_joined,
            )),
      )

pub joins_back : JoinsBack
joins_back lesson score sounding own =
    let file = file_joined lesson score sounding own in
    (file, λ other is. joined_once lesson as_written other (Ok score) (smf_of score) is file)
