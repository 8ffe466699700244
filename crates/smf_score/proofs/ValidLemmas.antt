-- What is read (`exercise_is`) is a valid exercise (`with_valid`): the cells of its voices follow
-- one another (`lines_follow`), and each free voice has a range line (`one_range`).
use Rattle.std.proofs.Common.{◌≡◌, ◌≢◌, ℕ, zero, suc, ◌+◌, ◌-◌, ◌*◌, ◌<◌, ◌≤◌, ◌⊎◌, inl, inr, Bool, true, false, List, [], ◌∷◌, ◌++◌, length, get_or, drop, replicate, Option, Some, None, Ok, refl, sym, ◌∙◌, ap, subst, arith, cond, eqb, ne_eqb, pos, ◌≤ℤ◌, unsigned_abs, lit≤, append_assoc, add-one}
use Rattle.std.specs.Prelude.{All, IsSome, IsTrue, filter}
use Rattle.std.specs.List.{AllByRecursion}
use Rattle.std.specs.Option.{option_to_list}
use Rattle.std.proofs.Math.Seq.{drop-cons}
use Rattle.std.proofs.lemmas.Bool.{cases_lt, eq-eqb}
use Rattle.std.proofs.lemmas.Bool.Decides.{nat_tests}
use Rattle.std.proofs.lemmas.Int.{ints}
use Rattle.std.proofs.lemmas.List.{append-nil, drop_all, get_or-map, get_or-take, length-append, length-map, length-replicate}
use Rattle.std.proofs.lemmas.List.Elements.{All-append, All-nil, All-cons, All-head, All-tail, filter-append}
use Rattle.fux_pitch.specs.declared.pitch.Pitch.{Pitch}
use Rattle.fux_pitch.specs.Pitch.{key_of}
use Rattle.fux_pitch.proofs.PitchLemmas.{key_of-number}
use Rattle.fux_grid.specs.declared.cell.Cell.{Cell}
use Rattle.fux_grid.specs.declared.cell.Cell.TheVariants.{Rest, Hold, Start}
use Rattle.fux_grid.specs.declared.exercise.Exercise.{Exercise}
use Rattle.fux_grid.specs.declared.exercise.Head.{Head}
use Rattle.fux_grid.specs.declared.exercise.RangeLine.{RangeLine}
use Rattle.fux_grid.specs.Cells.{cell_follows, cell_in}
use Rattle.fux_grid.specs.Exercises.{BeginsWithWhole, IsRangeLine, IsValid}
use Rattle.fux_grid.proofs.GivenLemmas.{nothing_given}
use Rattle.fux_grid.proofs.PitchTests.{same_pitch-from_equal}
use Rattle.smf_score.specs.declared.placed.Placed.{Placed}
use Rattle.smf_score.specs.Cantus.{cantus_in}
use Rattle.smf_score.specs.Exercise.{bars_in, voices_in, exercise_with, exercise_in}
use Rattle.smf_score.specs.Heads.{IsHead}
use Rattle.smf_score.specs.Ranges.{HaveNotes, free_range, high_with, low_with, range_in, ranges_in, widened}
use Rattle.smf_score.specs.Sounding.{cells_of, lines_of}
use Rattle.smf_score.specs.Written.{midi_key}
use Rattle.smf_score.proofs.CantusLemmas.{cantus_is}
use Rattle.smf_score.proofs.EachLemmas.{value_then}
use Rattle.voice_lines.specs.Lines.{LineFollows, cantus_cells, note_cells}
use Rattle.voice_lines.proofs.CantusLines.{score_given}
use Rattle.voice_lines.proofs.Scores.{rest_follows, start_follows}

-- ---- the cells of a voice

rests_follow : (c : Cell) (n : ℕ) (cells : List Cell) → ((b : Cell) → LineFollows b cells)
    → LineFollows c (replicate n Rest ++ cells)
rests_follow c zero cells behind = behind c
rests_follow c (suc n) cells behind = (rest_follows c, rests_follow Rest n cells behind)

holds_follow : (c : Cell) (p : Pitch) (n : ℕ) (cells : List Cell) → IsTrue (cell_follows c (Hold p))
    → ((b : Cell) → LineFollows b cells) → LineFollows c (replicate n (Hold p) ++ cells)
holds_follow c p zero cells held behind = behind c
holds_follow c p (suc n) cells held behind =
    (held, holds_follow (Hold p) p n cells (same_pitch-from_equal p p refl) behind)

pub cells_follow : (at over : ℕ) (notes : List Placed) (c : Cell) → LineFollows c (cells_of at over notes)
cells_follow at over [] c =
    subst (LineFollows c) (append-nil (replicate (over - at) Rest)) (rests_follow c (over - at) [] (λ b. tt))
cells_follow at over (note ∷ notes) c =
    rests_follow c (note.start - at) _ (λ b. (
      start_follows b note.pitch,
      holds_follow (Start note.pitch) note.pitch (note.end - note.start - 1) _ (same_pitch-from_equal note.pitch
          note.pitch refl) (cells_follow note.end over notes),
    ))

pub lines_follow : (bars : ℕ) (voices : List (List Placed)) → AllByRecursion (LineFollows Rest) (lines_of bars voices)
lines_follow bars [] = tt
lines_follow bars (notes ∷ voices) = (cells_follow 0 (8 * bars) notes Rest, lines_follow bars voices)

pub cells_long : (at over : ℕ) (notes : List Placed) → over - at ≤ length (cells_of at over notes)
cells_long at over [] = omega (arith, length-replicate {A = Cell})
cells_long at over (note ∷ notes) =
    let own = note_cells note.pitch (note.end - note.start) in
    let later = cells_of note.end over notes in
    let long = length-append (replicate (note.start - at) Rest) (own ++ later) in
    let rests = length-replicate {A = Cell} (note.start - at) Rest in
    let holds = length-replicate {A = Cell} (note.end - note.start - 1) (Hold note.pitch) in
    omega (arith, cells_long note.end over notes, long, length-append own later, rests, holds)

-- the cells of a voice that is there, in so many bars
pub line_long : (bars v : ℕ) (notes : List (List Placed)) → v < length notes
    → 8 * bars ≤ length (get_or (lines_of bars notes) v [])
line_long bars v notes there =
    subst (λ (cells : List Cell). 8 * bars ≤ length cells)
    (sym (get_or-map (cells_of 0 (8 * bars)) notes v [] [] there))
    (omega (arith, cells_long 0 (8 * bars) (get_or notes v [])))

-- the cantus stands in the setting
cantus_stands : (notes : List (List Placed)) (v bars : ℕ) (ps : List Pitch) → v < length notes
    → cantus_in bars (get_or (lines_of bars notes) v []) ≡ Ok ps
    → (length ps ≡ bars) × ((i : ℕ) → i < 8 * bars
    → cell_in (get_or (lines_of bars notes) v []) i ≡ cell_in (cantus_cells ps) i)
cantus_stands notes v bars ps there e =
    let cells = get_or (lines_of bars notes) v [] in
    let is = cantus_is 0 bars cells ps e (line_long bars v notes there) in
    (is.0, λ i within. sym (get_or-take (8 * bars) cells i Rest within) ∙ ap (λ (cs : List Cell). cell_in cs i) is.1)

key_is : (p : Pitch) → key_of p ≡ pos (midi_key p)
key_is p =
    let key = key_of-number p in
    sym key.1 ∙ ap (λ k. pos k) (ap unsigned_abs key.1)

pos_le : (a b : ℕ) → a ≤ b → pos a ≤ℤ pos b
pos_le a b le = omega (arith, ints)

-- ---- the range lines

-- the range of one voice more
pub ranges_more : (cantus v : ℕ) (voices : List (List Placed)) (lines : List RangeLine) (notes d : List Placed)
    → v < length voices → notes ≡ get_or voices v d
    → (lines ++ free_range cantus v notes) ++ ranges_in cantus (v + 1) (drop (v + 1) voices)
    ≡ lines ++ ranges_in cantus v (drop v voices)
unfolding ranges_in
ranges_more cantus v voices lines notes d more e =
    rw (drop-cons voices v d more, add-one v, ← e)
    (append_assoc lines (free_range cantus v notes) (ranges_in cantus (suc v) (drop (suc v) voices)))

pub ranges_over : (cantus v : ℕ) (voices : List (List Placed)) (lines : List RangeLine) → length voices ≤ v
    → lines ++ ranges_in cantus v (drop v voices) ≡ lines
unfolding ranges_in
ranges_over cantus v voices lines over = rw (drop_all v voices over) (append-nil lines)

rises : (p : Pitch) (o : Option RangeLine) → midi_key (low_with p o) ≤ midi_key (high_with p o)
rises p None = omega arith
rises p (Some line) = grind (arith, nat_tests)

free_fits : (ex : Exercise) (v : ℕ) (notes : List Placed) → v < ex.voices
    → All (IsRangeLine ex) (free_range ex.cantus_voice v notes)
free_fits ex v notes there = at (eqb v ex.cantus_voice) refl notes
  where
    at : (t : Bool) → eqb v ex.cantus_voice ≡ t → (ns : List Placed)
        → All (IsRangeLine ex) (cond t [] (option_to_list (range_in v ns)))
    at true e ns = All-nil (IsRangeLine ex)
    at false e [] = All-nil (IsRangeLine ex)
    at false e (note ∷ ns) =
        All-cons (IsRangeLine ex) (widened v note.pitch (range_in v ns)) [] (record {
          free = record { there = there; no_cantus = λ same. let equal = eq-eqb v ex.cantus_voice same in absurd cc };
          rises = rw (key_is (low_with note.pitch (range_in v ns)), key_is (high_with note.pitch (range_in v ns)))
              (pos_le _ _ (rises note.pitch (range_in v ns)));
          within = tt;
        }) (All-nil (IsRangeLine ex))

ranges_fit : (ex : Exercise) (v : ℕ) (voices : List (List Placed)) → v + length voices ≤ ex.voices
    → All (IsRangeLine ex) (ranges_in ex.cantus_voice v voices)
unfolding ranges_in
ranges_fit ex v [] few = All-nil (IsRangeLine ex)
ranges_fit ex v (notes ∷ voices) few =
    All-append (IsRangeLine ex) (free_range ex.cantus_voice v notes) (ranges_in ex.cantus_voice (suc v) voices)
    (free_fits ex v notes (omega arith)) (ranges_fit ex (suc v) voices (omega arith))

-- the lines of a voice
abbrev of_voice : ℕ → List RangeLine → List RangeLine
of_voice w lines = filter (λ line. eqb line.voice w) lines

none_own : (cantus v w : ℕ) (notes : List Placed) → v ≢ w → of_voice w (free_range cantus v notes) ≡ []
none_own cantus v w notes other = at (eqb v cantus) notes
  where
    at : (t : Bool) (ns : List Placed) → of_voice w (cond t [] (option_to_list (range_in v ns))) ≡ []
    at true ns = refl
    at false [] = refl
    at false (note ∷ ns) = rw (ne_eqb v w other) refl

none_later : (cantus v w : ℕ) (voices : List (List Placed)) → w < v → of_voice w (ranges_in cantus v voices) ≡ []
unfolding ranges_in
none_later cantus v w [] low = refl
none_later cantus v w (notes ∷ voices) low =
    filter-append (λ (line : RangeLine). eqb line.voice w) (free_range cantus v notes) (ranges_in cantus (suc v) voices)
    ∙ rw (none_own cantus v w notes (λ same. absurd (omega (arith, same))), none_later cantus (suc v) w voices (omega arith))
    refl

one_range : (cantus v w : ℕ) (voices : List (List Placed)) → v ≤ w → w < v + length voices → w ≢ cantus
    → HaveNotes voices → BeginsWithWhole (of_voice w (ranges_in cantus v voices))
unfolding ranges_in
one_range cantus v w [] from to free some = absurd (omega arith)
one_range cantus v w (notes ∷ voices) from to free some =
    rw (filter-append (λ (line : RangeLine). eqb line.voice w) (free_range cantus v notes) (ranges_in cantus (suc v) voices))
    (at (cases_lt v w) notes (All-head (λ (ns : List Placed). 1 ≤ length ns) notes voices some) (λ later.
    one_range cantus (suc v) w voices later (omega arith) free
    (All-tail (λ (ns : List Placed). 1 ≤ length ns) notes voices some)))
  where
    at : (v < w) ⊎ (w ≤ v) → (ns : List Placed) → 1 ≤ length ns
        → (suc v ≤ w → BeginsWithWhole (of_voice w (ranges_in cantus (suc v) voices)))
        → BeginsWithWhole (of_voice w (free_range cantus v ns) ++ of_voice w (ranges_in cantus (suc v) voices))
    at (inl less) ns one later =
        rw (none_own cantus v w ns (λ same. absurd (omega (arith, less, same)))) (later (omega arith))
    at (inr past) [] one later = absurd (omega (arith, one))
    at (inr past) (note ∷ ns) one later =
        let same : v ≡ w = omega (arith, past, from) in
        rw (
          none_later cantus (suc v) w voices (omega (arith, same)),
          ne_eqb v cantus (λ e. free (sym same ∙ e)),
          eq-eqb v w same,
        ) (refl, All-nil (λ (l : RangeLine). IsSome l.bars))

-- ---- the exercise

pub with_valid : (head : Head) (notes : List (List Placed)) (bars : ℕ) (cantus : List Pitch) → IsHead head
    → 2 ≤ length notes → length notes ≤ 4 → head.cantus_voice < length notes → head.species_voice < length notes
    → 3 ≤ bars → bars ≤ 24 → HaveNotes notes
    → cantus_in bars (get_or (lines_of bars notes) head.cantus_voice []) ≡ Ok cantus
    → IsValid (exercise_with head notes (length notes) bars cantus)
with_valid head notes bars cantus fits few many cantus_there species_there fewest most some e =
    let ex = exercise_with head notes (length notes) bars cantus in
    let lines = lines_of bars notes in
    let stands = cantus_stands notes head.cantus_voice bars cantus cantus_there e in
    record {
      fewest_voices = few;
      most_voices = many;
      fewest_bars = fewest;
      most_bars = most;
      least_species = fits.least_species;
      most_species = fits.most_species;
      species_there = species_there;
      cantus_there = cantus_there;
      differ = fits.differ;
      mixed = tt;
      whole_cantus = stands.0;
      range_lines_fit = ranges_fit ex 0 notes (omega arith);
      each_has_range = λ v free. one_range head.cantus_voice 0 v notes (omega arith)
          (omega (arith, free.there)) free.no_cantus some;
      relax_fit = All-nil _;
      few_relax = lit≤ tt;
      given_fit = All-nil _;
      given_ascend = λ i j d lt within. absurd (omega (arith, within));
      setting = score_given ex lines stands.0 (length-map notes (cells_of 0 (8 * bars))) stands.1;
      setting_fits = nothing_given ex _ refl;
    }

-- the exercise of notes, where its parts are read
pub exercise_is : (head : Head) (notes : List (List Placed)) (voices bars : ℕ) (cantus : List Pitch)
    → voices_in head (length notes) ≡ Ok voices → bars_in notes ≡ Ok bars
    → cantus_in bars (get_or (lines_of bars notes) head.cantus_voice []) ≡ Ok cantus
    → exercise_in head notes ≡ Ok (exercise_with head notes voices bars cantus)
unfolding exercise_in
exercise_is head notes voices bars cantus a b c =
    value_then (voices_in head (length notes)) _ voices a ∙ value_then (bars_in notes) _ bars b
    ∙ value_then (cantus_in bars (get_or (lines_of bars notes) head.cantus_voice [])) _ cantus c
