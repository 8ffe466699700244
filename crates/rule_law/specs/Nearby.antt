-- Rules and tolls that are read from two neighboring columns.
use Rattle.std.specs.Prelude.{◌≡◌, ℕ, suc, List, [], ◌∷◌, ◌++◌, Option, Some, None, IsTrue, refl, ⊤, length, reverse, slice_index_or}
use Rattle.std.proofs.Common.{ap, sym, ◌∙◌, subst}
use Rattle.fux_pitch.specs.declared.pitch.Pitch.{Pitch}
use Rattle.fux_pitch.proofs.PitchLemmas.{equal_from_test}
use Rattle.fux_grid.specs.declared.cell.Cell.{Cell}
use Rattle.fux_grid.specs.declared.cell.Cell.TheVariants.{Rest, Hold, Start}
use Rattle.fux_grid.specs.Cells.{pitch_of, cell_in, cell_follows, newest, notes_from, first_of}
pub use Rattle.fux_grid.specs.Columns.{cells_before}
use Rattle.fux_grid.specs.Columns.{HistoryFollows, newest_column, line}
use Rattle.rule_law.specs.Terms.{note_pitch, previous_pitch}
use Rattle.rule_law.specs.Places.{Row, reading_of}
use Rattle.rule_law.specs.Law.{reading-at_end}

-- a pitch, or none, for each of four voices
abbrev pub Pitches : Type 0
Pitches = List (Option Pitch)

abbrev pub pitch_at : Pitches → ℕ → Option Pitch
pitch_at pitches v = slice_index_or pitches v None

abbrev pub for_voices : (ℕ → Option Pitch) → Pitches
for_voices pitch = pitch 0 ∷ pitch 1 ∷ pitch 2 ∷ pitch 3 ∷ []

-- an answer from a place, the column before it, the pitch of each voice's previous note, and its
-- column
abbrev pub NearRow : Type 0 → Type 0
NearRow R = ℕ → List Cell → Pitches → List Cell → R

-- the pitch of each voice's previous note, and the pitch that each voice sounds in a column
abbrev pub previous_pitches : List (List Cell) → Pitches
previous_pitches behind = for_voices (λ v. previous_pitch (line v behind))

abbrev pub sounding_pitches : List Cell → Pitches
sounding_pitches col = for_voices (λ v. pitch_of (cell_in col v))

-- the answer in the whole list
abbrev pub whole_of : {R : Type 0} → NearRow R → Row R
whole_of row i behind now ahead = row i (newest_column behind) (previous_pitches behind) now

-- the answer in two neighbors alone: a voice's previous pitch is the one that it sounds in the
-- column before
abbrev pub near_of : {R : Type 0} → NearRow R → ℕ → List Cell → List Cell → R
near_of row i before now = row i before (sounding_pitches before) now

-- rests stand only before a voice's first note
abbrev pub AllRests : List Cell → Type 0
AllRests [] = ⊤
AllRests (Rest ∷ cells) = AllRests cells
AllRests (Hold p ∷ cells) = ⊥
AllRests (Start p ∷ cells) = ⊥

abbrev pub RestsFirst : List Cell → Type 0
RestsFirst [] = ⊤
RestsFirst (Rest ∷ cells) = AllRests cells
RestsFirst (Hold p ∷ cells) = RestsFirst cells
RestsFirst (Start p ∷ cells) = RestsFirst cells

-- how long the newest note has been held changes no pitch
held_any : (h k : ℕ) (cells : List Cell) → note_pitch (first_of (notes_from h cells))
    ≡ note_pitch (first_of (notes_from k cells))
held_any h k [] = refl
held_any h k (Rest ∷ cells) = refl
held_any h k (Hold p ∷ cells) = held_any (suc h) (suc k) cells
held_any h k (Start p ∷ cells) = refl

no_note : (h : ℕ) (cells : List Cell) → AllRests cells → note_pitch (first_of (notes_from h cells)) ≡ None
no_note h [] r = refl
no_note h (Rest ∷ cells) r = no_note 0 cells r
no_note h (Hold p ∷ cells) r = absurd r
no_note h (Start p ∷ cells) r = absurd r

-- the cells of a line follow one another
abbrev pub LineFollows : List Cell → Type 0
LineFollows [] = ⊤
LineFollows (c ∷ cells) = IsTrue (cell_follows (newest cells) c) × LineFollows cells

-- what a hold follows sounds its pitch
held_pitch : (b : Cell) (p : Pitch) → IsTrue (cell_follows b (Hold p)) → pitch_of b ≡ Some p
held_pitch Rest p h = cc
held_pitch (Hold q) p h = ap Some (equal_from_test q p h)
held_pitch (Start q) p h = ap Some (equal_from_test q p h)

-- the previous note's pitch is the one that sounds
pub previous-sounds : (cells : List Cell) → LineFollows cells → RestsFirst cells → previous_pitch cells
    ≡ pitch_of (newest cells)
previous-sounds [] f r = refl
previous-sounds (Rest ∷ cells) f r = no_note 0 cells r
previous-sounds (Start p ∷ cells) f r = refl
previous-sounds (Hold p ∷ cells) f r =
    held_any 1 0 cells ∙ previous-sounds cells f.1 r ∙ held_pitch (newest cells) p f.0

newest-line : (v : ℕ) (behind : List (List Cell)) → newest (line v behind) ≡ cell_in (newest_column behind) v
newest-line v [] = refl
newest-line v (col ∷ behind) = refl

pub line_follows : (v : ℕ) (behind : List (List Cell)) → HistoryFollows behind → LineFollows (line v behind)
line_follows v [] f = tt
line_follows v (col ∷ behind) f =
    let P : Cell → Type 0 = λ c. IsTrue (cell_follows c (cell_in col v)) in
    (subst P (sym (newest-line v behind)) (f.0 v), line_follows v behind f.1)

for_voices_same : (f g : ℕ → Option Pitch) → ((v : ℕ) → f v ≡ g v) → for_voices f ≡ for_voices g
for_voices_same f g e = rw (e 0, e 1, e 2, e 3) refl

-- behind columns that follow one another, with rests only before first notes, both answers are the
-- same
pub near_from_row : {R : Type 0} (row : NearRow R) (i : ℕ) (behind : List (List Cell)) (now : List Cell)
    (ahead : List (List Cell)) → HistoryFollows behind → ((v : ℕ) → RestsFirst (line v behind))
    → whole_of row i behind now ahead ≡ near_of row i (newest_column behind) now
near_from_row row i behind now ahead follows rests =
    ap (λ previous. row i (newest_column behind) previous now)
    (for_voices_same (λ v. previous_pitch (line v behind)) (λ v. pitch_of (cell_in (newest_column behind) v))
    (λ v. previous-sounds (line v behind) (line_follows v behind follows) (rests v)
    ∙ ap pitch_of (newest-line v behind)))

-- at the end of such a list
pub near_at_end : {R : Type 0} (row : NearRow R) (p : List (List Cell)) (next : List Cell) → HistoryFollows (reverse p)
    → ((v : ℕ) → RestsFirst (line v (reverse p))) → reading_of (whole_of row) (p ++ next ∷ []) (length p)
    ≡ near_of row (length p) (newest_column (reverse p)) next
near_at_end row p next follows rests =
    reading-at_end (whole_of row) p next ∙ near_from_row row (length p) (reverse p) next [] follows rests
