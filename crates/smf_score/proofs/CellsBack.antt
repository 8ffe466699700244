-- The notes of a written file sound as the score does, each pitch as its key is spelled
-- (`lines_back`).
use Rattle.std.proofs.Common.{◌≡◌, ℕ, suc, ◌+◌, ◌-◌, ◌*◌, IsTrue, List, [], ◌∷◌, ◌++◌, length, map, replicate, true, refl, sym, ◌∙◌, ap, arith}
use Rattle.std.specs.Prelude.{reverse}
use Rattle.std.proofs.Math.ListN.{get_or-map}
use Rattle.std.proofs.lemmas.List.{length-map}
use Rattle.fux_pitch.specs.declared.pitch.Pitch.{Pitch}
use Rattle.fux_pitch.specs.Pitch.{same_pitch}
use Rattle.fux_pitch.proofs.PitchLemmas.{equal_from_test}
use Rattle.fux_grid.specs.declared.cell.Cell.{Cell}
use Rattle.fux_grid.specs.declared.cell.Cell.TheVariants.{Rest, Hold, Start}
use Rattle.fux_grid.specs.declared.cell.Note.{Note}
use Rattle.fux_grid.specs.Cells.{cell_follows, cell_in}
use Rattle.fux_grid.specs.Columns.{HistoryFollows, line}
use Rattle.smf_score.specs.Lines.{holds_ahead, notes_of}
use Rattle.smf_score.specs.ReadBack.{respelled, respelled_cell}
use Rattle.smf_score.specs.Sounding.{cells_of, lines_of}
use Rattle.smf_score.proofs.FileBack.{AreInTurn, in_turn, voice_notes}
use Rattle.smf_score.proofs.NotesBack.{placed_note, placed_voices}
use Rattle.voice_lines.specs.Lines.{LineFollows}
use Rattle.voice_lines.proofs.Scores.{line_follows}

pub none_held : (cells : List Cell) → LineFollows Rest cells → holds_ahead cells ≡ 0
none_held [] follows = refl
none_held (Rest ∷ cells) follows = refl
none_held (Start p ∷ cells) follows = refl
none_held (Hold p ∷ cells) follows = let first = follows.0 in absurd cc

-- ---- the cells of the notes of a line

-- before the first note is a rest
rest_first : (at over : ℕ) (notes : List Note) → AreInTurn over (suc at) notes
    → cells_of at over (map placed_note notes) ≡ Rest ∷ cells_of (suc at) over (map placed_note notes)
rest_first at over [] turn =
    let more : over - at ≡ suc (over - suc at) = omega (arith, turn) in rw more refl
rest_first at over (note ∷ notes) turn =
    let more : note.start - at ≡ suc (note.start - suc at) = omega (arith, turn.0) in rw more refl

-- behind a cell, this one alone may be held
abbrev HoldsAlone : Cell → Cell → Type 0
HoldsAlone before held = (p : Pitch) → IsTrue (cell_follows before (Hold p)) → held ≡ Hold (respelled p)

goes_on : (p r : Pitch) → same_pitch p r ≡ true → Hold (respelled p) ≡ Hold (respelled r)
goes_on p r same = ap (λ (q : Pitch). Hold (respelled q)) (equal_from_test p r same)

-- behind a cell, the holds and the notes of a line are its cells
cells_back : (before held : Cell) (at over : ℕ) (cells : List Cell) → HoldsAlone before held
    → LineFollows before cells → at + length cells ≡ over
    → replicate (holds_ahead cells) held ++ cells_of (at + holds_ahead cells) over (map placed_note (notes_of at cells))
    ≡ map respelled_cell cells
cells_back before held at over [] alone follows whole =
    let none : over - (at + 0) ≡ 0 = omega (arith, whole) in rw none refl
cells_back before held at over (Rest ∷ cells) alone follows whole =
    let here : at + 0 ≡ at = omega arith in
    let next : suc at ≡ suc at + 0 = omega arith in
    let notes = map placed_note (notes_of (suc at) cells) in
    rw (
      here,
      rest_first at over (notes_of (suc at) cells) (in_turn (suc at) (suc at) over cells (omega arith)
          (omega (arith, whole))),
    )
    (ap (λ (cs : List Cell). Rest ∷ cs) (ap (λ k. cells_of k over notes) next
    ∙ ap (λ h. replicate h Rest ++ cells_of (suc at + h) over notes) (sym (none_held cells follows.1))
    ∙ cells_back Rest Rest (suc at) over cells (λ p held. absurd cc) follows.1 (omega (arith, whole))))
cells_back before held at over (Hold p ∷ cells) alone follows whole =
    let next : at + suc (holds_ahead cells) ≡ suc at + holds_ahead cells = omega arith in
    let own = alone p follows.0 in
    rw next (ap (λ (cs : List Cell). held ∷ cs) (cells_back (Hold p) held (suc at) over cells
    (λ r same. own ∙ goes_on p r same) follows.1 (omega (arith, whole)))
    ∙ ap (λ (c : Cell). c ∷ map respelled_cell cells) own)
cells_back before held at over (Start p ∷ cells) alone follows whole =
    let none : at - (at + 0) ≡ 0 = omega arith in
    let count : at + suc (holds_ahead cells) - at - 1 ≡ holds_ahead cells = omega arith in
    let next : at + suc (holds_ahead cells) ≡ suc at + holds_ahead cells = omega arith in
    rw (none, count, next) (ap (λ (cs : List Cell). Start (respelled p) ∷ cs)
    (cells_back (Start p) (Hold (respelled p)) (suc at) over cells (goes_on p) follows.1 (omega (arith, whole))))

-- ---- the voices

line_back : (columns : List (List Cell)) (bars v : ℕ) → HistoryFollows (reverse columns) → length columns ≡ 8 * bars
    → cells_of 0 (8 * bars) (map placed_note (voice_notes columns v)) ≡ map respelled_cell (line v columns)
line_back columns bars v follows whole =
    let turn = line_follows v columns follows in
    let notes = map placed_note (voice_notes columns v) in
    ap (λ h. replicate h Rest ++ cells_of (0 + h) (8 * bars) notes) (sym (none_held (line v columns) turn))
    ∙ cells_back Rest Rest 0 (8 * bars) (line v columns) (λ p held. absurd cc) turn
    (omega (arith, whole, length-map columns (λ (col : List Cell). cell_in col v)))

-- the columns of a score with each pitch spelled by its key
abbrev pub respelled_columns : List (List Cell) → List (List Cell)
respelled_columns columns = map (map respelled_cell) columns

pub respelled_line : (v : ℕ) (columns : List (List Cell))
    → map respelled_cell (line v columns) ≡ line v (respelled_columns columns)
respelled_line v [] = refl
respelled_line v (col ∷ columns) = rw (get_or-map respelled_cell col v Rest, respelled_line v columns) refl

pub lines_back : (columns : List (List Cell)) (bars : ℕ) (vs : List ℕ) → HistoryFollows (reverse columns)
    → length columns ≡ 8 * bars
    → lines_of bars (placed_voices columns vs) ≡ map (λ v. line v (respelled_columns columns)) vs
lines_back columns bars [] follows whole = refl
lines_back columns bars (v ∷ vs) follows whole =
    rw (line_back columns bars v follows whole, respelled_line v columns, lines_back columns bars vs follows whole) refl
