-- The cells of a cantus: those of its voice in a score that has it (`cantus_line`); lines with
-- these cells are such a score (`score_given`).
use Rattle.std.proofs.Common.{◌≡◌, ℕ, zero, suc, ◌+◌, ◌*◌, ◌/◌, ◌%◌, ◌<◌, List, [], ◌∷◌, length, get_or, Option, Some, option_map, slice_get, refl, sym, ap, ◌∙◌, arith, cond, eqb}
use Rattle.std.proofs.lemmas.List.{ext_get_or, length-map}
use Rattle.std.proofs.lemmas.List.FromFn.{get_or-map-range_with_len, length-map-range_with_len}
use Rattle.std.proofs.lemmas.Option.{same_Some}
use Rattle.fux_pitch.specs.declared.pitch.Pitch.{Pitch}
use Rattle.fux_grid.specs.declared.cell.Cell.{Cell}
use Rattle.fux_grid.specs.declared.cell.Cell.TheVariants.{Rest, Hold, Start}
use Rattle.fux_grid.specs.declared.exercise.Exercise.{Exercise}
use Rattle.fux_grid.specs.Cells.{cell_in}
use Rattle.fux_grid.specs.Columns.{line}
use Rattle.fux_grid.specs.Exercises.{HasCantus, IsGiven, cantus_cell}
use Rattle.voice_lines.specs.Lines.{cantus_cells, column_of, score_of}
use Rattle.voice_lines.proofs.Scores.{column-cell, line-cell}

pub length-cantus_cells : (ps : List Pitch) → length (cantus_cells ps) ≡ 8 * length ps
length-cantus_cells [] = refl
length-cantus_cells (p ∷ ps) = omega (arith, length-cantus_cells ps)

-- the cell of a cantus at a column
abbrev cell_at : List Pitch → ℕ → Option Cell
cell_at cantus i = option_map (cantus_cell i) (slice_get cantus (i / 8))

cell_at-later : (p : Pitch) (ps : List Pitch) (j : ℕ) → cell_at (p ∷ ps) (8 + j) ≡ cell_at ps j
cell_at-later p ps j =
    let q : (8 + j) / 8 ≡ suc (j / 8) = omega arith in
    let r : (8 + j) % 8 ≡ j % 8 = omega arith in
    ap (λ k. option_map (cantus_cell (8 + j)) (slice_get (p ∷ ps) k)) q
    ∙ ap (λ m. option_map (λ x. cond (eqb m 0) (Start x) (Hold x)) (slice_get ps (j / 8))) r

pub cantus_cells-at : (cantus : List Pitch) (i : ℕ) → i < 8 * length cantus
    → option_map (cantus_cell i) (slice_get cantus (i / 8)) ≡ Some (cell_in (cantus_cells cantus) i)
cantus_cells-at [] i lt = absurd (omega arith)
cantus_cells-at (p ∷ ps) zero lt = refl
cantus_cells-at (p ∷ ps) (suc zero) lt = refl
cantus_cells-at (p ∷ ps) (suc (suc zero)) lt = refl
cantus_cells-at (p ∷ ps) (suc (suc (suc zero))) lt = refl
cantus_cells-at (p ∷ ps) (suc (suc (suc (suc zero)))) lt = refl
cantus_cells-at (p ∷ ps) (suc (suc (suc (suc (suc zero))))) lt = refl
cantus_cells-at (p ∷ ps) (suc (suc (suc (suc (suc (suc zero)))))) lt = refl
cantus_cells-at (p ∷ ps) (suc (suc (suc (suc (suc (suc (suc zero))))))) lt = refl
cantus_cells-at (p ∷ ps) (suc (suc (suc (suc (suc (suc (suc (suc j)))))))) lt =
    let eight : suc (suc (suc (suc (suc (suc (suc (suc j))))))) ≡ 8 + j = omega arith in
    ap (cell_at (p ∷ ps)) eight ∙ cell_at-later p ps j ∙ cantus_cells-at ps j (omega (arith, lt))

-- the cells of the cantus voice are those of the cantus
pub cantus_line : (ex : Exercise) (columns : List (List Cell)) → length columns ≡ 8 * length ex.cantus
    → HasCantus ex columns → line ex.cantus_voice columns ≡ cantus_cells ex.cantus
cantus_line ex columns long has =
    let whole : length (line ex.cantus_voice columns) ≡ length columns =
    length-map columns (λ col. cell_in col ex.cantus_voice) in
    ext_get_or Rest (line ex.cantus_voice columns) (cantus_cells ex.cantus)
    (whole ∙ long ∙ sym (length-cantus_cells ex.cantus)) (λ i lt.
    let there : i < length columns = omega (arith, lt, whole) in
    line-cell ex.cantus_voice i columns there
    ∙ same_Some _ _ (sym (has i there) ∙ cantus_cells-at ex.cantus i (omega (arith, there, long))))

-- lines of which one has the cells of the cantus are a score with the cantus
pub score_given : (ex : Exercise) (lines : List (List Cell)) → length ex.cantus ≡ ex.bars → length lines ≡ ex.voices
    → ((i : ℕ) → i < 8 * ex.bars → cell_in (get_or lines ex.cantus_voice []) i ≡ cell_in (cantus_cells ex.cantus) i)
    → IsGiven ex (score_of (8 * ex.bars) lines)
score_given ex lines whole voices cantus =
    let long = length-map-range_with_len (column_of lines) 0 (8 * ex.bars) in
    record {
      complete = record { voices = voices; whole = long };
      cantus = λ i lt.
          let low : i < 8 * ex.bars = omega (arith, lt, long) in
          cantus_cells-at ex.cantus i (omega (arith, low, whole))
          ∙ ap Some (sym (column-cell lines i ex.cantus_voice ∙ cantus i low)
          ∙ ap (λ (col : List Cell). cell_in col ex.cantus_voice)
          (sym (get_or-map-range_with_len (column_of lines) 0 (8 * ex.bars) i i [] low (omega arith))));
    }
