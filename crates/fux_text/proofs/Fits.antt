-- The cells of each voice fit what is given just where those of a setting do (`score-fits`,
-- `line-fits`).
use Rattle.std.proofs.Common.{◌≡◌, ℕ, suc, ◌*◌, ◌<◌, Bool, true, false, List, [], ◌∷◌, get_or, length, map, None, refl, sym, subst, ◌∙◌, arith}
use Rattle.std.specs.Prelude.{◌==◌, ◌&&◌, All, IsTrue, find}
use Rattle.std.specs.List.{range_with_len}
use Rattle.std.proofs.lemmas.Bool.{eqb-true, ne_eqb}
use Rattle.std.proofs.lemmas.List.{get_or-map}
use Rattle.std.proofs.lemmas.List.FromFn.{get_or-map-range_with_len, get_or-range_with_len, length-map-range_with_len, length-range_with_len}
use Rattle.std.proofs.lemmas.List.Sums.{AllPass-from_list_all, list_all-from_AllPass}
use Rattle.fux_grid.specs.declared.cell.Cell.{Cell}
use Rattle.fux_grid.specs.declared.cell.Cell.TheVariants.{Rest}
use Rattle.fux_grid.specs.declared.exercise.Exercise.{Exercise}
use Rattle.fux_grid.specs.declared.given.GivenBar.{GivenBar}
use Rattle.fux_grid.specs.Cells.{cell_in}
use Rattle.fux_grid.specs.Columns.{line}
use Rattle.fux_grid.specs.Exercises.{FitsGiven, IsGivenBar, bar_of, given_at}
use Rattle.fux_grid.specs.Givens.{fits}
use Rattle.fux_grid.proofs.GivenLemmas.{given_at-none}
use Rattle.fux_text.specs.Fitting.{line_fits}
use Rattle.fux_text.proofs.Alike.{alike}
use Rattle.voice_lines.specs.Lines.{column_of, score_of}
use Rattle.voice_lines.proofs.Scores.{column-cell}

-- ---- from the voices to the setting

-- each cell of a voice that fits does so
cell-fits : (ex : Exercise) (v i : ℕ) (cells : List Cell) → line_fits ex v cells ≡ true → i < 8 * ex.bars
    → fits (given_at ex i v) (cell_in cells i) ≡ true
unfolding line_fits
cell-fits ex v i cells e lt =
    let all = range_with_len 0 (8 * ex.bars) in
    let at : get_or all i 0 ≡ i = get_or-range_with_len 0 (8 * ex.bars) i 0 lt ∙ omega arith in
    subst (λ k. fits (given_at ex k v) (cell_in cells k) ≡ true) at
    (AllPass-from_list_all (λ k. fits (given_at ex k v) (cell_in cells k)) all e i 0
    (omega (arith, lt, length-range_with_len 0 (8 * ex.bars))))

-- nothing is given to the cantus
none-cantus : (ex : Exercise) (v bar : ℕ) (lines : List GivenBar) → v ≡ ex.cantus_voice → All (IsGivenBar ex) lines
    → find (λ line. (line.voice == v) && (line.bar == bar)) lines ≡ None
none-cantus ex v bar [] same fit = refl
none-cantus ex v bar (line ∷ lines) same fit =
    let one = fit 0 line (omega arith) in
    let other : (line.voice == v) ≡ false = ne_eqb line.voice v (λ e. one.free.no_cantus (e ∙ same)) in
    rw other (none-cantus ex v bar lines same (λ k d lt. fit (suc k) d (omega arith)))

-- what may be given of the cantus is any cell
cantus-fits : (ex : Exercise) (i v : ℕ) (c : Cell) → v ≡ ex.cantus_voice → All (IsGivenBar ex) ex.given
    → IsTrue (fits (given_at ex i v) c)
cantus-fits ex i v c same fit =
    subst (λ given. IsTrue (fits given c)) (given_at-none ex i v (none-cantus ex v (bar_of i) ex.given same fit)) refl

-- lines of which those of the free voices fit are a score that fits
pub score-fits : (ex : Exercise) (lines : List (List Cell)) → All (IsGivenBar ex) ex.given
    → ((v : ℕ) → v < ex.voices → (v == ex.cantus_voice) ≡ false → line_fits ex v (get_or lines v []) ≡ true)
    → FitsGiven ex (score_of (8 * ex.bars) lines).columns
score-fits ex lines fit free = λ i v lt there.
    let low : i < 8 * ex.bars = omega (arith, lt, length-map-range_with_len (column_of lines) 0 (8 * ex.bars)) in
    let col : get_or (map (column_of lines) (range_with_len 0 (8 * ex.bars))) i [] ≡ column_of lines i =
    get_or-map-range_with_len (column_of lines) 0 (8 * ex.bars) i i [] low (omega arith) in
    subst (λ c. IsTrue (fits (given_at ex i v) (cell_in c v))) (sym col)
    (subst (λ c. IsTrue (fits (given_at ex i v) c)) (sym (column-cell lines i v))
    (by i v low there (v == ex.cantus_voice) refl))
  where
    by : (i v : ℕ) → i < 8 * ex.bars → v < ex.voices → (b : Bool) → (v == ex.cantus_voice) ≡ b
        → IsTrue (fits (given_at ex i v) (cell_in (get_or lines v []) i))
    by i v low there true e = cantus-fits ex i v (cell_in (get_or lines v []) i) (eqb-true v ex.cantus_voice e) fit
    by i v low there false e = cell-fits ex v i (get_or lines v []) (free v there e) low

-- ---- from the setting to the voices

pub line-fits : (ex : Exercise) (v : ℕ) (columns : List (List Cell)) → length columns ≡ 8 * ex.bars → v < ex.voices
    → FitsGiven ex columns → line_fits ex v (line v columns) ≡ true
unfolding line_fits
line-fits ex v columns long there all =
    let slots = range_with_len 0 (8 * ex.bars) in
    list_all-from_AllPass (λ i. fits (given_at ex i v) (cell_in (line v columns) i)) slots
    (λ k d lt.
    let low : k < 8 * ex.bars = omega (arith, lt, length-range_with_len 0 (8 * ex.bars)) in
    let in_score : k < length columns = omega (arith, low, long) in
    let at : k ≡ get_or slots k d = sym (get_or-range_with_len 0 (8 * ex.bars) k d low ∙ omega arith) in
    let cell : cell_in (get_or columns k []) v ≡ cell_in (line v columns) k =
    sym (get_or-map (λ col. cell_in col v) columns k [] Rest in_score) in
    subst (λ i. fits (given_at ex i v) (cell_in (line v columns) i) ≡ true) at
    (subst (λ c. fits (given_at ex k v) c ≡ true) cell (all k v in_score there)))

-- ---- what fits hangs on the notes that are given, on the voices and on the bars alone

pub fits-alike : (ex other : Exercise) (columns : List (List Cell)) → FitsGiven ex columns
    → FitsGiven (alike ex (record other { given = ex.given })) columns
unfolding given_at
fits-alike ex other columns all = λ i v lt there. all i v lt there
