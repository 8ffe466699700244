-- A `sing` line is read as the cells of its items (`sing_line-own`), and the line that is written
-- of a voice has the cells of the voice (`sing_words-sung`).
use Rattle.std.proofs.Common.{◌≡◌, ℕ, zero, suc, ◌+◌, ◌-◌, ◌*◌, ◌/◌, ◌<◌, ◌≤◌, Bool, true, List, [], ◌∷◌, ◌++◌, length, length-append, length-drop, map, take, drop, Ok, refl, sym, ap, subst, ◌∙◌, append_assoc, arith}
use Rattle.std.specs.Prelude.{codes}
use Rattle.std.specs.Fmt.{decimal}
use Rattle.std.specs.List.{AllByRecursion, flat_map, range_with_len}
use Rattle.std.proofs.lemmas.Bool.{eq-eqb, ne_eqb}
use Rattle.std.proofs.lemmas.List.Sums.{sum_by-cons}
use Rattle.std.proofs.lemmas.Simd.{map-map}
use Rattle.std.proofs.lemmas.List.{length-replicate, append-nil, drop-map, length-map, length-take-le, take_all, take-map}
use Rattle.std.proofs.lemmas.List.FromFn.{length-map-range_with_len}
use Rattle.std.proofs.Math.Seq.{drop-nil, take-add}
use Rattle.fux_grid.specs.declared.cell.Cell.{Cell}
use Rattle.fux_grid.specs.declared.cell.Cell.TheVariants.{Rest}
use Rattle.fux_grid.specs.Cells.{cell_in, held}
use Rattle.fux_grid.specs.Columns.{line}
use Rattle.fux_grid.specs.Letters.{bar_columns}
use Rattle.fux_text.specs.declared.fault.TextKind.TheVariants as kinds
use Rattle.text_lines.specs.Reading.{headed, literal, next}
use Rattle.text_lines.specs.Rows.{IsRun, row_in}
use Rattle.text_lines.specs.Tables.{line_in}
use Rattle.text_lines.specs.Words.{LineWords}
use Rattle.text_lines.proofs.RowLemmas.{run-gives}
use Rattle.fux_text.specs.Grammar.{IsSung}
use Rattle.fux_text.specs.Items.{item_word, items_of_cells}
use Rattle.fux_text.specs.Lines.{bar_words, between_bar_lines, sing_words}
use Rattle.fux_text.specs.Sing.{item_cells, bar_line_said, latest, sing_row, sung_end, sung_run, sung_word}
use Rattle.fux_text.proofs.NumberWords.{within-own}
use Rattle.fux_text.proofs.Layouts.{at_words, left, places_of, set_out-texts, with_line}
use Rattle.fux_text.proofs.Bars.{IsBar, cells_of, cells_of_bars}
use Rattle.fux_text.proofs.OwnItems.{GoesOn, bar-own, items-of_bar, lengths}
use Rattle.voice_lines.specs.Lines.{LineFollows}

-- cells that follow one another, in two parts
pub follows-parts : (before : Cell) (xs ys : List Cell) → LineFollows before (xs ++ ys)
    → LineFollows before xs × LineFollows (latest before xs) ys
follows-parts before [] ys f = (tt, f)
follows-parts before (x ∷ xs) ys f = let rest = follows-parts x xs ys f.1 in ((f.0, rest.0), rest.1)

pub latest-append : (before : Cell) (xs ys : List Cell) → latest before (xs ++ ys) ≡ latest (latest before xs) ys
latest-append before [] ys = refl
latest-append before (x ∷ xs) ys = latest-append x xs ys

-- items have as many cells as their lengths sum to
pub cells-length : (items : List (Cell × ℕ)) → AllByRecursion (λ item. 1 ≤ item.1) items → length (cells_of items)
    ≡ lengths items
cells-length [] some = refl
cells-length ((c, n) ∷ items) some =
    let first : length (item_cells c n) ≡ n = ap suc (length-replicate (n - 1) (held c)) ∙ omega (arith, some.0) in
    omega (
      arith,
      length-append (item_cells c n) (cells_of items),
      first,
      cells-length items some.1,
      sum_by-cons (λ item. item.1) (c, n) items,
    )

-- a bar line behind a full bar that isn't the last one
bar_line-own : (bars bar : ℕ) (done : List Cell) → length done ≡ 8 * bar + 8 → bar + 1 < bars
    → sung_word bars (bar, done) (codes "|") ≡ Ok (bar + 1, done)
unfolding sung_word bar_line_said
bar_line-own bars bar done full more =
    rw (eq-eqb (length done) (8 * bar + 8) full, ne_eqb (bar + 1) bars (λ same. omega (arith, same, more))) refl

end-own : (bars bar : ℕ) (done : List Cell) → length done ≡ 8 * bar + 8 → bar + 1 ≡ bars
    → sung_end bars (bar, done) ≡ Ok done
unfolding sung_end
end-own bars bar done full last = rw (eq-eqb (length done) (8 * bar + 8) full, eq-eqb (bar + 1) bars last) refl

-- the bars behind the first
later_bars-own : (count : ℕ) (bars : List (List (Cell × ℕ))) (bar : ℕ) (done : List Cell)
    → length done ≡ 8 * bar + 8 → bar + 1 + length bars ≡ count → AllByRecursion IsBar bars
    → LineFollows (latest Rest done) (cells_of_bars bars)
    → GoesOn count bar done (flat_map (λ other. codes "|" ∷ other) (map (map item_word) bars))
    (done ++ cells_of_bars bars)
later_bars-own count [] bar done full last whole f =
    end-own count bar done full (omega (arith, last)) ∙ ap Ok (sym (append-nil done))
later_bars-own count (items ∷ bars) bar done full last whole f =
    let cs = cells_of items in
    let eight : length cs ≡ 8 = cells-length items whole.0.some ∙ whole.0.whole in
    let parts = follows-parts (latest Rest done) cs (cells_of_bars bars) f in
    let words = flat_map (λ other. codes "|" ∷ other) (map (map item_word) bars) in
    let more = later_bars-own count bars (bar + 1) (done ++ cs) (omega (arith, length-append done cs, full, eight))
    (omega (arith, last)) whole.1
    (subst (λ c. LineFollows c (cells_of_bars bars)) (sym (latest-append Rest done cs)) parts.1) in (
      (bar + 1, done),
      bar_line-own count bar done full (omega (arith, last)),
      bar-own count (bar + 1) words (done ++ (cs ++ cells_of_bars bars)) done items (omega (arith, full)) whole.0 parts.0
          (subst (GoesOn count (bar + 1) (done ++ cs) words) (append_assoc done cs (cells_of_bars bars)) more),
    )

-- the words of a line's bars give their cells
pub run-own : (count : ℕ) (bars : List (List (Cell × ℕ))) → 1 ≤ count → length bars ≡ count
    → AllByRecursion IsBar bars → LineFollows Rest (cells_of_bars bars)
    → IsRun (sung_run count) (0, []) (between_bar_lines (map (map item_word) bars)) (cells_of_bars bars)
run-own count [] some last whole f = absurd (omega (arith, some, last))
run-own count (items ∷ bars) some last whole f =
    let cs = cells_of items in
    let eight : length cs ≡ 8 = cells-length items whole.0.some ∙ whole.0.whole in
    let parts = follows-parts Rest cs (cells_of_bars bars) f in
    bar-own count 0 (flat_map (λ other. codes "|" ∷ other) (map (map item_word) bars))
    (cells_of_bars (items ∷ bars)) [] items refl whole.0 parts.0
    (later_bars-own count bars 0 cs (omega (arith, eight)) (omega (arith, last)) whole.1 parts.1)

-- a line of such words is read as these cells, wherever they stand, where the cells fit
words-read : (fit : List Cell → Bool) (count v : ℕ) (words : List (List ℕ)) (cells : List Cell) (after : ℕ) (l : LineWords)
    (others : List LineWords)
    → v ≤ 9999999 → IsRun (sung_run count) (0, []) words cells → fit cells ≡ true
    → line_in kinds.Sing kinds.Head (codes "sing") (sing_row fit count v)
    (with_line after l (codes "sing" ∷ decimal v ∷ words) others)
    ≡ Ok (cells, left after others)
unfolding line_in row_in headed literal next
words-read fit count v words cells after l others few run fits =
    let place = λ (k : ℕ). places_of l.words (suc (suc k)) in
    let at = at_words l.line ((places_of l.words 1).column + length (decimal v)) l.end place words in
    rw (
      within-own v v v few (omega arith) (omega arith),
      run-gives (sung_run count) (0, []) at at.words cells
          (subst (λ ws. IsRun (sung_run count) (0, []) ws cells) (sym (set_out-texts place words)) run),
      fits,
    ) refl

-- a `sing` line is read, wherever its words stand
pub sing_line-own : (fit : List Cell → Bool) (count v : ℕ) (words : List (List ℕ)) (cells : List Cell) (after : ℕ)
    (l : LineWords) (others : List LineWords)
    → v ≤ 9999999 → IsSung count v words cells → fit cells ≡ true
    → line_in kinds.Sing kinds.Head (codes "sing") (sing_row fit count v) (with_line after l words others)
    ≡ Ok (cells, left after others)
sing_line-own fit count v words cells after l others few s fits =
    ap (λ ws. line_in kinds.Sing kinds.Head (codes "sing") (sing_row fit count v) (with_line after l ws others)) s.written
    ∙ words-read fit count v s.items cells after l others few s.run fits

-- bars one after the other
abbrev joined : List (List Cell) → List Cell
joined bars = flat_map (λ cs. cs) bars

abbrev AreBars : List (List Cell) → Type 0
AreBars bars = AllByRecursion (λ cs. length cs ≡ 8) bars

-- ---- the bars of a line

-- the words of a bar's cells
abbrev pub items_words : List Cell → List (List ℕ)
items_words cs = map item_word (items_of_cells cs)

-- the cells of a bar, counted from 1
abbrev bar_of_line : List Cell → ℕ → List Cell
bar_of_line cells bar = take 8 (drop (8 * (bar - 1)) cells)

drop-eight : (k : ℕ) (xs : List Cell) → drop (k + 8) xs ≡ drop 8 (drop k xs)
drop-eight zero xs = refl
drop-eight (suc k) [] = drop-nil (suc k + 8)
drop-eight (suc k) (x ∷ xs) =
    let same : suc k + 8 ≡ suc (k + 8) = omega arith in
    ap (λ n. drop n (x ∷ xs)) same ∙ drop-eight k xs

bars-are : (xs : List Cell) (a b n : ℕ) → b ≡ a + 1 → 8 * (a + n) ≤ length xs
    → AreBars (map (bar_of_line xs) (range_with_len b n))
bars-are xs a b zero e long = tt
bars-are xs a b (suc n) e long = (
  length-take-le 8 (drop (8 * (b - 1)) xs) (omega (arith, length-drop (8 * (b - 1)) xs, long, e)),
  bars-are xs (a + 1) (b + 1) n (omega (arith, e)) (omega (arith, long)),
)

bars-joined : (xs : List Cell) (a b n : ℕ) → b ≡ a + 1
    → joined (map (bar_of_line xs) (range_with_len b n)) ≡ take (8 * n) (drop (8 * a) xs)
bars-joined xs a b zero e = refl
bars-joined xs a b (suc n) e =
    let first : 8 * (b - 1) ≡ 8 * a = omega (arith, e) in
    let next : 8 * (a + 1) ≡ 8 * a + 8 = omega arith in
    let all : 8 + 8 * n ≡ 8 * suc n = omega arith in
    let ys = drop (8 * a) xs in
    ap (λ k. take 8 (drop k xs) ++ joined (map (bar_of_line xs) (range_with_len (b + 1) n))) first
    ∙ ap (λ more. take 8 ys ++ more)
    (bars-joined xs (a + 1) (b + 1) n (omega (arith, e)) ∙ ap (λ k. take (8 * n) (drop k xs)) next
    ∙ ap (take (8 * n)) (drop-eight (8 * a) xs))
    ∙ sym (take-add 8 (8 * n) ys) ∙ ap (λ k. take k ys) all

-- the words of a voice's bars are those of the bars of its line
words-of_bars : (v : ℕ) (columns : List (List Cell)) (bars : List ℕ)
    → map (bar_words v) (map (bar_columns columns) bars) ≡ map items_words (map (bar_of_line (line v columns)) bars)
words-of_bars v columns [] = refl
words-of_bars v columns (bar ∷ bars) =
    let cells : line v (bar_columns columns bar) ≡ bar_of_line (line v columns) bar =
    sym (take-map (λ col. cell_in col v) 8 (drop (8 * (bar - 1)) columns))
    ∙ ap (take 8) (sym (drop-map (λ col. cell_in col v) (8 * (bar - 1)) columns)) in
    ap (λ cs. items_words cs ∷ map (bar_words v) (map (bar_columns columns) bars)) cells
    ∙ ap (λ more. items_words (bar_of_line (line v columns) bar) ∷ more) (words-of_bars v columns bars)

-- the items of bars of cells are bars, and have these cells
bars-items : (before : Cell) (bars : List (List Cell)) → AreBars bars → LineFollows before (joined bars)
    → AllByRecursion IsBar (map items_of_cells bars) × (cells_of_bars (map items_of_cells bars) ≡ joined bars)
bars-items before [] eight f = (tt, refl)
bars-items before (cs ∷ bars) eight f =
    let parts = follows-parts before cs (joined bars) f in
    let one = items-of_bar before cs eight.0 parts.0 in
    let rest = bars-items (latest before cs) bars eight.1 parts.1 in (
      (one.bar, rest.0),
      ap (λ cells. cells ++ cells_of_bars (map items_of_cells bars)) one.cells
          ∙ ap (λ more. cs ++ more) rest.1,
    )

-- the line that is written of a voice has its cells
pub sing_words-sung : (count v : ℕ) (columns : List (List Cell)) → 1 ≤ count → length columns ≡ 8 * count
    → LineFollows Rest (line v columns)
    → IsSung count v (sing_words v columns) (line v columns)
sing_words-sung count v columns some long f =
    let cells = line v columns in
    let bars = map (bar_of_line cells) (range_with_len 1 count) in
    let long_line : length cells ≡ 8 * count = omega (arith, length-map columns (λ col. cell_in col v), long) in
    let parts : length columns / 8 ≡ count = omega (arith, long) in
    let whole : joined bars ≡ cells = bars-joined cells 0 1 count refl
    ∙ take_all (8 * count) cells (omega (arith, long_line)) in
    let items = bars-items Rest bars (bars-are cells 0 1 count refl (omega (arith, long_line)))
    (subst (LineFollows Rest) (sym whole) f) in
    let same : cells_of_bars (map items_of_cells bars) ≡ cells = items.1 ∙ whole in
    let words = between_bar_lines (map (map item_word) (map items_of_cells bars)) in
    record {
      items = words;
      written = ap (λ ws. codes "sing" ∷ decimal v ∷ between_bar_lines ws)
          (words-of_bars v columns (range_with_len 1 (length columns / 8))
          ∙ ap (λ n. map items_words (map (bar_of_line cells) (range_with_len 1 n))) parts
          ∙ sym (map-map (map item_word) items_of_cells bars));
      run = subst (IsRun (sung_run count) (0, []) words) same
          (run-own count (map items_of_cells bars) some
          (length-map bars items_of_cells ∙ length-map-range_with_len (bar_of_line cells) 1 count) items.0
          (subst (LineFollows Rest) (sym same) f));
    }
