-- The columns of lines whose cells follow one another follow one another (`next_follows`), those of
-- a score follow one another in each voice (`line_follows`), and a score is that of its lines
-- (`score_own`, `line_of_score`).
use Rattle.std.proofs.Common.{◌≡◌, ℕ, zero, suc, ◌+◌, ◌-◌, ◌<◌, List, [], ◌∷◌, ◌++◌, length, map, reverse, get_or, Result, Ok, Err, refl, sym, ap, ◌∙◌, append_assoc, add-one, subst, arith}
use Rattle.std.specs.Prelude.{All, IsTrue, OnOk, IsOk}
use Rattle.std.specs.List.{AllByRecursion, range_with_len}
use Rattle.std.proofs.lemmas.List.{append-nil, ext_get_or, get_or-map, reverse-append}
use Rattle.std.proofs.lemmas.List.FromFn.{map-range_with_len_more, length-map-range_with_len, get_or-map-range_with_len}
use Rattle.fux_pitch.specs.declared.pitch.Pitch.{Pitch}
use Rattle.fux_grid.specs.declared.cell.Cell.{Cell}
use Rattle.fux_grid.specs.declared.cell.Cell.TheVariants.{Rest, Hold, Start}
use Rattle.fux_grid.specs.Cells.{cell_follows, cell_in}
use Rattle.fux_grid.specs.Columns.{ColumnFollows, HistoryFollows, line, newest_column}
use Rattle.fux_grid.proofs.Histories.{newest-reverse}
use Rattle.voice_lines.specs.Lines.{LineFollows, column_of, score_of}

pub rest_follows : (c : Cell) → IsTrue (cell_follows c Rest)
rest_follows Rest = refl
rest_follows (Hold p) = refl
rest_follows (Start p) = refl

pub start_follows : (c : Cell) (p : Pitch) → IsTrue (cell_follows c (Start p))
start_follows Rest p = refl
start_follows (Hold q) p = refl
start_follows (Start q) p = refl

-- ---- the columns of lines

pub column-cell : (lines : List (List Cell)) (j v : ℕ) → cell_in (column_of lines j) v ≡ cell_in (get_or lines v []) j
column-cell [] j v = refl
column-cell (l ∷ ls) j zero = refl
column-cell (l ∷ ls) j (suc v) = column-cell ls j v

follows_at : (before : Cell) (cells : List Cell) (k : ℕ) → LineFollows before cells
    → IsTrue (cell_follows (get_or (before ∷ cells) k Rest) (get_or cells k Rest))
follows_at before [] k f = rest_follows (get_or (before ∷ []) k Rest)
follows_at before (c ∷ cs) zero f = f.0
follows_at before (c ∷ cs) (suc k) f = follows_at c cs k f.1

line_at : (lines : List (List Cell)) (v : ℕ) → AllByRecursion (LineFollows Rest) lines
    → LineFollows Rest (get_or lines v [])
line_at [] v f = tt
line_at (l ∷ ls) zero f = f.0
line_at (l ∷ ls) (suc v) f = line_at ls v f.1

newest-cell : (lines : List (List Cell)) (i v : ℕ)
    → cell_in (newest_column (reverse (score_of i lines).columns)) v ≡ get_or (Rest ∷ get_or lines v []) i Rest
newest-cell lines zero v = refl
newest-cell lines (suc j) v =
    let s : List (List Cell) = map (column_of lines) (range_with_len 0 (suc j)) in
    let long : length s ≡ suc j = length-map-range_with_len (column_of lines) 0 (suc j) in
    let before : suc j - 1 ≡ j = omega arith in
    ap (λ col. cell_in col v) (newest-reverse s (suc j) (sym long) (omega arith)
    ∙ ap (λ k. get_or s k []) before
    ∙ get_or-map-range_with_len (column_of lines) 0 (suc j) j j [] (omega arith) (omega arith))
    ∙ column-cell lines j v

-- the next column of lines may come behind those before
pub next_follows : (lines : List (List Cell)) (i : ℕ) → AllByRecursion (LineFollows Rest) lines
    → ColumnFollows (newest_column (reverse (score_of i lines).columns)) (column_of lines i)
next_follows lines i f = λ v.
    rw (newest-cell lines i v, column-cell lines i v) (follows_at Rest (get_or lines v []) i (line_at lines v f))

-- a score with one column more
pub grown : (lines : List (List Cell)) (i : ℕ)
    → record (score_of i lines) { columns = (score_of i lines).columns ++ column_of lines i ∷ [] }
    ≡ score_of (i + 1) lines
grown lines i =
    ap (λ cs. record { voices = length lines; columns = cs })
    (sym (map-range_with_len_more (column_of lines) 0 i i (omega arith)))

-- what an answer says where it is one
pub on_ok : {T E : Type 0} (r : Result T E) (P : Type 0) → OnOk r P → IsOk r → P
on_ok (Ok x) P h ok = h
on_ok (Err e) P h ok = absurd cc

-- ---- the lines of columns

older_follow : (newer older : List (List Cell)) → HistoryFollows (newer ++ older) → HistoryFollows older
older_follow [] older h = h
older_follow (col ∷ newer) older h = older_follow newer older h.1

follows_from : (v : ℕ) (columns before : List (List Cell)) → HistoryFollows (reverse columns ++ before)
    → LineFollows (cell_in (newest_column before) v) (line v columns)
follows_from v [] before h = tt
follows_from v (col ∷ columns) before h =
    let turned : reverse (col ∷ columns) ++ before ≡ reverse columns ++ col ∷ before =
    ap (λ (s : List (List Cell)). s ++ before) (reverse-append (col ∷ []) columns) ∙ append_assoc (reverse columns)
    (col ∷ []) before in
    let k : HistoryFollows (reverse columns ++ col ∷ before) = subst HistoryFollows turned h in
    ((older_follow (reverse columns) (col ∷ before) k).0 v, follows_from v columns (col ∷ before) k)

-- the cells of a voice follow one another
pub line_follows : (v : ℕ) (columns : List (List Cell)) → HistoryFollows (reverse columns)
    → LineFollows Rest (line v columns)
line_follows v columns h = follows_from v columns [] (subst HistoryFollows (sym (append-nil (reverse columns))) h)

pub line-cell : (v i : ℕ) (columns : List (List Cell)) → i < length columns
    → get_or (line v columns) i Rest ≡ cell_in (get_or columns i []) v
line-cell v i columns lt = get_or-map (λ (col : List Cell). cell_in col v) columns i [] Rest lt

-- the lines of so many voices of a score
abbrev pub lines_of : List (List Cell) → ℕ → List (List Cell)
lines_of columns voices = map (λ v. line v columns) (range_with_len 0 voices)

cells_own : (col : List Cell) → map (λ v. cell_in col v) (range_with_len 0 (length col)) ≡ col
cells_own col =
    ext_get_or Rest (map (λ v. cell_in col v) (range_with_len 0 (length col))) col
    (length-map-range_with_len (λ v. cell_in col v) 0 (length col))
    (λ v lt. get_or-map-range_with_len (λ w. cell_in col w) 0 (length col) v v Rest
    (omega (arith, lt, length-map-range_with_len (λ w. cell_in col w) 0 (length col))) (omega arith))

column_own : (columns : List (List Cell)) (voices i : ℕ) → i < length columns → length (get_or columns i []) ≡ voices
    → column_of (lines_of columns voices) i ≡ get_or columns i []
column_own columns voices i lt wide =
    cells_at (range_with_len 0 voices)
    ∙ ap (λ n. map (λ v. cell_in (get_or columns i []) v) (range_with_len 0 n)) (sym wide)
    ∙ cells_own (get_or columns i [])
  where
    cells_at : (vs : List ℕ) → map (λ cells. cell_in cells i) (map (λ v. line v columns) vs)
        ≡ map (λ v. cell_in (get_or columns i []) v) vs
    cells_at [] = refl
    cells_at (v ∷ vs) =
        ap (λ c. c ∷ map (λ cells. cell_in cells i) (map (λ w. line w columns) vs)) (line-cell v i columns lt)
        ∙ ap (λ more. cell_in (get_or columns i []) v ∷ more) (cells_at vs)

pub score_own : (n voices : ℕ) (columns : List (List Cell)) → length columns ≡ n
    → All (λ col. length col ≡ voices) columns
    → score_of n (lines_of columns voices) ≡ record { voices = voices; columns = columns }
score_own n voices columns long full =
    let lines = lines_of columns voices in
    let count = length-map-range_with_len (column_of lines) 0 n in
    ap (λ k. record { voices = k; columns = map (column_of lines) (range_with_len 0 n) })
    (length-map-range_with_len (λ v. line v columns) 0 voices)
    ∙ ap (λ cols. record { voices = voices; columns = cols })
    (ext_get_or [] (map (column_of lines) (range_with_len 0 n)) columns (count ∙ sym long) (λ i lt.
    let there : i < n = omega (arith, lt, count) in
    get_or-map-range_with_len (column_of lines) 0 n i i [] there (omega arith)
    ∙ column_own columns voices i (omega (arith, there, long)) (full i [] (omega (arith, there, long)))))

-- a voice of the score of lines has the cells of its line
pub line_of_score : (n v : ℕ) (lines : List (List Cell)) → length (get_or lines v []) ≡ n
    → line v (score_of n lines).columns ≡ get_or lines v []
line_of_score n v lines long =
    cells_at (range_with_len 0 n)
    ∙ ap (λ k. map (λ i. cell_in (get_or lines v []) i) (range_with_len 0 k)) (sym long)
    ∙ cells_own (get_or lines v [])
  where
    cells_at : (is : List ℕ) → line v (map (column_of lines) is) ≡ map (λ i. cell_in (get_or lines v []) i) is
    cells_at [] = refl
    cells_at (i ∷ is) =
        ap (λ c. c ∷ line v (map (column_of lines) is)) (column-cell lines i v)
        ∙ ap (λ cs. cell_in (get_or lines v []) i ∷ cs) (cells_at is)

-- the columns of lines in which the cells follow one another do
pub columns_follow : (lines : List (List Cell)) (n : ℕ) → AllByRecursion (LineFollows Rest) lines
    → HistoryFollows (reverse (score_of n lines).columns)
columns_follow lines zero f = tt
columns_follow lines (suc n) f =
    let columns = (score_of n lines).columns in
    let more : (score_of (suc n) lines).columns ≡ columns ++ column_of lines n ∷ [] =
    ap (λ k. (score_of k lines).columns) (sym (add-one n)) ∙ map-range_with_len_more (column_of lines) 0 n n (omega arith) in
    subst HistoryFollows (sym (ap reverse more ∙ reverse-append columns (column_of lines n ∷ [])))
    (next_follows lines n f, columns_follow lines n f)
