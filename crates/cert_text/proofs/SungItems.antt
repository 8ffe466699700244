-- The items of a voice's cells, bar by bar, fit (`voice-fits`), and the text of its line is that of
-- these items (`voice-text`).
use Rattle.std.proofs.Common.{◌≡◌, ℕ, zero, suc, ◌+◌, ◌-◌, ◌*◌, ◌/◌, ◌%◌, ◌<◌, ◌≤◌, Bool, true, false, List, [], ◌∷◌, ◌++◌, length, length-drop, map, replicate, take, drop, refl, sym, ap, subst, ◌∙◌, append_assoc, append-nil, arith}
use Rattle.std.specs.Prelude.{◌==◌, ◌||◌, IsTrue, ⊤, codes}
use Rattle.std.specs.Fmt.{decimal}
use Rattle.std.specs.List.{AllByRecursion, flat_map, range_with_len}
use Rattle.std.proofs.lemmas.Bool.{and_from}
use Rattle.std.proofs.lemmas.Bool.Decides.{nat_tests}
use Rattle.std.proofs.lemmas.Fmt.{decimal_digit}
use Rattle.std.proofs.lemmas.Grind.{flat_map-append}
use Rattle.std.proofs.lemmas.List.{drop_all, drop-drop, length-map, length-take-le, map-append, take-append-drop}
use Rattle.std.proofs.lemmas.List.FromFn.{length-map-range_with_len}
use Rattle.std.proofs.lemmas.List.Sums.{sum_by-cons}
use Rattle.std.proofs.lemmas.Simd.{map-map}
use Rattle.fux_grid.specs.declared.cell.Cell.{Cell}
use Rattle.fux_grid.specs.declared.cell.Cell.TheVariants.{Rest, Hold, Start}
use Rattle.fux_grid.specs.declared.exercise.Exercise.{Exercise}
use Rattle.fux_grid.specs.Cells.{cell_follows, cell_in, is_hold, held}
use Rattle.fux_grid.specs.Columns.{line}
use Rattle.fux_grid.specs.Letters.{bar_columns}
use Rattle.fux_text.proofs.Bars.{IsBar, cells_of, cells_of_bars}
use Rattle.fux_text.specs.Items.{goes_on, item_name, item_word, items_of_cells, with_run}
use Rattle.fux_text.specs.Lines.{bars_of, between_bar_lines, sing_text}
use Rattle.fux_text.specs.Sing.{item_cells, latest}
use Rattle.fux_text.specs.Words.{spaced, text_line}
use Rattle.fux_text.proofs.Following.{held-follows}
use Rattle.fux_text.proofs.OwnBars.{follows-parts, latest-append}
use Rattle.fux_text.proofs.OwnItems.{goes_on-same, items-of_bar, lengths}
use Rattle.fux_text.proofs.WordLemmas.{text_line-cons}
use Rattle.cert_text.specs.HeadRows.{behind_text, can_stand, sing_bytes}
use Rattle.cert_text.proofs.ItemTexts.{Fits, item_text, items_text, line_text}
use Rattle.voice_lines.specs.Lines.{LineFollows}

-- bars of items one after the other
abbrev pub joined : List (List (Cell × ℕ)) → List (Cell × ℕ)
joined bars = flat_map (λ bar. bar) bars

-- ---- the text of bars

item-written : (item : Cell × ℕ) → item.1 < 10 → item_text item ≡ item_word item
item-written item few = ap (λ ds. item_name item.0 ++ 58 ∷ ds) (sym (decimal_digit item.1 few))

sing-written : (v : ℕ) → v < 4 → sing_bytes v ≡ codes "sing " ++ (decimal v ++ 32 ∷ [])
sing-written zero few = rw (decimal_digit 0 (omega arith)) refl
sing-written (suc zero) few = rw (decimal_digit 1 (omega arith)) refl
sing-written (suc (suc zero)) few = rw (decimal_digit 2 (omega arith)) refl
sing-written (suc (suc (suc zero))) few = rw (decimal_digit 3 (omega arith)) refl
sing-written (suc (suc (suc (suc n)))) few = absurd (omega (arith, few))

-- what stands behind a bar's items, and behind its place
abbrev behind_bar : ℕ → ℕ → List (Cell × ℕ) → List ℕ
behind_bar bars i items = behind_text bars i ++ items_text bars i items

-- the items that are left of a bar, with a space before each
bar-text : (bars k i : ℕ) (x : Cell × ℕ) (xs ys : List (Cell × ℕ)) → k < bars → 8 * k ≤ i
    → i + lengths (x ∷ xs) ≡ 8 * k + 8 → AllByRecursion (λ item. 1 ≤ item.1) (x ∷ xs)
    → 32 ∷ items_text bars i ((x ∷ xs) ++ ys) ≡ spaced (map item_word (x ∷ xs)) ++ behind_bar bars (8 * k + 8) ys
bar-text bars k i x [] ys more low sum some =
    let count : lengths (x ∷ []) ≡ x.1 + lengths [] = sum_by-cons (λ (item : Cell × ℕ). item.1) x [] in
    let end : i + x.1 ≡ 8 * k + 8 = omega (arith, count, sum) in
    ap (λ w. 32 ∷ (w ++ behind_bar bars (i + x.1) ys)) (item-written x (omega (arith, low, end)))
    ∙ ap (λ j. 32 ∷ (item_word x ++ behind_bar bars j ys)) end
    ∙ ap (λ w. w ++ behind_bar bars (8 * k + 8) ys) (sym (append-nil (32 ∷ item_word x)))
bar-text bars k i x (y ∷ xs) ys more low sum some =
    let count : lengths (x ∷ y ∷ xs) ≡ x.1 + lengths (y ∷ xs) = sum_by-cons (λ (item : Cell × ℕ). item.1) x (y ∷ xs) in
    let next : lengths (y ∷ xs) ≡ y.1 + lengths xs = sum_by-cons (λ (item : Cell × ℕ). item.1) y xs in
    let inside : i + x.1 < 8 * k + 8 = omega (arith, count, next, sum, some.1.0) in
    let above : 8 * k < i + x.1 = omega (arith, low, some.0) in
    let no_end : (i + x.1 == 8 * bars) ≡ false = grind (arith, nat_tests) in
    let no_line : ((i + x.1) % 8 == 0) ≡ false = grind (arith, nat_tests) in
    let space : behind_text bars (i + x.1) ≡ 32 ∷ [] = rw (no_end, no_line) refl in
    let rest = bar-text bars k (i + x.1) y xs ys more (omega (arith, above)) (omega (arith, count, sum)) some.1 in
    ap (λ w. 32 ∷ (w ++ behind_bar bars (i + x.1) ((y ∷ xs) ++ ys))) (item-written x (omega (arith, low, inside)))
    ∙ ap (λ s. 32 ∷ (item_word x ++ (s ++ items_text bars (i + x.1) ((y ∷ xs) ++ ys)))) space
    ∙ ap (λ t. (32 ∷ item_word x) ++ t) rest
    ∙ sym (append_assoc (32 ∷ item_word x) (spaced (map item_word (y ∷ xs))) (behind_bar bars (8 * k + 8) ys))

-- the words of bars with a bar line before each
abbrev later_words : List (List (Cell × ℕ)) → List (List ℕ)
later_words bars = flat_map (λ other. codes "|" ∷ other) (map (map item_word) bars)

later-text : (bars k : ℕ) (bs : List (List (Cell × ℕ))) → k + length bs ≡ bars → AllByRecursion IsBar bs
    → behind_bar bars (8 * k) (joined bs) ≡ spaced (later_words bs) ++ 10 ∷ []
later-text bars k [] last whole =
    let end : (8 * k == 8 * bars) ≡ true = grind (arith, nat_tests) in
    rw end refl
later-text bars k ([] ∷ bs) last whole = absurd (omega (arith, whole.0.whole))
later-text bars k ((x ∷ xs) ∷ bs) last whole =
    let no_end : (8 * k == 8 * bars) ≡ false = grind (arith, nat_tests) in
    let at_line : ((8 * k) % 8 == 0) ≡ true = grind (arith, nat_tests) in
    let bar_line : behind_text bars (8 * k) ≡ codes " | " = rw (no_end, at_line) refl in
    let next : 8 * k + 8 ≡ 8 * (k + 1) = omega arith in
    let words = map item_word (x ∷ xs) in
    let first = bar-text bars k (8 * k) x xs (joined bs) (omega (arith, last)) (omega arith)
    (omega (arith, whole.0.whole)) whole.0.some in
    let rest = later-text bars (k + 1) bs (omega (arith, last)) whole.1 in
    ap (λ b. b ++ items_text bars (8 * k) ((x ∷ xs) ++ joined bs)) bar_line
    ∙ ap (λ t. 32 ∷ 124 ∷ t)
    (first ∙ ap (λ j. spaced words ++ behind_bar bars j (joined bs)) next ∙ ap (λ t. spaced words ++ t) rest)
    ∙ sym (ap (λ t. t ++ 10 ∷ []) (flat_map-append (λ word. 32 ∷ word) (codes "|" ∷ words) (later_words bs))
    ∙ append_assoc (spaced (codes "|" ∷ words)) (spaced (later_words bs)) (10 ∷ []))

bars-text : (bars : ℕ) (bs : List (List (Cell × ℕ))) → 1 ≤ bars → length bs ≡ bars → AllByRecursion IsBar bs
    → 32 ∷ items_text bars 0 (joined bs) ≡ spaced (between_bar_lines (map (map item_word) bs)) ++ 10 ∷ []
bars-text bars [] some long whole = absurd (omega (arith, some, long))
bars-text bars ([] ∷ bs) some long whole = absurd (omega (arith, whole.0.whole))
bars-text bars ((x ∷ xs) ∷ bs) some long whole =
    let next : 8 * 0 + 8 ≡ 8 * 1 = omega arith in
    let words = map item_word (x ∷ xs) in
    bar-text bars 0 0 x xs (joined bs) (omega (arith, some)) (omega arith) (omega (arith, whole.0.whole)) whole.0.some
    ∙ ap (λ j. spaced words ++ behind_bar bars j (joined bs)) next
    ∙ ap (λ t. spaced words ++ t) (later-text bars 1 bs (omega (arith, long)) whole.1)
    ∙ sym (ap (λ t. t ++ 10 ∷ []) (flat_map-append (λ word. 32 ∷ word) words (later_words bs))
    ∙ append_assoc (spaced words) (spaced (later_words bs)) (10 ∷ []))

line-written : (ex : Exercise) (v : ℕ) (bs : List (List (Cell × ℕ))) → v < 4 → 1 ≤ ex.bars → length bs ≡ ex.bars
    → AllByRecursion IsBar bs
    → text_line (codes "sing" ∷ decimal v ∷ between_bar_lines (map (map item_word) bs)) ≡ line_text ex v (joined bs)
line-written ex v bs few some long whole =
    let words = between_bar_lines (map (map item_word) bs) in
    let items = items_text ex.bars 0 (joined bs) in
    text_line-cons (codes "sing") (decimal v ∷ words)
    ∙ ap (λ t. codes "sing" ++ t) (append_assoc (32 ∷ decimal v) (spaced words) (10 ∷ [])
    ∙ ap (λ t. (32 ∷ decimal v) ++ t) (sym (bars-text ex.bars bs some long whole)))
    ∙ sym (ap (λ s. s ++ items) (sing-written v few)
    ∙ ap (λ t. codes "sing " ++ t) (append_assoc (decimal v) (32 ∷ []) items))

-- ---- items that are apart

-- no item goes on with what the one before it is
abbrev ApartFrom : Cell → List (Cell × ℕ) → Type 0
ApartFrom before [] = ⊤
ApartFrom before (item ∷ items) = (goes_on before item.0 ≡ false) × ApartFrom item.0 items

abbrev AreApart : List (Cell × ℕ) → Type 0
AreApart [] = ⊤
AreApart (item ∷ items) = ApartFrom item.0 items

apart-same : (c d : Cell) (items : List (Cell × ℕ)) → goes_on c d ≡ true → ApartFrom d items → ApartFrom c items
apart-same c d [] e a = tt
apart-same c d (item ∷ items) e a = (sym (goes_on-same c d item.0 e) ∙ a.0, a.1)

run-apart : (c : Cell) (n : ℕ) (items : List (Cell × ℕ)) → AreApart items → AreApart (with_run c n items)
run-apart c n [] a = tt
run-apart c n (item ∷ items) a = by (goes_on c item.0) refl
  where
    by : (b : Bool) → goes_on c item.0 ≡ b → AreApart (with_run c n (item ∷ items))
    by true e = rw e (apart-same c item.0 items e a)
    by false e = rw e (e, a)

pub cells-apart : (cs : List Cell) → AreApart (items_of_cells cs)
cells-apart [] = tt
cells-apart (c ∷ cs) = run-apart c 1 (items_of_cells cs) (cells-apart cs)

-- ---- bars of items that are apart fit

-- what is held behind items
abbrev last_held : Cell → List (Cell × ℕ) → Cell
last_held before [] = before
last_held before (item ∷ items) = last_held (held item.0) items

-- a cell that isn't held, and doesn't go on with what stands before it, stands anywhere
stands : (i : ℕ) (before c : Cell) → is_hold c ≡ false → goes_on before c ≡ false → IsTrue (can_stand i (held before) c)
stands i before (Hold p) e apart = absurd (grind (arith, e))
stands i before (Start p) e apart = refl
stands i Rest Rest e apart = absurd (grind (arith, apart))
stands i (Hold q) Rest e apart = either (i % 8 == 0)
  where
    either : (b : Bool) → IsTrue (b || true)
    either true = refl
    either false = refl
stands i (Start q) Rest e apart = either (i % 8 == 0)
  where
    either : (b : Bool) → IsTrue (b || true)
    either true = refl
    either false = refl

-- the items that are left of a bar
left-fit : (bars k i : ℕ) (before : Cell) (xs ys : List (Cell × ℕ)) → 8 * k ≤ i → i + lengths xs ≡ 8 * k + 8
    → AllByRecursion (λ item. 1 ≤ item.1) xs → AllByRecursion (λ item. is_hold item.0 ≡ false) xs → ApartFrom before xs
    → Fits bars (8 * k + 8) (last_held (held before) xs) ys → Fits bars i (held before) (xs ++ ys)
left-fit bars k i before [] ys low sum some starts apart rest =
    let end : 8 * k + 8 ≡ i = omega (arith, sum) in
    subst (λ j. Fits bars j (held before) ys) end rest
left-fit bars k i before (x ∷ xs) ys low sum some starts apart rest =
    let count : lengths (x ∷ xs) ≡ x.1 + lengths xs = sum_by-cons (λ (item : Cell × ℕ). item.1) x xs in (
      stands i before x.0 starts.0 apart.0,
      some.0,
      omega (arith, count, sum, low, some.0),
      left-fit bars k (i + x.1) x.0 xs ys (omega (arith, low)) (omega (arith, count, sum)) some.1 starts.1 apart.1 rest,
    )

held-latest : (c : Cell) (m : ℕ) → held (latest c (replicate m (held c))) ≡ held c
held-latest c zero = refl
held-latest c (suc m) = run (held c) m ∙ (held-follows c).1
  where
    run : (d : Cell) (m : ℕ) → held (latest d (replicate m d)) ≡ held d
    run d zero = refl
    run d (suc m) = run d m

-- what is held behind the cells of items
latest-held : (before : Cell) (items : List (Cell × ℕ))
    → held (latest before (cells_of items)) ≡ last_held (held before) items
latest-held before [] = refl
latest-held before (item ∷ items) =
    ap held (latest-append before (item_cells item.0 item.1) (cells_of items))
    ∙ latest-held (latest before (item_cells item.0 item.1)) items
    ∙ ap (λ h. last_held h items) (held-latest item.0 (item.1 - 1))

-- at the beginning of a bar stands what follows
follows-stands : (k : ℕ) (before c : Cell) → IsTrue (cell_follows before c) → IsTrue (can_stand (8 * k) (held before) c)
follows-stands k before (Start p) f = refl
follows-stands k before Rest f =
    let start : ((8 * k) % 8 == 0) ≡ true = grind (arith, nat_tests) in
    rw start refl
follows-stands k before (Hold p) f =
    let start : ((8 * k) % 8 == 0) ≡ true = grind (arith, nat_tests) in
    and_from ((8 * k) % 8 == 0) (cell_follows (held before) (Hold p)) start (holds before f)
  where
    holds : (before : Cell) → IsTrue (cell_follows before (Hold p)) → IsTrue (cell_follows (held before) (Hold p))
    holds Rest f = f
    holds (Hold q) f = f
    holds (Start q) f = f

bars-fit : (bars k : ℕ) (before : Cell) (bs : List (List (Cell × ℕ))) → k + length bs ≡ bars → AllByRecursion IsBar bs
    → AllByRecursion AreApart bs → LineFollows before (cells_of_bars bs) → Fits bars (8 * k) (held before) (joined bs)
bars-fit bars k before [] last whole apart f = omega (arith, last)
bars-fit bars k before ([] ∷ bs) last whole apart f = absurd (omega (arith, whole.0.whole))
bars-fit bars k before ((x ∷ xs) ∷ bs) last whole apart f =
    let count : lengths (x ∷ xs) ≡ x.1 + lengths xs = sum_by-cons (λ (item : Cell × ℕ). item.1) x xs in
    let parts = follows-parts before (cells_of (x ∷ xs)) (cells_of_bars bs) f in
    let next : 8 * (k + 1) ≡ 8 * k + 8 = omega arith in
    let rest =
    bars-fit bars (k + 1) (latest before (cells_of (x ∷ xs))) bs (omega (arith, last)) whole.1 apart.1 parts.1 in
    let behind : Fits bars (8 * k + 8) (last_held (held x.0) xs) (joined bs) =
    subst (λ j. Fits bars j (last_held (held x.0) xs) (joined bs)) next
    (subst (λ c. Fits bars (8 * (k + 1)) c (joined bs)) (latest-held before (x ∷ xs)) rest) in (
      follows-stands k before x.0 parts.0.0,
      whole.0.some.0,
      omega (arith, count, whole.0.whole),
      left-fit bars k (8 * k + x.1) x.0 xs (joined bs) (omega arith) (omega (arith, count, whole.0.whole))
          whole.0.some.1 whole.0.ties apart.0 behind,
    )

-- ---- the items of a voice

-- the items of a voice, bar by bar
abbrev pub voice_bars : ℕ → List (List Cell) → List (List (Cell × ℕ))
voice_bars v columns = map (λ bar. items_of_cells (line v bar)) (bars_of columns)

-- bars of items that have these cells
record AreBarsOf (cs : List Cell) (bs : List (List (Cell × ℕ))) : Type 0 where
  pub whole : AllByRecursion IsBar bs
  pub apart : AllByRecursion AreApart bs
  pub cells : cells_of_bars bs ≡ cs

-- the items of bars from one on
abbrev bars_from : ℕ → List (List Cell) → ℕ → ℕ → List (List (Cell × ℕ))
bars_from v columns b n = map (λ bar. items_of_cells (line v bar)) (map (bar_columns columns) (range_with_len b n))

bars-are : (v : ℕ) (columns : List (List Cell)) (n a b : ℕ) (before : Cell) → b ≡ a + 1 → length columns ≡ 8 * (a + n)
    → LineFollows before (line v (drop (8 * a) columns))
    → AreBarsOf (line v (drop (8 * a) columns)) (bars_from v columns b n)
bars-are v columns zero a b before same long f =
    record { whole = tt; apart = tt; cells = sym (ap (line v) (drop_all (8 * a) columns (omega (arith, long)))) }
bars-are v columns (suc n) a b before same long f =
    let here = drop (8 * a) columns in
    let bar = line v (take 8 here) in
    let at : bar_columns columns b ≡ take 8 here =
    ap (λ k. take 8 (drop k columns)) (omega (arith, same)) in
    let eight : length bar ≡ 8 =
    length-map (take 8 here) (λ col. cell_in col v)
    ∙ length-take-le 8 here (omega (arith, length-drop (8 * a) columns, long)) in
    let later : drop 8 here ≡ drop (8 * (a + 1)) columns =
    drop-drop 8 (8 * a) columns ∙ ap (λ k. drop k columns) (omega arith) in
    let split : line v here ≡ bar ++ line v (drop (8 * (a + 1)) columns) =
    ap (line v) (sym (take-append-drop 8 here)) ∙ map-append (λ col. cell_in col v) (take 8 here) (drop 8 here)
    ∙ ap (λ cols. bar ++ line v cols) later in
    let parts = follows-parts before bar (line v (drop (8 * (a + 1)) columns)) (subst (LineFollows before) split f) in
    let one = items-of_bar before bar eight parts.0 in
    let rest =
    bars-are v columns n (a + 1) (b + 1) (latest before bar) (omega (arith, same)) (omega (arith, long)) parts.1 in
    subst (λ cols. AreBarsOf (line v here) (items_of_cells (line v cols) ∷ bars_from v columns (b + 1) n)) (sym at)
    (record {
      whole = (one.bar, rest.whole);
      apart = (cells-apart bar, rest.apart);
      cells = ap (λ cs. cs ++ cells_of_bars (bars_from v columns (b + 1) n)) one.cells
          ∙ ap (λ cs. bar ++ cs) rest.cells ∙ sym split;
    })

-- what a voice's items are
record AreItemsOf (bars v : ℕ) (columns : List (List Cell)) : Type 0 where
  pub count : length (voice_bars v columns) ≡ bars
  pub bars_are : AreBarsOf (line v columns) (voice_bars v columns)

items-are : (bars v : ℕ) (columns : List (List Cell)) → length columns ≡ 8 * bars → LineFollows Rest (line v columns)
    → AreItemsOf bars v columns
items-are bars v columns long f =
    let parts : length columns / 8 ≡ bars = omega (arith, long) in
    record {
      count = length-map (bars_of columns) (λ bar. items_of_cells (line v bar))
          ∙ length-map-range_with_len (bar_columns columns) 1 (length columns / 8) ∙ parts;
      bars_are = subst (λ n. AreBarsOf (line v columns) (bars_from v columns 1 n)) (sym parts)
          (bars-are v columns bars 0 1 Rest refl (omega (arith, long)) f);
    }

-- the items of a voice
abbrev pub voice_items : ℕ → List (List Cell) → List (Cell × ℕ)
voice_items v columns = joined (voice_bars v columns)

joined-cells : (bs : List (List (Cell × ℕ))) → cells_of (joined bs) ≡ cells_of_bars bs
joined-cells [] = refl
joined-cells (b ∷ bs) =
    flat_map-append (λ item. item_cells item.0 item.1) b (joined bs) ∙ ap (λ cs. cells_of b ++ cs) (joined-cells bs)

pub voice-cells : (bars v : ℕ) (columns : List (List Cell)) → length columns ≡ 8 * bars
    → LineFollows Rest (line v columns) → cells_of (voice_items v columns) ≡ line v columns
voice-cells bars v columns long f =
    joined-cells (voice_bars v columns) ∙ (items-are bars v columns long f).bars_are.cells

pub voice-fits : (bars v : ℕ) (columns : List (List Cell)) → length columns ≡ 8 * bars
    → LineFollows Rest (line v columns) → Fits bars 0 Rest (voice_items v columns)
voice-fits bars v columns long f =
    let are = items-are bars v columns long f in
    bars-fit bars 0 Rest (voice_bars v columns) (omega (arith, are.count)) are.bars_are.whole are.bars_are.apart
    (subst (LineFollows Rest) (sym are.bars_are.cells) f)

pub voice-text : (ex : Exercise) (v : ℕ) (columns : List (List Cell)) → v < 4 → 1 ≤ ex.bars
    → length columns ≡ 8 * ex.bars → LineFollows Rest (line v columns)
    → sing_text v columns ≡ line_text ex v (voice_items v columns)
unfolding sing_text
voice-text ex v columns few some long f =
    let are = items-are ex.bars v columns long f in
    ap (λ ws. text_line (codes "sing" ∷ decimal v ∷ between_bar_lines ws))
    (sym (map-map (map item_word) (λ bar. items_of_cells (line v bar)) (bars_of columns)))
    ∙ line-written ex v (voice_bars v columns) few some are.count are.bars_are.whole
