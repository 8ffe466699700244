-- What holds of the notes of a bar, run by run from the last one on, holds of them all (`by_runs`); so
-- does what holds of its parts, on a sheet without a setting (`by_sheet`).
use Rattle.std.proofs.Common.{◌≡◌, ℕ, zero, suc, ◌+◌, ◌-◌, ◌*◌, ◌<◌, ◌≤◌, Bool, true, false, not, is_some, ◌==◌, ◌||◌, cond, List, [], ◌∷◌, ◌++◌, drop, length, refl, ap, sym, ◌∙◌, subst, add-one, arith}
use Rattle.std.specs.List.{flat_map, prefix_len, range_with_len}
use Rattle.std.proofs.lemmas.Bool.{ne_eqb}
use Rattle.std.proofs.lemmas.Grind.{common_steps}
use Rattle.std.proofs.lemmas.List.{drop_all, drop_more}
use Rattle.fux_grid.specs.declared.cell.Cell.{Cell}
use Rattle.fux_grid.specs.declared.cell.Cell.TheVariants.{Rest, Hold, Start}
use Rattle.fux_grid.specs.declared.exercise.Exercise.{Exercise}
use Rattle.fux_grid.specs.Cells.{cell_in}
use Rattle.written_notes.specs.declared.bar.Written.{Written}
use Rattle.written_notes.specs.declared.runs.Run.{Run}
use Rattle.written_notes.specs.Bars.{bar_cells, bar_notes, notes_at, run_notes}
use Rattle.written_notes.specs.Runs.{begins, goes_on, held_on, run_at, run_length}
use Rattle.written_notes.specs.Sheets.{differ, given_notes, part_begins, rests_at, sheet_notes, shorter}
use Rattle.written_notes.proofs.Steps.{range-next}

-- what goes on with a cell that goes on with another goes on with that one
goes-alike : (a b : Cell) → goes_on a b ≡ true → (c : Cell) → goes_on a c ≡ goes_on b c
goes-alike Rest Rest g c = refl
goes-alike Rest (Hold p) g c = absurd (grind (arith, common_steps, g))
goes-alike Rest (Start p) g c = absurd (grind (arith, common_steps, g))
goes-alike (Hold q) Rest g c = absurd (grind (arith, common_steps, g))
goes-alike (Hold q) (Hold p) g Rest = refl
goes-alike (Hold q) (Hold p) g (Hold r) = refl
goes-alike (Hold q) (Hold p) g (Start r) = refl
goes-alike (Hold q) (Start p) g c = absurd (grind (arith, common_steps, g))
goes-alike (Start q) Rest g c = absurd (grind (arith, common_steps, g))
goes-alike (Start q) (Hold p) g Rest = refl
goes-alike (Start q) (Hold p) g (Hold r) = refl
goes-alike (Start q) (Hold p) g (Start r) = refl
goes-alike (Start q) (Start p) g c = absurd (grind (arith, common_steps, g))

pub held-alike : (a b : Cell) → goes_on a b ≡ true → (xs : List Cell) → held_on a xs ≡ held_on b xs
held-alike a b g [] = refl
held-alike a b g (x ∷ xs) =
    ap (λ t. cond t (1 + held_on a xs) 0) (goes-alike a b g x)
    ∙ ap (λ n. cond (goes_on b x) (1 + n) 0) (held-alike a b g xs)

not-is : (g : Bool) → not g ≡ true → g ≡ false
not-is true h = absurd (grind (arith, common_steps, h))
not-is false h = refl

not-off : (g : Bool) → not g ≡ false → g ≡ true
not-off true h = refl
not-off false h = absurd (grind (arith, common_steps, h))

-- the first slot of a run, and so many more of it
abbrev pub cut_at : List Cell → Cell → ℕ → ℕ → Run
cut_at bar next s n = shorter bar next (run_at bar next s) (1 + n)

-- something holds of notes behind a slot with those of a run before them, cut or whole
abbrev pub HoldsOn : List Cell → Cell → (ℕ → List Written → Type 0) → Type 0
HoldsOn bar next P =
    (s n : ℕ) (notes : List Written) → s < 8 → n ≤ held_on (cell_in bar s) (drop (s + 1) bar)
    → P (s + (1 + n)) notes → P s (run_notes (cut_at bar next s n) ++ notes)

module _ (bar : List Cell) (size : length bar ≡ 8) where
  -- how many cells from a slot on go on with the one before it
  abbrev going_on : ℕ → ℕ
  going_on zero = 0
  going_on (suc s) = held_on (cell_in bar s) (drop (suc s) bar)

  -- behind a slot
  going-behind : (s : ℕ) → going_on (s + 1) ≡ held_on (cell_in bar s) (drop (s + 1) bar)
  going-behind s = ap going_on (add-one s) ∙ ap (λ k. held_on (cell_in bar s) (drop k bar)) (sym (add-one s))

  -- one cell more
  going-more : (s : ℕ) → suc s < 8
      → going_on (suc s) ≡ held_on (cell_in bar s) (cell_in bar (suc s) ∷ drop (suc s + 1) bar)
  going-more s h = ap (held_on (cell_in bar s)) (drop_more bar (suc s) Rest (omega (arith, h, size)))

  -- behind the first slot a run begins where the cell doesn't go on
  begins-behind : (s : ℕ) → begins bar (suc s) ≡ not (goes_on (cell_in bar s) (cell_in bar (suc s)))
  begins-behind s =
      let no : (suc s == 0) ≡ false = ne_eqb (suc s) 0 (λ e. absurd (omega (arith, e))) in
      let k : suc s - 1 ≡ s = omega arith in
      ap (λ t. t || not (goes_on (cell_in bar (suc s - 1)) (cell_in bar (suc s)))) no
      ∙ ap (λ n. not (goes_on (cell_in bar n) (cell_in bar (suc s)))) k

  -- where a run begins nothing goes on
  none-goes : (s : ℕ) → s < 8 → begins bar s ≡ true → going_on s ≡ 0
  none-goes zero h b = refl
  none-goes (suc s) h b =
      let g : goes_on (cell_in bar s) (cell_in bar (suc s)) ≡ false =
      not-is (goes_on (cell_in bar s) (cell_in bar (suc s))) (sym (begins-behind s) ∙ b) in
      going-more s h ∙ ap (λ t. cond t (1 + held_on (cell_in bar s) (drop (suc s + 1) bar)) 0) g

  -- where none begins, the cell goes on, and so does what goes on with it
  one-goes : (s : ℕ) → s < 8 → begins bar s ≡ false → (s + 1) + going_on (s + 1) ≡ s + going_on s
  one-goes zero h b = absurd (grind (arith, common_steps, b))
  one-goes (suc s) h b =
      let g : goes_on (cell_in bar s) (cell_in bar (suc s)) ≡ true =
      not-off (goes_on (cell_in bar s) (cell_in bar (suc s))) (sym (begins-behind s) ∙ b) in
      let rest : List Cell = drop (suc s + 1) bar in
      let more : going_on (suc s) ≡ 1 + held_on (cell_in bar s) rest =
      going-more s h ∙ ap (λ t. cond t (1 + held_on (cell_in bar s) rest) 0) g in
      omega (arith, more, going-behind (suc s), held-alike (cell_in bar s) (cell_in bar (suc s)) g rest)

  module _ (next : Cell) (P : ℕ → List Written → Type 0) where
    at-slot : (s : ℕ) (notes : List Written) → s < 8
        → (P (s + run_length bar s) notes → P s (run_notes (run_at bar next s) ++ notes))
        → P ((s + 1) + going_on (s + 1)) notes
        → (t : Bool) → begins bar s ≡ t
        → P (s + going_on s) (cond t (run_notes (run_at bar next s)) [] ++ notes)
    at-slot s notes h step so_far true b =
        let here : s + going_on s ≡ s = omega (arith, none-goes s h b) in
        let run : (s + 1) + going_on (s + 1) ≡ s + run_length bar s = omega (arith, going-behind s) in
        subst (λ k. P k (run_notes (run_at bar next s) ++ notes)) (sym here)
        (step (subst (λ k. P k notes) run so_far))
    at-slot s notes h step so_far false b = subst (λ k. P k notes) (one-goes s h b) so_far

    from-slot : P 8 []
        → ((s : ℕ) (notes : List Written) → s < 8 → P (s + run_length bar s) notes
        → P s (run_notes (run_at bar next s) ++ notes))
        → (n s : ℕ) → s + n ≡ 8 → P (s + going_on s) (flat_map (notes_at bar next) (range_with_len s n))
    from-slot end step zero s e =
        let all : s ≡ 8 = omega (arith, e) in
        let none : held_on (cell_in bar 7) (drop 8 bar) ≡ 0 =
        ap (held_on (cell_in bar 7)) (drop_all 8 bar (omega (arith, size))) in
        let at : s + going_on s ≡ 8 = ap (λ k. k + going_on k) all ∙ ap (λ k. 8 + k) none in
        subst (λ k. P k []) (sym at) end
    from-slot end step (suc n) s e =
        at-slot s (flat_map (notes_at bar next) (range_with_len (s + 1) n)) (omega (arith, e))
        (step s (flat_map (notes_at bar next) (range_with_len (s + 1) n)) (omega (arith, e)))
        (from-slot end step n (s + 1) (omega (arith, e))) (begins bar s) refl

    -- what holds of no notes at the bar's end, and of each run's notes before others, holds of all
    pub by_runs : P 8 []
        → ((s : ℕ) (notes : List Written) → s < 8 → P (s + run_length bar s) notes
        → P s (run_notes (run_at bar next s) ++ notes))
        → P 0 (flat_map (notes_at bar next) (range_with_len 0 8))
    by_runs end step = from-slot end step 8 0 refl

  -- parts, each of which begins where a run does or within one
  module _ (starts : ℕ → Bool) (covers : (s : ℕ) → begins bar s ≡ true → starts s ≡ true) where
    -- how many slots there are from one on where no part begins
    abbrev left_on : ℕ → ℕ
    left_on s = prefix_len (λ k. not (starts k)) (range_with_len s (8 - s))

    none-left : (s : ℕ) → s < 8 → starts s ≡ true → left_on s ≡ 0
    none-left s h b =
        ap (prefix_len (λ k. not (starts k))) (range-next s 8 h)
        ∙ ap (λ t. cond (not t) (1 + left_on (s + 1)) 0) b

    one-left : (s : ℕ) → s < 8 → starts s ≡ false → left_on s ≡ 1 + left_on (s + 1)
    one-left s h b =
        ap (prefix_len (λ k. not (starts k))) (range-next s 8 h)
        ∙ ap (λ t. cond (not t) (1 + left_on (s + 1)) 0) b

    -- where no part begins, no run does
    no-run : (s : ℕ) → starts s ≡ false → (t : Bool) → begins bar s ≡ t → begins bar s ≡ false
    no-run s none true b =
        let some : starts s ≡ true = covers s b in
        absurd (grind (arith, common_steps, none, some))
    no-run s none false b = b

    -- parts are no longer than runs
    part-by : (s : ℕ) → s < 8 → left_on (s + 1) ≤ going_on (s + 1) → (t : Bool) → starts s ≡ t
        → left_on s ≤ going_on s
    part-by s h so_far true b = omega (arith, none-left s h b)
    part-by s h so_far false b =
        omega (arith, one-left s h b, one-goes s h (no-run s b (begins bar s) refl), so_far)

    part-within : (n s : ℕ) → s + n ≡ 8 → left_on s ≤ going_on s
    part-within zero s e =
        let all : s ≡ 8 = omega (arith, e) in
        let none : left_on s ≡ 0 = ap left_on all in
        omega (arith, none)
    part-within (suc n) s e =
        part-by s (omega (arith, e)) (part-within n (s + 1) (omega (arith, e))) (starts s) refl

    module _ (next : Cell) (P : ℕ → List Written → Type 0) where
      at-part : (s : ℕ) (notes : List Written) → s < 8
          → (P (s + (1 + left_on (s + 1))) notes → P s (run_notes (cut_at bar next s (left_on (s + 1))) ++ notes))
          → P ((s + 1) + left_on (s + 1)) notes
          → (t : Bool) → starts s ≡ t
          → P (s + left_on s) (cond t (run_notes (cut_at bar next s (left_on (s + 1)))) [] ++ notes)
      at-part s notes h step so_far true b =
          let here : s + left_on s ≡ s = omega (arith, none-left s h b) in
          let part : (s + 1) + left_on (s + 1) ≡ s + (1 + left_on (s + 1)) = omega arith in
          subst (λ k. P k (run_notes (cut_at bar next s (left_on (s + 1))) ++ notes)) (sym here)
          (step (subst (λ k. P k notes) part so_far))
      at-part s notes h step so_far false b =
          let same : (s + 1) + left_on (s + 1) ≡ s + left_on s = omega (arith, one-left s h b) in
          subst (λ k. P k notes) same so_far

      from-part : P 8 [] → HoldsOn bar next P → (n s : ℕ) → s + n ≡ 8
          → P (s + left_on s)
          (flat_map (λ k. cond (starts k) (run_notes (cut_at bar next k (left_on (k + 1)))) []) (range_with_len s n))
      from-part end step zero s e =
          let all : s ≡ 8 = omega (arith, e) in
          let at : s + left_on s ≡ 8 = ap (λ k. k + left_on k) all in
          subst (λ k. P k []) (sym at) end
      from-part end step (suc n) s e =
          let h : s < 8 = omega (arith, e) in
          let rest : List Written =
          flat_map (λ k. cond (starts k) (run_notes (cut_at bar next k (left_on (k + 1)))) []) (range_with_len (s + 1) n) in
          let short : left_on (s + 1) ≤ held_on (cell_in bar s) (drop (s + 1) bar) =
          omega (arith, part-within n (s + 1) (omega (arith, e)), going-behind s) in
          at-part s rest h (step s (left_on (s + 1)) rest h short)
          (from-part end step n (s + 1) (omega (arith, e))) (starts s) refl

      -- what holds of no notes at the bar's end, and of each part's notes before others, holds of all
      by_parts : P 8 [] → HoldsOn bar next P
          → P 0 (flat_map (λ k. cond (starts k) (run_notes (cut_at bar next k (left_on (k + 1)))) []) (range_with_len 0 8))
      by_parts end step =
          let none : 0 + left_on 0 ≡ 0 = omega (arith, none-left 0 (omega arith) (covers 0 refl)) in
          subst
          (λ k. P k (flat_map (λ j. cond (starts j) (run_notes (cut_at bar next j (left_on (j + 1)))) []) (range_with_len 0 8)))
          none (from-part end step 8 0 refl)

-- a run that begins begins a part too
run-begins : (a b : Bool) → a ≡ true → (a || b) ≡ true
run-begins true b e = refl
run-begins false b e = absurd (grind (arith, common_steps, e))

-- the same of the notes of a bar on a sheet
pub by_sheet : (ex : Exercise) (v : ℕ) (line : List Cell) (bar : ℕ) (P : ℕ → List Written → Type 0)
    → P 8 [] → HoldsOn (bar_cells line bar) (cell_in line (8 * bar + 8)) P → P 0 (sheet_notes ex v line bar)
by_sheet ex v line bar P end step =
    let cells : List Cell = bar_cells line bar in
    let next : Cell = cell_in line (8 * bar + 8) in
    let size : length cells ≡ 8 = refl in
    elim (is_some ex.setting) as (λ b. P 0 (cond b (bar_notes line bar) (given_notes ex v line bar))) [
      | true ↦ by_runs cells size next P end (λ s notes h so_far.
          step s (held_on (cell_in cells s) (drop (s + 1) cells)) notes h (omega arith) so_far)
      | false ↦ by_parts cells size (part_begins ex v bar cells)
          (λ s b. run-begins (begins cells s) (differ (rests_at ex v bar (s - 1)) (rests_at ex v bar s)) b)
          next P end step
    ]
