-- The written notes of a bar on a sheet fill it and say its cells, ties join what is held, and each
-- mark is at one note.
use Rattle.std.proofs.Common.{◌≡◌, ℕ, zero, suc, ◌+◌, ◌-◌, ◌*◌, ◌<◌, ◌≤◌, Bool, true, false, ◌==◌, ◌&&◌, cond, List, [], ◌∷◌, ◌++◌, IsTrue, drop, take, length, filter, replicate, refl, ap, sym, ◌∙◌, subst, add-one, append-nil, arith, nat_lt, is_some}
use Rattle.std.specs.List.{flat_map}
use Rattle.std.proofs.lemmas.Bool.{lt-ltb, ltb-false, ltb-true}
use Rattle.std.proofs.lemmas.Bool.Decides.{Decides-eqb, nat_tests}
use Rattle.std.proofs.lemmas.Grind.{common_steps}
use Rattle.std.proofs.lemmas.List.{drop_all, drop_more, drop-append-le, drop-drop, get_or_append_left, get_or-append_right, get_or-drop, length-drop, take-append-drop}
use Rattle.std.proofs.lemmas.List.Concat.{flat_map-append}
use Rattle.fux_pitch.proofs.PitchLemmas.{equal_from_test}
use Rattle.fux_grid.specs.declared.cell.Cell.{Cell}
use Rattle.fux_grid.specs.declared.cell.Cell.TheVariants.{Rest, Hold, Start}
use Rattle.fux_grid.specs.Cells.{cell_follows, cell_in, is_hold, pitch_of}
use Rattle.fux_grid.proofs.PitchTests.{same_pitch-from_equal}
use Rattle.written_notes.specs.declared.bar.Written.{Written}
use Rattle.written_notes.specs.declared.marks.SheetMark.{SheetMark}
use Rattle.written_notes.specs.declared.runs.Run.{Run}
use Rattle.written_notes.specs.Bars.{bar_cells, head_of, note_of, run_notes, tail_of}
use Rattle.written_notes.specs.Lines.{held_on as kept_on}
use Rattle.written_notes.specs.Marks.{is_at}
use Rattle.written_notes.specs.Runs.{cell_behind, goes_on, held_on}
use Rattle.written_notes.specs.Sheets.{sheet_notes}
use Rattle.score_picture.specs.Hearing.{FollowOn}
use Rattle.score_picture.specs.Reading.{FillFrom, MarksAreAtNotes, NotesFillBars, NotesSayCells, TiesJoinNotes, TiesMeet, said_cells}
use Rattle.score_picture.proofs.RunLemmas.{HoldsOn, by_sheet, cut_at, held-alike}

-- ---- notes fill the bar

fill-run : (r : Run) (notes : List Written) → 1 ≤ r.slots → FillFrom (r.slot + r.slots) notes
    → (t : Bool) → (r.slots == 5) ≡ t
    → FillFrom r.slot (cond t (head_of r ∷ tail_of r ∷ []) (note_of r ∷ []) ++ notes)
fill-run r notes some fill true e =
    let five : r.slots ≡ 5 = (Decides-eqb r.slots 5).0 e in
    let end : r.slot + r.slots ≡ (r.slot + 4) + 1 = omega (arith, five) in
    (refl, omega arith, (refl, omega arith, subst (λ k. FillFrom k notes) end fill))
fill-run r notes some fill false e = (refl, some, fill)

fill-on : (bar : List Cell) (next : Cell) → HoldsOn bar next FillFrom
fill-on bar next s n notes h short fill =
    let r : Run = cut_at bar next s n in
    let some : 1 ≤ r.slots = omega arith in
    fill-run r notes some fill (r.slots == 5) refl

size-bar : (line : List Cell) (bar : ℕ) → length (bar_cells line bar) ≡ 8
size-bar line bar = refl

pub notes-fill : NotesFillBars
notes-fill ex v line bar =
    by_sheet ex v line bar FillFrom refl (fill-on (bar_cells line bar) (cell_in line (8 * bar + 8)))

-- ---- each mark is at one note

-- where all notes stand behind a slot, none is at it
none-at : (mark : SheetMark) (bar from : ℕ) (notes : List Written) → FillFrom from notes → mark.slot < from
    → length (filter (is_at mark bar) notes) ≡ 0
none-at mark bar from [] fill h = refl
none-at mark bar from (note ∷ notes) fill h =
    let off : is_at mark bar note ≡ false = grind (arith, nat_tests, common_steps, fill.0, h) in
    ap (λ t. length (cond t (note ∷ filter (is_at mark bar) notes) (filter (is_at mark bar) notes))) off
    ∙ none-at mark bar (from + note.slots) notes fill.2 (omega (arith, h))

-- a note that begins at the mark's slot or before it: it is at the mark, or one behind it is
one-more : (mark : SheetMark) (bar from : ℕ) (note : Written) (notes : List Written) → mark.bar ≡ bar
    → FillFrom from (note ∷ notes) → from ≤ mark.slot → (t : Bool) → nat_lt mark.slot (from + note.slots) ≡ t
    → (from + note.slots ≤ mark.slot → length (filter (is_at mark bar) notes) ≡ 1)
    → length (filter (is_at mark bar) (note ∷ notes)) ≡ 1
one-more mark bar from note notes same fill h true e further =
    let on : is_at mark bar note ≡ true = grind (arith, nat_tests, common_steps, same, fill.0, h, e) in
    ap (λ t. length (cond t (note ∷ filter (is_at mark bar) notes) (filter (is_at mark bar) notes))) on
    ∙ ap suc (none-at mark bar (from + note.slots) notes fill.2 (ltb-true mark.slot (from + note.slots) e))
one-more mark bar from note notes same fill h false e further =
    let off : is_at mark bar note ≡ false = grind (arith, nat_tests, common_steps, same, fill.0, h, e) in
    ap (λ t. length (cond t (note ∷ filter (is_at mark bar) notes) (filter (is_at mark bar) notes))) off
    ∙ further (ltb-false mark.slot (from + note.slots) e)

-- else one is
one-at : (mark : SheetMark) (bar from : ℕ) (notes : List Written) → mark.bar ≡ bar → FillFrom from notes
    → from ≤ mark.slot → mark.slot < 8 → length (filter (is_at mark bar) notes) ≡ 1
one-at mark bar from [] same fill h there = absurd (omega (arith, fill, h, there))
one-at mark bar from (note ∷ notes) same fill h there =
    one-more mark bar from note notes same fill h (nat_lt mark.slot (from + note.slots)) refl
    (λ further. one-at mark bar (from + note.slots) notes same fill.2 further there)

pub marks-at : MarksAreAtNotes
marks-at ex v line bar mark same there =
    one-at mark (bar + 1) 0 (sheet_notes ex v line bar) same (notes-fill ex v line bar) (omega arith) there

-- ---- notes say the cells

-- what goes on with a cell that it follows is that cell held
is-kept : (first x : Cell) → IsTrue (cell_follows first x) → goes_on first x ≡ true → x ≡ kept_on first
is-kept Rest Rest f g = refl
is-kept Rest (Hold p) f g = absurd (grind (arith, common_steps, g))
is-kept Rest (Start p) f g = absurd (grind (arith, common_steps, g))
is-kept (Hold q) Rest f g = absurd (grind (arith, common_steps, g))
is-kept (Hold q) (Hold p) f g = ap Hold (sym (equal_from_test q p f))
is-kept (Hold q) (Start p) f g = absurd (grind (arith, common_steps, g))
is-kept (Start q) Rest f g = absurd (grind (arith, common_steps, g))
is-kept (Start q) (Hold p) f g = ap Hold (sym (equal_from_test q p f))
is-kept (Start q) (Start p) f g = absurd (grind (arith, common_steps, g))

-- a cell that is held is held on as it is
kept-kept : (first : Cell) → kept_on (kept_on first) ≡ kept_on first
kept-kept Rest = refl
kept-kept (Hold p) = refl
kept-kept (Start p) = refl

-- so many cells from the first one on, where they go on with the one before them
kept-cells : (first x : Cell) (xs : List Cell) (n : ℕ) → x ≡ kept_on first → take n xs ≡ replicate n (kept_on x)
    → take (suc n) (x ∷ xs) ≡ replicate (suc n) (kept_on first)
kept-cells first x xs n is rest =
    ap (λ t. x ∷ t) rest ∙ ap (λ c. c ∷ replicate n (kept_on c)) is
    ∙ ap (λ c. kept_on first ∷ replicate n c) (kept-kept first)

held-next : (first x : Cell) (xs : List Cell) (n : ℕ) → (n ≤ held_on x xs → take n xs ≡ replicate n (kept_on x))
    → IsTrue (cell_follows first x) → (t : Bool) → goes_on first x ≡ t → suc n ≤ cond t (1 + held_on first xs) 0
    → take (suc n) (x ∷ xs) ≡ replicate (suc n) (kept_on first)
held-next first x xs n rest f false e h = absurd (omega (arith, h))
held-next first x xs n rest f true e h =
    let short : n ≤ held_on x xs = omega (arith, h, held-alike first x e xs) in
    kept-cells first x xs n (is-kept first x f e) (rest short)

-- what goes on with a cell, in cells that follow it, is that cell held, as far as one reads
held-kept : (first : Cell) (xs : List Cell) (n : ℕ) → n ≤ held_on first xs → FollowOn first xs
    → take n xs ≡ replicate n (kept_on first)
held-kept first xs zero h f = refl
held-kept first [] (suc n) h f = absurd (omega (arith, h))
held-kept first (x ∷ xs) (suc n) h f =
    held-next first x xs n (λ short. held-kept x xs n short f.1) f.0 (goes_on first x) refl h

-- the cells behind a slot follow on
follow-drop : (before : Cell) (xs : List Cell) (s : ℕ) → FollowOn before xs → FollowOn (cell_in xs s) (drop (suc s) xs)
follow-drop before [] s f = tt
follow-drop before (x ∷ xs) zero f = f.1
follow-drop before (x ∷ xs) (suc s) f = follow-drop x xs s f.1

-- what a run's note says, and what its two notes say
said-note : (bar : List Cell) (next : Cell) (s n : ℕ) (first : Cell) (r : Run)
    → r.cell ≡ first → r.slots ≡ suc n → said_cells (note_of r) ≡ first ∷ replicate n (kept_on first)
said-note bar next s n Rest r is size = rw (is, size) refl
said-note bar next s n (Hold p) r is size =
    let k : suc n - 1 ≡ n = omega arith in
    rw (is, size) (ap (λ m. Hold p ∷ replicate m (Hold p)) k)
said-note bar next s n (Start p) r is size =
    let k : suc n - 1 ≡ n = omega arith in
    rw (is, size) (ap (λ m. Start p ∷ replicate m (Hold p)) k)

said-two : (first : Cell) (r : Run) → r.cell ≡ first
    → flat_map said_cells (head_of r ∷ tail_of r ∷ []) ≡ first ∷ replicate 4 (kept_on first)
said-two Rest r is = rw is refl
said-two (Hold p) r is = rw is refl
said-two (Start p) r is = rw is refl

said-run : (r : Run) (n : ℕ) → r.slots ≡ suc n → (t : Bool) → (r.slots == 5) ≡ t
    → flat_map said_cells (cond t (head_of r ∷ tail_of r ∷ []) (note_of r ∷ [])) ≡ r.cell ∷ replicate n (kept_on r.cell)
said-run r n size true e =
    let five : r.slots ≡ 5 = (Decides-eqb r.slots 5).0 e in
    let four : 4 ≡ n = omega (arith, five, size) in
    said-two r.cell r refl ∙ ap (λ k. r.cell ∷ replicate k (kept_on r.cell)) four
said-run r n size false e =
    append-nil (said_cells (note_of r)) ∙ said-note [] r.cell 0 n r.cell r refl size

-- a run's notes and those behind it
said-on : (bar : List Cell) (next before : Cell) → length bar ≡ 8 → FollowOn before bar
    → HoldsOn bar next (λ from notes. flat_map said_cells notes ≡ drop from bar)
said-on bar next before size f s n notes h short rest =
    let cell : Cell = cell_in bar s in
    let behind : List Cell = drop (s + 1) bar in
    let run : Run = cut_at bar next s n in
    let one : run.slots ≡ suc n = omega arith in
    let end : s + (1 + n) ≡ (s + 1) + n = omega arith in
    let follow : FollowOn cell behind =
    subst (λ k. FollowOn cell (drop k bar)) (sym (add-one s)) (follow-drop before bar s f) in
    flat_map-append said_cells (run_notes run) notes
    ∙ ap (λ t. t ++ flat_map said_cells notes) (said-run run n one (run.slots == 5) refl)
    ∙ ap (λ t. cell ∷ (replicate n (kept_on cell) ++ t)) (rest ∙ ap (λ k. drop k bar) end ∙ sym (drop-drop n (s + 1) bar))
    ∙ ap (λ t. cell ∷ (t ++ drop n behind)) (sym (held-kept cell behind n short follow))
    ∙ ap (λ t. cell ∷ t) (take-append-drop n behind)
    ∙ sym (drop_more bar s Rest (omega (arith, h, size)))

-- ---- the cells of a bar follow on

-- each cell of a line follows the one before it, rests behind its end too
rest-follows : (c : Cell) → IsTrue (cell_follows c Rest)
rest-follows Rest = refl
rest-follows (Hold p) = refl
rest-follows (Start p) = refl

follow-next : (before : Cell) (line : List Cell) (i : ℕ) → FollowOn before line
    → IsTrue (cell_follows (cell_in line i) (cell_in line (suc i)))
follow-next before [] i f = refl
follow-next before (x ∷ []) zero f = rest-follows x
follow-next before (x ∷ y ∷ line) zero f = f.1.0
follow-next before (x ∷ line) (suc i) f = follow-next x line i f.1

follow-at : (line : List Cell) (i j : ℕ) → j ≡ suc i → FollowOn Rest line
    → IsTrue (cell_follows (cell_in line i) (cell_in line j))
follow-at line i j e f =
    subst (λ k. IsTrue (cell_follows (cell_in line i) (cell_in line k))) (sym e) (follow-next Rest line i f)

-- some cell may stand before one
may-follow : (c : Cell) → (before : Cell) × IsTrue (cell_follows before c)
may-follow Rest = (Rest, refl)
may-follow (Hold p) = (Start p, same_pitch-from_equal p p refl)
may-follow (Start p) = (Rest, refl)

-- the cells of a bar and the one behind it
bar-follows : (line : List Cell) (bar : ℕ) → FollowOn Rest line
    → FollowOn (may-follow (cell_in line (8 * bar + 0))).0 (bar_cells line bar ++ cell_in line (8 * bar + 8) ∷ [])
bar-follows line bar f = (
  (may-follow (cell_in line (8 * bar + 0))).1,
  (
    follow-at line (8 * bar + 0) (8 * bar + 1) (omega arith) f,
    (
      follow-at line (8 * bar + 1) (8 * bar + 2) (omega arith) f,
      (
        follow-at line (8 * bar + 2) (8 * bar + 3) (omega arith) f,
        (
          follow-at line (8 * bar + 3) (8 * bar + 4) (omega arith) f,
          (
            follow-at line (8 * bar + 4) (8 * bar + 5) (omega arith) f,
            (
              follow-at line (8 * bar + 5) (8 * bar + 6) (omega arith) f,
              (
                follow-at line (8 * bar + 6) (8 * bar + 7) (omega arith) f,
                (
                  follow-at line (8 * bar + 7) (8 * bar + 8) (omega arith) f,
                  tt,
                ),
              ),
            ),
          ),
        ),
      ),
    ),
  ),
)

-- the first of cells that follow on
follow-take : (before : Cell) (xs ys : List Cell) → FollowOn before (xs ++ ys) → FollowOn before xs
follow-take before [] ys f = tt
follow-take before (x ∷ xs) ys f = (f.0, follow-take x xs ys f.1)

pub notes-say : NotesSayCells
notes-say ex v line bar f =
    let cells : List Cell = bar_cells line bar in
    let before : Cell = (may-follow (cell_in line (8 * bar + 0))).0 in
    by_sheet ex v line bar (λ from notes. flat_map said_cells notes ≡ drop from cells)
    (sym (drop_all 8 cells (omega (arith, size-bar line bar))))
    (said-on cells (cell_in line (8 * bar + 8)) before (size-bar line bar)
    (follow-take before cells (cell_in line (8 * bar + 8) ∷ []) (bar-follows line bar f)))

-- ---- ties join what is held

-- so many cells go on with one, at most all
held-most : (c : Cell) (xs : List Cell) → held_on c xs ≤ length xs
held-most c [] = omega arith
held-most c (x ∷ xs) = elim (goes_on c x) as (λ t. cond t (1 + held_on c xs) 0 ≤ suc (length xs))
    [ true ↦ omega (arith, held-most c xs) | false ↦ omega arith ]

-- behind rests nothing is held, nor in them
rest-end : (xs : List Cell) (next : Cell) (k : ℕ) → k ≤ held_on Rest xs → FollowOn Rest (xs ++ next ∷ [])
    → is_hold (cell_in (xs ++ next ∷ []) k) ≡ false
rest-end [] Rest zero h f = refl
rest-end [] (Hold p) zero h f = absurd (grind (arith, common_steps, f.0))
rest-end [] (Start p) zero h f = refl
rest-end [] next (suc k) h f = absurd (omega (arith, h))
rest-end (Rest ∷ xs) next zero h f = refl
rest-end (Rest ∷ xs) next (suc k) h f = rest-end xs next k (omega (arith, h)) f.1
rest-end (Hold p ∷ xs) next k h f = absurd (grind (arith, common_steps, f.0))
rest-end (Start p ∷ xs) next zero h f = refl
rest-end (Start p ∷ xs) next (suc k) h f = absurd (omega (arith, h))

module _ (bar : List Cell) (next : Cell) (size : length bar ≡ 8) where
  -- a cell of the bar, or the one behind it
  behind-by : (k : ℕ) → k ≤ 8 → (t : Bool) → nat_lt k 8 ≡ t
      → cond t (cell_in bar k) next ≡ cell_in (bar ++ next ∷ []) k
  behind-by k h true e = sym (get_or_append_left bar (next ∷ []) Rest k (omega (arith, ltb-true k 8 e, size)))
  behind-by k h false e =
      let last : k ≡ 8 = omega (arith, h, ltb-false k 8 e) in
      let none : k - 8 ≡ 0 = omega (arith, last) in
      sym (get_or-append_right bar (next ∷ []) 8 k Rest size (omega (arith, last)) ∙ ap (cell_in (next ∷ [])) none)

  behind-at : (k : ℕ) → k ≤ 8 → cell_behind bar next k ≡ cell_in (bar ++ next ∷ []) k
  behind-at k h = behind-by k h (nat_lt k 8) refl

  -- the first cell of a run, and the cell behind a run of rests
  run-begin : (s : ℕ) → s < 8 → cell_behind bar next s ≡ cell_in bar s
  run-begin s h =
      let there : nat_lt s 8 ≡ true = lt-ltb s 8 h in
      ap (λ t. cond t (cell_in bar s) next) there

  run-end : (before : Cell) (s n : ℕ) → s < 8 → n ≤ held_on (cell_in bar s) (drop (s + 1) bar)
      → FollowOn before (bar ++ next ∷ []) → cell_in bar s ≡ Rest
      → is_hold (cell_behind bar next (s + (1 + n))) ≡ false
  run-end before s n h short f is =
      let all : List Cell = bar ++ next ∷ [] in
      let rests : List Cell = drop (s + 1) bar in
      let few : n ≤ held_on Rest rests = omega (arith, short, ap (λ c. held_on c rests) is) in
      let run : s + (1 + n) ≡ (s + 1) + n = omega arith in
      let within : s + (1 + n) ≤ 8 =
      omega (arith, few, h, size, held-most Rest rests, length-drop (s + 1) bar) in
      let first : cell_in all s ≡ Rest = sym (behind-at s (omega (arith, h))) ∙ run-begin s h ∙ is in
      let cut : drop (suc s) all ≡ rests ++ next ∷ [] =
      ap (λ k. drop k all) (sym (add-one s)) ∙ drop-append-le (s + 1) bar (next ∷ []) (omega (arith, h, size)) in
      let follow : FollowOn Rest (rests ++ next ∷ []) =
      subst (λ (xs : List Cell). FollowOn Rest xs) cut
      (subst (λ (c : Cell). FollowOn c (drop (suc s) all)) first (follow-drop before all s f)) in
      ap is_hold (behind-at (s + (1 + n)) within ∙ ap (cell_in all) run
      ∙ sym (get_or-drop (s + 1) all n Rest)
      ∙ ap (λ xs. cell_in xs n) (drop-append-le (s + 1) bar (next ∷ []) (omega (arith, h, size))))
      ∙ rest-end rests next n few follow

  -- what sounds is tied to what is held behind it
  tie-by : (c : Cell) (held : Bool) → (c ≡ Rest → held ≡ false) → (is_some (pitch_of c) && held) ≡ held
  tie-by Rest held none = sym (none refl)
  tie-by (Hold p) held none = refl
  tie-by (Start p) held none = refl

  tie-run : (r : Run) (notes : List Written) (after : Bool) → (is_some (pitch_of r.cell) && is_hold r.after) ≡ after
      → TiesMeet after notes (is_hold next) → (t : Bool)
      → TiesMeet (is_hold r.cell) (cond t (head_of r ∷ tail_of r ∷ []) (note_of r ∷ []) ++ notes) (is_hold next)
  tie-run r notes after same rest true =
      (refl, (refl, subst (λ b. TiesMeet b notes (is_hold next)) (sym same) rest))
  tie-run r notes after same rest false = (refl, subst (λ b. TiesMeet b notes (is_hold next)) (sym same) rest)

  tied-on : (before : Cell) → FollowOn before (bar ++ next ∷ [])
      → HoldsOn bar next (λ from notes. TiesMeet (is_hold (cell_behind bar next from)) notes (is_hold next))
  tied-on before f s n notes h short rest =
      let run : Run = cut_at bar next s n in
      let after : Bool = is_hold (cell_behind bar next (s + (1 + n))) in
      subst (λ c. TiesMeet (is_hold c) (run_notes run ++ notes) (is_hold next)) (sym (run-begin s h))
      (tie-run run notes after (tie-by (cell_in bar s) after (run-end before s n h short f)) rest (run.slots == 5))

pub ties-join : TiesJoinNotes
ties-join ex v line bar f =
    let cells : List Cell = bar_cells line bar in
    let next : Cell = cell_in line (8 * bar + 8) in
    let begin : 8 * bar + 0 ≡ 8 * bar = omega arith in
    subst (λ k. TiesMeet (is_hold (cell_in line k)) (sheet_notes ex v line bar) (is_hold next)) begin
    (by_sheet ex v line bar (λ from notes. TiesMeet (is_hold (cell_behind cells next from)) notes (is_hold next))
    refl (tied-on cells next (size-bar line bar) _ (bar-follows line bar f)))
