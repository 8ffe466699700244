-- Menus: how many columns, which, and in which order.
use Rattle.std.proofs.Common.{◌≡◌, ◌↔◌, inl, inr, ℕ, zero, suc, ◌+◌, ◌*◌, ◌^◌, ◌/◌, ◌<◌, ◌≤◌, List, [], ◌∷◌, ◌++◌, length, get_or, map, Option, Some, None, option_map, slice_get, refl, ap, sym, ◌∙◌, subst, arith}
use Rattle.std.specs.List.{All, AllPairs, Any, Contains, range_with_len, slice_set}
use Rattle.std.specs.Option.{option_to_list}
use Rattle.std.specs.declared.cmp.Ordering.{Ordering}
use Rattle.std.specs.declared.cmp.Ordering.TheVariants.{Less, Equal}
use Rattle.std.proofs.lemmas.Bool.{cases_eq}
use Rattle.std.proofs.lemmas.List.{length-set, get_or-set_same, get_or-set_other}
use Rattle.std.proofs.lemmas.List.Elements.{All-map, Contains-get_or}
use Rattle.std.proofs.lemmas.List.FromFn.{length-map-range_with_len, map-range_with_len_more}
use Rattle.std.proofs.lemmas.Nat.{mul-le}
use Rattle.fux_grid.specs.declared.exercise.Exercise.{Exercise}
use Rattle.fux_grid.specs.declared.cell.Cell.{Cell}
use Rattle.fux_grid.specs.declared.cell.Cell.TheVariants.{Rest}
use Rattle.fux_grid.specs.Cells.{cell_in}
use Rattle.fux_grid.specs.Exercises.{cantus_cell}
use Rattle.fux_grid.specs.Menus.{CanStart, IsAscending, IsInMenu, IsStart, cells_at, choices_at, combinations, menu_of}
use Rattle.fux_grid.proofs.CellLemmas.{cells_at-ascend, cells_at-cantus}
use Rattle.fux_grid.proofs.Combinations.{AllPairs-place, IsBefore, IsChoice, IsColumnBefore, combinations-ascend, combinations-contain, combinations-only, length-combinations_push}
use Rattle.fux_grid.proofs.OrderLemmas.{column_order-itself}

-- ---- the cells of the first voices

-- the cells of the first n voices, the lowest voice first
abbrev pub first_choices : Exercise → ℕ → ℕ → List (List Cell)
first_choices ex i n = map (cells_at ex i) (range_with_len 0 n)

pub first_choices-more : (ex : Exercise) (i n : ℕ) → first_choices ex i (n + 1) ≡ first_choices ex i n
    ++ cells_at ex i n ∷ []
first_choices-more ex i n = map-range_with_len_more (cells_at ex i) 0 n n (omega arith)

pub length-first_choices : (ex : Exercise) (i n : ℕ) → length (first_choices ex i n) ≡ n
length-first_choices ex i n = length-map-range_with_len (cells_at ex i) 0 n

pub first_choices-all : (ex : Exercise) (i n : ℕ) → n ≡ ex.voices → first_choices ex i n ≡ choices_at ex i
unfolding choices_at
first_choices-all ex i n e = ap (first_choices ex i) e

pub width-more : (ex : Exercise) (i n width count : ℕ) → width ≡ length (combinations (first_choices ex i n)) → count
    ≡ length (cells_at ex i n) → width * count ≡ length (combinations (first_choices ex i (n + 1)))
width-more ex i n width count e f =
    ap (λ m. m * count) e ∙ ap (λ m. length (combinations (first_choices ex i n)) * m) f
    ∙ sym (length-combinations_push (first_choices ex i n) (cells_at ex i n))
    ∙ ap (λ lists. length (combinations lists)) (sym (first_choices-more ex i n))

-- four voices of 147 cells each
pub width-fits : (n width count : ℕ) → n < 4 → width ≤ 147 ^ n → count ≤ 147 → (width * count ≤ 147 ^ (n + 1))
    × (width * count < 2 ^ 64)
width-fits zero width count h e f = let p = mul-le width count 1 147 e f in (omega arith, omega arith)
width-fits (suc zero) width count h e f = let p = mul-le width count 147 147 e f in (omega arith, omega arith)
width-fits (suc (suc zero)) width count h e f = let p = mul-le width count 21609 147 e f in (omega arith, omega arith)
width-fits (suc (suc (suc zero))) width count h e f =
    let p = mul-le width count 3176523 147 e f in (omega arith, omega arith)
width-fits (suc (suc (suc (suc n)))) width count h e f = absurd (omega arith)

pub menu_of-length : (ex : Exercise) (i : ℕ) → length (combinations (choices_at ex i)) ≡ length (menu_of ex i)
unfolding menu_of
menu_of-length ex i = refl

-- ---- which columns

choice-made : (ex : Exercise) (i first n : ℕ) (col : List Cell) → length col ≡ n
    → ((v : ℕ) → v < n → Contains (cells_at ex i (first + v)) (cell_in col v))
    → IsChoice (map (cells_at ex i) (range_with_len first n)) col
choice-made ex i first zero [] l h = tt
choice-made ex i first zero (c ∷ cs) l h = absurd (omega arith)
choice-made ex i first (suc n) [] l h = absurd (omega arith)
choice-made ex i first (suc n) (c ∷ cs) l h =
    let here : ℕ → Type 0 = λ v. Contains (cells_at ex i v) c in
    let same : first + 0 ≡ first = omega arith in (
      subst here same (h 0 (omega arith)),
      choice-made ex i (first + 1) n cs (omega arith)
          (λ v b. let there : ℕ → Type 0 = λ w. Contains (cells_at ex i w) (cell_in cs v) in let next : first + suc v
          ≡ first + 1 + v = omega arith in subst there next (h (suc v) (omega arith))),
    )

choice-length : (ex : Exercise) (i first n : ℕ) (col : List Cell)
    → IsChoice (map (cells_at ex i) (range_with_len first n)) col → length col ≡ n
choice-length ex i first zero [] h = refl
choice-length ex i first zero (c ∷ cs) h = absurd h
choice-length ex i first (suc n) [] h = absurd h
choice-length ex i first (suc n) (c ∷ cs) h = ap suc (choice-length ex i (first + 1) n cs h.1)

choice-cells : (ex : Exercise) (i first n : ℕ) (col : List Cell)
    → IsChoice (map (cells_at ex i) (range_with_len first n)) col → (v : ℕ) → v < n
    → Contains (cells_at ex i (first + v)) (cell_in col v)
choice-cells ex i first zero col h v b = absurd (omega arith)
choice-cells ex i first (suc n) [] h v b = absurd h
choice-cells ex i first (suc n) (c ∷ cs) h zero b = let here : ℕ → Type 0 = λ v. Contains (cells_at ex i v) c in
    let same : first ≡ first + 0 = omega arith in subst here same h.0
choice-cells ex i first (suc n) (c ∷ cs) h (suc v) b =
    let there : ℕ → Type 0 = λ w. Contains (cells_at ex i w) (cell_in cs v) in
    let next : first + 1 + v ≡ first + suc v = omega arith in
    subst there next (choice-cells ex i (first + 1) n cs h.1 v (omega arith))

-- exactly the columns with one of its cells for each voice are in the menu
pub menu_of-contains : (ex : Exercise) (i : ℕ) (col : List Cell) → Contains (menu_of ex i) col ↔ IsInMenu ex i col
unfolding menu_of choices_at
menu_of-contains ex i col = (
  λ h.
      let choice : IsChoice (choices_at ex i) col = combinations-only (choices_at ex i) col h in
      record {
        full = choice-length ex i 0 ex.voices col choice;
        cells = λ v b. let P : ℕ → Type 0 = λ w. Contains (cells_at ex i w) (cell_in col v) in let same : 0 + v
            ≡ v = omega arith in subst P same (choice-cells ex i 0 ex.voices col choice v b);
      },
  λ h. combinations-contain (choices_at ex i) col (choice-made ex i 0 ex.voices col h.full
      (λ v b. let P : ℕ → Type 0 = λ w. Contains (cells_at ex i w) (cell_in col v) in let same : v ≡ 0 + v = omega arith in
      subst P same (h.cells v b))),
)

-- each column of a menu has a cell for each voice
pub menu_of-full : (ex : Exercise) (i : ℕ) → All (λ col. length col ≡ ex.voices) (menu_of ex i)
menu_of-full ex i k d h =
    ((menu_of-contains ex i (get_or (menu_of ex i) k d)).0 (Contains-get_or (menu_of ex i) k d h)).full

only_of_option : (o : Option Cell) (c : Cell) → Contains (option_to_list o) c → o ≡ Some c
only_of_option None c (k, h, e) = absurd (omega arith)
only_of_option (Some x) c (zero, h, e) = ap Some e
only_of_option (Some x) c (suc k, h, e) = absurd (omega arith)

-- in each column of a menu the cantus voice has the cell of the bar's pitch
pub menu_of-cantus : (ex : Exercise) (i : ℕ) (col : List Cell) → ex.cantus_voice < ex.voices
    → Contains (menu_of ex i) col → option_map (cantus_cell i) (slice_get ex.cantus (i / 8))
    ≡ Some (cell_in col ex.cantus_voice)
menu_of-cantus ex i col h m =
    let P : List Cell → Type 0 = λ cells. Contains cells (cell_in col ex.cantus_voice) in
    only_of_option (option_map (cantus_cell i) (slice_get ex.cantus (i / 8))) (cell_in col ex.cantus_voice)
    (subst P (cells_at-cantus ex i ex.cantus_voice refl) (((menu_of-contains ex i col).0 m).cells ex.cantus_voice h))

-- ---- in which order

-- a menu goes in reading order
pub menu_of-ascends : (ex : Exercise) (i : ℕ) → IsAscending (menu_of ex i)
unfolding menu_of choices_at
menu_of-ascends ex i = combinations-ascend (choices_at ex i)
    (All-map (AllPairs IsBefore) (cells_at ex i) (range_with_len 0 ex.voices) (λ k d h. cells_at-ascend ex i _))

-- so that each column has one place
pub menu_of-place : (ex : Exercise) (i j k : ℕ) (d : List Cell) → j < length (menu_of ex i) → k < length (menu_of ex i)
    → get_or (menu_of ex i) j d ≡ get_or (menu_of ex i) k d → j ≡ k
menu_of-place ex i j k d a b e = AllPairs-place IsColumnBefore (menu_of ex i) (menu_of-ascends ex i)
    (λ c h. apart (column_order-itself c) h) j k d a b e
  where
    apart : {o : Ordering} → o ≡ Equal → o ≡ Less → ⊥
    apart e h = let f : Equal ≡ Less = sym e ∙ h in absurd (cc)

-- ---- starts

-- a column of the menu with another of its cells for one voice is in the menu
IsInMenu-set : (ex : Exercise) (i v : ℕ) (col : List Cell) (c : Cell) → IsInMenu ex i col → v < ex.voices
    → Contains (cells_at ex i v) c → IsInMenu ex i (slice_set col v c)
IsInMenu-set ex i v col c h b in_cells = record {
  full = length-set col v c ∙ h.full;
  cells = λ w below. elim (cases_eq w v) [
    | inl same ↦
        let at : cell_in (slice_set col v c) w ≡ c = ap (cell_in (slice_set col v c)) same
        ∙ get_or-set_same col v c Rest (omega (arith, h.full)) in
        rw (at, same) in_cells
    | inr other ↦ rw (get_or-set_other col v w c Rest other) (h.cells w below)
  ];
}

-- a voice can start where it has a start and no voice is without a cell
pub can_start-from : (ex : Exercise) (i v : ℕ) → v < ex.voices → 0 < length (menu_of ex i)
    → Any IsStart (cells_at ex i v) → CanStart ex v i
can_start-from ex i v b some (k, c, within, is, starts) =
    let col : List Cell = get_or (menu_of ex i) 0 [] in
    let member : IsInMenu ex i col = (menu_of-contains ex i col).0 (Contains-get_or (menu_of ex i) 0 [] some) in
    let P : Cell → Type 0 = IsStart in (
      slice_set col v c,
      (menu_of-contains ex i (slice_set col v c)).1 (IsInMenu-set ex i v col c member b (k, within, is)),
      subst P (sym (get_or-set_same col v c Rest (omega (arith, member.full)))) starts,
    )

pub can_start-only : (ex : Exercise) (i v : ℕ) → v < ex.voices → CanStart ex v i → Any IsStart (cells_at ex i v)
can_start-only ex i v b (col, m, starts) =
    let at : Contains (cells_at ex i v) (cell_in col v) = ((menu_of-contains ex i col).0 m).cells v b in
    (at.0, cell_in col v, at.1, at.2, starts)

pub menu_of-is : (ex : Exercise) (i : ℕ) → combinations (choices_at ex i) ≡ menu_of ex i
unfolding menu_of
menu_of-is ex i = refl
