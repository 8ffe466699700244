-- What the gauges cost at least never falls from a prefix to a longer one (`least_grows`), and of a
-- setting it is what they cost (`least_at_end`). So of a setting without a strict break, what is
-- paid and what the gauges cost at least are its penalty (`paid_and_least_at_end`).
use Rattle.std.specs.Prelude.{◌≡◌, ℕ, zero, suc, ◌+◌, ◌*◌, ◌<◌, ◌≤◌, ◌==◌, Bool, true, false, not, List, [], ◌∷◌, ◌++◌, Contains, length, reverse, if◌then◌else◌, refl}
use Rattle.std.specs.List.{AllByRecursion, filter, range_with_len, sum_by}
use Rattle.std.proofs.Common.{ap, ap₂, sym, ◌∙◌, subst, arith}
use Rattle.std.proofs.lemmas.Bool.{eq-eqb}
use Rattle.std.proofs.lemmas.List.{length-append, length-map, length-reverse}
use Rattle.std.proofs.lemmas.List.Sums.{sum_by-cons}
use Rattle.fux_grid.specs.declared.cell.Cell.{Cell}
use Rattle.fux_grid.specs.declared.exercise.Exercise.{Exercise}
use Rattle.fux_grid.specs.Cells.{cell_in}
use Rattle.fux_grid.specs.Columns.{line}
use Rattle.fux_grid.specs.Exercises.{IsFree, columns_in}
use Rattle.fux_grid.specs.Menus.{IsInMenu, menu_of}
use Rattle.fux_grid.proofs.Histories.{reverse-push}
use Rattle.fux_grid.proofs.MenuLemmas.{menu_of-contains}
use Rattle.rule_law.specs.Gauges.{GaugeRow, IsNextCell, KeepsGaugeLaws}
use Rattle.rule_law.specs.Growth.{sum_by-same}
use Rattle.rule_law.specs.Prefixes.{IsPrefix, IsSetting}
use Rattle.rule_law.specs.Voices.{is_free}
use Rattle.melody_rules.specs.Gauges.{gauges}
use Rattle.melody_rules.specs.GaugeLaws.{gauges_keep}
use Rattle.penalty_sheet.specs.declared.sheet.Sheet.{Sheet}
use Rattle.penalty_sheet.specs.Weights.{weight_of}
use Rattle.fux_judge.specs.Gauges.{cells_of_voice, cost_of_line, free_voices, gauges_of, least_of, least_of_line}
use Rattle.fux_judge.specs.Penalties.{charges_of, has_strict_break, paid, penalty_of}
use Rattle.fux_judge.proofs.Alive.{paid_at_end}
use Rattle.fux_judge.proofs.Grows.{column_at_end}

-- a greater number by a weight is no less
by_weight : (n m w : ℕ) → n ≤ m → n * w ≤ m * w
by_weight zero m w h = omega arith
by_weight (suc n) zero w h = absurd (omega arith)
by_weight (suc n) (suc m) w h = omega (arith, by_weight n m w (omega (arith, h)))

-- what gauges cost by their weights is no less where none of their values is
costs_grow : (sheet : Sheet) (f g : GaugeRow → ℕ) (rows : List GaugeRow) → AllByRecursion (λ it. f it ≤ g it) rows
    → sum_by (λ it. f it * weight_of sheet it.number) rows ≤ sum_by (λ it. g it * weight_of sheet it.number) rows
costs_grow sheet f g [] h = omega arith
costs_grow sheet f g (it ∷ rows) h =
    omega (
      arith,
      sum_by-cons (λ one. f one * weight_of sheet one.number) it rows,
      sum_by-cons (λ one. g one * weight_of sheet one.number) it rows,
      by_weight (f it) (g it) (weight_of sheet it.number) h.0,
      costs_grow sheet f g rows h.1,
    )

-- and the same where each of them is
pub costs_same : (sheet : Sheet) (f g : GaugeRow → ℕ) (rows : List GaugeRow) → AllByRecursion (λ it. f it ≡ g it) rows
    → sum_by (λ it. f it * weight_of sheet it.number) rows ≡ sum_by (λ it. g it * weight_of sheet it.number) rows
costs_same sheet f g [] h = refl
costs_same sheet f g (it ∷ rows) h =
    sum_by-cons (λ one. f one * weight_of sheet one.number) it rows
    ∙ ap₂ (λ n m. n * weight_of sheet it.number + m) h.0 (costs_same sheet f g rows h.1)
    ∙ sym (sum_by-cons (λ one. g one * weight_of sheet one.number) it rows)

-- so it is of all gauges, from their laws
each_grows : (ex : Exercise) (v : ℕ) (cells col : List Cell) → IsNextCell ex v cells col → (rows : List GaugeRow)
    → AllByRecursion KeepsGaugeLaws rows
    → AllByRecursion (λ it. it.least ex v cells ≤ it.least ex v (cell_in col v ∷ cells)) rows
each_grows ex v cells col next [] laws = laws
each_grows ex v cells col next (it ∷ rows) laws =
    (laws.0.grows ex v cells col next, each_grows ex v cells col next rows laws.1)

each_ends : (ex : Exercise) (v : ℕ) (cells : List Cell) → length cells ≡ columns_in ex → (rows : List GaugeRow)
    → AllByRecursion KeepsGaugeLaws rows → AllByRecursion (λ it. it.least ex v cells ≡ it.value cells) rows
each_ends ex v cells whole [] laws = laws
each_ends ex v cells whole (it ∷ rows) laws = (laws.0.ends ex v cells whole, each_ends ex v cells whole rows laws.1)

-- a sum over those of some numbers that are kept is no less where each of their terms isn't
sum_kept-le : (keep : ℕ → Bool) (f g : ℕ → ℕ) (k n : ℕ) → ((v : ℕ) → v < k + n → keep v ≡ true → f v ≤ g v)
    → sum_by f (filter keep (range_with_len k n)) ≤ sum_by g (filter keep (range_with_len k n))
sum_kept-le keep f g k zero h = omega arith
sum_kept-le keep f g k (suc n) h =
    at (keep k) refl (sum_kept-le keep f g (k + 1) n (λ v l e. h v (omega (arith, l)) e))
  where
    rest : List ℕ
    rest = filter keep (range_with_len (k + 1) n)

    at : (b : Bool) → keep k ≡ b → sum_by f rest ≤ sum_by g rest
        → sum_by f (if b then k ∷ rest else rest) ≤ sum_by g (if b then k ∷ rest else rest)
    at true e r = omega (arith, sum_by-cons f k rest, sum_by-cons g k rest, h k (omega arith) e, r)
    at false e r = r

not_this : (b : Bool) → not b ≡ true → b ≡ true → ⊥
not_this true e h = cc
not_this false e h = cc

-- a voice that isn't the cantus is free
pub free_voice : (ex : Exercise) (v : ℕ) → v < ex.voices → is_free ex v ≡ true → IsFree ex v
free_voice ex v there free =
    record { there = there; no_cantus = λ e. not_this (v == ex.cantus_voice) free (eq-eqb v ex.cantus_voice e) }

-- the cells of a voice are as many as the columns, and one more column has one cell more
pub length-cells : (p : List (List Cell)) (v : ℕ) → length (cells_of_voice p v) ≡ length p
length-cells p v = length-map (reverse p) (λ col. cell_in col v) ∙ length-reverse p

pub cells-more : (p : List (List Cell)) (col : List Cell) (v : ℕ) → cells_of_voice (p ++ col ∷ []) v ≡ cell_in col v
    ∷ cells_of_voice p v
cells-more p col v = ap (line v) (reverse-push p col)

-- the last column of a prefix is in its menu
pub last_in_menu : (ex : Exercise) (p : List (List Cell)) (col : List Cell) → IsPrefix ex (p ++ col ∷ [])
    → IsInMenu ex (length p) col
last_in_menu ex p col prefix =
    let P : List Cell → Type 0 = λ c. IsInMenu ex (length p) c in
    subst P (column_at_end ex p col) (prefix.menus (length p) (omega (arith, length-append p (col ∷ []))))

next_cell : (ex : Exercise) (p : List (List Cell)) (col : List Cell) (v : ℕ) → IsPrefix ex (p ++ col ∷ []) → IsFree ex v
    → IsNextCell ex v (cells_of_voice p v) col
next_cell ex p col v prefix free =
    let P : ℕ → Type 0 = λ i. Contains (menu_of ex i) col in
    record {
      free = free;
      room = omega (arith, length-cells p v, length-append p (col ∷ []), prefix.few);
      in_menu =
          subst P (sym (length-cells p v)) ((menu_of-contains ex (length p) col).1 (last_in_menu ex p col prefix));
    }

pub least_grows : (ex : Exercise) (sheet : Sheet) (p : List (List Cell)) (col : List Cell) → IsPrefix ex (p ++ col ∷ [])
    → least_of ex sheet p ≤ least_of ex sheet (p ++ col ∷ [])
least_grows ex sheet p col prefix =
    sum_kept-le (is_free ex) (λ v. least_of_line ex sheet v (cells_of_voice p v))
    (λ v. least_of_line ex sheet v (cells_of_voice (p ++ col ∷ []) v)) 0 ex.voices
    (λ v there free.
    let next : IsNextCell ex v (cells_of_voice p v) col = next_cell ex p col v prefix
    (free_voice ex v (omega (arith, there)) free) in
    let P : List Cell → Type 0 = λ cells. least_of_line ex sheet v (cells_of_voice p v) ≤ least_of_line ex sheet v cells in
    subst P (sym (cells-more p col v))
    (costs_grow sheet (λ it. it.least ex v (cells_of_voice p v))
    (λ it. it.least ex v (cell_in col v ∷ cells_of_voice p v)) gauges
    (each_grows ex v (cells_of_voice p v) col next gauges gauges_keep)))

pub least_at_end : (ex : Exercise) (sheet : Sheet) (s : List (List Cell)) → IsSetting ex s → least_of ex sheet s
    ≡ gauges_of ex sheet s
least_at_end ex sheet s setting =
    sum_by-same (λ v. least_of_line ex sheet v (cells_of_voice s v)) (λ v. cost_of_line sheet (cells_of_voice s v))
    (free_voices ex)
    (λ v. costs_same sheet (λ it. it.least ex v (cells_of_voice s v)) (λ it. it.value (cells_of_voice s v)) gauges
    (each_ends ex v (cells_of_voice s v) (length-cells s v ∙ setting.whole) gauges gauges_keep))

pub paid_and_least_at_end : (ex : Exercise) → ex.voices ≤ 4 → (sheet : Sheet) (s : List (List Cell)) → IsSetting ex s
    → has_strict_break ex s ≡ false → paid ex sheet s + least_of ex sheet s ≡ penalty_of ex sheet s
paid_and_least_at_end ex few sheet s setting alive =
    ap (λ n. n + least_of ex sheet s) (paid_at_end ex few s setting alive sheet)
    ∙ ap (λ n. charges_of ex sheet s + n) (least_at_end ex sheet s setting)
