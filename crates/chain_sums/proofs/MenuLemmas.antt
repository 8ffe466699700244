-- Menus whose numbers rise are searched by them (`found_by_number`), and with equal numbers they
-- have equal columns (`same_columns`).
use Rattle.std.proofs.Common.{◌≡◌, ◌⊎◌, inl, inr, ℕ, ◌<◌, ◌≤◌, List, [], length, map, get_or, refl, ap, sym, ◌∙◌, arith}
use Rattle.std.specs.List.{Contains}
use Rattle.std.proofs.lemmas.Bool.{cases_order}
use Rattle.std.proofs.lemmas.List.{ext_get_or, get_or-map, get_or_default, length-map}
use Rattle.std.proofs.lemmas.List.Elements.{All-contains, Contains-get_or}
use Rattle.fux_grid.specs.declared.cell.Cell.{Cell}
use Rattle.fux_grid.specs.Menus.{IsAscending}
use Rattle.chain_sums.specs.Chains.{AreFull}
use Rattle.chain_sums.specs.declared.menu.Menu.{Menu}
use Rattle.chain_sums.specs.Menus.{IsNumberOf, IsPacked, IsRising, columns_of}
use Rattle.chain_sums.proofs.LeastLemmas.{length-columns}
use Rattle.chain_sums.specs.Packed.{packed}
use Rattle.chain_sums.proofs.PackedLemmas.{packed-less, packed-same}

-- the number of a column
pub number-at : (columns : List (List Cell)) (k : ℕ) → k < length columns → get_or (map packed columns) k 0
    ≡ packed (get_or columns k [])
number-at columns k h = get_or-map packed columns k [] 0 h

full-at : (voices : ℕ) (columns : List (List Cell)) (k : ℕ) → AreFull voices columns → k < length columns
    → length (get_or columns k []) ≡ voices
full-at voices columns k full h =
    All-contains (λ col. length col ≡ voices) columns (get_or columns k []) full (Contains-get_or columns k [] h)

-- columns with equal numbers
pub same_columns : (voices : ℕ) (columns others : List (List Cell)) → voices ≤ 4 → AreFull voices columns
    → AreFull voices others
    → map packed columns ≡ map packed others → columns ≡ others
same_columns voices columns others few full full_too e =
    ext_get_or [] columns others (sym (length-map columns packed) ∙ ap length e ∙ length-map others packed) at
  where
    at : (k : ℕ) → k < length columns → get_or columns k [] ≡ get_or others k []
    at k h =
        let there : k < length others = omega
        (arith, h, length-map columns packed, ap length e, length-map others packed) in
        let own = full-at voices columns k full h in
        packed-same (get_or columns k []) (get_or others k []) (own ∙ sym (full-at voices others k full_too there))
        (omega (arith, own))
        (sym (number-at columns k h) ∙ ap (λ xs. get_or xs k 0) e ∙ number-at others k there)

-- columns in reading order have rising numbers
pub numbers-rise : (voices : ℕ) (columns : List (List Cell)) → voices ≤ 4 → AreFull voices columns → IsAscending columns
    → IsRising (map packed columns)
numbers-rise voices columns few full order i j l h = by (cases_order i j)
  where
    within : j < length columns
    within = omega (arith, length-map columns packed)

    below : i < j → get_or (map packed columns) i 0 ≤ get_or (map packed columns) j 0
    below k =
        let first : i < length columns = omega (arith, within) in
        let less : packed (get_or columns i []) < packed (get_or columns j []) =
        packed-less (get_or columns i []) (get_or columns j [])
        (full-at voices columns i full first ∙ sym (full-at voices columns j full within))
        (omega (arith, full-at voices columns i full first)) (order i j [] k within) in
        omega (arith, number-at columns i first, number-at columns j within)

    by : (i ≡ j) ⊎ ((i < j) ⊎ (j < i)) → get_or (map packed columns) i 0 ≤ get_or (map packed columns) j 0
    by (inl e) = omega (arith, ap (λ n. get_or (map packed columns) n 0) e)
    by (inr (inl k)) = below k
    by (inr (inr k)) = absurd (omega arith)

-- the column of a number
pub found_by_number : (voices : ℕ) (columns : List (List Cell)) (k : ℕ) (d : List Cell) → voices ≤ 4
    → AreFull voices columns → Contains columns d → k < length columns
    → get_or (map packed columns) k 0 ≡ packed d → get_or columns k [] ≡ d
found_by_number voices columns k d few full there h e =
    let own = full-at voices columns k full h in
    packed-same (get_or columns k []) d (own ∙ sym (All-contains (λ col. length col ≡ voices) columns d full there))
    (omega (arith, own))
    (sym (number-at columns k h) ∙ e)

-- where the number of a packed menu's column stands, the column does
pub number_found : (menu : Menu) (voices k : ℕ) (d : List Cell) → IsPacked voices menu → Contains (columns_of menu) d
    → k < length menu.numbers.items
    → get_or menu.numbers.items k 0 ≡ packed d → IsNumberOf menu d k
number_found menu voices k d is there h e =
    let within : k < length (columns_of menu) = omega
    (arith, h, ap length is.numbers, length-map (columns_of menu) packed) in (
      omega (arith, within, length-columns menu.columns.items (columns_of menu) refl),
      found_by_number voices (columns_of menu) k d is.few is.full there within
          (ap (λ xs. get_or xs k 0) (sym is.numbers) ∙ e),
    )

-- a column of the menu has one of its numbers
pub number_there : (columns : List (List Cell)) (d : List Cell) → Contains columns d → (k : ℕ) × (k < length columns)
    × (get_or (map packed columns) k 0 ≡ packed d)
number_there columns d (k, h, e) = (k, h, number-at columns k h ∙ ap packed (get_or_default columns k [] d h ∙ e))
