-- The columns of bars: the first of a bar stands behind those of the bars before it
-- (`earlier-bar`), and each of its eight is the bar's own (`column-of_bar`).
use Rattle.std.proofs.Common.{◌≡◌, ℕ, zero, suc, ◌+◌, ◌*◌, ◌<◌, ◌≤◌, List, [], ◌∷◌, ◌++◌, length, map, take, reverse, replicate, refl, ap, sym, ◌∙◌, arith}
use Rattle.std.specs.Prelude.{slice_index_or}
use Rattle.std.specs.List.{flat_map}
use Rattle.std.proofs.lemmas.Grind.{flat_map-append}
use Rattle.std.proofs.lemmas.List.{append-nil, get_or-append-add, get_or_append_left, length-replicate, reverse-append}
use Rattle.std.proofs.Math.Seq.{take-append-add}
use Rattle.canon_space.specs.Rules.{columns_of, columns_of_bar, goes_on}
use Rattle.fux_grid.specs.declared.cell.Cell.{Cell}
use Rattle.fux_grid.specs.Columns.{earlier}

-- the columns of bars that go from the newest to the oldest
abbrev pub held_columns : List (List Cell) → List (List Cell)
held_columns behind = flat_map (λ bar. reverse (columns_of_bar bar)) behind

eight : (bar : List Cell) → length (columns_of_bar bar) ≡ 8
eight bar = let seven = length-replicate 7 (map goes_on bar) in omega (arith, seven)

take-columns : (bars : List (List Cell)) (n : ℕ) → n ≤ length bars → take (8 * n) (columns_of bars) ≡ columns_of (take n bars)
take-columns bars zero within =
    let none : 8 * 0 ≡ 0 = omega arith in ap (λ k. take k (columns_of bars)) none
take-columns [] (suc n) within = absurd (omega (arith, within))
take-columns (bar ∷ bars) (suc n) within =
    let size : 8 * suc n ≡ length (columns_of_bar bar) + 8 * n = omega (arith, eight bar) in
    ap (λ k. take k (columns_of_bar bar ++ columns_of bars)) size
    ∙ take-append-add (columns_of_bar bar) (columns_of bars) (8 * n)
    ∙ ap (λ more. columns_of_bar bar ++ more) (take-columns bars n (omega (arith, within)))

pub reverse-columns : (bars : List (List Cell)) → reverse (columns_of bars) ≡ held_columns (reverse bars)
reverse-columns [] = refl
reverse-columns (bar ∷ bars) =
    reverse-append (columns_of_bar bar) (columns_of bars)
    ∙ ap (λ more. more ++ reverse (columns_of_bar bar)) (reverse-columns bars)
    ∙ ap (λ own. held_columns (reverse bars) ++ own) (sym (append-nil (reverse (columns_of_bar bar))))
    ∙ sym (flat_map-append (λ b. reverse (columns_of_bar b)) (reverse bars) (bar ∷ []))
    ∙ ap held_columns (sym (reverse-append (bar ∷ []) bars))

pub earlier-bar : (bars : List (List Cell)) (n : ℕ) → n ≤ length bars
    → earlier (columns_of bars) (8 * n) ≡ held_columns (reverse (take n bars))
unfolding earlier
earlier-bar bars n within = ap reverse (take-columns bars n within) ∙ reverse-columns (take n bars)

pub column-of_bar : (bars : List (List Cell)) (n slot : ℕ) → n < length bars → slot < 8
    → slice_index_or (columns_of bars) (8 * n + slot) [] ≡ slice_index_or (columns_of_bar (slice_index_or bars n [])) slot []
column-of_bar [] n slot within low = absurd (omega (arith, within))
column-of_bar (bar ∷ bars) zero slot within low =
    let at : 8 * 0 + slot ≡ slot = omega arith in
    ap (λ k. slice_index_or (columns_of_bar bar ++ columns_of bars) k []) at
    ∙ get_or_append_left (columns_of_bar bar) (columns_of bars) [] slot (omega (arith, low, eight bar))
column-of_bar (bar ∷ bars) (suc n) slot within low =
    let size : 8 * suc n + slot ≡ length (columns_of_bar bar) + (8 * n + slot) = omega (arith, eight bar) in
    ap (λ k. slice_index_or (columns_of_bar bar ++ columns_of bars) k []) size
    ∙ get_or-append-add (columns_of_bar bar) (columns_of bars) (8 * n + slot) []
    ∙ column-of_bar bars n slot (omega (arith, within)) low
