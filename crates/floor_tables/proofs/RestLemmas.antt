-- What the tables answer is the rest of each prefix that they are asked about: of one that ends
-- with the column (`rest_is`), and of the empty one (`start_is`).
use Rattle.std.proofs.Common.{◌≡◌, ℕ, suc, ◌+◌, ◌-◌, ◌≤◌, List, [], ◌∷◌, ◌++◌, length, Option, Some, None, ap, sym, ◌∙◌, arith}
use Rattle.std.proofs.lemmas.List.{length-append}
use Rattle.fux_grid.specs.declared.cell.Cell.{Cell}
use Rattle.fux_grid.specs.declared.exercise.Exercise.{Exercise}
use Rattle.fux_grid.specs.Exercises.{columns_in}
use Rattle.fux_grid.proofs.Histories.{reverse-push}
use Rattle.penalty_sheet.specs.declared.sheet.Sheet.{Sheet}
use Rattle.fux_judge.specs.Links.{last_column, newest_of}
use Rattle.chain_sums.specs.Sums.{least_sum}
use Rattle.chain_sums.proofs.SumLemmas.{least_is_sum}
use Rattle.floor_tables.specs.Floors.{chains_of, rest_of}
use Rattle.floor_tables.specs.Tables.{IsRest, IsStart}

pub last_column-push : (p : List (List Cell)) (col : List Cell) → last_column (p ++ col ∷ []) ≡ Some col
last_column-push p col = ap newest_of (reverse-push p col)

-- the rest of a prefix that is longer by a column
pub rest-push : (ex : Exercise) (sheet : Sheet) (p : List (List Cell)) (col : List Cell)
    → rest_of ex sheet (p ++ col ∷ []) ≡ least_sum (chains_of ex sheet) (columns_in ex - suc (length p))
    (suc (length p)) (Some col)
unfolding rest_of
rest-push ex sheet p col =
    let size : length (p ++ col ∷ []) ≡ suc (length p) = omega (arith, length-append p (col ∷ [])) in
    ap (λ n. least_sum (chains_of ex sheet) (columns_in ex - n) n (last_column (p ++ col ∷ []))) size
    ∙ ap (λ last. least_sum (chains_of ex sheet) (columns_in ex - suc (length p)) (suc (length p)) last)
    (last_column-push p col)

pub rest_is : (ex : Exercise) (sheet : Sheet) (p : List (List Cell)) (col : List Cell) (rest : Option ℕ)
    → length p + 1 ≤ columns_in ex
    → IsRest ex sheet (length p) col rest → rest ≡ rest_of ex sheet (p ++ col ∷ [])
rest_is ex sheet p col rest room is =
    least_is_sum (chains_of ex sheet) (suc (length p)) (Some col) rest (omega (arith, room)) is
    ∙ sym (rest-push ex sheet p col)

pub start_is : (ex : Exercise) (sheet : Sheet) (start : Option ℕ) → IsStart ex sheet start → start ≡ rest_of ex sheet []
unfolding rest_of
start_is ex sheet start is =
    least_is_sum (chains_of ex sheet) 0 None start (omega arith) is
