-- What two columns cost is no less than what the second costs by itself and what the moves of the
-- voices cost.
use Rattle.std.specs.Prelude.{◌≡◌, ℕ, ◌+◌, ◌≤◌, List, Option, Some, None, IsSomeAnd}
use Rattle.std.proofs.Common.{ap, sym, ◌∙◌, refl, subst, arith}
use Rattle.fux_grid.specs.declared.cell.Cell.{Cell}
use Rattle.fux_grid.specs.declared.exercise.Exercise.{Exercise}
use Rattle.fux_grid.specs.Cells.{cell_in}
use Rattle.penalty_sheet.specs.declared.sheet.Sheet.{Sheet}
use Rattle.fux_judge.specs.Links.{column_of, pair_of, together}
use Rattle.fux_judge.specs.Moves.{move_of, moves_of}
use Rattle.fux_judge.proofs.LinkLemmas.{link_parts}
use Rattle.fux_judge.proofs.MoveLinks as links
use Rattle.chain_sums.specs.Chains.{plus}
use Rattle.chain_sums.proofs.LeastLemmas.{same_value}
use Rattle.chain_sums.specs.Moves.{AreLeastMoves, moves_sum}
use Rattle.floor_tables.specs.Floors.{chains_of}

-- two names of one sum
plus_is : (a b : Option ℕ) → plus a b ≡ together a b
plus_is None b = refl
plus_is (Some x) None = refl
plus_is (Some x) (Some y) = refl

pub moves_are : (ex : Exercise) (sheet : Sheet) (i : ℕ) (before d : List Cell)
    → moves_sum (move_of ex sheet i) before d ≡ moves_of ex sheet i before d
moves_are ex sheet i before d =
    plus_is (of 0) (plus (of 1) (plus (of 2) (of 3)))
    ∙ ap (together (of 0)) (plus_is (of 1) (plus (of 2) (of 3)) ∙ ap (together (of 1)) (plus_is (of 2) (of 3)))
  where
    of : ℕ → Option ℕ
    of v = move_of ex sheet i v (cell_in before v) (cell_in d v)

-- of two parts that cost so much together, the second costs the rest
second_part : (own pair : Option ℕ) (x y : ℕ) → together own pair ≡ Some x → own ≡ Some y
    → (p : ℕ) × (pair ≡ Some p) × (y + p ≡ x)
second_part None pair x y e f = cc
second_part (Some z) None x y e f = cc
second_part (Some z) (Some p) x y e f =
    let sum : z + p ≡ x = same_value (z + p) x e in
    let own : z ≡ y = same_value z y f in
    (p, refl, omega arith)

pub least_moves : (ex : Exercise) (sheet : Sheet) (i : ℕ)
    → AreLeastMoves (chains_of ex sheet) i (column_of ex sheet i) (move_of ex sheet i)
least_moves ex sheet i before d x y linked own =
    at (second_part (column_of ex sheet i d) (pair_of ex sheet i (Some before) d) x y
    (sym (link_parts ex i (Some before) d sheet) ∙ linked) own)
  where
    more : (p : ℕ) → y + p ≡ x → (o : Option ℕ) → IsSomeAnd o (λ z. z ≤ p) → IsSomeAnd o (λ z. y + z ≤ x)
    more p e None h = h
    more p e (Some z) h = let k : y + z ≤ x = omega (arith, h, e) in k

    at : (p : ℕ) × (pair_of ex sheet i (Some before) d ≡ Some p) × (y + p ≡ x)
        → IsSomeAnd (moves_sum (move_of ex sheet i) before d) (λ z. y + z ≤ x)
    at (p, e, f) = more p f (moves_sum (move_of ex sheet i) before d)
        (subst (λ (o : Option ℕ). IsSomeAnd o (λ z. z ≤ p)) (sym (moves_are ex sheet i before d))
        (links.moves_are_least ex sheet i before d p e))
