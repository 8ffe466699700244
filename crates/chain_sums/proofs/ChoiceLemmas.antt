-- A column that is passed over has no lesser sum: `passed_over`, from what the moves of the voices
-- cost.
use Rattle.std.proofs.Common.{◌≡◌, ℕ, ◌+◌, ◌≤◌, if◌then◌else◌, List, Option, Some, None, refl, ap, sym, ◌∙◌, subst, arith}
use Rattle.std.specs.Prelude.{IsSomeAnd, ◌↔◌}
use Rattle.fux_grid.specs.declared.cell.Cell.{Cell}
use Rattle.fux_grid.specs.Columns.{ColumnFollows}
use Rattle.chain_sums.specs.Chains.{Chains, IsKnown, cells_of, plus}
use Rattle.chain_sums.specs.Choices.{IsNoLess}
use Rattle.chain_sums.specs.Moves.{AreLeastMoves, moves_sum}
use Rattle.chain_sums.specs.Rows.{IsSumOf}
use Rattle.chain_sums.specs.Sums.{column_follows, lesser, sum_behind}
use Rattle.chain_sums.proofs.LeastLemmas.{at_most, sum_of_both}
use Rattle.chain_sums.proofs.SumLemmas.{chosen, column_follows_is}

-- a number that is no less than the least changes nothing
pub no_less : (least other : Option ℕ) → ((x : ℕ) → other ≡ Some x → IsSomeAnd least (λ y. y ≤ x)) → least
    ≡ lesser least other
no_less None None h = refl
no_less None (Some x) h = absurd (h x refl)
no_less (Some y) None h = refl
no_less (Some y) (Some x) h = let k : y ≤ x = h x refl in ap Some (omega arith)

module _ (c : Chains) (i : ℕ) (before : Option (List Cell)) (d : List Cell) (rest : Option ℕ) where
  follows_sum : ColumnFollows (cells_of before) d → sum_behind c i before d rest ≡ plus (c.cost i before d) rest
  follows_sum follows =
      ap (λ b. if b then plus (c.cost i before d) rest else None) ((column_follows_is (cells_of before) d).1 follows)

  -- the sum as a number is the sum
  pub sum_behind_is : (x : ℕ) → (sum_behind c i before d rest ≡ Some x) ↔ IsSumOf c i before d rest x
  sum_behind_is x = (
    there,
    λ s. follows_sum s.follows
        ∙ (sum_of_both c i before d rest (c.cost i before d) s.follows refl x).1 s,
  )
    where
      there : sum_behind c i before d rest ≡ Some x → IsSumOf c i before d rest x
      there e =
          let parts = chosen (column_follows (cells_of before) d) (plus (c.cost i before d) rest) x e in
          (sum_of_both c i before d rest (c.cost i before d) ((column_follows_is (cells_of before) d).0 parts.0) refl x).0
          parts.1

  -- what is found of a column that follows
  pub found : (cost : Option ℕ) → ColumnFollows (cells_of before) d → cost ≡ c.cost i before d
      → plus cost rest ≡ sum_behind c i before d rest
  found cost follows e = ap (λ o. plus o rest) e ∙ sym (follows_sum follows)

  -- one that doesn't follow
  pub strays : (least : Option ℕ) → (ColumnFollows (cells_of before) d → ⊥) → least
      ≡ lesser least (sum_behind c i before d rest)
  strays least h = no_less least (sum_behind c i before d rest) (λ x e. absurd (h ((sum_behind_is x).0 e).follows))

module _ (c : Chains) (i : ℕ) (own : List Cell → Option ℕ) (moves : ℕ → Cell → Cell → Option ℕ)
    (low : AreLeastMoves c i own moves) (before d : List Cell) (rest least : Option ℕ) (known : ℕ)
    (is : IsKnown (own d) known) where
  within : (x : ℕ) → IsSumOf c i (Some before) d rest x → (moved : Option ℕ) → moves_sum moves before d ≡ moved
      → IsSomeAnd moved (λ z. (y : ℕ) × (rest ≡ Some y) × (known + z + y ≤ x))
  within x s moved e =
      at moved (subst (λ (o : Option ℕ). IsSomeAnd o (λ z. known + z ≤ s.own)) e (low before d s.own known s.is_own is.0))
    where
      at : (o : Option ℕ) → IsSomeAnd o (λ z. known + z ≤ s.own)
          → IsSomeAnd o (λ z. (y : ℕ) × (rest ≡ Some y) × (known + z + y ≤ x))
      at None h = h
      at (Some z) h = (s.behind, s.is_rest, omega (arith, h, s.both))

  -- one for which a voice may not move so
  pub barred : moves_sum moves before d ≡ None → least ≡ lesser least (sum_behind c i (Some before) d rest)
  barred none = no_less least (sum_behind c i (Some before) d rest)
      (λ x e. absurd (within x ((sum_behind_is c i (Some before) d rest x).0 e) None none))

  -- one that costs too much by the moves alone
  pub passed_over : (moved : ℕ) → moves_sum moves before d ≡ Some moved → IsNoLess least (known + moved) rest
      → least ≡ lesser least (sum_behind c i (Some before) d rest)
  passed_over moved e less = no_less least (sum_behind c i (Some before) d rest) (λ x f. at x
      (within x ((sum_behind_is c i (Some before) d rest x).0 f) (Some moved) e))
    where
      at : (x : ℕ) → (y : ℕ) × (rest ≡ Some y) × (known + moved + y ≤ x) → IsSomeAnd least (λ y. y ≤ x)
      at x (y, f, l) = at_most least (known + moved + y) x l (less y f)
