use Rattle.std.proofs.Common.{◌≡◌, ◌<◌, ◌≤◌, ℕ, [], length, get_or}
use Rattle.std.specs.Prelude.{vec_capacity, vec_len}
use Rattle.chain_sums.specs.declared.moves.CellNumbers.{CellNumbers}
use Rattle.chain_sums.specs.Menus.{columns_of}
use Rattle.chain_sums.specs.Moves.{AreNumbersOf}
use Rattle.chain_sums.proofs.moves.Choir.numbers_of.Given as goal

abbrev pub invariant-loop-k : goal.invariant-loop-k
invariant-loop-k l = record {
  room : length l.menu.columns.items ≤ vec_capacity l.numbers;
  counted : vec_len l.numbers ≡ l.k;
  are : (j : ℕ) (none : CellNumbers) → j < l.k
      → AreNumbersOf l.self (get_or (columns_of l.menu) j []) (get_or l.numbers.items j none);
}
