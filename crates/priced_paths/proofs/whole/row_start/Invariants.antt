use Rattle.std.specs.Prelude.{◌≡◌, ℕ, ◌<◌, None, slice_index_or}
use Rattle.priced_paths.proofs.whole.row_start.Given as goal

abbrev pub invariant-loop-k : goal.invariant-loop-k
invariant-loop-k l = (j : ℕ) → j < l.k → slice_index_or l.row j None ≡ None
