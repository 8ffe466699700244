use Rattle.std.specs.Prelude.{◌≡◌, ℕ, ◌<◌, ◌≤◌, None, slice_index_or}
use Rattle.priced_paths.proofs.whole.row_end.Given as goal

abbrev pub invariant-loop-k : goal.invariant-loop-k
invariant-loop-k l = record {
  within : l.end ≤ l.k;
  none : (j : ℕ) → l.end ≤ j → j < l.k → slice_index_or l.row j None ≡ None;
}
