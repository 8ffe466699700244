use Rattle.std.proofs.Common.{◌≡◌, length, ◌-◌, ◌≤◌, drop, slice_index_or}
use Rattle.fux_grid.specs.declared.given.Given.TheVariants.{Blank}
use Rattle.fux_text.specs.GivenItems.{given_goes_on, given_items}
use Rattle.fux_text.specs.Items.{with_run_by}
use Rattle.fux_text.proofs.items.first_length.Given as goal

abbrev pub invariant-loop-count : goal.invariant-loop-count
invariant-loop-count l = (1 ≤ l.count) × (l.count ≤ length l.cells)
    × (given_items l.cells ≡ with_run_by given_goes_on (slice_index_or l.cells 0 Blank) l.count
    (given_items (drop l.count l.cells)))

abbrev pub decreases-loop-count : goal.decreases-loop-count
decreases-loop-count l = length l.cells - l.count
