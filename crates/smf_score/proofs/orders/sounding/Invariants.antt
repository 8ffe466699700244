use Rattle.std.proofs.Common.{◌≡◌, []}
use Rattle.std.specs.Prelude.{filter, slice_index_or}
use Rattle.std.specs.List.{range_with_len}
use Rattle.smf_score.specs.Orders.{sounds}
use Rattle.smf_score.proofs.orders.sounding.Given as goal

-- those of the voices so far
abbrev pub invariant-loop-v : goal.invariant-loop-v
invariant-loop-v l =
    l.found.items ≡ filter (λ v. sounds l.cantus (slice_index_or l.voices v [])) (range_with_len 0 l.v)
