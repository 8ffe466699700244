use Rattle.std.proofs.Common.{◌≡◌, false}
use Rattle.std.specs.List.{list_any, range_with_len}
use Rattle.rhythm_cadence.specs.InPlace.{is_out_of_place_at}
use Rattle.rhythm_cadence.proofs.in_place.are_in_place.Given as goal

abbrev pub invariant-loop-v : goal.invariant-loop-v
invariant-loop-v l =
    list_any (is_out_of_place_at l.ex l.fn.i l.latest.pitches l.now) (range_with_len 0 l.v) ≡ false
