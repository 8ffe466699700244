use Rattle.std.proofs.Common.{◌≡◌, ◌-◌}
use Rattle.std.specs.List.{list_all, range_with_len}
use Rattle.class_marker.specs.Differences.{fits_at}
use Rattle.class_marker.proofs.comparing.fits_in_bar.Given as goal

-- all fit where those that are left do
abbrev pub invariant-loop-slot : goal.invariant-loop-slot
invariant-loop-slot l =
    list_all (fits_at l.lesson l.score.columns l.v l.bar) (range_with_len 0 8)
    ≡ list_all (fits_at l.lesson l.score.columns l.v l.bar) (range_with_len l.slot (8 - l.slot))
