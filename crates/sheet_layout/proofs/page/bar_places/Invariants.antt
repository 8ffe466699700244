use Rattle.std.proofs.Common.{◌≡◌, suc, ◌+◌, ◌*◌, ◌≤◌, map}
use Rattle.std.specs.List.{range_with_len}
use Rattle.sheet_layout.specs.Pages.{place_of}
use Rattle.sheet_layout.proofs.page.bar_places.Given as goal

-- the places so far, and the last of them, which fits the page
abbrev pub invariant-loop-bar : goal.invariant-loop-bar
invariant-loop-bar l = record {
  made : l.places.items ≡ map (λ bar. place_of l.ex l.lines l.tall (suc bar)) (range_with_len 0 l.bar);
  last : l.place ≡ place_of l.ex l.lines l.tall l.bar;
  reach : l.place.left + l.place.room.width ≤ 1030;
  top : l.place.top ≤ 60 + 4294967315 * l.bar;
}
