-- Bars as they are kept.
use Rattle.std.specs.Prelude.{List, map, reverse}
use Rattle.canon_space.specs.declared.bars.Bar.{Bar}
use Rattle.canon_space.specs.Canons.{Bars}

-- the bars from the newest to the oldest, of bars that are kept from the oldest to the newest
abbrev pub history_of : List Bar → Bars
history_of bars = reverse (map (λ bar. bar.cells) bars)
