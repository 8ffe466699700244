use Rattle.std.proofs.Common.{◌≡◌, ◌-◌, List, drop, length, map}
use Rattle.cert_law.specs.Cases.{Matter}
use Rattle.cert_law.specs.Prefixes.{IsJudged}
use Rattle.fux_grid.specs.declared.cell.Cell.{Cell}
use Rattle.price_check.specs.Floors.{AreFor, ArePlaces, list_of}
use Rattle.price_check.specs.PriceLists.{greatest_sum, path_of}
use Rattle.price_check.proofs.floors.tail_by.Given as goal

-- the greatest of the sums of the last lists, so many
abbrev pub invariant-loop-turn : goal.invariant-loop-turn
invariant-loop-turn l =
    (t : Matter) (p : List (List Cell)) → AreFor t.exercise t.sheet l.floors → IsJudged t p l.judged
    → ArePlaces l.floors l.places (path_of t.exercise p)
    → l.greatest ≡ greatest_sum t.exercise t.sheet l.spent (map list_of (drop (length l.floors - l.turn) l.floors)) p
