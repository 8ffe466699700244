-- The rows of shapes.
use Rattle.std.specs.Prelude.{ℕ, ◌-◌, ◌/◌, Bool, List, ◌++◌, codes, if◌then◌else◌}
use Rattle.std.specs.Fmt.{decimal}
use Rattle.sheet_layout.specs.declared.shapes.Point.{Point}
use Rattle.sheet_layout.specs.declared.shapes.Shape.{Shape}
use Rattle.sheet_layout.specs.declared.shapes.Shape.TheVariants.{At, Stem, Joined, Tie}
use Rattle.sheet_layout.specs.declared.shapes.Symbol.{Symbol}
use Rattle.sheet_layout.specs.declared.shapes.Symbol.TheVariants.{WholeHead, HalfHead, BlackHead, WholeRest, HalfRest, QuarterRest, EighthRest, UpFlag, DownFlag, Sharp, Flat, Natural, Dot, Ledger}

-- words, and a number behind them
unfoldable pub told : List ℕ → ℕ → List ℕ
told words n = words ++ decimal n

-- the name of a symbol's drawing
abbrev pub symbol_name : Symbol → List ℕ
symbol_name WholeHead = codes "w"
symbol_name HalfHead = codes "h"
symbol_name BlackHead = codes "q"
symbol_name WholeRest = codes "rw"
symbol_name HalfRest = codes "rh"
symbol_name QuarterRest = codes "rq"
symbol_name EighthRest = codes "re"
symbol_name UpFlag = codes "fu"
symbol_name DownFlag = codes "fd"
symbol_name Sharp = codes "s"
symbol_name Flat = codes "b"
symbol_name Natural = codes "n"
symbol_name Dot = codes "p"
symbol_name Ledger = codes "l"

-- a symbol at a point
unfoldable pub symbol_row : Symbol → Point → List ℕ
symbol_row symbol at =
    codes "<use xlink:href=\"#" ++ symbol_name symbol ++ told (codes "\" x=\"") at.x
    ++ told (codes "\" y=\"") at.y ++ codes "\"/>\n"

-- a stem from its head to its tip
unfoldable pub stem_row : Point → ℕ → List ℕ
stem_row from tip =
    told (codes "<path d=\"M") from.x ++ told (codes " ") from.y ++ told (codes "V") tip
    ++ codes "\" stroke=\"currentColor\" stroke-width=\"1.2\"/>\n"

-- a beam from one stem's tip to another's
unfoldable pub beam_row : Point → Point → List ℕ
beam_row from to =
    told (codes "<path d=\"M") from.x ++ told (codes " ") from.y ++ told (codes "L") to.x
    ++ told (codes " ") to.y ++ codes "\" stroke=\"currentColor\" stroke-width=\"4\"/>\n"

-- an arc from a point so far to the right, there and back, by words that say its way
unfoldable pub arc_row : List ℕ → List ℕ → List ℕ → Point → ℕ → List ℕ
arc_row begin there back from wide =
    told (codes "<path d=\"M") from.x ++ told (codes " ") from.y ++ told begin (wide / 2)
    ++ told there wide ++ told (codes " 0q-") (wide - wide / 2) ++ told back wide
    ++ codes " 0z\" stroke=\"currentColor\"/>\n"

-- a tie from a point to a place: 7 below its heads where their stems go up, else 7 above
abbrev pub tie_row : Bool → Point → ℕ → List ℕ
tie_row up from to =
    if up then arc_row (codes "m0 7q") (codes " 7 ") (codes " 5-") from (to - from.x)
    else arc_row (codes "m0-7q") (codes "-7 ") (codes "-5-") from (to - from.x)

-- the row of a shape
abbrev pub shape_row : Shape → List ℕ
shape_row (At symbol at) = symbol_row symbol at
shape_row (Stem from tip) = stem_row from tip
shape_row (Joined up from to) = beam_row from to
shape_row (Tie up from to) = tie_row up from to
