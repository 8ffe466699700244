-- Shapes.
use Rattle.std.specs.Prelude.{Bool, List, [], ◌∷◌, if◌then◌else◌}
use Rattle.sheet_layout.specs.declared.shapes.Shape.{Shape}

-- a shape where it is drawn
abbrev pub when : Bool → Shape → List Shape
when drawn shape = if drawn then shape ∷ [] else []
