-- What is told of the faults of a text.
use Rattle.std.specs.Prelude.{◌≡◌, ℕ, List, [], ◌∷◌, ◌++◌}
use Rattle.std.specs.List.{flat_map}
use Rattle.fux_text.specs.Faults.{text_fault}
use Rattle.text_faults.specs.declared.found.FoundFault.{FoundFault}
use Rattle.text_faults.specs.Below.{AreFrom}
use Rattle.text_faults.specs.Hints.{hint}
use Rattle.text_faults.specs.MarkedLines.{line_at, marked_line}

-- the line of a fault's place and kind, and that of what would be right
unfoldable pub place_line : List ℕ → FoundFault → List ℕ
place_line name fault = text_fault name fault.kind fault.line fault.column ++ 10 ∷ []

unfoldable pub hint_line : FoundFault → List ℕ → List ℕ
hint_line fault line = hint fault line ++ 10 ∷ []

-- a fault: its place and its kind, its line with a caret below the place, and what would be right
-- there
abbrev pub told_in : List ℕ → FoundFault → List ℕ → List ℕ
told_in name fault line =
    place_line name fault ++ (marked_line fault.column line ++ hint_line fault line)

unfoldable pub explained_fault : List ℕ → List ℕ → FoundFault → List ℕ
explained_fault name bytes fault = told_in name fault (line_at fault.line bytes)

-- faults of a text of this name, one after the other
abbrev pub explained_faults : List ℕ → List ℕ → List FoundFault → List ℕ
explained_faults name bytes faults = flat_map (explained_fault name bytes) faults

-- this tells the faults of a text of this name, of which the first is this one
pub record TellsFaults (name bytes : List ℕ) (first : FoundFault) (told : List ℕ) : Type 0 where
  pub faults : List FoundFault
  pub all : AreFrom first bytes faults
  pub is : told ≡ explained_faults name bytes faults
