-- Paths of child numbers, and the bars that they lead to. A child's number is that of the cell of
-- voice 0 times 74, and that of voice 1: of a rest 0, of a note from 1 on by its key, from 24 to
-- 96.
use Rattle.std.specs.Prelude.{◌≡◌, ℕ, ◌+◌, ◌/◌, ◌%◌, ◌==◌, Bool, true, ◌&&◌, nat_lt, List, [], ◌∷◌, Option, Some, None, map, reverse, if◌then◌else◌}
use Rattle.std.specs.List.{list_all}
use Rattle.fux_pitch.specs.declared.pitch.Pitch.{Pitch}
use Rattle.fux_pitch.specs.Spelling.{spelled}
use Rattle.fux_grid.specs.declared.cell.Cell.{Cell}
use Rattle.fux_grid.specs.declared.cell.Cell.TheVariants.{Rest, Start}
use Rattle.penalty_sheet.specs.declared.sheet.Sheet.{Sheet}
use Rattle.canon_space.specs.declared.canon.Canon.{Canon}
use Rattle.canon_space.specs.declared.node.CanonNode.{CanonNode}
use Rattle.canon_space.specs.Canons.{Bars, fits}
use Rattle.canon_space.specs.Nodes.{IsNodeOf}
use Rattle.canon_space.specs.Rules.{is_live, paid}

-- a note, where there is a pitch
abbrev pub note_or_rest : Option Pitch → Cell
note_or_rest None = Rest
note_or_rest (Some p) = Start p

-- the cell of a number: a rest, or a note of a key as keys are spelled
abbrev pub numbered_cell : ℕ → Cell
numbered_cell n = if n == 0 then Rest else note_or_rest (spelled (n + 23))

-- the bar of a child's number
abbrev pub numbered_bar : ℕ → List Cell
numbered_bar k = numbered_cell (k / 74) ∷ numbered_cell (k % 74) ∷ []

-- both cells of a child's bar fit their voices
abbrev pub both_fit : Canon → Bars → ℕ → Bool
both_fit canon behind k = fits canon behind 0 (numbered_cell (k / 74)) && fits canon behind 1 (numbered_cell (k % 74))

-- of the numbers from one on with this cell of voice 0, the least cell of voice 1
abbrev pub upper_from : ℕ → ℕ → ℕ
upper_from from lower = if lower == from / 74 then from % 74 else 0

-- the numbers of children: 74 times 74
abbrev pub WIDTH : ℕ
WIDTH = 5476

-- the bars that a path leads to
abbrev pub bars_at : List ℕ → List (List Cell)
bars_at path = map numbered_bar path

-- the same from the newest to the oldest
abbrev pub history_at : List ℕ → Bars
history_at path = reverse (bars_at path)

-- each number is one of a child
abbrev pub are_numbers : List ℕ → Bool
are_numbers path = list_all (λ k. nat_lt k WIDTH) path

abbrev pub is_live_path : Canon → List ℕ → Bool
is_live_path canon path = are_numbers path && is_live canon (history_at path)

-- what the bars cost that a path leads to, where they begin a canon and break no rule
unfoldable pub live_at : Canon → Sheet → List ℕ → Option ℕ
live_at canon sheet path = if is_live_path canon path then Some (paid canon sheet (history_at path)) else None

-- the node is that of a live path
pub record IsNodeAt (canon : Canon) (sheet : Sheet) (node : CanonNode) (path : List ℕ) : Type 0 where
  pub numbers : are_numbers path ≡ true
  pub here : IsNodeOf canon sheet (history_at path) node
