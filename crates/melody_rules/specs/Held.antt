-- The pitches of a line's notes are those that start in its cells (`pitches_are`), so a held cell
-- adds none.
use Rattle.std.specs.Prelude.{◌≡◌, ℕ, suc, List, [], ◌∷◌, map, refl}
use Rattle.std.specs.List.{filter_map}
use Rattle.std.proofs.Common.{ap, sym, ◌∙◌}
use Rattle.fux_pitch.specs.declared.pitch.Pitch.{Pitch}
use Rattle.fux_grid.specs.declared.cell.Cell.{Cell}
use Rattle.fux_grid.specs.declared.cell.Cell.TheVariants.{Rest, Hold, Start}
use Rattle.fux_grid.specs.Cells.{notes_from}
use Rattle.rule_law.specs.Terms.{started_pitch}
use Rattle.melody_rules.specs.Rows.{pitches}

-- how long the newest note has been held changes no pitch
held_starts : (h : ℕ) (cells : List Cell) → map (λ n. n.pitch) (notes_from h cells) ≡ filter_map started_pitch cells
held_starts h [] = refl
held_starts h (Rest ∷ cells) = held_starts 0 cells
held_starts h (Hold p ∷ cells) = held_starts (suc h) cells
held_starts h (Start p ∷ cells) = ap (λ ps. p ∷ ps) (held_starts 0 cells)

-- the list has the pitch of each cell that starts a note, the latest first, and no others
pub pitches_are : (cells : List Cell) → pitches cells ≡ filter_map started_pitch cells
pitches_are cells = held_starts 0 cells

pub pitches-hold : (p : Pitch) (cells : List Cell) → pitches (Hold p ∷ cells) ≡ pitches cells
pitches-hold p cells = held_starts 1 cells ∙ sym (held_starts 0 cells)
