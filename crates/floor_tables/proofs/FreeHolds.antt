-- Where no bar begins, a column that holds all it sounds costs nothing behind any other
-- (`holding_is_free`): nothing starts in it.
use Rattle.std.proofs.Common.{◌≡◌, ℕ, true, false, ◌&&◌, List, [], ◌∷◌, Some, refl, ap, sym, ◌∙◌}
use Rattle.std.specs.Prelude.{not}
use Rattle.std.specs.List.{list_any}
use Rattle.fux_grid.specs.declared.cell.Cell.{Cell}
use Rattle.fux_grid.specs.declared.cell.Cell.TheVariants.{Rest, Hold, Start}
use Rattle.fux_grid.specs.declared.exercise.Exercise.{Exercise}
use Rattle.rule_law.specs.Bars.{begins_bar}
use Rattle.rule_law.specs.Quiet.{is_quiet}
use Rattle.rule_law.specs.Terms.{starts}
use Rattle.penalty_sheet.specs.declared.sheet.Sheet.{Sheet}
use Rattle.fux_judge.specs.Links.{pair_of, together}
use Rattle.fux_judge.proofs.LinkLemmas.{link_parts}
use Rattle.fux_judge.proofs.QuietLinks.{column_quiet, pair_quiet}
use Rattle.chain_sums.specs.Still.{HoldingIsFree, all_hold}
use Rattle.floor_tables.specs.Floors.{chains_of}

none_starts : (d : List Cell) → all_hold d ≡ true → list_any starts d ≡ false
none_starts [] h = refl
none_starts (Rest ∷ d) h = cc
none_starts (Hold p ∷ d) h = none_starts d h
none_starts (Start p ∷ d) h = cc

held_is_quiet : (i : ℕ) (d : List Cell) → begins_bar i ≡ false → all_hold d ≡ true → is_quiet i d ≡ true
held_is_quiet i d within h =
    ap (λ b. not b && not (list_any starts d)) within ∙ ap (λ b. not b) (none_starts d h)

pub holding_is_free : (ex : Exercise) (sheet : Sheet) (i : ℕ) → begins_bar i ≡ false
    → HoldingIsFree (chains_of ex sheet) i
holding_is_free ex sheet i within before d h =
    let quiet : is_quiet i d ≡ true = held_is_quiet i d within h in
    link_parts ex i (Some before) d sheet
    ∙ ap (λ own. together own (pair_of ex sheet i (Some before) d)) (sym (column_quiet ex i d quiet sheet))
    ∙ ap (together (Some 0)) (sym (pair_quiet ex i (Some before) d quiet sheet))
