-- The columns before each place of a list follow one another, where those of the list do.
use Rattle.std.specs.Prelude.{◌≡◌, ℕ, zero, suc, ◌+◌, ◌-◌, ◌≤◌, List, length, reverse}
use Rattle.std.proofs.Common.{ap, sym, ◌∙◌, subst, arith}
use Rattle.fux_grid.specs.declared.cell.Cell.{Cell}
use Rattle.fux_grid.specs.Columns.{HistoryFollows, earlier}
use Rattle.fux_grid.proofs.Histories.{earlier-all, earlier-more}

pub follows-fewer : (s : List (List Cell)) (j more : ℕ) → j + more ≤ length s → HistoryFollows (earlier s (j + more))
    → HistoryFollows (earlier s j)
follows-fewer s j zero h f =
    let P : ℕ → Type 0 = λ n. HistoryFollows (earlier s n) in
    subst P (omega arith) f
follows-fewer s j (suc more) h f =
    let P : List (List Cell) → Type 0 = λ t. HistoryFollows t in
    let next : j + suc more ≡ j + more + 1 = omega arith in
    follows-fewer s j more (omega (arith, h))
    (subst P (ap (earlier s) next ∙ earlier-more s (j + more) (omega (arith, h))) f).1

pub follows_earlier : (s : List (List Cell)) (j : ℕ) → j ≤ length s → HistoryFollows (reverse s)
    → HistoryFollows (earlier s j)
follows_earlier s j h f =
    let P : List (List Cell) → Type 0 = λ t. HistoryFollows t in
    let whole : j + (length s - j) ≡ length s = omega (arith, h) in
    follows-fewer s j (length s - j) (omega (arith, h))
    (subst P (sym (ap (earlier s) whole ∙ earlier-all s (length s) (omega arith))) f)
