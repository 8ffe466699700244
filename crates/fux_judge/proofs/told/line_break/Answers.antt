use Rattle.std.proofs.Common.{◌≡◌, ◌^◌, ◌&&◌, ℕ, true, false, List, length, reverse, refl, ap, sym, ◌∙◌}
use Rattle.std.specs.Prelude.{Some, cond}
use Rattle.std.specs.List.{find}
use Rattle.fux_grid.specs.declared.cell.Cell.{Cell}
use Rattle.fux_grid.specs.declared.exercise.Exercise.{Exercise}
use Rattle.fux_grid.specs.Cells.{cell_in}
use Rattle.fux_grid.specs.Columns.{line}
use Rattle.melody_rules.specs.Smooth.{is_rough_at}
use Rattle.rhythm_cadence.specs.Told.{leaves_by_cell}
use Rattle.fux_judge.specs.Moments.{is_strict_break_then}
use Rattle.fux_judge.specs.Penalties.{is_strict_at}
use Rattle.fux_judge.specs.Told.{breaks_in, breaks_line, is_of_line, line_rules}
use Rattle.fux_judge.proofs.KeptLemmas.{not_rough}
use Rattle.fux_judge.proofs.LineBreaks.{kept_in, line_then}
use Rattle.fux_judge.proofs.ToldLemmas.{find_where, none_found}
use Rattle.fux_judge.proofs.told.line_break.Goals as goal

pub returns-then-leaves_by_cell : goal.returns-then-leaves_by_cell
returns-then-leaves_by_cell c = λ p st.
    let ex = c.args.ex.now in
    let v = c.args.v in
    let now : Cell = cell_in c.args.col.now.items v in
    let left : leaves_by_cell ex v p now ≡ true =
    sym (ap (leaves_by_cell ex v p)
    (c.cell_of-cell.ensures ∙ ap (λ (d : List Cell). cell_in d v) c.as_slice.ensures.value))
    ∙ sym (c.leaves_by_cell.ensures p (sym st.newest.count) st.past.rhythm) ∙ c.if-leaves_by_cell.true in
    sym (ap (λ b. cond b (Some 3) (find (breaks_line ex p v now) line_rules)) left)

pub returns-then-is_smooth_in : goal.returns-then-is_smooth_in
returns-then-is_smooth_in c = λ p st.
    let ex = c.args.ex.now in
    let v = c.args.v in
    let cells : List Cell = c.as_slice-2.result.now in
    let col : List Cell = c.args.col.now.items in
    let now : Cell = cell_in col v in
    let left : leaves_by_cell ex v p now ≡ false =
    sym (ap (leaves_by_cell ex v p)
    (c.cell_of-cell.ensures ∙ ap (λ (d : List Cell). cell_in d v) c.as_slice.ensures.value))
    ∙ sym (c.leaves_by_cell.ensures p (sym st.newest.count) st.past.rhythm) ∙ c.if-leaves_by_cell.false in
    let smooth = not_rough (is_rough_at ex (reverse p) cells v)
    (sym c.if-is_smooth_in.true ∙ c.is_smooth_in.ensures (reverse p) st.past.melody) in
    let same : cell_in cells v ≡ now = ap (λ (d : List Cell). cell_in d v) c.as_slice-2.ensures.value in
    sym (ap (λ b. cond b (Some 3) (find (breaks_line ex p v now) line_rules)) left
    ∙ none_found (breaks_line ex p v now) line_rules (λ rule.
    ap (λ b. b && is_strict_at rule ex (2 ^ v) (length p))
    (ap (λ (d : Cell). breaks_in ex v (line v (reverse p)) d rule) (sym same)
    ∙ kept_in ex v (line v (reverse p)) (cell_in cells v) rule smooth)))

pub returns : goal.returns
returns c = λ p st.
    let ex = c.args.ex.now in
    let v = c.args.v in
    let now : Cell = cell_in c.args.col.now.items v in
    let m = c.moment_of-moment.result in
    let is = c.moment_of-moment.ensures in
    let bits : ℕ = c.set_of.result.bits in
    let left : leaves_by_cell ex v p now ≡ false =
    sym (ap (leaves_by_cell ex v p)
    (c.cell_of-cell.ensures ∙ ap (λ (d : List Cell). cell_in d v) c.as_slice.ensures.value))
    ∙ sym (c.leaves_by_cell.ensures p (sym st.newest.count) st.past.rhythm) ∙ c.if-leaves_by_cell.false in
    c.first_for.ensures p (is.after p st)
    ∙ ap (find (λ r. is_strict_break_then r bits p m)) c.told_of_lines.ensures.value
    ∙ find_where is_of_line (λ r. is_strict_break_then r bits p m) (breaks_line ex p v now) line_rules refl
    (λ r h. ap (λ n. is_strict_break_then r n p m) c.set_of.ensures
    ∙ line_then m.exercise.now p m.column.now r h v c.requires.voice
    ∙ ap (λ (e : Exercise). breaks_line e p v (cell_in m.column.now v) r) is.exercise
    ∙ ap (λ (d : List Cell). breaks_line ex p v (cell_in d v) r) is.column)
    ∙ sym (ap (λ b. cond b (Some 3) (find (breaks_line ex p v now) line_rules)) left)
