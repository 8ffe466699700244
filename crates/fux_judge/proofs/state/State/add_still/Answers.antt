use Rattle.std.proofs.Common.{◌≡◌, ℕ, ◌∷◌, ◌++◌, [], List, length, ap, sym, ◌∙◌, subst, arith, ◌<◌}
use Rattle.fux_grid.specs.declared.cell.Cell.{Cell}
use Rattle.fux_grid.specs.Exercises.{columns_in}
use Rattle.fux_grid.specs.Menus.{IsInMenu}
use Rattle.rule_law.specs.Newest.{AreNewestOf}
use Rattle.fux_judge.specs.Still.{IsStillPlace}
use Rattle.fux_judge.proofs.StillLemmas.{ahead_still, gauges_still, past_still}
use Rattle.fux_judge.proofs.state.State.add_still.Goals as goal

pub returns-clause-state : goal.returns-clause-state
returns-clause-state c = λ p st.
    let ex = c.args.ex.now in
    let old = c.args.self.now in
    let col = c.args.col.now.items in
    let cells = c.as_slice-cells.result.now in
    let same : cells ≡ col = c.as_slice-cells.ensures.value in
    let full : ex.voices ≡ length cells = sym c.requires.full ∙ sym (ap length same) in
    let Newest : List Cell → Type 0 = λ x. AreNewestOf ex.voices (p ++ x ∷ []) c.push.new.self in
    let room : length p < columns_in ex = omega (arith, c.requires.room, st.newest.count) in
    let still = subst (λ (i : ℕ). IsStillPlace ex i) st.newest.count c.requires.still in
    let menu = subst (λ (i : ℕ). IsInMenu ex i col) st.newest.count c.requires.menu in
    record {
      newest = subst Newest same (c.push.ensures.newest ex.voices p c.requires.valid.most_voices (sym full) st.newest);
      past = past_still ex p col room still menu old.past st.past;
      gauges = gauges_still ex p col room still menu old.gauges st.gauges;
      ahead = ahead_still ex p col room still menu old.ahead st.ahead;
    }
