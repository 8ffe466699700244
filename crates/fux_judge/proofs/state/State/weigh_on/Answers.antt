use Rattle.std.proofs.Common.{◌≡◌, ◌∷◌, ◌++◌, [], List, reverse, ap, sym, ◌∙◌, subst}
use Rattle.std.proofs.lemmas.List.{length-reverse}
use Rattle.fux_grid.specs.declared.cell.Cell.{Cell}
use Rattle.fux_grid.proofs.Histories.{reverse-push}
use Rattle.fux_judge.specs.GaugeStates.{AreAheadOf, AreGaugesOf}
use Rattle.fux_judge.proofs.state.State.weigh_on.Goals as goal

pub returns-clause-state : goal.returns-clause-state
returns-clause-state c = λ p st read.
    let ex = c.args.ex.now in
    let col = c.args.col.now.items in
    let same : c.as_slice-cells.result.now ≡ col = c.as_slice-cells.ensures.value in
    let Gauges : List (List Cell) → Type 0 = λ h. AreGaugesOf ex h c.gauge_all.new.kept in
    let Ahead : List Cell → Type 0 = λ x. AreAheadOf ex (p ++ x ∷ []) c.pass_all.new.ahead in
    record {
      newest = read.newest;
      past = read.past;
      gauges = subst Gauges (ap (λ x. x ∷ reverse p) same ∙ sym (reverse-push p col))
          (c.gauge_all.ensures (reverse p) (length-reverse p ∙ sym st.newest.count) st.gauges);
      ahead = subst Ahead same (c.pass_all.ensures p (sym st.newest.count) st.ahead);
    }
