use Rattle.std.proofs.Common.{◌≡◌, ◌∷◌, ◌++◌, [], List, length, reverse, ap, sym, ◌∙◌, subst}
use Rattle.fux_grid.specs.declared.cell.Cell.{Cell}
use Rattle.fux_grid.proofs.Histories.{reverse-push}
use Rattle.rule_law.specs.Newest.{AreNewestOf}
use Rattle.std.proofs.lemmas.List.{length-reverse}
use Rattle.fux_judge.specs.GaugeStates.{AreAheadOf, AreGaugesOf}
use Rattle.fux_judge.specs.States.{IsPastOf}
use Rattle.fux_judge.proofs.state.State.add.Goals as goal

pub returns-clause-state : goal.returns-clause-state
returns-clause-state c = λ p st.
    let col = c.args.col.now.items in
    let cells = c.as_slice-cells.result.now in
    let same : cells ≡ col = c.as_slice-cells.ensures.value in
    let full : c.args.ex.now.voices ≡ length cells = sym c.requires.full ∙ sym (ap length same) in
    let Newest : List Cell → Type 0 = λ x. AreNewestOf c.args.ex.now.voices (p ++ x ∷ []) c.push.new.self in
    let Gauges : List (List Cell) → Type 0 = λ h. AreGaugesOf c.args.ex.now h c.gauge_all.new.kept in
    let Ahead : List Cell → Type 0 = λ x. AreAheadOf c.args.ex.now (p ++ x ∷ []) c.pass_all.new.ahead in
    let Parts : List Cell → Type 0 = λ x. IsPastOf c.args.ex.now (p ++ x ∷ []) c.note.new.self in
    record {
      newest = subst Newest same (c.push.ensures.newest c.args.ex.now.voices p c.requires.valid.most_voices
          (sym full) st.newest);
      past = subst Parts same (c.note.ensures p (sym st.newest.count) st.past);
      gauges = subst Gauges (ap (λ x. x ∷ reverse p) same ∙ sym (reverse-push p col))
          (c.gauge_all.ensures (reverse p) (length-reverse p ∙ sym st.newest.count) st.gauges);
      ahead = subst Ahead same (c.pass_all.ensures p (sym st.newest.count) st.ahead);
    }
