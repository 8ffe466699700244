use Rattle.std.proofs.Common.{◌≡◌, ◌∷◌, ◌++◌, [], List, length, ap, sym, ◌∙◌, subst}
use Rattle.fux_grid.specs.declared.cell.Cell.{Cell}
use Rattle.rule_law.specs.Newest.{AreNewestOf}
use Rattle.fux_judge.specs.States.{IsPastOf}
use Rattle.fux_judge.proofs.state.State.read_on.Goals as goal

pub returns-clause-read : goal.returns-clause-read
returns-clause-read c = λ p st.
    let ex = c.args.ex.now in
    let cells = c.as_slice-cells.result.now in
    let same : cells ≡ c.args.col.now.items = c.as_slice-cells.ensures.value in
    let full : ex.voices ≡ length cells = sym c.requires.full ∙ sym (ap length same) in
    let Newest : List Cell → Type 0 = λ x. AreNewestOf ex.voices (p ++ x ∷ []) c.push.new.self in
    let Parts : List Cell → Type 0 = λ x. IsPastOf ex (p ++ x ∷ []) c.note.new.self in
    record {
      newest = subst Newest same (c.push.ensures.newest ex.voices p c.requires.valid.most_voices (sym full) st.newest);
      past = subst Parts same (c.note.ensures p (sym st.newest.count) st.past);
    }
