use Rattle.std.specs.Prelude.{refl}
use Rattle.std.proofs.Common.{ap, sym, ◌∙◌, arith}
use Rattle.rule_law.specs.Places.{reading_of}
use Rattle.rhythm_cadence.specs.Book.{toll_row}
use Rattle.rhythm_cadence.proofs.book.RhythmRuleCrate.cost_in.Goals as goal

pub returns-in-16 : goal.returns-in-16
returns-in-16 c =
    let s = c.args.score.now.columns in
    c.pattern_cost.ensures.value s 0 refl (omega arith)
    ∙ ap (λ n. reading_of ((toll_row n).cost c.args.ex.now) s c.args.i) (sym c.in-16.is)

pub returns-in-21 : goal.returns-in-21
returns-in-21 c =
    let s = c.args.score.now.columns in
    c.inflection_cost.ensures.value s 0 refl (omega arith) (omega arith)
    ∙ ap (λ n. reading_of ((toll_row n).cost c.args.ex.now) s c.args.i) (sym c.in-21.is)
