use Rattle.std.specs.Prelude.{refl}
use Rattle.std.proofs.Common.{ap, sym, ◌∙◌, arith}
use Rattle.rule_law.specs.Places.{reading_of}
use Rattle.motion_rules.specs.Book.{toll_row}
use Rattle.motion_rules.proofs.book.MotionRuleCrate.cost_in.Goals as goal

pub returns-in-14 : goal.returns-in-14
returns-in-14 c =
    let s = c.args.score.now.columns in
    c.imperfect_runs.ensures.value s 0 refl (omega arith) c.requires.place
    ∙ ap (λ n. reading_of ((toll_row n).cost c.args.ex.now) s c.args.i) (sym c.in-14.is)
