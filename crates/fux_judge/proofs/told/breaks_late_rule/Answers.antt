use Rattle.std.proofs.Common.{sym, ◌∙◌}
use Rattle.fux_judge.proofs.StepPlaces.{newly_broken-late}
use Rattle.fux_judge.proofs.StateLemmas.{come_behind}
use Rattle.fux_judge.proofs.told.breaks_late_rule.Goals as goal

pub returns : goal.returns
returns c = λ p st on.
    c.is_broken_late.ensures p c.args.col.now.items (come_behind (c.add.ensures.state p st) on)
    ∙ sym (newly_broken-late c.args.ex.now p c.args.col.now.items c.args.rule c.requires.late on)
