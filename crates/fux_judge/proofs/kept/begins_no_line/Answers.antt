use Rattle.std.proofs.Common.{refl, sym, ◌∙◌}
use Rattle.fux_judge.proofs.kept.begins_no_line.Goals as goal

pub returns : goal.returns
returns c =
    rw (
      sym c.begins_line.ensures ∙ c.if-begins_line.false,
      sym c.begins_line-2.ensures ∙ c.if-begins_line-2.false,
      sym c.begins_line-3.ensures ∙ c.if-begins_line-3.false,
      sym c.begins_line-4.ensures ∙ c.if-begins_line-4.false,
    )
    refl
