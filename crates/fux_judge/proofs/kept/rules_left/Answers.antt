use Rattle.std.proofs.Common.{sym, ◌∙◌}
use Rattle.std.proofs.lemmas.Bool.{eqb-true}
use Rattle.std.proofs.lemmas.List.{nil_from_length}
use Rattle.fux_judge.proofs.kept.rules_left.Goals as goal

pub left_of_told-requires-clause-nothing : goal.left_of_told-requires-clause-nothing
left_of_told-requires-clause-nothing c =
    sym c.as_slice.ensures ∙ nil_from_length c.as_slice.result.now
    (eqb-true _ 0 (sym c.is_empty.ensures ∙ c.if-not-is_empty.false))
