use Rattle.std.proofs.Common.{[], sym, ◌∙◌}
use Rattle.std.specs.Prelude.{slice_index_or}
use Rattle.fux_grid.specs.Columns.{earlier}
use Rattle.motion_rules.proofs.AfterbeatLemmas.{none_bare}
use Rattle.motion_rules.proofs.afterbeats.is_bare_parallel.Goals as goal

pub returns-then-not-one_goes_on : goal.returns-then-not-one_goes_on
returns-then-not-one_goes_on g c = λ s first shown near here.
    sym (none_bare c.args.ex.now c.args.i (earlier s c.args.i) (slice_index_or s c.args.i []) c.args.v c.args.w
    (sym c.one_goes_on.ensures ∙ c.if-not-one_goes_on.true))
