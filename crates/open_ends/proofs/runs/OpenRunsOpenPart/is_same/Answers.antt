use Rattle.std.proofs.Common.{ap}
use Rattle.std.proofs.lemmas.Slice.Eq.{slice_eq-Decides}
use Rattle.open_ends.specs.declared.runs.OpenRuns.{OpenRuns}
use Rattle.open_ends.proofs.SameRuns.{open_from, runs_decide}
use Rattle.open_ends.proofs.runs.OpenRunsOpenPart.is_same.Goals as goal

pub returns : goal.returns
returns c =
    let told = slice_eq-Decides runs_decide c.args.self.now.pairs c.args.other.now.pairs c.eq.result c.eq.ensures in
    (λ h. ap open_from (told.0 h), λ e. told.1 (ap (λ (kept : OpenRuns). kept.pairs) e))
