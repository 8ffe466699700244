use Rattle.std.specs.Prelude.{Bool, List}
use Rattle.std.specs.Cmp.{booleans_Decides}
use Rattle.std.proofs.Common.{ap}
use Rattle.std.proofs.lemmas.Slice.Eq.{slice_eq-Decides}
use Rattle.open_ends.specs.declared.cadences.OpenCadences.{OpenCadences}
use Rattle.open_ends.proofs.cadences.OpenCadencesOpenPart.is_same.Goals as goal

pub returns : goal.returns
returns c =
    let Open : List Bool → OpenCadences = λ leads. record { leads = leads } in
    let told = slice_eq-Decides booleans_Decides c.args.self.now.leads c.args.other.now.leads c.eq.result c.eq.ensures in
    (λ h. ap Open (told.0 h), λ e. told.1 (ap (λ (kept : OpenCadences). kept.leads) e))
