use Rattle.std.proofs.Common.{ap, subst}
use Rattle.cantus_space.proofs.PricedLemmas.{long_sheet}
use Rattle.class_marker.specs.Markings.{IsContent}
use Rattle.works.specs.Sheets.{weights_alone}
use Rattle.works.proofs.weighing.sheet_in.Goals as goal

pub returns-in_default : goal.returns-in_default
returns-in_default c = λ bytes content.
    ap weights_alone (long_sheet bytes (subst (λ file. IsContent 65536 file bytes) c.in_default.is content))
