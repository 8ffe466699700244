use Rattle.std.proofs.Common.{ap, sym, ◌∙◌}
use Rattle.std.specs.Prelude.{None}
use Rattle.open_ends.proofs.GoesOn.{ends-none}
use Rattle.open_ends.specs.Ends.{OpenEnds}
use Rattle.priced_floors.specs.declared.kept.Kept.{Kept}
use Rattle.priced_floors.proofs.pricing.PricedSpacePricing.start.Goals as goal

pub returns : goal.returns
returns c =
    let K : OpenEnds → Kept = λ ends. record { column = None; ends = ends } in
    ap K (c.none.ensures ∙ sym (ends-none c.args.self.now.space.now.exercise c.args.self.now.keeps c.args.self.now.voices))
