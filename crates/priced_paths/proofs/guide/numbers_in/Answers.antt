use Rattle.std.proofs.Common.{arith}
use Rattle.priced_paths.specs.CaseGraphs.{case_of}
use Rattle.priced_paths.specs.Places.{AreNumbersOf}
use Rattle.priced_paths.proofs.Pushes.{numbers-same}
use Rattle.priced_paths.proofs.guide.numbers_in.Goals as goal

pub returns : goal.returns
returns g c =
    let least = c.in_ok-numbers.ensures in
    let own : AreNumbersOf c.args.web.now c.args.height
    (case_of (g.P.Pricing.toll_at c.args.pricing.now) (g.P.Pricing.reaches_at c.args.pricing.now)
    (g.P.Pricing.rate_of c.args.pricing.now) c.args.case) c.in_ok-numbers.numbers.items =
    record {
      checked = least.checked;
      least = least.least;
      small = least.small;
      some = omega (arith, c.rate-scale.ensures.some, c.rate-scale.ensures.scale);
      whole = least.least.all;
    } in
    numbers-same _ _ _ _ _ _ c.requires.height c.new.ensures own
