use Rattle.std.proofs.Common.{subst, sym}
use Rattle.cert_law.specs.Cases.{IsCase, matter_of}
use Rattle.price_check.specs.Sharps.{Sharp, lists_in}
use Rattle.price_check.proofs.SharpLemmas.{same_lists}
use Rattle.price_check.specs.Stated.{AreStated}
use Rattle.price_check.specs.PriceLines.{line_of}
use Rattle.std.specs.Prelude.{map}
use Rattle.price_check.proofs.sharp_case.SharpCase.kept.Goals as goal

pub returns-clause-case : goal.returns-clause-case
returns-clause-case c = subst (λ (s : Sharp). IsCase s.case) c.self.view_is c.self.invariant.case

pub returns-clause-stated : goal.returns-clause-stated
returns-clause-stated c =
    let it = c.self.inside in
    subst (λ (s : Sharp). AreStated s.case.sheet s.lines (lists_in s)) c.self.view_is
    (subst (AreStated (matter_of it.case).sheet (map line_of it.lines.now)) (sym (same_lists it.floors.now))
    c.self.invariant.stated)
