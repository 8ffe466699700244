use Rattle.std.proofs.Common.{◌≡◌, Err, ap, subst, sym, ◌∙◌}
use Rattle.std.proofs.lemmas.Result.{IfOk-weaker, err_from_is_err_and}
use Rattle.cantus_check.specs.Topics.{cantus_subject}
use Rattle.cantus_space.specs.declared.prices.CantusPrices.{CantusPrices}
use Rattle.works.specs.Checked.{IsUnreadable}
use Rattle.works.specs.Invented.{plan_of}
use Rattle.works.specs.Near.{TellsNear}
use Rattle.works.proofs.CantusCheckLemmas.{of_no_sheet, of_sheet}
use Rattle.works.proofs.cantus_checking.check_over.Goals as goal

pub returns-in_err-priced-clause-checks : goal.returns-in_err-priced-clause-checks
returns-in_err-priced-clause-checks g c = λ sheets weights.
    let told = err_from_is_err_and c.from_residual.result c.from_residual.ensures.1 in
    of_no_sheet c.args.wanted.now (g.F.Shelf.files c.args.shelf.now) c.args.certificate.now
    (IsUnreadable g.F.Shelf.files g.F.Shelf.faults c.args.certificate.now c.args.shelf.now c.args.shelf.now)
    sheets c.in_err-priced.field-0.0 c.from_residual.result (c.in_err-priced.ensures sheets weights) (told.1 ∙ ap Err told.2)

pub returns-clause-checks : goal.returns-clause-checks
returns-clause-checks g c = λ sheets weights.
    of_sheet c.args.wanted.now (g.F.Shelf.files c.args.shelf.now) c.args.certificate.now
    (IsUnreadable g.F.Shelf.files g.F.Shelf.faults c.args.certificate.now c.args.shelf.now c.check.new.shelf)
    sheets c.in_ok-priced.priced c.check.result (c.in_ok-priced.ensures sheets weights) c.check.ensures.checks

pub returns-clause-near : goal.returns-clause-near
returns-clause-near g c = λ sheets weights.
    let read = c.in_ok-priced.ensures sheets weights in
    IfOk-weaker c.check.result _ _
    (λ output near. record {
      sheet = c.in_ok-priced.priced.sheet;
      said = read.0;
      near = subst (λ (prices : CantusPrices). TellsNear
          (cantus_subject (plan_of c.args.wanted.now c.in_ok-priced.priced.sheet prices))
          (g.F.Shelf.files c.args.shelf.now) c.args.certificate.now (g.F.Shelf.given c.args.shelf.now)
          (g.F.Shelf.given c.check.new.shelf) (λ line. output.bytes ≡ line)) (sym read.1) near;
    }) c.check.ensures.near
