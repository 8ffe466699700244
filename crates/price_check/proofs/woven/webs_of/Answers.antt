use Rattle.std.proofs.Common.{◌∷◌, [], ℕ, List, Option, None, arith, length, slice_index_or, ap, subst, sym, ⊎_elim}
use Rattle.price_check.specs.Woven.{FitsFor, IsWebFor}
use Rattle.std.proofs.Common.{length-append}
use Rattle.std.proofs.lemmas.Bool.{cases_lt}
use Rattle.priced_paths.specs.declared.web.Web.{Web}
use Rattle.priced_floors.specs.declared.kept.Kept.{Kept}
use Rattle.price_check.proofs.Webs.{has_web, none_large, webs_more}
use Rattle.price_check.proofs.woven.webs_of.Goals as goal

pub loop-number-preserved : goal.loop-number-preserved
loop-number-preserved c =
    let before = c.loop-number.invariant in
    let webs = c.loop-number.webs.items in
    let items = c.push_reserved.ensures.items in
    record {
      webs = λ n within.
          subst (λ (ws : List (Option (Web Kept))). IsWebFor c.args.lists.now n (slice_index_or ws n None)) (sym items)
          (webs_more c.args.lists.now webs c.loop-number.number c.in_ok-web.web before.count before.webs
          c.in_ok-web.ensures.web n within);
      fits = λ n within. ⊎_elim
          (λ earlier. before.fits n earlier)
          (λ late. subst (λ (m : ℕ). FitsFor c.args.lists.now m) (omega (arith, within, late)) c.in_ok-web.ensures.fits)
          (cases_lt n c.loop-number.number);
      count = omega (arith, ap length items, length-append webs (c.in_ok-web.web ∷ []), before.count);
      room = omega (arith, before.room, c.push_reserved.ensures.capacity);
    }

pub returns-clause-webs : goal.returns-clause-webs
returns-clause-webs c =
    has_web c.args.lists.now c.loop-number.webs.items
    (λ n few. c.loop-number.invariant.webs n (omega (arith, few, c.loop-number-test.false)))

pub returns-clause-fits : goal.returns-clause-fits
returns-clause-fits c = λ task of.
    none_large task c.args.lists.now of
    (λ n few. c.loop-number.invariant.fits n (omega (arith, few, c.loop-number-test.false)))
