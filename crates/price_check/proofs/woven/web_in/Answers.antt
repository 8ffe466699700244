use Rattle.std.proofs.Common.{◌≡◌, Some, None, arith, ap, sym, ◌∙◌}
use Rattle.price_check.specs.Woven.{keeps_number}
use Rattle.price_check.proofs.Webs.{found_there, within_some}
use Rattle.price_check.proofs.woven.web_in.Goals as goal

pub bounds-webs-keeps_number : goal.bounds-webs-keeps_number
bounds-webs-keeps_number c =
    let n = ap keeps_number c.args.list.now.kept ∙ sym c.keeps_number.ensures.value in
    omega (arith, n, within_some c.args.webs.now (keeps_number c.args.list.now.space.keeps) c.requires.web c.requires.is)

pub returns : goal.returns
returns c =
    let n = ap keeps_number c.args.list.now.kept ∙ sym c.keeps_number.ensures.value in
    c.requires.is ∙ sym (found_there c.args.webs.now (keeps_number c.args.list.now.space.keeps) c.keeps_number.result
    c.index-webs-keeps_number.result c.requires.web n c.requires.is c.index-webs-keeps_number.is) ∙ c.in-Some.is

pub unreachable-requires : goal.unreachable-requires
unreachable-requires c =
    let n = ap keeps_number c.args.list.now.kept ∙ sym c.keeps_number.ensures.value in
    let own = found_there c.args.webs.now (keeps_number c.args.list.now.space.keeps) c.keeps_number.result
    c.index-webs-keeps_number.result c.requires.web n c.requires.is c.index-webs-keeps_number.is in
    let both : None ≡ Some c.requires.web = sym c.in-None.is ∙ own in
    cc
