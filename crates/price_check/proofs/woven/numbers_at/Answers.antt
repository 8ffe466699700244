use Rattle.std.proofs.Common.{◌≡◌, length, refl, subst}
use Rattle.std.proofs.lemmas.Option.{slice_get_read}
use Rattle.std.proofs.lemmas.Result.{IfOk-weaker}
use Rattle.price_check.specs.declared.priced_list.PricedList.{PricedList}
use Rattle.price_check.specs.Woven.{AreCaseNumbers, AreNumbersAt, AreNumbersIn, AreNumbersOver}
use Rattle.price_check.proofs.Webs.{read_there, same_web, web_is}
use Rattle.priced_floors.specs.declared.kept.Kept.{Kept}
use Rattle.priced_paths.specs.declared.web.Web.{Web}
use Rattle.priced_paths.specs.Places.{numbers_of}
use Rattle.price_check.proofs.woven.numbers_at.Goals as goal

pub web_in-web-requires : goal.web_in-web-requires
web_in-web-requires g c =
    c.requires.webs c.args.j c.index-lists-j.result
    (slice_get_read c.args.lists.now (length c.args.lists.now) c.args.j c.index-lists-j.result refl c.requires.within
    c.index-lists-j.is)

pub numbers_over-requires : goal.numbers_over-requires
numbers_over-requires g c =
    let lists = c.args.lists.now in
    let own = c.index-lists-j.result in
    let has = c.requires.webs c.args.j own (slice_get_read lists (length lists) c.args.j own refl c.requires.within c.index-lists-j.is) in
    (c.type_bounds.sync-R, web_is c.args.webs.now own c.web_in-web.result.now has c.web_in-web.ensures)

pub returns : goal.returns
returns g c =
    let lists = c.args.lists.now in
    let webs = c.args.webs.now in
    let its = c.index-lists-j.result in
    let web = c.web_in-web.result.now in
    IfOk-weaker c.numbers_over.result (λ own. AreNumbersOver its.space web own.items) (AreNumbersAt lists webs c.args.j)
    (λ own over it there.
    let same : its ≡ it = read_there lists c.args.j its it c.index-lists-j.is there in
    subst (λ (l : PricedList). AreNumbersIn webs l own.items) same record {
      short = over.short;
      few = over.few;
      each = over.each;
      worked = λ other is k within.
          subst (λ (w : Web Kept). AreCaseNumbers its.space w k (numbers_of own.items k))
          (same_web webs its.space.keeps web other c.web_in-web.ensures is) (over.worked k within);
    })
    c.numbers_over.ensures
