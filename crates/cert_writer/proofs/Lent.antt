-- What holds of lists, of their webs and of their numbers holds of them where they are lent
-- (`same_webs`, `same_numbers`), and the lists of floors are those that lines state (`floors_stated`).
-- A web is told to be too large where one is (`large_web`).
use Rattle.std.proofs.Common.{◌≡◌, ℕ, List, Option, Result, Err, map, ap, sym, ◌∙◌, subst}
use Rattle.std.specs.Prelude.{Vec}
use Rattle.std.specs.declared.alloc.Global.{Global}
use Rattle.penalty_sheet.specs.declared.sheet.Sheet.{Sheet}
use Rattle.price_check.specs.declared.floors.ListFloor.{ListFloor}
use Rattle.price_check.specs.declared.priced_list.PricedList.{PricedList}
use Rattle.priced_paths.specs.declared.states.WebFault.{WebFault}
use Rattle.priced_paths.specs.declared.states.WebFault.TheVariants as webs
use Rattle.price_check.specs.Floors.{list_of}
use Rattle.price_check.specs.Woven.{AreEachNumbers, AreWebs, list_priced}
use Rattle.price_check.specs.PriceLists.{PriceList}
use Rattle.price_check.specs.declared.stated.OwnList.{OwnList}
use Rattle.price_check.specs.Owned.{list_owned}
use Rattle.price_check.specs.Stated.{AreStated}
use Rattle.price_check.specs.PriceLines.{Line}
use Rattle.priced_floors.specs.declared.kept.Kept.{Kept}
use Rattle.priced_paths.specs.declared.web.Web.{Web}
use Rattle.cert_writer.specs.Certificates.{web_answer}
use Rattle.cert_writer.specs.declared.answers.PricesWrite.{PricesWrite}
use Rattle.cert_writer.specs.declared.answers.PricesWrite.TheVariants.{Memory, TooLarge}

pub same_webs : (lists others : List PricedList) (webs lent : List (Option (Web Kept))) → lists ≡ others → webs ≡ lent
    → AreWebs lists webs → AreWebs others lent
same_webs lists others webs lent e f are =
    subst (λ (ws : List (Option (Web Kept))). AreWebs others ws) f
    (subst (λ (ls : List PricedList). AreWebs ls webs) e are)

pub same_numbers : (lists others : List PricedList) (webs lent : List (Option (Web Kept)))
    (numbers given : List (Vec (List (Option ℕ)) Global)) → lists ≡ others → webs ≡ lent → numbers ≡ given
    → AreEachNumbers lists webs numbers → AreEachNumbers others lent given
same_numbers lists others webs lent numbers given e f h are =
    subst (λ (ns : List (Vec (List (Option ℕ)) Global)). AreEachNumbers others lent ns) h
    (subst (λ (ws : List (Option (Web Kept))). AreEachNumbers others ws numbers) f
    (subst (λ (ls : List PricedList). AreEachNumbers ls webs numbers) e are))

pub floors_stated : (sheet : Sheet) (lines : List Line) (own : List OwnList) (priced : List PricedList)
    (floors lent : List ListFloor) → AreStated sheet lines (map list_owned own) → map list_priced priced ≡ map list_owned own
    → map list_of floors ≡ map list_priced priced → lent ≡ floors → AreStated sheet lines (map list_of lent)
floors_stated sheet lines own priced floors lent stated of_own of_priced same =
    subst (λ (ls : List PriceList). AreStated sheet lines ls)
    (sym (ap (map list_of) same ∙ of_priced ∙ of_own)) stated

pub large_web : {X : Type 0} (made : Result X WebFault) (fault : WebFault) (told : Result (Unit {0}) PricesWrite)
    → made ≡ Err fault → told ≡ Err TooLarge → told ≡ Err (web_answer fault) → made ≡ Err webs.TooLarge
large_web made webs.TooLarge told is large also = is
large_web made webs.Memory told is large also = absurd (apart large also)
  where
    apart : told ≡ Err TooLarge → told ≡ Err Memory → ⊥
    apart one other = cc (one, other)
