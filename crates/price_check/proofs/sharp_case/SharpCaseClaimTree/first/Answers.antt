use Rattle.std.proofs.Common.{List, [], ap, subst, sym, ◌∙◌}
use Rattle.price_check.proofs.SharpLemmas.{same_lists, to_webbed}
use Rattle.price_check.specs.PriceLists.{PriceList, sharp_tail}
use Rattle.cert_law.specs.Cases.{matter_of}
use Rattle.cert_law.specs.Known.{IsKnown, Tailed}
use Rattle.cert_law.proofs.KnownLemmas.{known_small}
use Rattle.price_check.specs.Sharps.{IsSharpKnown, Sharp, plain_of}
use Rattle.price_check.proofs.sharp_case.SharpCaseClaimTree.first.Goals as goal

pub tail_by-tail-requires-clause-some : goal.tail_by-tail-requires-clause-some
tail_by-tail-requires-clause-some c = record { path = []; stand = c.first_places-places.ensures }

pub tail_by-tail-requires-clause-small : goal.tail_by-tail-requires-clause-small
tail_by-tail-requires-clause-small c =
    let t = matter_of c.self.inside.case in
    let own = subst (λ (it : Tailed). IsKnown it c.first-own.result []) c.self.invariant.without c.first-own.ensures in
    known_small (plain_of t) c.first-own.result c.self.invariant.case (record { node = []; is_of = own })

pub returns : goal.returns
returns c =
    let t = matter_of c.self.inside.case in
    let floors = c.self.inside.floors.now in
    let own = subst (λ (it : Tailed). IsKnown it c.first-own.result []) c.self.invariant.without c.first-own.ensures in
    subst (λ (s : Sharp). IsSharpKnown s
    (record { own = c.first-own.result; places = c.first_places-places.result; tail = c.tail_by-tail.result }) [])
    c.self.view_is record {
      own = own;
      places = to_webbed t.exercise t.sheet floors c.self.invariant.own c.first_places-places.result [] c.first_places-places.ensures;
      tail = c.tail_by-tail.ensures t [] c.self.invariant.own own.judged c.first_places-places.ensures
          ∙ ap (λ (ls : List PriceList). sharp_tail t.exercise t.sheet ls []) (sym (same_lists floors));
    }
