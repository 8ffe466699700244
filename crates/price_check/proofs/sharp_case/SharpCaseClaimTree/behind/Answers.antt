use Rattle.std.proofs.Common.{◌++◌, ◌∷◌, [], List, ap, subst, sym, ◌∙◌}
use Rattle.cert_law.specs.Cases.{matter_of}
use Rattle.cert_law.specs.Known.{IsBehindKnown, IsKnown, IsStepOf as IsPlainStepOf, Tailed, column_after}
use Rattle.cert_law.proofs.KnownLemmas.{known_small}
use Rattle.cert_tree.specs.Walks.{IsBehind}
use Rattle.price_check.specs.Floors.{ArePlaces}
use Rattle.price_check.specs.Sharps.{IsSharpKnown, IsStepOf, Sharp, plain_of}
use Rattle.cert_law.specs.Known.{ways_of}
use Rattle.price_check.proofs.SharpLemmas.{from_webbed, next_path, plain_step, same_lists, to_webbed}
use Rattle.price_check.specs.PriceLists.{PriceList, path_of, sharp_tail}
use Rattle.price_check.proofs.sharp_case.SharpCaseClaimTree.behind.Goals as goal

pub behind-own-requires : goal.behind-own-requires
behind-own-requires c =
    subst (λ (t : Tailed). IsPlainStepOf t c.args.number c.args.known.now.own) (sym c.self.invariant.without)
    (subst (λ (s : Sharp). IsPlainStepOf (plain_of s.case) c.args.number c.args.known.now.own) (sym c.self.view_is)
    (plain_step c.args.self.now c.args.known.now c.args.number c.requires))

pub next_places-places-requires-clause-some : goal.next_places-places-requires-clause-some
next_places-places-requires-clause-some c =
    let it = c.self.inside in
    let t = matter_of it.case in
    let step = subst (λ (s : Sharp). IsStepOf s c.args.number c.args.known.now) (sym c.self.view_is) c.requires in
    record {
      path = path_of t.exercise step.node;
      stand = from_webbed t.exercise t.sheet it.floors.now c.self.invariant.own c.args.known.now.places
          (path_of t.exercise step.node) step.is_open.is_of.places;
    }

pub tail_by-tail-requires-clause-some : goal.tail_by-tail-requires-clause-some
tail_by-tail-requires-clause-some c =
    let it = c.self.inside in
    let t = matter_of it.case in
    let step = subst (λ (s : Sharp). IsStepOf s c.args.number c.args.known.now) (sym c.self.view_is) c.requires in
    record {
      path = path_of t.exercise step.node ++ c.args.number ∷ [];
      stand = c.next_places-places.ensures (path_of t.exercise step.node)
          (from_webbed t.exercise t.sheet it.floors.now c.self.invariant.own c.args.known.now.places
          (path_of t.exercise step.node) step.is_open.is_of.places);
    }

pub tail_by-tail-requires-clause-small : goal.tail_by-tail-requires-clause-small
tail_by-tail-requires-clause-small c =
    let it = c.self.inside in
    let t = matter_of it.case in
    let k = c.args.number in
    let step = subst (λ (s : Sharp). IsStepOf s k c.args.known.now) (sym c.self.view_is) c.requires in
    let own = subst (λ (w : Tailed). IsBehindKnown w c.args.known.now.own k (IsKnown w c.behind-own.result))
    c.self.invariant.without c.behind-own.ensures in
    known_small (plain_of t) c.behind-own.result c.self.invariant.case record {
      node = step.node ++ column_after t.exercise step.node k ∷ [];
      is_of = own step.node step.is_open.is_of.own step.step;
    }

pub returns : goal.returns
returns c =
    let it = c.self.inside in
    let t = matter_of it.case in
    let k = c.args.number in
    let own = subst (λ (w : Tailed). IsBehindKnown w c.args.known.now.own k (IsKnown w c.behind-own.result))
    c.self.invariant.without c.behind-own.ensures in
    subst (λ (s : Sharp). IsBehind (IsSharpKnown s) (ways_of s.case.exercise) c.args.known.now k (IsSharpKnown s
    (record { own = c.behind-own.result; places = c.next_places-places.result; tail = c.tail_by-tail.result })))
    c.self.view_is
    (λ p is at.
    let behind = own p is.own at in
    let places = subst (ArePlaces it.floors.now c.next_places-places.result) (next_path t.exercise p k at)
    (c.next_places-places.ensures (path_of t.exercise p)
    (from_webbed t.exercise t.sheet it.floors.now c.self.invariant.own c.args.known.now.places (path_of t.exercise p) is.places)) in
    let longer = p ++ column_after t.exercise p k ∷ [] in
    record {
      own = behind;
      places = to_webbed t.exercise t.sheet it.floors.now c.self.invariant.own c.next_places-places.result
          (path_of t.exercise longer) places;
      tail = c.tail_by-tail.ensures t longer c.self.invariant.own behind.judged places
          ∙ ap (λ (ls : List PriceList). sharp_tail t.exercise t.sheet ls longer) (sym (same_lists it.floors.now));
    })
