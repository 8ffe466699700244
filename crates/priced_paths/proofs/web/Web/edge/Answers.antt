use Rattle.std.proofs.Common.{length, refl, sym, ◌∙◌, arith}
use Rattle.std.proofs.lemmas.Option.{slice_get_read}
use Rattle.priced_paths.proofs.Spots.{edge-within}
use Rattle.priced_paths.proofs.web.Web.edge.Goals as goal

pub slot-requires : goal.slot-requires
slot-requires g c =
    let found = c.in_ok-spot.ensures.lookup in
    let read = slice_get_read c.deref.result.now (length c.deref.result.now) c.args.at c.in_ok-spot.spot.now refl
    found.3.0 found.1 in
    let is = rw c.deref.ensures.value at read in
    rw c.deref-2.ensures.value (c.requires c.in_ok-spot.spot.now is)

pub returns : goal.returns
returns g c =
    let found = c.in_ok-spot.ensures.lookup in
    let read = slice_get_read c.deref.result.now (length c.deref.result.now) c.args.at c.in_ok-spot.spot.now refl
    found.3.0 found.1 in
    let is = rw c.deref.ensures.value at read in
    let own = rw c.deref-2.ensures.value at c.slot.ensures in
    own ∙ sym (edge-within c.args.self.now c.args.at c.args.label c.in_ok-spot.spot.now is (omega (arith, c.if-label-spot.false)))
