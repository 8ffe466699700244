use Rattle.std.proofs.Common.{◌≡◌, ℕ, [], Option, Some, arith, length-set, refl, slice_get, subst, ◌∙◌}
use Rattle.std.proofs.lemmas.Option.{slice_get_within}
use Rattle.price_check.specs.declared.floors.ListFloor.{ListFloor}
use Rattle.price_check.specs.Floors.{StandsIn}
use Rattle.price_check.proofs.Places.{floor_there, places_more}
use Rattle.priced_paths.specs.declared.guide.Place.{Place}
use Rattle.price_check.proofs.floors.first_places.Goals as goal

pub loop-j-init : goal.loop-j-init
loop-j-init c = record { long = refl; are = λ k within floor e. absurd (omega (arith, within)) }

pub loop-j-preserved : goal.loop-j-preserved
loop-j-preserved c =
    let before = c.loop-j.invariant in
    let floors = c.args.floors.now in
    let Stands : ℕ → Option Place → Type 0 = λ k o. (floor : ListFloor) → slice_get floors k ≡ Some floor
    → StandsIn floor o [] in
    record {
      long = length-set c.loop-j.places c.loop-j.j c.start.result ∙ before.long;
      are = places_more Stands c.loop-j.places c.loop-j.j c.start.result
          (omega (arith, before.long, c.loop-j-test.true, c.requires)) before.are
          (λ floor e. subst (λ (f : ListFloor). StandsIn f c.start.result [])
          (floor_there floors c.loop-j.j c.index-floors-j.result floor c.index-floors-j.is e) c.start.ensures);
    }

pub returns : goal.returns
returns c = λ j floor e.
    c.loop-j.invariant.are j (omega (arith, slice_get_within c.args.floors.now j floor e, c.loop-j-test.false)) floor e
