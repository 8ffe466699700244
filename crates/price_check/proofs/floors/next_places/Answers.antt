use Rattle.std.proofs.Common.{◌≡◌, ℕ, ◌++◌, ◌∷◌, [], List, None, Option, Some, arith, length-set, refl, slice_get, slice_index_or, subst, ◌∙◌}
use Rattle.std.proofs.lemmas.Option.{slice_get_within}
use Rattle.price_check.specs.declared.floors.ListFloor.{ListFloor}
use Rattle.price_check.specs.Floors.{StandsIn}
use Rattle.price_check.proofs.Places.{floor_there, places_more}
use Rattle.priced_paths.specs.declared.guide.Place.{Place}
use Rattle.price_check.proofs.floors.next_places.Goals as goal

pub loop-j-init : goal.loop-j-init
loop-j-init c = record { long = refl; are = λ k within floor e path stands. absurd (omega (arith, within)) }

pub loop-j-preserved : goal.loop-j-preserved
loop-j-preserved c =
    let before = c.loop-j.invariant in
    let floors = c.args.floors.now in
    let j = c.loop-j.j in
    let number = c.args.number in
    let places = c.args.places.now in
    let Stands : ℕ → Option Place → Type 0 = λ k o. (floor : ListFloor) → slice_get floors k ≡ Some floor → (path : List ℕ)
    → StandsIn floor (slice_index_or places k None) path → StandsIn floor o (path ++ number ∷ []) in
    record {
      long = length-set c.loop-j.next j c.follow.result ∙ before.long;
      are = places_more Stands c.loop-j.next j c.follow.result
          (omega (arith, before.long, c.loop-j-test.true, c.requires.few)) before.are
          (λ floor e path. subst (λ (f : ListFloor). StandsIn f (slice_index_or places j None) path
          → StandsIn f c.follow.result (path ++ number ∷ []))
          (floor_there floors j c.index-floors-j.result floor c.index-floors-j.is e) (c.follow.ensures path));
    }

pub returns : goal.returns
returns c = λ path stand j floor e.
    c.loop-j.invariant.are j (omega (arith, slice_get_within c.args.floors.now j floor e, c.loop-j-test.false)) floor e
    path (stand j floor e)
