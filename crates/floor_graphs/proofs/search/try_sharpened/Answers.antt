use Rattle.floor_graphs.proofs.SameAnswers.{found_from_sharpened, nothing_from_sharpened, spent_from_sharpened, agrees_from_sharpened, bounds_to_sharpened, on_ok, on_ok₂}
use Rattle.floor_graphs.proofs.search.try_sharpened.Goals as goal

pub try_by_bounds-requires : goal.try_by_bounds-requires
try_by_bounds-requires g c =
    let grows = g.met.G.Tree.Space.floors_grow (g.G.Guide.tree c.args.guide.now) in
    bounds_to_sharpened _ _ _ _ grows (g.met.G.Guide.floors c.args.guide.now) c.args.known c.requires

pub returns : goal.returns
returns g c =
    let grows = g.met.G.Tree.Space.floors_grow (g.G.Guide.tree c.args.guide.now) in
    let floors = g.met.G.Guide.floors c.args.guide.now in
    record {
      found = on_ok _ _ (found_from_sharpened _ _ _ _ grows floors) c.try_by_bounds.result c.try_by_bounds.ensures.found;
      nothing = on_ok _ _ (nothing_from_sharpened _ _ _ _ grows floors) c.try_by_bounds.result
          c.try_by_bounds.ensures.nothing;
      bound = on_ok _ _ (spent_from_sharpened _ _ _ _ grows floors) c.try_by_bounds.result
          c.try_by_bounds.ensures.bound;
      kept = c.try_by_bounds.ensures.kept;
      agrees = on_ok₂ _ _ _ (agrees_from_sharpened _ _ _ _ grows floors) c.try_by_bounds.result
          c.try_by_bounds.ensures.found c.try_by_bounds.ensures.nothing;
      paid = c.try_by_bounds.ensures.paid;
    }
