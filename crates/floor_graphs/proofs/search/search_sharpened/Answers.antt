use Rattle.floor_graphs.proofs.SameAnswers.{found_from_sharpened, nothing_from_sharpened, spent_from_sharpened, agrees_from_sharpened, bounds_to_sharpened, on_ok, on_ok₂, spent_over_from_sharpened}
use Rattle.floor_graphs.proofs.search.search_sharpened.Goals as goal

pub search_by_bounds-requires : goal.search_by_bounds-requires
search_by_bounds-requires g c =
    let grows = g.met.G.Tree.Space.floors_grow (g.G.Guide.tree c.args.guide.now) in
    bounds_to_sharpened _ _ _ _ grows (g.met.G.Guide.floors c.args.guide.now) c.args.known c.requires

pub returns : goal.returns
returns g c =
    let grows = g.met.G.Tree.Space.floors_grow (g.G.Guide.tree c.args.guide.now) in
    let floors = g.met.G.Guide.floors c.args.guide.now in
    record {
      found = on_ok _ _ (found_from_sharpened _ _ _ _ grows floors) c.search_by_bounds.result
          c.search_by_bounds.ensures.found;
      nothing = on_ok _ _ (nothing_from_sharpened _ _ _ _ grows floors) c.search_by_bounds.result
          c.search_by_bounds.ensures.nothing;
      bound = on_ok _ _ (spent_from_sharpened _ _ _ _ grows floors) c.search_by_bounds.result
          c.search_by_bounds.ensures.bound;
      kept = c.search_by_bounds.ensures.kept;
      sharp = c.search_by_bounds.ensures.over;
      over = on_ok _ _ (spent_over_from_sharpened _ _ _ _ grows floors c.args.budget) c.search_by_bounds.result
          c.search_by_bounds.ensures.over;
      agrees = on_ok₂ _ _ _ (agrees_from_sharpened _ _ _ _ grows floors) c.search_by_bounds.result
          c.search_by_bounds.ensures.found c.search_by_bounds.ensures.nothing;
      paid = c.search_by_bounds.ensures.paid;
    }
