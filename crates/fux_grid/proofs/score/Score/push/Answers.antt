use Rattle.std.proofs.Common.{◌≡◌, length, arith, ap, ◌∙◌, sym, [], ◌∷◌}
use Rattle.std.proofs.lemmas.List.Elements.{All-push}
use Rattle.std.proofs.lemmas.List.{length-map, length-append}
use Rattle.fux_grid.specs.Grid.{items_of}
use Rattle.fux_grid.proofs.Histories.{push-follows}
use Rattle.fux_grid.proofs.score.Score.push.Goals as goal

pub invariant_of-self : goal.invariant_of-self
invariant_of-self c = record {
  fewest = c.self.invariant.fewest;
  most = c.self.invariant.most;
  room = c.push_reserved.ensures.capacity ∙ c.self.invariant.room;
  few = omega (
    arith,
    ap length c.push_reserved.ensures.items,
    length-append c.self.inside.columns.items
        (c.args.col ∷ []),
    length-map c.self.inside.columns.items (λ col. col.items),
    ap (λ s. length s.columns)
        c.self.view_is,
    c.self.invariant.few,
  );
  full = rw c.push_reserved.ensures.items (All-push (λ col. length col.items ≡ c.self.inside.voices) _ _
      c.self.invariant.full (sym c.len-2.ensures.value ∙ c.if-len-self.false));
  follows = push-follows _ _ _ c.push_reserved.ensures.items c.self.invariant.follows
      (let e : items_of c.self.inside.columns.items ≡ c.args.self.now.columns = ap (λ s. s.columns) c.self.view_is in
      rw e (c.misfit.ensures.fits (omega arith) c.in_default.is));
}
