use Rattle.std.proofs.Common.{◌≡◌, ◌<◌, ◌∙◌, length, ap, refl, sym, subst, arith}
use Rattle.std.proofs.lemmas.List.{get_or_default}
use Rattle.chain_sums.specs.declared.moves.MovesFrom.{MovesFrom}
use Rattle.chain_sums.specs.Moves.{AreMovesTo}
use Rattle.chain_sums.proofs.CellTests.{cells-Decides}
use Rattle.chain_sums.proofs.moves.VoiceMoves.row.Goals as goal

pub returns-then-eq : goal.returns-then-eq
returns-then-eq c = λ moves are.
    let found : MovesFrom = c.index.result.now in
    let to = c.args.self.now.to.items in
    let within : c.loop-k.k < length c.args.self.now.from.items = omega (
      arith,
      c.loop-k-test.true,
      c.len-k-end.ensures,
      c.args.self.now.from.ok.0,
    ) in
    let at : found ≡ c.index-then-eq.result.now = c.index.ensures
    ∙ get_or_default c.args.self.now.from.items c.loop-k.k found c.index-then-eq.result.now within
    ∙ sym c.index-then-eq.ensures in
    let row : AreMovesTo (moves found.cell) to found.costs.items =
    subst (λ (from : MovesFrom). AreMovesTo (moves from.cell) to from.costs.items) (sym c.index.ensures)
    (are c.loop-k.k found within) in
    let same : found.cell ≡ c.args.cell = (cells-Decides found.cell c.args.cell).0 (sym c.eq.ensures ∙ c.if-eq.true) in
    record {
      of = refl;
      costs = subst (AreMovesTo (moves c.args.cell) to) (ap (λ (from : MovesFrom). from.costs.items) at
          ∙ sym c.deref.ensures.value) (subst (λ cell. AreMovesTo (moves cell) to found.costs.items)
          same row);
    }
