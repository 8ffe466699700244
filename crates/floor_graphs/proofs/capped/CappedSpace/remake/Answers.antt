use Rattle.std.proofs.Common.{Some, ap, sym, ◌∙◌}
use Rattle.tree_search.proofs.Trails.{some_of}
use Rattle.floor_graphs.specs.Capped.{capped_parts, capped-kept}
use Rattle.floor_graphs.specs.Laws.{some_from}
use Rattle.floor_graphs.proofs.capped.CappedSpace.remake.Goals as goal

pub remake-requires : goal.remake-requires
remake-requires g c =
    let child = c.requires in
    let floor = some_of _ child.is_live in
    let parts = capped_parts c.args.self.now.low c.args.self.now.high _ floor.0 floor.1 in
    record { path = child.path; at = child.at; is_live = some_from _ _ parts.is_own }

pub returns : goal.returns
returns g c = λ path at is_live.
    let low = c.args.self.now.low in
    let high = c.args.self.now.high in
    let floor = some_of _ is_live in
    let made = c.remake.ensures path at (some_from _ _ (capped_parts low high _ floor.0 floor.1).is_own) in
    (made.0, capped-kept low high _ c.remake.result is_live made.1 ∙ ap Some (sym c.max.ensures))
