use Rattle.std.proofs.Common.{sym}
use Rattle.priced_paths.proofs.case.CaseGraphGraph.edge.Goals as goal

pub edge-requires : goal.edge-requires
edge-requires g c = c.args.self.now.sound.inside c.stop_of-stop.result.at

pub charged-requires-clause-edge : goal.charged-requires-clause-edge
charged-requires-clause-edge g c =
    c.args.self.now.sound.edges c.stop_of-stop.result.at c.args.label c.in_ok-edge.edge (sym c.in_ok-edge.ensures)
