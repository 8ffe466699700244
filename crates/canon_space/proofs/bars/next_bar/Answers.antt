use Rattle.std.proofs.Common.{◌≤◌, sym, subst}
use Rattle.canon_space.specs.Canons.{fits}
use Rattle.canon_space.specs.Kept.{history_of}
use Rattle.canon_space.specs.Paths.{numbered_cell}
use Rattle.canon_space.proofs.Passing.{parts_passed}
use Rattle.canon_space.proofs.bars.next_bar.Goals as goal

pub returns-clause-passed : goal.returns-clause-passed
returns-clause-passed c =
    let canon = c.args.canon.now in
    let behind = history_of c.args.behind.now in
    parts_passed (λ n. fits canon behind 0 (numbered_cell n)) (λ n. fits canon behind 1 (numbered_cell n)) c.args.from
    c.next_cell-lower.result c.next_cell.result c.next_cell.ensures.most c.next_cell-lower.ensures.passed
    (λ n begun below. c.next_cell.ensures.passed n (subst (λ first. first ≤ n) (sym c.upper_from.ensures) begun) below)
