use Rattle.std.proofs.Common.{◌≡◌, ◌+◌, arith}
use Rattle.cert_law.specs.Entries.{columns_before}
use Rattle.cert_check.proofs.TruthLemmas.{entry_at_place}
use Rattle.cert_check.proofs.board.Board.is_true.Goals as goal

pub returns : goal.returns
returns c =
    let board = c.args.self.now in
    let at = c.place_of-i.ensures in
    let i = c.place_of-i.result.0 in
    let k = c.place_of-i.result.1 in
    let number : c.args.n ≡ 1 + (columns_before board.exercise.now i + k) = omega (arith, at.is, c.if-n-eq0.false) in
    let same = entry_at_place board.exercise.now board.sheet.now board.stated.now c.args.n i k number at.within in
    (λ is. same.0 (c.is_true_at.ensures.0 is), λ entry. c.is_true_at.ensures.1 (same.1 entry))
