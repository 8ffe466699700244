use Rattle.std.proofs.Common.{arith}
use Rattle.floor_graphs.proofs.Purses.{opened_of_part}
use Rattle.floor_graphs.proofs.SameAnswers.{if_unspent, not_spent}
use Rattle.floor_graphs.proofs.purse.depth_of.Goals as goal

pub returns-in_default : goal.returns-in_default
returns-in_default g c =
    let unspent = not_spent _ c.in_default.not-Spent in
    let found = c.in_ok-outcome.ensures in
    record {
      found = found.found;
      nothing = found.nothing;
      charged = λ _. opened_of_part _ _ _ _ _ c.pay-in_default.ensures (found.charged unspent);
      spent = if_unspent _ _ unspent;
      paid = omega (arith, c.pay-in_default.ensures, found.left);
    }
