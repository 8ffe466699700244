use Rattle.std.proofs.Common.{◌++◌, ◌∷◌, []}
use Rattle.cert_law.specs.Cases.{matter_of}
use Rattle.cert_law.specs.Known.{column_after, tailed_of}
use Rattle.cert_law.proofs.KnownLemmas.{known_small, step_goes_on, step_place, step_small, step_within}
use Rattle.cert_law.proofs.tailed.judge_whole.Goals as goal

pub known_after-next-requires-clause-room : goal.known_after-next-requires-clause-room
known_after-next-requires-clause-room g c =
    let basis = g.T.Tails.basis c.args.tails.now in
    step_place (tailed_of (matter_of c.args.case.now) basis) basis c.args.known.now c.args.number c.requires.case
    c.requires.tails c.requires.step

pub known_after-next-requires-clause-within : goal.known_after-next-requires-clause-within
known_after-next-requires-clause-within g c =
    let basis = g.T.Tails.basis c.args.tails.now in
    step_within (tailed_of (matter_of c.args.case.now) basis) basis c.args.known.now c.args.number c.requires.case
    c.requires.tails c.requires.step

pub known_after-next-requires-clause-small : goal.known_after-next-requires-clause-small
known_after-next-requires-clause-small g c =
    let basis = g.T.Tails.basis c.args.tails.now in
    step_small (tailed_of (matter_of c.args.case.now) basis) basis c.args.known.now c.args.number c.requires.case
    c.requires.tails c.requires.step

pub is_true-requires-clause-small : goal.is_true-requires-clause-small
is_true-requires-clause-small g c =
    let basis = g.T.Tails.basis c.args.tails.now in
    let t = tailed_of (matter_of c.args.case.now) basis in
    let q = c.requires.step.node in
    let own = c.requires.step.is_open.is_of in
    known_small t c.known_after-next.result c.requires.case record {
      node = q ++ column_after t.case.exercise q c.args.number ∷ [];
      is_of = c.known_after-next.ensures q own
          (step_goes_on t basis c.args.known.now c.args.number c.requires.case c.requires.tails c.requires.step q own
          c.requires.step.step);
    }

pub returns-clause-told : goal.returns-clause-told
returns-clause-told g c = λ p is at.
    let basis = g.T.Tails.basis c.args.tails.now in
    let t = tailed_of (matter_of c.args.case.now) basis in
    let longer = c.known_after-next.ensures p is
    (step_goes_on t basis c.args.known.now c.args.number c.requires.case c.requires.tails c.requires.step p is at) in
    c.is_true.ensures basis.stated (p ++ column_after t.case.exercise p c.args.number ∷ []) longer.judged longer.tail

pub returns-clause-found : goal.returns-clause-found
returns-clause-found g c = λ p is at.
    let basis = g.T.Tails.basis c.args.tails.now in
    let t = tailed_of (matter_of c.args.case.now) basis in
    c.known_after-next.ensures p is
    (step_goes_on t basis c.args.known.now c.args.number c.requires.case c.requires.tails c.requires.step p is at)
