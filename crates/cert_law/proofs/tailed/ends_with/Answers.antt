use Rattle.std.proofs.Common.{◌≡◌, ◌++◌, ◌∷◌, [], ap, sym, ◌∙◌}
use Rattle.cert_law.specs.Bases.{tail_by}
use Rattle.cert_law.specs.Cases.{matter_of}
use Rattle.cert_law.specs.Known.{column_after, tailed_of}
use Rattle.cert_law.specs.Tails.{tail_of}
use Rattle.cert_law.proofs.KnownLemmas.{step_column, step_place, step_within, tail_moved}
use Rattle.cert_law.proofs.TruthLemmas.{no_chain_truth, none_test}
use Rattle.cert_law.proofs.tailed.ends_with.Goals as goal

pub behind-requires-clause-place : goal.behind-requires-clause-place
behind-requires-clause-place g c =
    let basis = g.T.Tails.basis c.args.tails.now in
    step_place (tailed_of (matter_of c.args.case.now) basis) basis c.args.known.now c.args.number c.requires.case
    c.requires.tails c.requires.step

pub behind-requires-clause-within : goal.behind-requires-clause-within
behind-requires-clause-within g c =
    let basis = g.T.Tails.basis c.args.tails.now in
    step_within (tailed_of (matter_of c.args.case.now) basis) basis c.args.known.now c.args.number c.requires.case
    c.requires.tails c.requires.step

pub returns : goal.returns
returns g c = λ p is at.
    let t = matter_of c.args.case.now in
    let basis = g.T.Tails.basis c.args.tails.now in
    let q = p ++ column_after t.exercise p c.args.number ∷ [] in
    let tail : c.behind.result ≡ tail_of t.exercise t.sheet basis.stated q =
    tail_moved t basis q c.behind.result c.requires.tails
    (c.behind.ensures p (sym is.judged.state.newest.count)
    ∙ ap (λ d. tail_by basis (p ++ d ∷ []))
    (step_column (tailed_of t basis) basis c.args.known.now c.args.number c.requires.case c.requires.tails c.requires.step
    p is))
    in
    no_chain_truth t.exercise t.sheet t.head basis.stated q c.is_none.result c.behind.result
    (none_test c.behind.result c.is_none.result c.is_none.ensures) tail
