use Rattle.std.proofs.Common.{refl}
use Rattle.std.proofs.lemmas.Bool.{OnTrue_at}
use Rattle.cert_law.specs.Cases.{matter_of}
use Rattle.cert_law.specs.Known.{tailed_of}
use Rattle.cert_law.proofs.KnownLemmas.{found_kept, step_kept}
use Rattle.cert_law.proofs.tailed.judge_on.Goals as goal

pub judge_with-requires-clause-step : goal.judge_with-requires-clause-step
judge_with-requires-clause-step g c =
    let basis = g.T.Tails.basis c.args.tails.now in
    step_kept (tailed_of (matter_of c.args.case.now) basis) c.args.known.now c.is_voice_told.new.known c.args.number
    c.is_voice_told.ensures.kept c.requires.step

pub returns-then-is_voice_told-clause-told : goal.returns-then-is_voice_told-clause-told
returns-then-is_voice_told-clause-told g c = λ p is at.
    (λ _. OnTrue_at c.if-is_voice_told.true c.is_voice_told.ensures.told p is at, λ _. refl)

pub returns-clause-told : goal.returns-clause-told
returns-clause-told g c = λ p is at. c.judge_with.ensures.told p (c.is_voice_told.ensures.kept p is) at

pub returns-clause-found : goal.returns-clause-found
returns-clause-found g c =
    let basis = g.T.Tails.basis c.args.tails.now in
    found_kept (tailed_of (matter_of c.args.case.now) basis) c.args.known.now c.is_voice_told.new.known c.args.number
    c.judge_with.new.found c.is_voice_told.ensures.kept c.judge_with.ensures.found
