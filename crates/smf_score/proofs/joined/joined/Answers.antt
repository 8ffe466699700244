use Rattle.std.proofs.Common.{◌≡◌, Result, Ok, length, ap, sym, ◌∙◌, arith}
use Rattle.fux_grid.specs.Grid.{Grid}
use Rattle.smf_score.specs.declared.join_fault.JoinFault.{JoinFault}
use Rattle.smf_score.specs.Joined.{joined, score_in, unless}
use Rattle.smf_score.proofs.FaultLemmas.{fails_from, gives_as}
use Rattle.smf_score.proofs.JoinedLemmas.{counted}
use Rattle.smf_score.proofs.joined.joined.Goals as goal

pub returns-in-Some-clause-value : goal.returns-in-Some-clause-value
returns-in-Some-clause-value c =
    let lesson = c.args.lesson.now in
    let voices = c.args.voices.now in
    let same : length voices ≡ lesson.voices = omega (arith, c.if-voices-from.false, c.from.ensures) in
    fails_from c.in-Some.fault (joined lesson voices)
    (counted lesson voices same
    ∙ ap (λ f. unless f (Ok (score_in lesson voices))) (sym c.in_ok-fault.ensures ∙ c.in-Some.is))

pub returns-in-None-clause-value : goal.returns-in-None-clause-value
returns-in-None-clause-value c =
    let lesson = c.args.lesson.now in
    let voices = c.args.voices.now in
    let set : Result Grid JoinFault = Ok (score_in lesson voices) in
    let same : length voices ≡ lesson.voices = omega (arith, c.if-voices-from.false, c.from.ensures) in
    gives_as c.set_lines.result set (joined lesson voices)
    (counted lesson voices same ∙ ap (λ f. unless f set) (sym c.in_ok-fault.ensures ∙ c.in-None.is))
    c.set_lines.ensures.value
