use Rattle.std.proofs.Common.{sym, ap, ◌∙◌}
use Rattle.std.proofs.lemmas.Result.{err_from_is_err_and}
use Rattle.smf_score.specs.Joined.{joined}
use Rattle.smf_score.specs.Joining.{joined_notes, joined_voices}
use Rattle.smf_score.specs.Staves.{voices_heard}
use Rattle.smf_score.proofs.FaultLemmas.{gives_as}
use Rattle.smf_score.proofs.JoiningLemmas.{fails_score}
use Rattle.smf_score.proofs.joining.read_notes.Goals as goal

pub returns-in_err-voices-clause-value : goal.returns-in_err-voices-clause-value
unfolding joined_notes
returns-in_err-voices-clause-value c =
    let p = err_from_is_err_and c.from_residual.result c.from_residual.ensures.1 in
    rw (p.1, p.2)
    (fails_score c.args.lesson.now c.in_err-voices.field-0.0
    (voices_heard c.args.lesson.now c.args.legato c.args.division c.args.notes.now) c.in_err-voices.ensures)

pub returns-clause-value : goal.returns-clause-value
unfolding joined_notes
returns-clause-value c =
    let lesson = c.args.lesson.now in
    gives_as c.joined.result (joined lesson c.deref.result.now)
    (joined_voices lesson (voices_heard c.args.lesson.now c.args.legato c.args.division c.args.notes.now))
    (ap (joined_voices lesson) c.in_ok-voices.ensures ∙ ap (joined lesson) (sym c.deref.ensures.value))
    c.joined.ensures.value
