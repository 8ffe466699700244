use Rattle.std.proofs.Common.{◌≤◌, ◌*◌, ◌∙◌, List, [], ap, arith, get_or, length, rules, subst, sym}
use Rattle.std.specs.List.{AllByRecursion}
use Rattle.fux_grid.specs.declared.cell.Cell.{Cell}
use Rattle.fux_grid.specs.declared.cell.Cell.TheVariants.{Rest}
use Rattle.fux_grid.specs.Exercises.{IsValid}
use Rattle.smf_score.specs.Cantus.{cantus_in}
use Rattle.smf_score.specs.Exercise.{exercise_in, exercise_with}
use Rattle.voice_lines.specs.Lines.{LineFollows}
use Rattle.smf_score.proofs.EachLemmas.{ok_is}
use Rattle.smf_score.proofs.ValidLemmas.{exercise_is, line_long, lines_follow, with_valid}
use Rattle.smf_score.proofs.exercise.exercise_of.Goals as goal

pub cantus_of-requires-clause-long : goal.cantus_of-requires-clause-long
cantus_of-requires-clause-long c =
    let v = c.args.head.now.cantus_voice in
    let bars = c.in_ok-bars.bars in
    subst (λ (cells : List Cell). 8 * bars ≤ length cells)
    (sym (c.line_of.ensures ∙ ap (λ (lines : List (List Cell)). get_or lines v [])
    (c.deref.ensures.value ∙ c.in_ok-lines.ensures)))
    (line_long bars v c.args.notes.now c.in_ok-voices.ensures.cantus)

pub score_of-requires-clause-follow : goal.score_of-requires-clause-follow
score_of-requires-clause-follow c =
    subst (AllByRecursion (LineFollows Rest)) (sym (c.deref-2.ensures.value ∙ c.in_ok-lines.ensures))
    (lines_follow c.in_ok-bars.bars c.args.notes.now)

pub returns-clause-value : goal.returns-clause-value
unfolding exercise_in
returns-clause-value c = search rules

pub returns-clause-valid : goal.returns-clause-valid
returns-clause-valid c =
    let head = c.args.head.now in
    let notes = c.args.notes.now in
    let bars = c.in_ok-bars.bars in
    let cantus = c.in_ok-cantus.cantus.items in
    let cells = c.line_of.ensures ∙ ap (λ (lines : List (List Cell)). get_or lines head.cantus_voice [])
    (c.deref.ensures.value ∙ c.in_ok-lines.ensures) in
    let read = ap (cantus_in bars) (sym cells) ∙ c.in_ok-cantus.ensures in
    let voices = c.in_ok-voices.ensures in
    let is = exercise_is head notes c.in_ok-voices.voices bars cantus (sym voices.value) (sym c.in_ok-bars.ensures.value)
    read in
    subst IsValid (ap (λ n. exercise_with head notes n bars cantus) (sym voices.all)
    ∙ ok_is _ _ (sym is ∙ returns-clause-value c))
    (with_valid head notes bars cantus c.requires.head (omega (arith, voices.all, voices.fewest))
    (omega (arith, voices.all, voices.most)) voices.cantus voices.species c.in_ok-bars.ensures.fewest
    c.in_ok-bars.ensures.most c.requires.notes read)
