use Rattle.std.proofs.Common.{Ok, length, sym, ap, subst, ◌∙◌, ◌*◌, arith}
use Rattle.std.specs.List.{AllByRecursion, range_with_len}
use Rattle.std.proofs.lemmas.List.FromFn.{length-map-range_with_len}
use Rattle.fux_grid.specs.declared.cell.Cell.TheVariants.{Rest}
use Rattle.fux_grid.specs.Exercises.{IsGiven}
use Rattle.voice_lines.specs.Lines.{LineFollows, score_of}
use Rattle.smf_score.specs.Joined.{line_of}
use Rattle.smf_score.proofs.JoinedLemmas.{has_cantus, lines_follow}
use Rattle.smf_score.proofs.joined.set_lines.Goals as goal

pub score_of-requires-clause-least : goal.score_of-requires-clause-least
score_of-requires-clause-least c =
    let lesson = c.args.lesson.now in
    omega (
      arith,
      ap length (c.deref.ensures.value ∙ c.in_ok-lines.ensures),
      length-map-range_with_len (line_of lesson c.args.voices.now) 0 lesson.voices,
      c.requires.lesson.fewest_voices,
    )

pub score_of-requires-clause-most : goal.score_of-requires-clause-most
score_of-requires-clause-most c =
    let lesson = c.args.lesson.now in
    omega (
      arith,
      ap length (c.deref.ensures.value ∙ c.in_ok-lines.ensures),
      length-map-range_with_len (line_of lesson c.args.voices.now) 0 lesson.voices,
      c.requires.lesson.most_voices,
    )

pub score_of-requires-clause-follow : goal.score_of-requires-clause-follow
score_of-requires-clause-follow c =
    let lesson = c.args.lesson.now in
    subst (AllByRecursion (LineFollows Rest)) (sym (c.deref.ensures.value ∙ c.in_ok-lines.ensures))
    (lines_follow lesson c.args.voices.now (range_with_len 0 lesson.voices))

pub returns-clause-value : goal.returns-clause-value
returns-clause-value c = ap Ok (sym (c.in_ok-score.ensures
    ∙ ap (score_of (8 * c.args.lesson.now.bars)) (c.deref.ensures.value ∙ c.in_ok-lines.ensures)))

pub returns-clause-given : goal.returns-clause-given
returns-clause-given c =
    let lesson = c.args.lesson.now in
    subst (IsGiven lesson) (sym (c.in_ok-score.ensures
    ∙ ap (score_of (8 * c.args.lesson.now.bars)) (c.deref.ensures.value ∙ c.in_ok-lines.ensures))) (has_cantus lesson c.args.voices.now c.requires.lesson)
