use Rattle.std.proofs.Common.{length, sym, ap, subst, ◌∙◌, arith}
use Rattle.std.specs.List.{AllByRecursion, range_with_len}
use Rattle.std.proofs.lemmas.List.FromFn.{length-map-range_with_len}
use Rattle.fux_grid.specs.declared.cell.Cell.TheVariants.{Rest}
use Rattle.voice_lines.specs.Lines.{LineFollows}
use Rattle.class_marker.specs.Alone.{lone_line}
use Rattle.class_marker.proofs.AloneLemmas.{lines_follow}
use Rattle.class_marker.proofs.alone.lone_score.Goals as goal

pub score_of-requires-clause-least : goal.score_of-requires-clause-least
score_of-requires-clause-least c =
    let ex = c.args.ex.now in
    omega (
      arith,
      ap length (c.deref.ensures.value ∙ c.in_ok-lines.ensures),
      length-map-range_with_len (lone_line ex) 0 ex.voices,
      c.requires.fewest_voices,
    )

pub score_of-requires-clause-most : goal.score_of-requires-clause-most
score_of-requires-clause-most c =
    let ex = c.args.ex.now in
    omega (
      arith,
      ap length (c.deref.ensures.value ∙ c.in_ok-lines.ensures),
      length-map-range_with_len (lone_line ex) 0 ex.voices,
      c.requires.most_voices,
    )

pub score_of-requires-clause-follow : goal.score_of-requires-clause-follow
score_of-requires-clause-follow c =
    let ex = c.args.ex.now in
    subst (AllByRecursion (LineFollows Rest)) (sym (c.deref.ensures.value ∙ c.in_ok-lines.ensures))
    (lines_follow ex (range_with_len 0 ex.voices))
