use Rattle.std.proofs.Common.{[], length, sym, ap, subst, arith}
use Rattle.std.specs.List.{AllByRecursion, range_with_len}
use Rattle.std.proofs.lemmas.List.FromFn.{length-range_with_len}
use Rattle.fux_grid.specs.declared.cell.Cell.TheVariants.{Rest}
use Rattle.text_lines.specs.Lines.{lines_of}
use Rattle.text_lines.proofs.TableLemmas.{table-right}
use Rattle.fux_text.specs.Fitting.{asks}
use Rattle.fux_text.specs.Sing.{voices_table}
use Rattle.fux_text.proofs.Following.{voices-follow, voices-length}
use Rattle.fux_text.proofs.setting.sung_score.Goals as goal
use Rattle.voice_lines.specs.Lines.{LineFollows}

pub score_of-requires-clause-least : goal.score_of-requires-clause-least
score_of-requires-clause-least c =
    let ex = c.args.ex.now in
    let fit = asks c.args.asked ex in
    let vs = range_with_len 0 ex.voices in
    let long = voices-length fit ex vs [] (lines_of c.args.text) _ _
    (table-right (voices_table fit ex vs []) (lines_of c.args.text) _ _ c.in_ok-lines.ensures) in
    omega (arith, long, length-range_with_len 0 ex.voices, ap length c.deref.ensures.value, c.requires.least)

pub score_of-requires-clause-most : goal.score_of-requires-clause-most
score_of-requires-clause-most c =
    let ex = c.args.ex.now in
    let fit = asks c.args.asked ex in
    let vs = range_with_len 0 ex.voices in
    let long = voices-length fit ex vs [] (lines_of c.args.text) _ _
    (table-right (voices_table fit ex vs []) (lines_of c.args.text) _ _ c.in_ok-lines.ensures) in
    omega (arith, long, length-range_with_len 0 ex.voices, ap length c.deref.ensures.value, c.requires.most)

pub score_of-requires-clause-follow : goal.score_of-requires-clause-follow
score_of-requires-clause-follow c =
    let ex = c.args.ex.now in
    let fit = asks c.args.asked ex in
    let vs = range_with_len 0 ex.voices in
    subst (AllByRecursion (LineFollows Rest)) (sym c.deref.ensures.value)
    (voices-follow fit ex vs [] (lines_of c.args.text) _ _ tt
    (table-right (voices_table fit ex vs []) (lines_of c.args.text) _ _ c.in_ok-lines.ensures))
