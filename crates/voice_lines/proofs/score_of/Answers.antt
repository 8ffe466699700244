use Rattle.std.proofs.Common.{◌≡◌, ◌<◌, ◌∙◌, sym, arith, length, ap, reverse}
use Rattle.std.proofs.lemmas.List.{length-map}
use Rattle.std.proofs.lemmas.List.FromFn.{length-map-range_with_len}
use Rattle.fux_grid.specs.Cells.{cell_in}
use Rattle.fux_grid.specs.Columns.{ColumnFollows, newest_column}
use Rattle.fux_grid.specs.Grid.{Grid}
use Rattle.voice_lines.specs.Lines.{column_of}
use Rattle.voice_lines.proofs.Scores.{grown, next_follows, on_ok}
use Rattle.voice_lines.proofs.score_of.Goals as goal

pub loop-i-preserved : goal.loop-i-preserved
loop-i-preserved c =
    let lines = c.args.lines.now in
    let i = c.loop-i.i in
    let so_far = c.loop-i.invariant in
    let own = c.column_of.ensures in
    let room : length c.loop-i.score.columns < 192 =
    omega (
      arith,
      ap (λ (g : Grid). length g.columns) so_far,
      length-map-range_with_len (column_of lines) 0 i,
      c.loop-i-test.true,
      c.requires.short,
    ) in
    let wide : length c.column_of.result.items ≡ c.loop-i.score.voices =
    ap length own ∙ length-map lines (λ cells. cell_in cells i) ∙ sym (ap (λ (g : Grid). g.voices) so_far) in
    let follows : ColumnFollows (newest_column (reverse c.loop-i.score.columns)) c.column_of.result.items =
    rw (so_far, own) (next_follows lines i c.requires.follow) in
    on_ok c.push.result _ c.push.ensures.ok (c.push.ensures.taken room wide follows)
    ∙ rw (so_far, own) (grown lines i)
