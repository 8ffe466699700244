use Rattle.std.proofs.Common.{string_bytes, ◌++◌, map, ap, ◌∙◌}
use Rattle.std.proofs.lemmas.Result.{on_ok_weaker}
use Rattle.fux_grid.specs.Columns.{line}
use Rattle.fux_grid.specs.Letters.{bar_columns}
use Rattle.fux_text.specs.GivenItems.{given_items, given_word}
use Rattle.fux_text.specs.Words.{spaced}
use Rattle.fux_text.proofs.GivenWords.{words-as_given}
use Rattle.fux_text.proofs.sing_lines.put_bar.Goals as goal

pub returns : goal.returns
returns c =
    let cells = line c.args.v (bar_columns c.args.score.now.columns c.args.bar) in
    on_ok_weaker c.put_items.result
    (λ last. last ∙ ap (λ given. string_bytes c.args.out.now ++ spaced (map given_word (given_items given)))
    (c.deref.ensures.0 ∙ c.bar_cells-cells.ensures)
    ∙ ap (λ words. string_bytes c.args.out.now ++ spaced words) (words-as_given cells))
    c.put_items.ensures
