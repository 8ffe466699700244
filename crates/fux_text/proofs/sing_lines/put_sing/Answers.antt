use Rattle.std.proofs.Common.{ℕ, ◌-◌, ◌/◌, ◌<◌, List, [], ◌∷◌, ◌++◌, string_bytes, length, codes, sym, ap, ◌∙◌, arith}
use Rattle.std.specs.Fmt.{decimal}
use Rattle.std.specs.List.{flat_map, range_with_len}
use Rattle.fux_grid.specs.Letters.{bar_columns}
use Rattle.fux_text.specs.Lines.{bar_words}
use Rattle.fux_text.specs.Words.{spaced}
use Rattle.fux_text.proofs.TextParts.{appended, sing_text-parts}
use Rattle.fux_text.proofs.sing_lines.put_sing.Goals as goal

pub returns : goal.returns
returns c =
    let columns = c.args.score.now.columns in
    let v = c.args.v in
    let some : 0 < length columns / 8 = omega (arith, c.requires.whole, c.requires.some) in
    let others : List ℕ = flat_map (λ bar. spaced (codes "|" ∷ bar_words v (bar_columns columns bar)))
    (range_with_len 2 (length columns / 8 - 1)) in
    appended (string_bytes c.args.out.now) (string_bytes c.write.new.self) (string_bytes c.put_bar.new.out)
    (string_bytes c.put_later_bars.new.out) (string_bytes c.push.new.self)
    (codes "sing " ++ decimal v) (spaced (bar_words v (bar_columns columns 1))) others (10 ∷ [])
    c.in_ok-write.ensures.bytes c.in_ok-put_bar.ensures c.in_ok-put_later_bars.ensures
    (c.in_ok-push.ensures.bytes ∙ ap (λ text. string_bytes c.put_later_bars.new.out ++ text)
    (c.in_ok-push.ensures.ascii (omega arith)))
    ∙ ap (λ text. string_bytes c.args.out.now ++ text) (sym (sing_text-parts v columns some))
