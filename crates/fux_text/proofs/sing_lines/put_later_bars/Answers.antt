use Rattle.std.proofs.Common.{ℕ, ◌+◌, ◌/◌, ◌∷◌, string_bytes, codes, length, arith, rules, append_assoc}
use Rattle.fux_grid.specs.Letters.{bar_columns}
use Rattle.fux_text.specs.Lines.{bar_words}
use Rattle.fux_text.specs.Words.{spaced}
use Rattle.fux_text.proofs.CountSteps.{written-next}
use Rattle.fux_text.proofs.sing_lines.put_later_bars.Goals as goal

pub loop-bar-preserved : goal.loop-bar-preserved
loop-bar-preserved c =
    let columns = c.args.score.now.columns in
    let text = λ (bar : ℕ). spaced (codes "|" ∷ bar_words c.args.v (bar_columns columns bar)) in
    written-next text (string_bytes c.loop-bar.out) (string_bytes c.put_bar.new.out) _ c.loop-bar.bar
    (length columns / 8 + 1) (omega arith) (search (rules, append_assoc)) c.loop-bar.invariant
