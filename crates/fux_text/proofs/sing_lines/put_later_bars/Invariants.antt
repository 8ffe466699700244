use Rattle.std.proofs.Common.{◌≡◌, ◌-◌, ◌+◌, ◌/◌, ◌∷◌, ◌++◌, string_bytes, codes, length}
use Rattle.std.specs.List.{flat_map, range_with_len}
use Rattle.fux_grid.specs.Letters.{bar_columns}
use Rattle.fux_text.specs.Lines.{bar_words, later_bars_text}
use Rattle.fux_text.specs.Words.{spaced}
use Rattle.fux_text.proofs.sing_lines.put_later_bars.Given as goal

-- what is written so far, and the bars that are left, are what is to be written
abbrev pub invariant-loop-bar : goal.invariant-loop-bar
invariant-loop-bar l =
    string_bytes l.out ++ flat_map (λ bar. spaced (codes "|" ∷ bar_words l.v (bar_columns l.score.columns bar)))
    (range_with_len l.bar (length l.score.columns / 8 + 1 - l.bar))
    ≡ string_bytes l.fn.out ++ later_bars_text l.v l.score.columns
