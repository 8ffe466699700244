use Rattle.whole_lines.proofs.EndedLemmas.{behind_place, behind_word}
use Rattle.fux_text.specs.Names.{mode_named}
use Rattle.canon_space.proofs.reading.from_mode.Goals as goal

pub returns-clause-value : goal.returns-clause-value
returns-clause-value c =
    behind_word (λ canon. canon) c.from_bars.result _ _ 2 _ _ c.in_ok-words.ensures
    (behind_place (λ canon. canon) c.from_bars.result _ _ 2 10 mode_named _ _ c.in-Some.mode c.in_ok-word.ensures c.in-Some.ensures
    (c.from_bars.ensures.value))
