use Rattle.whole_lines.proofs.EndedLemmas.{behind_word}
use Rattle.canon_space.proofs.reading.from_title.Goals as goal

pub returns-clause-value : goal.returns-clause-value
returns-clause-value c =
    behind_word (λ canon. canon) c.from_mode.result _ _ 1 _ _ c.in_ok-words.ensures
    (behind_word (λ canon. canon) c.from_mode.result _ _ 1 _ _ c.in_ok-words-2.ensures
    (c.from_mode.ensures.value))
