use Rattle.whole_lines.proofs.EndedLemmas.{behind_place, behind_word}
use Rattle.text_lines.specs.Numbers.{number_within}
use Rattle.canon_space.proofs.reading.from_bars.Goals as goal

pub returns-clause-value : goal.returns-clause-value
returns-clause-value c =
    behind_word (λ canon. canon) c.from_leader.result _ _ 3 _ _ c.in_ok-words.ensures
    (behind_place (λ canon. canon) c.from_leader.result _ _ 3 10 (number_within 3 24) _ _ c.in-Some.bars c.in_ok-word.ensures c.in-Some.ensures.value
    (c.from_leader.ensures.value))
