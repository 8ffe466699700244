use Rattle.whole_lines.proofs.EndedLemmas.{behind_place, behind_word}
use Rattle.fux_text.specs.Names.{pitch_named}
use Rattle.text_lines.specs.Numbers.{number_within}
use Rattle.canon_space.specs.Texts.{high_named}
use Rattle.canon_space.proofs.reading.from_leader.Goals as goal

pub returns-clause-value : goal.returns-clause-value
returns-clause-value c =
    behind_word (λ canon. canon) c.from_follower.result _ _ 4 _ _ c.in_ok-words.ensures
    (behind_place (λ canon. canon) c.from_follower.result _ _ 4 32 (number_within 0 1) _ _ c.in-Some.voice c.in_ok-word.ensures c.in-Some.ensures.value
    (behind_place (λ canon. canon) c.from_follower.result _ _ 4 32 pitch_named _ _ c.in-Some-spaced_pitch.low c.in_ok-word-2.ensures c.in-Some-spaced_pitch.ensures
    (behind_place (λ canon. canon) c.from_follower.result _ _ 4 10 (high_named c.in-Some-spaced_pitch.low) _ _ c.in-Some-last_pitch.high c.in_ok-word-3.ensures c.in-Some-last_pitch.ensures.value
    (c.from_follower.ensures.value))))
