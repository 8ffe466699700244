use Rattle.std.proofs.Common.{◌-◌, subst, w8, arith}
use Rattle.std.proofs.lemmas.Int.{ints, to_z-of_z}
use Rattle.text_lines.specs.Numbers.{number_within}
use Rattle.text_lines.specs.Rows.{row_in}
use Rattle.whole_lines.specs.Texts.{Reads, words_of}
use Rattle.whole_lines.proofs.EndedLemmas.{behind_place, behind_word}
use Rattle.canon_space.specs.Texts.{range_row, shift_named}
use Rattle.canon_space.proofs.reading.from_follower.Goals as goal

pub returns-clause-value : goal.returns-clause-value
returns-clause-value c =
    let said = c.in-Some.ensures in
    let range = range_row c.args.mode c.args.bars c.args.leader in
    let later =
    subst (λ s. Reads (λ canon. canon) c.from_range.result (row_in (range s c.in-Some-number_in.delay)
    (words_of c.in_ok-word-2.words)))
    (to_z-of_z w8 c.in-Some.shift (omega (arith, ints, said.least, said.most))) c.from_range.ensures.value in
    behind_word (λ canon. canon) c.from_range.result _ _ 5 _ _ c.in_ok-words.ensures
    (behind_place (λ canon. canon) c.from_range.result _ _ 5 32 shift_named _ _ c.in-Some.shift c.in_ok-word.ensures said.value
    (behind_place (λ canon. canon) c.from_range.result _ _ 5 32 (number_within 1 (c.args.bars - 2)) _ _
    c.in-Some-number_in.delay c.in_ok-word-2.ensures c.in-Some-number_in.ensures.value later))
