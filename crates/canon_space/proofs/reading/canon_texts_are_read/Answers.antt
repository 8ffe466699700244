use Rattle.std.proofs.Common.{◌≤◌, length, arith}
use Rattle.std.specs.Prelude.{nat_lt}
use Rattle.std.proofs.lemmas.Bool.{ltb-false, ltb-true}
use Rattle.whole_lines.specs.Ended.{is_end}
use Rattle.whole_lines.proofs.EndedLemmas.{text-read}
use Rattle.canon_space.specs.Texts.{canon_of, canon_row}
use Rattle.canon_space.proofs.reading.canon_texts_are_read.Goals as goal

pub returns-clause-texts : goal.returns-clause-texts
unfolding canon_of
returns-clause-texts c = λ text canon.
    (text-read is_end canon_row text (length text ≤ 65536) 1 (nat_lt 65536 (length text)) (ltb-false 65536 (length text))
    (λ long few. absurd (omega (arith, few, ltb-true 65536 (length text) long)))).0 canon

pub returns-clause-faults : goal.returns-clause-faults
unfolding canon_of
returns-clause-faults c = λ text line.
    (text-read is_end canon_row text (length text ≤ 65536) 1 (nat_lt 65536 (length text)) (ltb-false 65536 (length text))
    (λ long few. absurd (omega (arith, few, ltb-true 65536 (length text) long)))).1 line
