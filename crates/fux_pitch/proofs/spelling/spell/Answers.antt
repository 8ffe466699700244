use Rattle.std.proofs.Common.{rules, ◌≡◌, FitsSigned, w8, to_z, of_z}
use Rattle.std.proofs.lemmas.Int.{to_z-of_z}
use Rattle.fux_pitch.specs.Spelling.{spelled}
use Rattle.fux_pitch.proofs.SpellingLemmas.{known-from_spelled, key_of-from_spelled}
use Rattle.fux_pitch.proofs.spelling.spell.Goals as goal

pub returns-clause-value : goal.returns-clause-value
unfolding spelled
returns-clause-value c =
    let fits : FitsSigned w8 c.spelling_of-letter.result.1 = search rules in
    let same : to_z w8 (of_z w8 c.spelling_of-letter.result.1) ≡ c.spelling_of-letter.result.1 = to_z-of_z _ _ fits in
    cc

pub returns-clause-known : goal.returns-clause-known
returns-clause-known c = known-from_spelled c.args.key c.new.result (returns-clause-value c)

pub returns-clause-same_key : goal.returns-clause-same_key
returns-clause-same_key c = key_of-from_spelled c.args.key c.new.result (returns-clause-value c)
