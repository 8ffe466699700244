use Rattle.std.proofs.Common.{arith, ◌≤◌, ◌%◌, ◌∙◌, ap}
use Rattle.std.proofs.lemmas.Int.{to_z-of_z}
use Rattle.fux_pitch.specs.Pitch.{degree_of, pitch_at}
use Rattle.fux_pitch.proofs.NameParts.{name_of-digit, name_of-parts, named_by_parts, found_by_parts, none_is_some}
use Rattle.fux_pitch.proofs.names.written.Goals as goal

pub returns-then-digit-lt49-clause-every : goal.returns-then-digit-lt49-clause-every
returns-then-digit-lt49-clause-every c p e =
    let digits : (49 ≤ c.args.digit) × (c.args.digit ≤ 55) = name_of-digit p _ _ _ c.requires.flat c.requires.sharp e in
    absurd (omega arith)

pub returns-in_err-letter_of-clause-every : goal.returns-in_err-letter_of-clause-every
returns-in_err-letter_of-clause-every c p e =
    let parts = name_of-parts p _ _ _ c.requires.flat c.requires.sharp e in
    absurd (none_is_some _ (c.in_err-letter_of.ensures.every (degree_of p % 7) (omega arith) parts.same_letter))

pub returns-clause-named : goal.returns-clause-named
returns-clause-named c = named_by_parts _ c.args.alter c.args.digit _ _ c.in_ok-letter_of.ensures.small
    c.in_ok-letter_of.ensures.same (omega arith) (c.new.ensures.value ∙ ap (pitch_at _) (to_z-of_z _ _ c.ranges.alter))

pub returns-clause-every : goal.returns-clause-every
returns-clause-every c = found_by_parts _ _ c.args.digit _ _ c.in_ok-letter_of.ensures.small
    c.in_ok-letter_of.ensures.same c.requires.flat c.requires.sharp
    (c.new.ensures.value ∙ ap (pitch_at _) (to_z-of_z _ _ c.ranges.alter))
