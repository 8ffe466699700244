use Rattle.std.proofs.Common.{arith, ◌≡◌, ◌≤◌, length, ap, subst}
use Rattle.fux_pitch.specs.Names.{name_of}
use Rattle.fux_pitch.proofs.NameLemmas.{IsNameShaped, name_of-shape, name_of-length, no_sign}
use Rattle.fux_pitch.proofs.names.parse_pitch.Goals as goal

pub returns-in_default-clause-every : goal.returns-in_default-clause-every
returns-in_default-clause-every c p e =
    let lengths : (2 ≤ length (name_of p)) × (length (name_of p) ≤ 3) = name_of-length p in
    let same : length (name_of p) ≡ length c.args.text.now = ap length e in
    absurd (omega arith)

pub returns-in_default-2-clause-every : goal.returns-in_default-2-clause-every
returns-in_default-2-clause-every c p e = absurd
    (no_sign c.args.text.now (subst IsNameShaped e (name_of-shape p)) c.in_default.len_at_least (λ s. omega arith)
    (λ f. omega arith))

pub returns-in_default-3-clause-every : goal.returns-in_default-3-clause-every
returns-in_default-3-clause-every c p e =
    let lengths : (2 ≤ length (name_of p)) × (length (name_of p) ≤ 3) = name_of-length p in
    let same : length (name_of p) ≡ length c.args.text.now = ap length e in
    absurd (omega arith)
