use Rattle.std.proofs.Common.{◌≡◌, ◌++◌, string_bytes, drop}
use Rattle.cantus_space.specs.ChargeLines.{charge_lines}
use Rattle.cantus_space.proofs.lines.put_charges.Given as goal

-- what is written so far, and what is left, are what is to be written
abbrev pub invariant-loop-charge : goal.invariant-loop-charge
invariant-loop-charge l = string_bytes l.out ++ charge_lines l.voice (drop l.charge-index l.charges)
    ≡ string_bytes l.fn.out ++ charge_lines l.voice l.charges
