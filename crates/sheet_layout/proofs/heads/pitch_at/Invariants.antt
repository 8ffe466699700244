use Rattle.std.proofs.Common.{◌≡◌, ◌==◌, drop}
use Rattle.std.specs.List.{find}
use Rattle.written_notes.specs.declared.bar.Written.{Written}
use Rattle.sheet_layout.proofs.heads.pitch_at.Given as goal

-- what is left has the first note at the slot
abbrev pub invariant-loop-other : goal.invariant-loop-other
invariant-loop-other l =
    find (λ (other : Written). other.slot == l.slot) l.notes
    ≡ find (λ (other : Written). other.slot == l.slot) (drop l.other-index l.notes)
