-- Beams.
use Rattle.std.specs.Prelude.{ℕ, ◌+◌, ◌-◌, ◌%◌, ◌==◌, ◌&&◌, Bool, true, false, List, is_some, if◌then◌else◌}
use Rattle.std.specs.List.{list_any}
use Rattle.written_notes.specs.declared.bar.Written.{Written}
use Rattle.written_notes.specs.declared.beams.Beam.{Beam}
use Rattle.written_notes.specs.declared.beams.Beam.TheVariants.{Without, Begins, Ends}
use Rattle.written_notes.specs.declared.values.Base.{Base}
use Rattle.written_notes.specs.declared.values.Base.TheVariants.{Whole, Half, Quarter, Eighth}

-- the base is that of a quaver
abbrev pub is_eighth : Base → Bool
is_eighth Whole = false
is_eighth Half = false
is_eighth Quarter = false
is_eighth Eighth = true

-- a quaver, and no rest
abbrev pub is_quaver : Written → Bool
is_quaver note = is_eighth note.value.base && is_some note.pitch

-- the other slot of the same quarter
abbrev pub partner_of : ℕ → ℕ
partner_of slot = if slot % 2 == 0 then slot + 1 else slot - 1

-- one of these notes is a quaver at a slot
abbrev pub quaver_at : List Written → ℕ → Bool
quaver_at notes slot = list_any (λ other. is_quaver other && (other.slot == slot)) notes

-- a quaver whose quarter has another one of these notes
abbrev pub is_beamed : List Written → Written → Bool
is_beamed notes note = is_quaver note && quaver_at notes (partner_of note.slot)

-- the beam of a note: it begins at the first quaver of the quarter and ends at the second
abbrev pub beam_of : List Written → Written → Beam
beam_of notes note =
    if is_beamed notes note then (if note.slot % 2 == 0 then Begins else Ends) else Without
