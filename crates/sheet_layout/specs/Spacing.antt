-- Where the slots of a bar stand.
use Rattle.std.specs.Prelude.{ℕ, zero, suc, ◌+◌, ◌==◌, ◌<◌, ◌≤◌, ◌&&◌, Bool, true, false, IsTrue, List, [], slice_index_or, if◌then◌else◌}
use Rattle.std.specs.List.{flat_map, list_any, range_with_len}
use Rattle.fux_grid.specs.declared.cell.Cell.{Cell}
use Rattle.fux_grid.specs.declared.exercise.Exercise.{Exercise}
use Rattle.written_notes.specs.declared.bar.Written.{Written}
use Rattle.written_notes.specs.declared.signs.Sign.{Sign}
use Rattle.written_notes.specs.declared.signs.Sign.TheVariants.{Plain, Sharp, Flat, Natural}
use Rattle.written_notes.specs.Sheets.{sheet_notes}

-- the written notes of a voice of an exercise with these lines in a bar
abbrev pub voice_notes : Exercise → List (List Cell) → ℕ → ℕ → List Written
voice_notes ex lines bar v = sheet_notes ex v (slice_index_or lines v []) bar

-- the written notes of all voices in a bar, the lowest voice first
abbrev pub all_notes : Exercise → List (List Cell) → ℕ → List Written
all_notes ex lines bar = flat_map (voice_notes ex lines bar) (range_with_len 0 ex.voices)

-- a sign is written
abbrev pub is_shown : Sign → Bool
is_shown Plain = false
is_shown Sharp = true
is_shown Flat = true
is_shown Natural = true

-- a note or a rest begins at a slot
abbrev pub begins : List Written → ℕ → Bool
begins all slot = list_any (λ note. note.slot == slot) all

-- a sign stands at a slot
abbrev pub has_sign : List Written → ℕ → Bool
has_sign all slot = list_any (λ note. (note.slot == slot) && is_shown note.sign) all

-- the room before a slot for its signs
abbrev pub lead : List Written → ℕ → ℕ
lead all slot = if has_sign all slot then 11 else 0

-- the room of a slot: more where a note begins, and more where a sign stands
abbrev pub room : List Written → ℕ → ℕ
room all slot = 4 + (if begins all slot then 17 else 0) + lead all slot

-- the room of the first so many slots
abbrev pub room_of : List Written → ℕ → ℕ
room_of all zero = 0
room_of all (suc slot) = room_of all slot + room all slot

-- where a slot stands, counted from the bar line before the bar
abbrev pub slot_x : List Written → ℕ → ℕ
slot_x all slot = 18 + room_of all slot + lead all slot

-- the width of a bar
abbrev pub bar_width : List Written → ℕ
bar_width all = 26 + room_of all 8

-- no sign touches a note before it, nor a note another: from a slot where a note begins it is 21 to
-- each later slot, and the room of that slot's signs besides
abbrev pub SlotsStandApart : Type 0
SlotsStandApart =
    (all : List Written) (slot later : ℕ) → slot < later → IsTrue (begins all slot)
    → slot_x all slot + 21 + lead all later ≤ slot_x all later
