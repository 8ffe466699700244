-- Slots stand apart, and bars fit the page.
use Rattle.std.proofs.Common.{◌≡◌, ◌+◌, ◌*◌, ◌≤◌, ℕ, zero, suc, Bool, true, false, cond, List, nat_le, refl, ap, inl, inr, arith, is_some}
use Rattle.std.proofs.Math.Nat.{le-suc_iff}
use Rattle.std.proofs.lemmas.Grind.{common_steps}
use Rattle.fux_grid.specs.declared.cell.Cell.{Cell}
use Rattle.fux_grid.specs.declared.exercise.Exercise.{Exercise}
use Rattle.written_notes.specs.declared.bar.Written.{Written}
use Rattle.sheet_layout.specs.declared.page.BarPlace.{BarPlace}
use Rattle.sheet_layout.specs.declared.page.BarRoom.{BarRoom}
use Rattle.sheet_layout.specs.Spacing.{SlotsStandApart, all_notes, begins, has_sign, lead, room, room_of}
use Rattle.sheet_layout.specs.Pages.{BarsFitThePage, bar_room, next_place, place_of}

-- more slots have no less room
pub rooms-grow : (all : List Written) (a b : ℕ) → a ≤ b → room_of all a ≤ room_of all b
rooms-grow all a zero h = let e : a ≡ 0 = omega (arith, h) in rw e (omega arith)
rooms-grow all a (suc b) h =
    elim (le-suc_iff.0 h) [
      | inl below ↦ omega (arith, rooms-grow all a b below)
      | inr e ↦ rw e (omega arith)
    ]

pub slots-apart : SlotsStandApart
slots-apart all slot later h there =
    let wide : room_of all (suc slot) ≡ room_of all slot + (4 + 17 + lead all slot) =
    ap (λ b. room_of all slot + (4 + cond b 17 0 + lead all slot)) there in
    omega (arith, wide, rooms-grow all (suc slot) later h)

-- a slot has 32 at most, and a bar 282
room-few : (b c : Bool) → 4 + cond b 17 0 + cond c 11 0 ≤ 32
room-few true true = omega arith
room-few true false = omega arith
room-few false true = omega arith
room-few false false = omega arith

rooms-few : (all : List Written) (n : ℕ) → room_of all n ≤ 32 * n
rooms-few all zero = omega arith
rooms-few all (suc n) = omega (arith, rooms-few all n, room-few (begins all n) (has_sign all n))

least-few : (b : Bool) → cond b 0 150 ≤ 150
least-few true = omega arith
least-few false = omega arith

bar-few : (ex : Exercise) (lines : List (List Cell)) (bar : ℕ) → (bar_room ex lines bar).width ≤ 282
bar-few ex lines bar =
    omega (arith, rooms-few (all_notes ex lines bar) 8, least-few (is_some ex.setting))

-- a bar fits the page behind one that does
next-fits : (tall : ℕ) (before : BarPlace) (room : BarRoom) → room.width ≤ 282 → (b : Bool)
    → nat_le (before.left + before.room.width + room.width) 1030 ≡ b
    → (next_place tall before room).left + (next_place tall before room).room.width ≤ 1030
next-fits tall before room h true e = rw e (grind (arith, common_steps, e))
next-fits tall before room h false e = rw e (omega (arith, h))

pub bars-fit : BarsFitThePage
bars-fit ex lines tall zero = omega arith
bars-fit ex lines tall (suc bar) =
    next-fits tall (place_of ex lines tall bar) (bar_room ex lines bar) (bar-few ex lines bar) _ refl
