-- Heads that stand at one place are one.
use Rattle.std.proofs.Common.{◌≡◌, ◌⊎◌, inl, inr, ◌+◌, ◌-◌, ◌*◌, ◌<◌, ◌≤◌, ℕ, zero, suc, Bool, true, false, List, nat_le, refl, ap, sym, ◌∙◌, subst, arith}
use Rattle.std.proofs.Math.Nat.{le-suc_iff}
use Rattle.std.proofs.lemmas.Bool.{cases_order}
use Rattle.fux_pitch.specs.Pitch.{degree_of}
use Rattle.fux_grid.specs.declared.cell.Cell.{Cell}
use Rattle.fux_grid.specs.declared.exercise.Exercise.{Exercise}
use Rattle.written_notes.specs.declared.marks.SheetMark.{SheetMark}
use Rattle.sheet_layout.specs.declared.page.BarPlace.{BarPlace}
use Rattle.sheet_layout.specs.declared.page.BarRoom.{BarRoom}
use Rattle.sheet_layout.specs.Pages.{bar_room, next_place, place_of, staff_of, staves_end}
use Rattle.sheet_layout.specs.Spacing.{all_notes, slot_x}
use Rattle.sheet_layout.proofs.Apart.{rooms-grow, slots-apart}
use Rattle.sheet_layout.proofs.Within.{within}
use Rattle.score_picture.specs.Told.{IsDrawn, PlacesTellNotes, SheetHead, page_x, page_y}

-- a bar stands in a later system than another one, or behind it in the same
abbrev IsBehind : ℕ → BarPlace → BarPlace → Type 0
IsBehind tall before after =
    (before.top + tall + 20 ≤ after.top)
    ⊎ ((before.top ≡ after.top) × (before.left + before.room.width ≤ after.left))

next-behind : (tall : ℕ) (before : BarPlace) (room : BarRoom) → (b : Bool)
    → nat_le (before.left + before.room.width + room.width) 1030 ≡ b
    → IsBehind tall before (next_place tall before room)
next-behind tall before room true e = rw e (inr (refl, omega arith))
next-behind tall before room false e = rw e (inl (omega arith))

behind-again : (tall : ℕ) (a b c : BarPlace) → IsBehind tall a b → IsBehind tall b c → IsBehind tall a c
behind-again tall a b c (inl far) (inl farther) = inl (omega (arith, far, farther))
behind-again tall a b c (inl far) (inr (same, next)) = inl (omega (arith, far, same))
behind-again tall a b c (inr (same, next)) (inl far) = inl (omega (arith, same, far))
behind-again tall a b c (inr (same, next)) (inr (again, further)) =
    inr (same ∙ again, omega (arith, next, further))

module _ (ex : Exercise) (lines : List (List Cell)) (tall : ℕ) where
  -- the next bar's place
  step : (bar : ℕ) → IsBehind tall (place_of ex lines tall bar) (place_of ex lines tall (suc bar))
  step bar = next-behind tall (place_of ex lines tall bar) (bar_room ex lines bar) _ refl

  bars-behind : (a b : ℕ) → a < b → IsBehind tall (place_of ex lines tall (suc a)) (place_of ex lines tall (suc b))
  bars-behind a zero h = absurd (omega (arith, h))
  bars-behind a (suc b) h = by (cases_order a b) (λ below. bars-behind a b below)
    where
      by : (a ≡ b) ⊎ ((a < b) ⊎ (b < a))
          → (a < b → IsBehind tall (place_of ex lines tall (suc a)) (place_of ex lines tall (suc b)))
          → IsBehind tall (place_of ex lines tall (suc a)) (place_of ex lines tall (suc (suc b)))
      by (inl same) so_far =
          subst (λ k. IsBehind tall (place_of ex lines tall (suc k)) (place_of ex lines tall (suc (suc b)))) (sym same)
          (step (suc b))
      by (inr (inl below)) so_far =
          behind-again tall (place_of ex lines tall (suc a)) (place_of ex lines tall (suc b))
          (place_of ex lines tall (suc (suc b))) (so_far below) (step (suc b))
      by (inr (inr above)) so_far = absurd (omega (arith, h, above))

  -- a bar has the room that it needs
  its-room : (before : BarPlace) (room : BarRoom) → (b : Bool)
      → nat_le (before.left + before.room.width + room.width) 1030 ≡ b
      → (next_place tall before room).room ≡ room
  its-room before room true e = rw e refl
  its-room before room false e = rw e refl

  place-room : (bar : ℕ) → (place_of ex lines tall (suc bar)).room ≡ bar_room ex lines bar
  place-room bar = its-room (place_of ex lines tall bar) (bar_room ex lines bar) _ refl

  -- each slot stands within its bar
  slot-within : (bar slot : ℕ) → slot < 8
      → slot_x (all_notes ex lines bar) slot < (place_of ex lines tall (suc bar)).room.width
  slot-within bar slot h =
      let all = all_notes ex lines bar in
      omega (arith, rooms-grow all (suc slot) 8 h, ap (λ (room : BarRoom). room.width) (place-room bar))

-- more staves end no higher
ends-grow : (ex : Exercise) (marks : List SheetMark) (lines : List (List Cell)) (a b : ℕ) → a ≤ b
    → staves_end ex marks lines a ≤ staves_end ex marks lines b
ends-grow ex marks lines a zero h = let e : a ≡ 0 = omega (arith, h) in rw e (omega arith)
ends-grow ex marks lines a (suc b) h =
    elim (le-suc_iff.0 h) [
      | inl below ↦ omega (arith, ends-grow ex marks lines a b below)
      | inr e ↦ rw e (omega arith)
    ]

module _ (ex : Exercise) (marks : List SheetMark) (lines : List (List Cell)) (tall : ℕ) where
  -- a head stands 22 or more below where its staff's room begins
  stands-below : (h : SheetHead) → IsDrawn ex lines h
      → (place_of ex lines tall (suc h.bar)).top + staves_end ex marks lines h.staff + 22
      ≤ page_y ex marks lines tall h
  stands-below h drawn =
      omega (
        arith,
        (within ex marks lines (staves_end ex marks lines h.staff) (ex.voices - suc h.staff)
            (8 * h.bar + h.slot) h.pitch drawn.sounds).0,
        drawn.degree,
      )

  -- and 22 or more above where it ends
  stands-above : (h : SheetHead) → IsDrawn ex lines h
      → page_y ex marks lines tall h + 22
      ≤ (place_of ex lines tall (suc h.bar)).top + staves_end ex marks lines (suc h.staff)
  stands-above h drawn =
      omega (
        arith,
        (within ex marks lines (staves_end ex marks lines h.staff) (ex.voices - suc h.staff)
            (8 * h.bar + h.slot) h.pitch drawn.sounds).0,
        (within ex marks lines (staves_end ex marks lines h.staff)
            (ex.voices - suc h.staff) (8 * h.bar + h.slot) h.pitch drawn.sounds).1,
        drawn.degree,
      )

  -- heads at one place are not of two bars
  bars-differ : staves_end ex marks lines ex.voices ≤ tall
      → (one other : SheetHead) → IsDrawn ex lines one → IsDrawn ex lines other
      → one.bar < other.bar
      → page_x ex lines tall one ≡ page_x ex lines tall other
      → page_y ex marks lines tall one ≡ page_y ex marks lines tall other → ⊥
  bars-differ enough one other drawn-one drawn-other later x y =
      by (bars-behind ex lines tall one.bar other.bar later)
    where
      by : IsBehind tall (place_of ex lines tall (suc one.bar)) (place_of ex lines tall (suc other.bar)) → ⊥
      by (inl far) =
          omega (
            arith,
            far,
            y,
            stands-above one drawn-one,
            stands-below other drawn-other,
            ends-grow ex marks lines (suc one.staff) ex.voices drawn-one.staff,
            enough,
          )
      by (inr (same, next)) =
          omega (arith, x, next, slot-within ex lines tall one.bar one.slot drawn-one.slot)

  -- nor of two staves of one bar
  staves-differ : (one other : SheetHead) → IsDrawn ex lines one → IsDrawn ex lines other
      → one.bar ≡ other.bar → one.staff < other.staff
      → page_y ex marks lines tall one ≡ page_y ex marks lines tall other → ⊥
  staves-differ one other drawn-one drawn-other same below y =
      omega (
        arith,
        y,
        stands-above one drawn-one,
        stands-below other drawn-other,
        ends-grow ex marks lines (suc one.staff) other.staff below,
        ap (λ bar. (place_of ex lines tall (suc bar)).top) same,
      )

  -- nor of two slots of one bar
  slots-differ : (one other : SheetHead) → IsDrawn ex lines one → one.bar ≡ other.bar
      → one.slot < other.slot → page_x ex lines tall one ≡ page_x ex lines tall other → ⊥
  slots-differ one other drawn-one same before x =
      omega (
        arith,
        x,
        slots-apart (all_notes ex lines one.bar) one.slot other.slot before drawn-one.starts,
        ap (λ bar. (place_of ex lines tall (suc bar)).left) same,
        ap (λ bar. slot_x (all_notes ex lines bar) other.slot) same,
      )

neither : (a b : ℕ) → (a < b → ⊥) → (b < a → ⊥) → a ≡ b
neither a b less more = by (cases_order a b)
  where
    by : (a ≡ b) ⊎ ((a < b) ⊎ (b < a)) → a ≡ b
    by (inl same) = same
    by (inr (inl below)) = absurd (less below)
    by (inr (inr above)) = absurd (more above)

pub places-tell : PlacesTellNotes
places-tell ex marks lines tall one other enough drawn-one drawn-other x y =
    let bar : one.bar ≡ other.bar =
    neither one.bar other.bar
    (λ later. bars-differ ex marks lines tall enough one other drawn-one drawn-other later x y)
    (λ later. bars-differ ex marks lines tall enough other one drawn-other drawn-one later (sym x) (sym y)) in
    let staff : one.staff ≡ other.staff =
    neither one.staff other.staff
    (λ below. staves-differ ex marks lines tall one other drawn-one drawn-other bar below y)
    (λ below. staves-differ ex marks lines tall other one drawn-other drawn-one (sym bar) below (sym y)) in
    let slot : one.slot ≡ other.slot =
    neither one.slot other.slot
    (λ before. slots-differ ex marks lines tall one other drawn-one bar before x)
    (λ before. slots-differ ex marks lines tall other one drawn-other (sym bar) before (sym x)) in
    let staff-y = ap (λ k. (staff_of ex marks lines k).y) staff in
    let middle = ap (λ k. (staff_of ex marks lines k).middle) staff in
    let top = ap (λ b. (place_of ex lines tall (suc b)).top) bar in
    let below-one = stands-below ex marks lines tall one drawn-one in
    let below-other = stands-below ex marks lines tall other drawn-other in
    let degree : degree_of one.pitch ≡ degree_of other.pitch =
    omega (arith, y, staff-y, middle, top, below-one, below-other, drawn-one.degree, drawn-other.degree) in
    (bar, staff, slot, degree)
