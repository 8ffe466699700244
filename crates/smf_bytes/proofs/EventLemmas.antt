-- The next event of what is left of a track (`events_more`, `events_fault`), and the next track of
-- a file (`tracks_more`, `tracks_over`).
use Rattle.std.proofs.Common.{◌≡◌, ◌≢◌, ℕ, zero, suc, ◌+◌, ◌-◌, ◌<◌, ◌≤◌, Bool, true, false, List, [], ◌∷◌, length, Option, Some, None, Result, Ok, Err, refl, sym, ◌∙◌, ap, arith, cond, eqb, ne_eqb, subst}
use Rattle.std.proofs.lemmas.Bool.{eqb-true, eqb-false}
use Rattle.std.proofs.lemmas.List.{nil_from_length}
use Rattle.smf_bytes.specs.declared.fault.ByteFault.{ByteFault}
use Rattle.smf_bytes.specs.declared.fault.ByteFault.TheVariants.{NoEnd}
use Rattle.smf_bytes.specs.Numbers.{◌>>=◌, quantity_in}
use Rattle.smf_bytes.specs.Rows.{IsQuantity, LacksQuantity, row_in}
use Rattle.smf_bytes.specs.Messages.{Event, ends_track, event_row}
use Rattle.smf_bytes.specs.Chunks.{track_in}
use Rattle.smf_bytes.specs.Events.{Timed, Left, Answers, event_then, left_then, next_in, answer_then, events_in, events_left, track_then, tracks_in}
use Rattle.smf_bytes.specs.Files.{IsNext, IsNextFault}
use Rattle.smf_bytes.proofs.PartLemmas.{PartTold, digits_shorter, quantity_tells, read_then}
use Rattle.smf_bytes.proofs.RowLemmas.{RowTold, row_shorter, row_tells}

-- what reading tells of the next event
abbrev pub NextTold : Left → Result (Timed × Option Left) ByteFault → Type 0
NextTold left (Ok x) =
    (delta : ℕ) × (event : Event) × (rest : List ℕ) × IsNext left delta event rest
    × (x ≡ (event_then left delta event, left_then left delta event rest))
NextTold left (Err fault) = IsNextFault left fault

pub next_told : (left : Left) → NextTold left (next_in left)
unfolding next_in
next_told left = by (eqb (length left.rest) 0) refl
  where
    next : ℕ × List ℕ → Event × List ℕ → Result (Timed × Option Left) ByteFault
    next delta event = Ok (event_then left delta.0 event.0, left_then left delta.0 event.0 event.1)

    read : (delta : ℕ × List ℕ) → IsQuantity left.rest delta.0 delta.1 → (r : Result (Event × List ℕ) ByteFault)
        → RowTold (event_row left.running) left.end delta.1 r → NextTold left (r >>= λ event. Ok
        (event_then left delta.0 event.0, left_then left delta.0 event.0 event.1))
    read delta time (Ok event) told =
        (delta.0, event.0, event.1, record { behind = delta.1; time = time; stands = told }, refl)
    read delta time (Err f) told = IsNextFault.in_event delta.0 delta.1 time told

    timed : left.rest ≢ [] → (r : Result (ℕ × List ℕ) ByteFault)
        → PartTold (IsQuantity left.rest) (LacksQuantity left.end left.rest) r
        → NextTold left (r >>= λ delta. row_in (event_row left.running) left.end delta.1 >>= λ event. Ok
        (event_then left delta.0 event.0, left_then left delta.0 event.0 event.1))
    timed some (Ok delta) told =
        read delta told (row_in (event_row left.running) left.end delta.1) ((row_tells (event_row left.running) left.end delta.1).told)
    timed some (Err f) told = IsNextFault.in_time some told

    by : (t : Bool) → eqb (length left.rest) 0 ≡ t
        → NextTold left (cond t (Err (NoEnd left.end)) (quantity_in left.end left.rest >>= λ delta.
        row_in (event_row left.running) left.end delta.1 >>= λ event. Ok
        (event_then left delta.0 event.0, left_then left delta.0 event.0 event.1)))
    by true e = IsNextFault.no_end (nil_from_length left.rest (eqb-true (length left.rest) 0 e)) refl
    by false e =
        timed (λ none. eqb-false (length left.rest) 0 e (ap length none)) (quantity_in left.end left.rest)
        ((quantity_tells left.end left.rest).told)

pub next_shorter : (left : Left) (delta : ℕ) (event : Event) (rest : List ℕ) → IsNext left delta event rest
    → length rest < length left.rest
next_shorter left delta event rest h =
    omega (
      arith,
      digits_shorter 4 0 left.rest delta h.behind h.time,
      row_shorter (event_row left.running) h.behind event rest h.stands,
    )

pub next_only : (left : Left) (s : Result (Timed × Option Left) ByteFault) → NextTold left s → next_in left ≡ s
unfolding next_in
next_only left (Ok x) (delta, event, rest, h, is) =
    let some : length left.rest ≢ 0 = λ none. absurd (omega (arith, next_shorter left delta event rest h, none)) in
    rw (ne_eqb (length left.rest) 0 some)
    (read_then (quantity_in left.end left.rest) (Ok (delta, h.behind)) _ _
    ((quantity_tells left.end left.rest).only (Ok (delta, h.behind)) h.time)
    (read_then (row_in (event_row left.running) left.end h.behind) (Ok (event, rest)) _ _
    ((row_tells (event_row left.running) left.end h.behind).only (Ok (event, rest)) h.stands) (ap Ok (sym is))))
next_only left (Err f) (IsNextFault.no_end e fault) = rw fault (rw e refl)
next_only left (Err f) (IsNextFault.in_time some lacks) =
    let some : length left.rest ≢ 0 = λ none. some (nil_from_length left.rest none) in
    rw (ne_eqb (length left.rest) 0 some)
    (read_then (quantity_in left.end left.rest) (Err f) _ _ ((quantity_tells left.end left.rest).only (Err f) lacks) refl)
next_only left (Err f) (IsNextFault.in_event delta behind time lacks) =
    let some : length left.rest ≢ 0 =
    λ none. absurd (omega (arith, digits_shorter 4 0 left.rest delta behind time, none)) in
    rw (ne_eqb (length left.rest) 0 some)
    (read_then (quantity_in left.end left.rest) (Ok (delta, behind)) _ _
    ((quantity_tells left.end left.rest).only (Ok (delta, behind)) time)
    (read_then (row_in (event_row left.running) left.end behind) (Err f) _ _
    ((row_tells (event_row left.running) left.end behind).only (Err f) lacks) refl))

-- ---- what is left of a track

-- what is left behind an event is shorter
after_shorter : (left : Left) (event : Timed) (after : Left) → next_in left ≡ Ok (event, Some after)
    → length after.rest < length left.rest
after_shorter left event after e =
    let told = subst (NextTold left) e (next_told left) in
    let same = at (ends_track told.1.message) (ap (λ (p : Timed × Option Left). p.1) told.4) in
    omega (arith, ap (λ (l : Left). length l.rest) same, next_shorter left told.0 told.1 told.2 told.3)
  where
    at : (t : Bool) {l : Left} → Some after ≡ cond t None (Some l) → after ≡ l
    at true h = absurd cc
    at false h = cc

-- nothing is left to read
next_none : (left : Left) → length left.rest ≤ 0 → next_in left ≡ Err (NoEnd left.end)
unfolding next_in
next_none left none = let empty : length left.rest ≡ 0 = omega arith in rw empty refl

-- a number that the bytes don't pass is as good as another
events_enough : (n m : ℕ) (left : Left) → length left.rest ≤ n → length left.rest ≤ m → events_in n left
    ≡ events_in m left
unfolding events_in
events_enough zero zero left few fewer = refl
events_enough zero (suc m) left few fewer = rw (next_none left few) refl
events_enough (suc n) zero left few fewer = rw (next_none left fewer) refl
events_enough (suc n) (suc m) left few fewer =
    at (next_in left) refl (λ after short shorter. events_enough n m after short shorter)
  where
    at : (r : Result (Timed × Option Left) ByteFault) → next_in left ≡ r
        → ((after : Left) → length after.rest ≤ n → length after.rest ≤ m → events_in n after ≡ events_in m after)
        → answer_then (events_in n) r ≡ answer_then (events_in m) r
    at (Err f) e later = refl
    at (Ok (event, None)) e later = refl
    at (Ok (event, Some after)) e later =
        let less = after_shorter left event after e in
        ap (λ (answers : Answers). Ok event ∷ answers) (later after (omega arith) (omega arith))

-- one event of what is left
events_step : (left : Left) → events_in (length left.rest) left
    ≡ answer_then (events_in (length left.rest)) (next_in left)
unfolding events_in
events_step left = events_enough (length left.rest) (suc (length left.rest)) left (omega arith) (omega arith)

pub events_fault : (left : Left) (f : ByteFault) → next_in left ≡ Err f → events_in (length left.rest) left ≡ Err f ∷ []
events_fault left f e = events_step left ∙ ap (answer_then (events_in (length left.rest))) e

pub events_more : (left : Left) (event : Timed) (after : Option Left) → next_in left ≡ Ok (event, after)
    → events_in (length left.rest) left ≡ Ok event ∷ events_left after
events_more left event None e = events_step left ∙ ap (answer_then (events_in (length left.rest))) e
events_more left event (Some after) e =
    let less = after_shorter left event after e in
    events_step left ∙ ap (answer_then (events_in (length left.rest))) e
    ∙ ap (λ (answers : Answers). Ok event ∷ answers)
    (events_enough (length left.rest) (length after.rest) after (omega arith) (omega arith))

-- the track of the next number
pub tracks_more : (tracks number size : ℕ) (bytes : List ℕ) → number < tracks
    → tracks_in (tracks - number) number size bytes
    ≡ track_then number size (tracks_in (tracks - (number + 1)) (number + 1) size) (track_in (length bytes) size bytes)
unfolding tracks_in
tracks_more tracks number size bytes more =
    let k : tracks - number ≡ suc (tracks - (number + 1)) = omega arith in
    let next : suc number ≡ number + 1 = omega arith in
    rw (k, next) refl

pub tracks_over : (tracks number size : ℕ) (bytes : List ℕ) → tracks ≤ number
    → tracks_in (tracks - number) number size bytes ≡ []
unfolding tracks_in
tracks_over tracks number size bytes over =
    let k : tracks - number ≡ 0 = omega arith in
    rw k refl
