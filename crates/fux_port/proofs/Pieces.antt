-- Lists that are read and written piece by piece.
use Rattle.std.proofs.Common.{◌≡◌, ℕ, ◌+◌, ◌-◌, ◌<◌, ◌≤◌, List, ◌++◌, Option, Some, None, length, take, drop, refl, ap, sym, ◌∙◌, append_assoc, arith, length-append, length-drop}
use Rattle.std.proofs.Math.Seq.{take-add, take-append-add}
use Rattle.std.proofs.lemmas.List.{take_all, take-append-le, length-take-le}
use Rattle.std.proofs.Transfers.{starts_with_length}
use Rattle.std.specs.Io.{StartsWith}
use Rattle.fux_port.specs.Written.{appended, StopsShort}

-- bytes after bytes that were written
pub appended-append : (told : Option (List ℕ)) (first next : List ℕ)
    → appended (appended told first) next ≡ appended told (first ++ next)
appended-append None first next = refl
appended-append (Some taken) first next = ap Some (append_assoc taken first next)

-- a write that stopped short, after bytes that were written
pub stops_after : (old new : Option (List ℕ)) (first next : List ℕ)
    → StopsShort (appended old first) new next → StopsShort old new (first ++ next)
stops_after old new first next stop = record {
  count = length first + stop.count;
  short = rw length-append (omega (arith, stop.short));
  front = rw take-append-add (stop.front ∙ appended-append old first (take stop.count next));
}

-- a piece after the front that was read
pub starts_with_more : (file front buf rest : List ℕ) (at count : ℕ) → at ≡ length front → count ≤ length buf
    → StartsWith file front → StartsWith (drop at file) (take count buf)
    → StartsWith file (front ++ take count (buf ++ rest))
starts_with_more file front buf rest at count here fits p q =
    let piece = take count buf in
    let next : take (length piece) (drop (length front) file) ≡ piece = rw (← here) q in
    rw (take-append-le, length-append, take-add) (cc)

-- a front that is as long as the file is the file
pub whole_front : (file front : List ℕ) → StartsWith file front → length file ≤ length front → front ≡ file
whole_front file front p long = sym p ∙ take_all (length front) file long

-- a piece that reaches past the limit
pub past_limit : (file buf : List ℕ) (at count limit : ℕ) → count ≤ length buf → limit - at < count
    → StartsWith (drop at file) (take count buf) → limit < length file
past_limit file buf at count limit fits past placed =
    omega (
      arith,
      starts_with_length (drop at file) (take count buf) placed,
      length-take-le count buf fits,
      length-drop
          at file,
    )
