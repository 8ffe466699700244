-- What a sink got in several writes.
use Rattle.std.proofs.Common.{◌≡◌, ℕ, ◌+◌, ◌≤◌, List, [], ◌++◌, Option, Some, None, length, refl, ap, subst, ◌∙◌, inl, inr, append-nil, Result, Ok, Err, OnOk, OnErr, arith, length-append}
use Rattle.std.specs.Prelude.{IsOk}
use Rattle.std.proofs.lemmas.List.{take-append-le}
use Rattle.fux_port.specs.Counts.{Rose}
use Rattle.fux_port.specs.Promises.{KeepsRoom}
use Rattle.fux_port.specs.Written.{appended, StopsShort}
use Rattle.fux_port.proofs.Pieces.{appended-append, stops_after}
use Rattle.fux_port.proofs.Rises.{rose_later}
use Rattle.fux_port.proofs.Stands.{not_ok}
use Rattle.fux_run.specs.Sinks.{Gets}

-- no bytes after those that were written
pub appended-none : (told : Option (List ℕ)) → appended told [] ≡ told
appended-none None = refl
appended-none (Some taken) = ap Some (append-nil taken)

-- a write that stopped short of the first bytes, of more
pub stops_before : (old new : Option (List ℕ)) (first next : List ℕ) → StopsShort old new first
    → StopsShort old new (first ++ next)
stops_before old new first next stop =
    let within : stop.count ≤ length first = omega (arith, stop.short) in
    record {
      count = stop.count;
      short = rw length-append (omega (arith, stop.short));
      front = rw take-append-le stop.front;
    }

module _ {S : Type 0} (written : S → Option (List ℕ)) (faults : S → ℕ) (serves : S → ℕ → Type 0) where
  -- more bytes, after those that were written
  pub gets_more : (old mid new : S) (first next : List ℕ) → written mid ≡ appended (written old) first
      → faults old ≤ faults mid → KeepsRoom (serves old) (serves mid) (length first)
      → Gets written faults serves mid new next → Gets written faults serves old new (first ++ next)
  gets_more old mid new first next wrote before keeps (inl all) =
      inl (all ∙ (ap (λ told. appended told next) wrote ∙ appended-append (written old) first next))
  gets_more old mid new first next wrote before keeps (inr part) =
      inr (
        (
          rose_later (faults old) (faults mid) (faults new) before part.0.0,
          λ promised. part.0.1 (keeps (length next) (subst (serves old) (length-append first next) promised)),
        ),
        stops_after (written old) (written new) first next (rw (← wrote) part.1),
      )

  -- what a sink got by one whole write
  pub gets_written : {T E : Type 0} (old new : S) (bytes : List ℕ) (result : Result T E)
      → OnOk result (written new ≡ appended (written old) bytes) → OnErr result (Rose (faults old) (faults new))
      → (serves old (length bytes) → IsOk result) → OnErr result (StopsShort (written old) (written new) bytes)
      → Gets written faults serves old new bytes
  gets_written {T} {E} old new bytes (Ok x) all rose promised part = inl all
  gets_written {T} {E} old new bytes (Err e) all rose promised part =
      inr ((rose, λ room. not_ok {X = T} (Err e) e refl (promised room)), part)

  -- a sink that got nothing is as it was
  pub gets_none : (old new : S) → Gets written faults serves old new [] → written new ≡ written old
  gets_none old new (inl all) = all ∙ appended-none (written old)
  gets_none old new (inr part) = absurd (omega (arith, part.1.short))

  -- what a sink got by a write that failed, of more
  pub gets_part : (old new : S) (first next : List ℕ) → Rose (faults old) (faults new)
      → ((more : ℕ) → serves old (length first + more) → ⊥) → StopsShort (written old) (written new) first
      → Gets written faults serves old new (first ++ next)
  gets_part old new first next rose unpromised short =
      inr (
        (rose, λ promised. unpromised (length next) (subst (serves old) (length-append first next) promised)),
        stops_before (written old) (written new) first next short,
      )
