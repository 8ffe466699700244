-- Bytes that are put together before they are written: where a writer stands (`stands_put`), that
-- nothing is lost at its end (`stands_end`), what was written where it stops (`stands_stop`), and
-- that a sink which promised all bytes promises those that wait and those to come (`room_put`).
use Rattle.std.proofs.Common.{◌≡◌, ℕ, ◌+◌, List, [], ◌++◌, Option, length, ap, sym, ◌∙◌, subst, arith, append_assoc, length-append}
use Rattle.std.specs.Prelude.{Err, IsOk, Ok, OnErr, Result}
use Rattle.std.proofs.lemmas.Bool.{true≢false}
use Rattle.std.proofs.lemmas.List.{append-nil, take-append-le}
use Rattle.fux_port.specs.Promises.{KeepsBehind}
use Rattle.fux_port.specs.Written.{StopsShort, appended}
use Rattle.fux_port.proofs.Pieces.{appended-append, stops_after}
use Rattle.fux_port.specs.Waiting.{Puts}

-- of the bytes some were written, some wait, and some are still to come
pub record Stands (start now : Option (List ℕ)) (waiting later bytes : List ℕ) : Type 0 where
  pub done : List ℕ
  pub told : now ≡ appended start done
  pub whole : done ++ (waiting ++ later) ≡ bytes

pub stands_put : (start old new : Option (List ℕ)) (waiting next line later whole bytes : List ℕ)
    → Puts old new waiting next line
    → whole ≡ line ++ later → Stands start old waiting whole bytes → Stands start new next later bytes
stands_put start old new waiting next line later whole bytes puts e stands = record {
  done = stands.done ++ puts.sent;
  told = puts.told ∙ ap (λ told. appended told puts.sent) stands.told ∙ appended-append start stands.done puts.sent;
  whole =
      append_assoc stands.done puts.sent (next ++ later)
      ∙ ap (λ bs. stands.done ++ bs) (sym (append_assoc puts.sent next later) ∙ ap (λ bs. bs ++ later) puts.bytes
      ∙ append_assoc waiting line later ∙ ap (λ bs. waiting ++ bs) (sym e))
      ∙ stands.whole;
}

-- the room for the bytes that wait and those to come, after a line of them was put
pub room_put : (old new : ℕ → Type 0) (waiting next : ℕ) (line later whole : List ℕ)
    → KeepsBehind old new (waiting + length line) next → whole ≡ line ++ later
    → old (waiting + length whole) → new (next + length later)
room_put old new waiting next line later whole keeps e room =
    let size : waiting + length whole ≡ waiting + length line + length later =
    omega (arith, ap length e, length-append line later) in
    keeps (length later) (subst old size room)

-- room for two texts is room for the first, whatever it is called, and for the other beyond it
pub room_split : (serves : ℕ → Type 0) (first bytes next : List ℕ) → bytes ≡ first → serves (length (first ++ next))
    → serves (length bytes + length next)
room_split serves first bytes next same room =
    subst serves (length-append first next ∙ ap (λ bs. length bs + length next) (sym same)) room

-- a write that stopped short is one of more bytes
pub stops_more : (old new : Option (List ℕ)) (first next : List ℕ) → StopsShort old new first
    → StopsShort old new (first ++ next)
stops_more old new first next stop = record {
  count = stop.count;
  short = omega (arith, length-append first next, stop.short);
  front = stop.front ∙ ap (appended old) (sym (take-append-le stop.count first next (omega (arith, stop.short))));
}

-- all that is written where nothing is still to come
pub stands_end : (start told new : Option (List ℕ)) (waiting later bytes : List ℕ)
    → Stands start told waiting later bytes → later ≡ [] → new ≡ appended told waiting → new ≡ appended start bytes
stands_end start told new waiting later bytes stands none wrote =
    let whole : stands.done ++ waiting ≡ bytes = ap (λ bs. stands.done ++ bs) (sym (append-nil waiting))
    ∙ ap (λ bs. stands.done ++ (waiting ++ bs)) (sym none) ∙ stands.whole in
    wrote ∙ ap (λ t. appended t waiting) stands.told ∙ appended-append start stands.done waiting
    ∙ ap (appended start) whole

pub stands_stop : (start told new : Option (List ℕ)) (waiting later bytes : List ℕ)
    → Stands start told waiting later bytes → StopsShort told new waiting → StopsShort start new bytes
stands_stop start told new waiting later bytes stands stop =
    subst (λ (bs : List ℕ). StopsShort start new bs) (append_assoc stands.done waiting later ∙ stands.whole)
    (stops_more start new (stands.done ++ waiting) later
    (stops_after start new stands.done waiting
    (subst (λ (t : Option (List ℕ)). StopsShort t new waiting) stands.told stop)))

-- a call that fails didn't go well
pub not_ok : {X E : Type 0} (result : Result X E) (e : E) → result ≡ Err e → IsOk result → ⊥
not_ok result e is ok = true≢false (sym (rw is at ok))

-- what holds where a call fails
pub with_err : {X E : Type 0} (result : Result X E) (P : Type 0) → P → OnErr result P
with_err (Ok x) P h = tt
with_err (Err e) P h = h
