-- Answers with the first fault.
use Rattle.std.specs.Prelude.{◌≡◌, List, [], ◌∷◌, Result, Ok, Err}
use Rattle.smf_score.specs.declared.fault.SmfFault.{SmfFault}
use Rattle.smf_score.specs.declared.fault.SmfFault.TheVariants as faults

-- the first fault is the answer
infixl 10 ◌>>=◌
abbrev pub ◌>>=◌ : {A B : Type 0} → Result A SmfFault → (A → Result B SmfFault) → Result B SmfFault
(Ok x) >>= f = f x
(Err e) >>= f = Err e

-- what is read of each element of a list in turn, or the first fault
unfoldable pub each : {X Y : Type 0} → (X → Result Y SmfFault) → List X → Result (List Y) SmfFault
each read [] = Ok []
each read (x ∷ xs) = do
  y ← read x
  ys ← each read xs
  Ok (y ∷ ys)

-- a fault other than want of memory is the one that reading gives
abbrev pub Fails : {Y : Type 0} → SmfFault → Result Y SmfFault → Type 0
Fails faults.Memory read = Unit {0}
Fails e read = read ≡ Err e

-- what a function answered, seen by `view`, is what reading gives, unless memory ran out
abbrev pub Gives : {X Y : Type 0} → (X → Y) → Result X SmfFault → Result Y SmfFault → Type 0
Gives view (Ok x) read = read ≡ Ok (view x)
Gives view (Err e) read = Fails e read
