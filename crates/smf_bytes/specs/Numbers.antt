-- Numbers at the front of bytes: what is read, and the bytes behind it, or the first fault. Bytes
-- are those up to an offset at which the file or its chunk ends.
use Rattle.std.specs.Prelude.{◌≡◌, ℕ, zero, suc, ◌+◌, ◌-◌, ◌*◌, List, [], ◌∷◌, length, take, drop, Result, Ok, Err, nat_lt, if◌then◌else◌}
use Rattle.std.specs.Int.{Width, byte_len, from_be_bytes}
use Rattle.smf_bytes.specs.declared.fault.ByteFault.{ByteFault}
use Rattle.smf_bytes.specs.declared.fault.ByteFault.TheVariants.{Truncated, LongNumber, Status}

-- the first fault is the answer
infixl 10 ◌>>=◌
abbrev pub ◌>>=◌ : {A B : Type 0} → Result A ByteFault → (A → Result B ByteFault) → Result B ByteFault
(Ok x) >>= f = f x
(Err e) >>= f = Err e

-- what a function answered, seen by `view`, is what reading gives
abbrev pub Gives : {X Y : Type 0} → (X → Y) → Result X ByteFault → Result Y ByteFault → Type 0
Gives view (Ok x) read = read ≡ Ok (view x)
Gives view (Err e) read = read ≡ Err e

-- the first byte
abbrev pub byte_in : ℕ → List ℕ → Result (ℕ × List ℕ) ByteFault
byte_in end [] = Err (Truncated end)
byte_in end (b ∷ bytes) = Ok (b, bytes)

-- a data byte is below 128
abbrev pub data_in : ℕ → List ℕ → Result (ℕ × List ℕ) ByteFault
data_in end bytes = do
  byte ← byte_in end bytes
  if nat_lt byte.0 128 then Ok byte else Err (Status (end - length bytes))

-- so many bytes
abbrev pub bytes_in : ℕ → ℕ → List ℕ → Result (List ℕ × List ℕ) ByteFault
bytes_in end count bytes =
    if nat_lt (length bytes) count then Err (Truncated end) else Ok (take count bytes, drop count bytes)

-- a number of so many bytes, the greatest first
abbrev pub number_in : Width → ℕ → List ℕ → Result (ℕ × List ℕ) ByteFault
number_in w end bytes = bytes_in end (byte_len w) bytes >>= λ x. Ok (from_be_bytes w x.0, x.1)

-- a quantity of at most so many bytes more, of which the bytes before stand for `high`: a byte has
-- seven bits, and its top bit is set where another byte follows; the whole quantity begins at
-- `begin`
unfoldable pub digits_in : ℕ → ℕ → ℕ → ℕ → List ℕ → Result (ℕ × List ℕ) ByteFault
digits_in zero begin high end bytes = Err (LongNumber begin)
digits_in (suc more) begin high end [] = Err (Truncated end)
digits_in (suc more) begin high end (b ∷ bytes) =
    if nat_lt b 128 then Ok (128 * high + b, bytes)
    else digits_in more begin (128 * high + (b - 128)) end bytes

-- a quantity has one to four bytes
abbrev pub quantity_in : ℕ → List ℕ → Result (ℕ × List ℕ) ByteFault
quantity_in end bytes = digits_in 4 (end - length bytes) 0 end bytes
