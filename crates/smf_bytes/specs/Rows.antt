-- What bytes are made of, as rows of parts of which each may hang on those before it: what a row of
-- parts says, and where bytes first go wrong. An offset counts from the beginning of the file:
-- bytes are those up to an offset, their end.
use Rattle.std.specs.Prelude.{◌≡◌, ◌⊎◌, ◌<◌, ◌≤◌, ◌+◌, ◌-◌, ◌*◌, ℕ, suc, List, [], ◌∷◌, ◌++◌, map, length, Result, Ok, Err}
use Rattle.std.specs.Int.{Width, byte_len, from_be_bytes}
use Rattle.smf_bytes.specs.declared.fault.ByteFault.{ByteFault}
use Rattle.smf_bytes.specs.declared.fault.ByteFault.TheVariants.{Truncated, LongNumber, Status}
use Rattle.smf_bytes.specs.Numbers.{◌>>=◌, byte_in, bytes_in, data_in, number_in, quantity_in}

-- a row of parts: nothing more, and what was said; the byte before is refused, which is a fault by
-- its offset; or a byte, a data byte, a number, a quantity or so many bytes, and the parts behind
-- it by what it says
pub data Row (A : Type 0) : Type 0 where
  says : A → Row A
  refused : (ℕ → ByteFault) → Row A
  byte : (ℕ → Row A) → Row A
  data_byte : (ℕ → Row A) → Row A
  number : Width → (ℕ → Row A) → Row A
  quantity : (ℕ → Row A) → Row A
  block : ℕ → (List ℕ → Row A) → Row A

-- ---- reading

unfoldable pub row_in : {A : Type 0} → Row A → ℕ → List ℕ → Result (A × List ℕ) ByteFault
row_in (Row.says x) end bytes = Ok (x, bytes)
row_in (Row.refused fault) end bytes = Err (fault (end - suc (length bytes)))
row_in (Row.byte more) end bytes = byte_in end bytes >>= λ x. row_in (more x.0) end x.1
row_in (Row.data_byte more) end bytes = data_in end bytes >>= λ x. row_in (more x.0) end x.1
row_in (Row.number w more) end bytes = number_in w end bytes >>= λ x. row_in (more x.0) end x.1
row_in (Row.quantity more) end bytes = quantity_in end bytes >>= λ x. row_in (more x.0) end x.1
row_in (Row.block count more) end bytes = bytes_in end count bytes >>= λ x. row_in (more x.0) end x.1

-- ---- without reading

-- the value of digits of seven bits, the greatest first, behind a value
abbrev pub value_of : ℕ → List ℕ → ℕ
value_of high [] = high
value_of high (d ∷ digits) = value_of (128 * high + d) digits

-- a digit in front of others has the top bit set
abbrev pub marked : List ℕ → List ℕ
marked digits = map (λ d. 128 + d) digits

-- at the front stands a quantity of so many bytes at most: its digits of seven bits, the top bit
-- set in all but the last
pub record AreDigits (most high : ℕ) (bytes : List ℕ) (n : ℕ) (rest : List ℕ) : Type 0 where
  pub digits : List ℕ
  pub last : ℕ
  pub few : length digits < most
  pub low : last < 128
  pub stands : bytes ≡ marked digits ++ last ∷ rest
  pub value : n ≡ 128 * value_of high digits + last

-- the bytes are over before its last digit, or so many digits stand there and each has the top bit
-- set
pub data LacksDigits (most begin end : ℕ) (bytes : List ℕ) (fault : ByteFault) : Type 0 where
  short : (digits : List ℕ) → length digits < most → bytes ≡ marked digits → fault ≡ Truncated end
      → LacksDigits most begin end bytes fault
  long : (digits rest : List ℕ) → length digits ≡ most → bytes ≡ marked digits ++ rest → fault ≡ LongNumber begin
      → LacksDigits most begin end bytes fault

-- a quantity has one to four bytes
abbrev pub IsQuantity : List ℕ → ℕ → List ℕ → Type 0
IsQuantity bytes n rest = AreDigits 4 0 bytes n rest

abbrev pub LacksQuantity : ℕ → List ℕ → ByteFault → Type 0
LacksQuantity end bytes fault = LacksDigits 4 (end - length bytes) end bytes fault

-- this byte stands at the front
abbrev pub IsByte : List ℕ → ℕ → List ℕ → Type 0
IsByte bytes b rest = bytes ≡ b ∷ rest

-- a data byte is below 128
abbrev pub IsData : List ℕ → ℕ → List ℕ → Type 0
IsData bytes b rest = IsByte bytes b rest × (b < 128)

pub data LacksData (end : ℕ) (bytes : List ℕ) (fault : ByteFault) : Type 0 where
  missing : bytes ≡ [] → fault ≡ Truncated end → LacksData end bytes fault
  high : (b : ℕ) (rest : List ℕ) → IsByte bytes b rest → 128 ≤ b → fault ≡ Status (end - length bytes)
      → LacksData end bytes fault

-- so many bytes stand at the front
pub record AreBytes (count : ℕ) (bytes body rest : List ℕ) : Type 0 where
  pub stand : bytes ≡ body ++ rest
  pub long : length body ≡ count

-- fewer bytes are there
abbrev pub LacksBytes : ℕ → ℕ → List ℕ → ByteFault → Type 0
LacksBytes count end bytes fault = (length bytes < count) × (fault ≡ Truncated end)

-- a number of so many bytes, the greatest first
abbrev pub IsNumber : Width → List ℕ → ℕ → List ℕ → Type 0
IsNumber w bytes n rest = (body : List ℕ) × AreBytes (byte_len w) bytes body rest × (n ≡ from_be_bytes w body)

-- the parts of a row stand at the front, they say this, and the rest stands behind them
abbrev pub IsRow : {A : Type 0} → Row A → List ℕ → A → List ℕ → Type 0
IsRow (Row.says y) bytes x rest = (x ≡ y) × (rest ≡ bytes)
IsRow (Row.refused fault) bytes x rest = ⊥
IsRow (Row.byte more) bytes x rest =
    (b : ℕ) × (after : List ℕ) × IsByte bytes b after × IsRow (more b) after x rest
IsRow (Row.data_byte more) bytes x rest =
    (b : ℕ) × (after : List ℕ) × IsData bytes b after × IsRow (more b) after x rest
IsRow (Row.number w more) bytes x rest =
    (n : ℕ) × (after : List ℕ) × IsNumber w bytes n after × IsRow (more n) after x rest
IsRow (Row.quantity more) bytes x rest =
    (n : ℕ) × (after : List ℕ) × IsQuantity bytes n after × IsRow (more n) after x rest
IsRow (Row.block count more) bytes x rest =
    (body after : List ℕ) × AreBytes count bytes body after × IsRow (more body) after x rest

-- the first fault of a row: all parts before are right, and here one is missing or refused
abbrev pub IsRowFault : {A : Type 0} → Row A → ℕ → List ℕ → ByteFault → Type 0
IsRowFault (Row.says y) end bytes f = ⊥
IsRowFault (Row.refused fault) end bytes f = f ≡ fault (end - suc (length bytes))
IsRowFault (Row.byte more) end bytes f = LacksBytes 1 end bytes f
    ⊎ ((b : ℕ) × (after : List ℕ) × IsByte bytes b after × IsRowFault (more b) end after f)
IsRowFault (Row.data_byte more) end bytes f = LacksData end bytes f
    ⊎ ((b : ℕ) × (after : List ℕ) × IsData bytes b after × IsRowFault (more b) end after f)
IsRowFault (Row.number w more) end bytes f = LacksBytes (byte_len w) end bytes f
    ⊎ ((n : ℕ) × (after : List ℕ) × IsNumber w bytes n after × IsRowFault (more n) end after f)
IsRowFault (Row.quantity more) end bytes f = LacksQuantity end bytes f
    ⊎ ((n : ℕ) × (after : List ℕ) × IsQuantity bytes n after × IsRowFault (more n) end after f)
IsRowFault (Row.block count more) end bytes f = LacksBytes count end bytes f
    ⊎ ((body after : List ℕ) × AreBytes count bytes body after × IsRowFault (more body) end after f)
