-- What a part of a row reads is what stands there, or what is missing (`PartTold`), and just that
-- (`Tells`).
use Rattle.std.proofs.Common.{◌≡◌, ℕ, zero, suc, ◌+◌, ◌-◌, ◌*◌, ◌<◌, ◌≤◌, Bool, true, false, List, [], ◌∷◌, ◌++◌, length, take, drop, Result, Ok, Err, refl, sym, ◌∙◌, ap, arith, cond, ltb}
use Rattle.std.specs.Int.{Width, byte_len, from_be_bytes}
use Rattle.std.proofs.lemmas.Bool.{le-ltb, lt-ltb, ltb-true, ltb-false}
use Rattle.std.proofs.lemmas.List.{append-nil, length-append, length-take-le, take-append-drop}
use Rattle.std.proofs.Math.Seq.{take-append_seam, drop-append_seam}
use Rattle.smf_bytes.specs.declared.fault.ByteFault.{ByteFault}
use Rattle.smf_bytes.specs.declared.fault.ByteFault.TheVariants.{Truncated, Status}
use Rattle.smf_bytes.specs.Numbers.{◌>>=◌, byte_in, bytes_in, data_in, digits_in, number_in, quantity_in}
use Rattle.smf_bytes.specs.Rows.{AreBytes, AreDigits, IsByte, IsData, IsNumber, IsQuantity, LacksBytes, LacksData, LacksDigits, LacksQuantity, marked, value_of}

-- what a part tells: what it says, and what stands behind it, or its fault
abbrev pub PartTold : {X : Type 0} → (X → List ℕ → Type 0) → (ByteFault → Type 0) → Result (X × List ℕ) ByteFault → Type 0
PartTold Stands Lacks (Ok x) = Stands x.0 x.1
PartTold Stands Lacks (Err f) = Lacks f

-- what a step tells, and that it tells nothing else
pub record Tells {X : Type 0} (Told : Result X ByteFault → Type 0) (r : Result X ByteFault) : Type 0 where
  pub told : Told r
  pub only : (s : Result X ByteFault) → Told s → r ≡ s

-- a step that is this, and what follows it
pub read_then : {A B : Type 0} (r s : Result A ByteFault) (f : A → Result B ByteFault) (y : Result B ByteFault)
    → r ≡ s → (s >>= f) ≡ y → (r >>= f) ≡ y
read_then r s f y e h = ap (λ (s : Result _ ByteFault). s >>= f) e ∙ h

-- ---- a byte

pub byte_tells : (end : ℕ) (bytes : List ℕ)
    → Tells (PartTold (IsByte bytes) (LacksBytes 1 end bytes)) (byte_in end bytes)
byte_tells end bytes = record { told = told bytes; only = only bytes }
  where
    told : (bytes : List ℕ) → PartTold (IsByte bytes) (LacksBytes 1 end bytes) (byte_in end bytes)
    told [] = (omega arith, refl)
    told (b ∷ bytes) = refl

    only : (bytes : List ℕ) (s : Result (ℕ × List ℕ) ByteFault) → PartTold (IsByte bytes) (LacksBytes 1 end bytes) s
        → byte_in end bytes ≡ s
    only bytes (Ok (b, rest)) e = rw e refl
    only [] (Err f) h = rw h.1 refl
    only (b ∷ bytes) (Err f) h = absurd (omega (arith, h.0))

pub data_tells : (end : ℕ) (bytes : List ℕ)
    → Tells (PartTold (IsData bytes) (LacksData end bytes)) (data_in end bytes)
data_tells end bytes = record { told = told bytes; only = only }
  where
    at : (b : ℕ) (bytes : List ℕ) (t : Bool) → ltb b 128 ≡ t
        → PartTold (IsData (b ∷ bytes)) (LacksData end (b ∷ bytes))
        (cond t (Ok (b, bytes)) (Err (Status (end - length (b ∷ bytes)))))
    at b bytes true e = (refl, ltb-true b 128 e)
    at b bytes false e = LacksData.high b bytes refl (ltb-false b 128 e) refl

    told : (bytes : List ℕ) → PartTold (IsData bytes) (LacksData end bytes) (data_in end bytes)
    told [] = LacksData.missing refl refl
    told (b ∷ bytes) = at b bytes (ltb b 128) refl

    only : (s : Result (ℕ × List ℕ) ByteFault) → PartTold (IsData bytes) (LacksData end bytes) s → data_in end bytes ≡ s
    only (Ok (b, rest)) h = rw (h.0, lt-ltb b 128 h.1) refl
    only (Err f) (LacksData.missing e fault) = rw (e, fault) refl
    only (Err f) (LacksData.high b rest e high fault) = rw fault (rw (e, le-ltb b 128 high) refl)

-- ---- so many bytes

pub bytes_tells : (end count : ℕ) (bytes : List ℕ)
    → Tells (PartTold (AreBytes count bytes) (LacksBytes count end bytes)) (bytes_in end count bytes)
bytes_tells end count bytes = record { told = at (ltb (length bytes) count) refl; only = only }
  where
    at : (t : Bool) → ltb (length bytes) count ≡ t
        → PartTold (AreBytes count bytes) (LacksBytes count end bytes)
        (cond t (Err (Truncated end)) (Ok (take count bytes, drop count bytes)))
    at true e = (ltb-true (length bytes) count e, refl)
    at false e = record {
      stand = sym (take-append-drop count bytes);
      long = length-take-le count bytes (ltb-false (length bytes) count e);
    }

    only : (s : Result (List ℕ × List ℕ) ByteFault) → PartTold (AreBytes count bytes) (LacksBytes count end bytes) s
        → bytes_in end count bytes ≡ s
    only (Ok (body, rest)) h =
        let whole = length-append body rest in
        rw (h.stand, ← h.long)
        (rw (le-ltb (length (body ++ rest)) (length body) (omega arith), take-append_seam body rest, drop-append_seam body rest)
        refl)
    only (Err f) h = rw (lt-ltb (length bytes) count h.0, h.1) refl

pub bytes_shorter : (count : ℕ) (bytes body rest : List ℕ) → AreBytes count bytes body rest
    → length rest + count ≡ length bytes
bytes_shorter count bytes body rest h = omega (arith, h.long, ap length h.stand, length-append body rest)

pub number_tells : (w : Width) (end : ℕ) (bytes : List ℕ)
    → Tells (PartTold (IsNumber w bytes) (LacksBytes (byte_len w) end bytes)) (number_in w end bytes)
number_tells w end bytes = record { told = at body body_tells.told; only = only }
  where
    body : Result (List ℕ × List ℕ) ByteFault
    body = bytes_in end (byte_len w) bytes

    body_tells : Tells (PartTold (AreBytes (byte_len w) bytes) (LacksBytes (byte_len w) end bytes)) body
    body_tells = bytes_tells end (byte_len w) bytes

    number : List ℕ × List ℕ → Result (ℕ × List ℕ) ByteFault
    number x = Ok (from_be_bytes w x.0, x.1)

    at : (r : Result (List ℕ × List ℕ) ByteFault)
        → PartTold (AreBytes (byte_len w) bytes) (LacksBytes (byte_len w) end bytes) r
        → PartTold (IsNumber w bytes) (LacksBytes (byte_len w) end bytes) (r >>= λ x. Ok (from_be_bytes w x.0, x.1))
    at (Ok x) told = (x.0, told, refl)
    at (Err f) told = told

    only : (s : Result (ℕ × List ℕ) ByteFault) → PartTold (IsNumber w bytes) (LacksBytes (byte_len w) end bytes) s
        → (bytes_in end (byte_len w) bytes >>= λ x. Ok (from_be_bytes w x.0, x.1)) ≡ s
    only (Ok (n, rest)) h = read_then body (Ok (h.0, rest)) number _ (body_tells.only (Ok (h.0, rest)) h.1) (rw h.2 refl)
    only (Err f) h = read_then body (Err f) number _ (body_tells.only (Err f) h) refl

-- ---- a quantity

digits_told : (most begin high end : ℕ) (bytes : List ℕ)
    → PartTold (AreDigits most high bytes) (LacksDigits most begin end bytes) (digits_in most begin high end bytes)
unfolding digits_in
digits_told zero begin high end bytes = LacksDigits.long [] bytes refl refl refl
digits_told (suc most) begin high end [] = LacksDigits.short [] (omega arith) refl refl
digits_told (suc most) begin high end (b ∷ bytes) =
    at (ltb b 128) refl (digits_in most begin (128 * high + (b - 128)) end bytes)
    (digits_told most begin (128 * high + (b - 128)) end bytes)
  where
    first : 128 ≤ b → 128 + (b - 128) ≡ b
    first more = omega arith

    -- a digit in front of others
    behind : 128 ≤ b → (r : Result (ℕ × List ℕ) ByteFault)
        → PartTold (AreDigits most (128 * high + (b - 128)) bytes) (LacksDigits most begin end bytes) r
        → PartTold (AreDigits (suc most) high (b ∷ bytes)) (LacksDigits (suc most) begin end (b ∷ bytes)) r
    behind more (Ok x) d = record {
      digits = (b - 128) ∷ d.digits;
      last = d.last;
      few = omega (arith, d.few);
      low = d.low;
      stands = rw (first more, ← d.stands) refl;
      value = d.value;
    }
    behind more (Err f) (LacksDigits.short digits few e fault) =
        LacksDigits.short ((b - 128) ∷ digits) (omega arith) (rw (first more, ← e) refl) fault
    behind more (Err f) (LacksDigits.long digits rest few e fault) =
        LacksDigits.long ((b - 128) ∷ digits) rest (omega arith) (rw (first more, ← e) refl) fault

    at : (t : Bool) → ltb b 128 ≡ t → (r : Result (ℕ × List ℕ) ByteFault)
        → PartTold (AreDigits most (128 * high + (b - 128)) bytes) (LacksDigits most begin end bytes) r
        → PartTold (AreDigits (suc most) high (b ∷ bytes)) (LacksDigits (suc most) begin end (b ∷ bytes))
        (cond t (Ok (128 * high + b, bytes)) r)
    at true e r told = record {
      digits = [];
      last = b;
      few = omega arith;
      low = ltb-true b 128 e;
      stands = refl;
      value = refl;
    }
    at false e r told = behind (ltb-false b 128 e) r told

-- digits in front of others
digits_behind : (digits : List ℕ) (most begin high end : ℕ) (bytes : List ℕ)
    → digits_in (length digits + most) begin high end (marked digits ++ bytes)
    ≡ digits_in most begin (value_of high digits) end bytes
unfolding digits_in
digits_behind [] most begin high end bytes =
    let none : 0 + most ≡ most = omega arith in
    ap (λ (k : ℕ). digits_in k begin high end bytes) none
digits_behind (d ∷ digits) most begin high end bytes =
    let next : suc (length digits) + most ≡ suc (length digits + most) = omega arith in
    let digit : 128 + d - 128 ≡ d = omega arith in
    let more : ltb (128 + d) 128 ≡ false = le-ltb (128 + d) 128 (omega arith) in
    rw (next, more, digit) (digits_behind digits most begin (128 * high + d) end bytes)

digits_only : (most begin high end : ℕ) (bytes : List ℕ) (s : Result (ℕ × List ℕ) ByteFault)
    → PartTold (AreDigits most high bytes) (LacksDigits most begin end bytes) s → digits_in most begin high end bytes ≡ s
unfolding digits_in
digits_only most begin high end bytes (Ok (n, rest)) h =
    let parts : most ≡ length h.digits + suc (most - suc (length h.digits)) = omega (arith, h.few) in
    rw (parts, h.stands)
    (digits_behind h.digits (suc (most - suc (length h.digits))) begin high end (h.last ∷ rest)
    ∙ rw (lt-ltb h.last 128 h.low, h.value) refl)
digits_only most begin high end bytes (Err f) (LacksDigits.short digits few e fault) =
    let parts : most ≡ length digits + suc (most - suc (length digits)) = omega arith in
    rw (parts, e, fault)
    (ap (digits_in (length digits + suc (most - suc (length digits))) begin high end) (sym (append-nil (marked digits)))
    ∙ digits_behind digits (suc (most - suc (length digits))) begin high end [])
digits_only most begin high end bytes (Err f) (LacksDigits.long digits rest few e fault) =
    let parts : most ≡ length digits + 0 = omega (arith, few) in
    rw (parts, e, fault) (digits_behind digits 0 begin high end rest)

pub quantity_tells : (end : ℕ) (bytes : List ℕ)
    → Tells (PartTold (IsQuantity bytes) (LacksQuantity end bytes)) (quantity_in end bytes)
quantity_tells end bytes = record {
  told = digits_told 4 (end - length bytes) 0 end bytes;
  only = digits_only 4 (end - length bytes) 0 end bytes;
}

pub digits_shorter : (most high : ℕ) (bytes : List ℕ) (n : ℕ) (rest : List ℕ) → AreDigits most high bytes n rest
    → length rest < length bytes
digits_shorter most high bytes n rest h =
    omega (arith, ap length h.stands, length-append (marked h.digits) (h.last ∷ rest))
