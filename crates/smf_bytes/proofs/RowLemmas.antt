-- Reading a row tells what its parts say, or its first fault, and just that (`row_tells`).
use Rattle.std.proofs.Common.{◌≡◌, ◌⊎◌, inl, inr, ℕ, ◌≤◌, List, length, Result, Ok, Err, refl, ap, arith}
use Rattle.std.specs.Int.{byte_len}
use Rattle.smf_bytes.specs.declared.fault.ByteFault.{ByteFault}
use Rattle.smf_bytes.specs.Numbers.{◌>>=◌}
use Rattle.smf_bytes.specs.Rows.{IsRow, IsRowFault, Row, row_in}
use Rattle.smf_bytes.proofs.PartLemmas.{PartTold, Tells, bytes_shorter, bytes_tells, byte_tells, data_tells, digits_shorter, number_tells, quantity_tells, read_then}

-- what a row tells
abbrev pub RowTold : {A : Type 0} → Row A → ℕ → List ℕ → Result (A × List ℕ) ByteFault → Type 0
RowTold row end bytes r = PartTold (IsRow row bytes) (IsRowFault row end bytes) r

-- a part, and the row behind it
module _ {X A : Type 0} (Stands : X → List ℕ → Type 0) (Lacks : ByteFault → Type 0) (more : X → Row A) (end : ℕ)
    (r : Result (X × List ℕ) ByteFault) (part : Tells (PartTold Stands Lacks) r)
    (behind : (x : X) (after : List ℕ) → Tells (RowTold (more x) end after) (row_in (more x) end after)) where
  abbrev PartsTold : Result (A × List ℕ) ByteFault → Type 0
  PartsTold s = PartTold (λ y rest. (x : X) × (after : List ℕ) × Stands x after × IsRow (more x) after y rest)
      (λ f. Lacks f ⊎ ((x : X) × (after : List ℕ) × Stands x after × IsRowFault (more x) end after f)) s

  parts_tell : Tells PartsTold (r >>= λ x. row_in (more x.0) end x.1)
  parts_tell = record { told = at r part.told; only = only }
    where
      later : (x : X) (after : List ℕ) → Stands x after → (s : Result (A × List ℕ) ByteFault)
          → RowTold (more x) end after s → PartsTold s
      later x after stands (Ok y) t = (x, after, stands, t)
      later x after stands (Err f) t = inr (x, after, stands, t)

      at : (r : Result (X × List ℕ) ByteFault) → PartTold Stands Lacks r → PartsTold (r >>= λ x. row_in (more x.0) end x.1)
      at (Err f) told = inl told
      at (Ok x) told = later x.0 x.1 told (row_in (more x.0) end x.1) (behind x.0 x.1).told

      is : (x : X) (after : List ℕ) → Stands x after → (s : Result (A × List ℕ) ByteFault)
          → RowTold (more x) end after s → (r >>= λ x. row_in (more x.0) end x.1) ≡ s
      is x after stands s t = read_then r (Ok (x, after)) _ s (part.only (Ok (x, after)) stands) ((behind x after).only s t)

      only : (s : Result (A × List ℕ) ByteFault) → PartsTold s → (r >>= λ x. row_in (more x.0) end x.1) ≡ s
      only (Ok y) (x, after, stands, h) = is x after stands (Ok y) h
      only (Err f) (inl lacks) = read_then r (Err f) _ (Err f) (part.only (Err f) lacks) refl
      only (Err f) (inr (x, after, stands, h)) = is x after stands (Err f) h

says_only : {A : Type 0} (x : A) (end : ℕ) (bytes : List ℕ) (s : Result (A × List ℕ) ByteFault)
    → RowTold (Row.says x) end bytes s → Ok (x, bytes) ≡ s
says_only x end bytes (Ok (y, rest)) (e, same) = rw (e, same) refl
says_only x end bytes (Err f) h = absurd h

refused_only : {A : Type 0} (fault : ℕ → ByteFault) (end : ℕ) (bytes : List ℕ) (s : Result (A × List ℕ) ByteFault)
    → RowTold (Row.refused fault) end bytes s → row_in (Row.refused fault) end bytes ≡ s
unfolding row_in
refused_only fault end bytes (Ok y) h = absurd h
refused_only fault end bytes (Err f) h = rw h refl

pub row_tells : {A : Type 0} (row : Row A) (end : ℕ) (bytes : List ℕ) → Tells (RowTold row end bytes) (row_in row end bytes)
unfolding row_in
row_tells (Row.says x) end bytes = record { told = (refl, refl); only = says_only x end bytes }
row_tells (Row.refused fault) end bytes = record { told = refl; only = refused_only fault end bytes }
row_tells (Row.byte more) end bytes =
    parts_tell _ _ more end _ (byte_tells end bytes) (λ x after. row_tells (more x) end after)
row_tells (Row.data_byte more) end bytes =
    parts_tell _ _ more end _ (data_tells end bytes) (λ x after. row_tells (more x) end after)
row_tells (Row.number w more) end bytes =
    parts_tell _ _ more end _ (number_tells w end bytes) (λ x after. row_tells (more x) end after)
row_tells (Row.quantity more) end bytes =
    parts_tell _ _ more end _ (quantity_tells end bytes) (λ x after. row_tells (more x) end after)
row_tells (Row.block count more) end bytes =
    parts_tell _ _ more end _ (bytes_tells end count bytes) (λ x after. row_tells (more x) end after)

-- no more is left behind a row than before
pub row_shorter : {A : Type 0} (row : Row A) (bytes : List ℕ) (x : A) (rest : List ℕ) → IsRow row bytes x rest
    → length rest ≤ length bytes
row_shorter (Row.says y) bytes x rest (e, same) = omega (arith, ap length same)
row_shorter (Row.refused fault) bytes x rest h = absurd h
row_shorter (Row.byte more) bytes x rest (b, after, s, h) =
    omega (arith, ap length s, row_shorter (more b) after x rest h)
row_shorter (Row.data_byte more) bytes x rest (b, after, s, h) =
    omega (arith, ap length s.0, row_shorter (more b) after x rest h)
row_shorter (Row.number w more) bytes x rest (n, after, s, h) =
    omega (arith, bytes_shorter (byte_len w) bytes s.0 after s.1, row_shorter (more n) after x rest h)
row_shorter (Row.quantity more) bytes x rest (n, after, s, h) =
    omega (arith, digits_shorter 4 0 bytes n after s, row_shorter (more n) after x rest h)
row_shorter (Row.block count more) bytes x rest (body, after, s, h) =
    omega (arith, bytes_shorter count bytes body after s, row_shorter (more body) after x rest h)
