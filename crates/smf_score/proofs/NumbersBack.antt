-- The numbers, chunks and the header of a written file stand where the grammar wants them
-- (`quantity_stands`, `track_stands`, `header_stands`).
use Rattle.std.proofs.Common.{◌≡◌, ℕ, ◌+◌, ◌*◌, ◌/◌, ◌%◌, ◌<◌, ◌≤◌, ◌^◌, ◌⊎◌, inl, inr, List, [], ◌∷◌, ◌++◌, length, refl, sym, ◌∙◌, ap, arith, append_assoc, subst}
use Rattle.std.specs.Int.{w16, w32, to_be_bytes}
use Rattle.std.proofs.lemmas.Bool.{le-ltb, lt-ltb, cases_lt}
use Rattle.std.proofs.lemmas.Bool.Decides.{nat_tests}
use Rattle.std.proofs.lemmas.Nat.{from_be_bytes-to_be_bytes_2, from_be_bytes-to_be_bytes_4}
use Rattle.smf_bytes.specs.Rows.{AreBytes, IsNumber, IsQuantity, IsRow, marked, value_of}
use Rattle.smf_bytes.specs.Chunks.{chunk_row}
use Rattle.smf_bytes.specs.Files.{IsHeader, IsTrack}
use Rattle.smf_score.specs.declared.written.TheConstants.{HEADER, TRACK}
use Rattle.smf_score.specs.Written.{chunk_bytes, header_bytes, quantity}

-- a quantity that is written is one
pub quantity_stands : (n : ℕ) (more : List ℕ) → n < 2 ^ 21 → IsQuantity (quantity n ++ more) n more
quantity_stands n more few = at (cases_lt n 128) (cases_lt n 16384)
  where
    of : (digits : List ℕ) → quantity n ≡ marked digits ++ n % 128 ∷ [] → length digits < 4
        → n ≡ 128 * value_of 0 digits + n % 128 → IsQuantity (quantity n ++ more) n more
    of digits e short value = record {
      digits = digits;
      last = n % 128;
      few = short;
      low = omega arith;
      stands = ap (λ (bytes : List ℕ). bytes ++ more) e ∙ append_assoc (marked digits) (n % 128 ∷ []) more;
      value = value;
    }

    at : (n < 128) ⊎ (128 ≤ n) → (n < 16384) ⊎ (16384 ≤ n) → IsQuantity (quantity n ++ more) n more
    at (inl small) other = of [] (rw (lt-ltb n 128 small) refl) (omega arith) (omega arith)
    at (inr large) (inl small) =
        of (n / 128 ∷ []) (rw (le-ltb n 128 large, lt-ltb n 16384 small) refl) (omega arith) (omega arith)
    at (inr large) (inr larger) =
        of (n / 16384 ∷ n / 128 % 128 ∷ []) (rw (le-ltb n 128 large, le-ltb n 16384 larger) refl) (omega arith)
        (omega arith)

pub quantity_short : (n : ℕ) → length (quantity n) ≤ 3
quantity_short n = grind (arith, nat_tests)

-- bytes that stand in front of others
body_stands : (body more : List ℕ) → AreBytes (length body) (body ++ more) body more
body_stands body more = record { stand = refl; long = refl }

number_2 : (n : ℕ) (more : List ℕ) → n < 2 ^ 16 → IsNumber w16 (to_be_bytes w16 n ++ more) n more
number_2 n more few =
    (to_be_bytes w16 n, record { stand = refl; long = refl }, sym (from_be_bytes-to_be_bytes_2 n few))

number_4 : (n : ℕ) (more : List ℕ) → n < 2 ^ 32 → IsNumber w32 (to_be_bytes w32 n ++ more) n more
number_4 n more few =
    (to_be_bytes w32 n, record { stand = refl; long = refl }, sym (from_be_bytes-to_be_bytes_4 n few))

-- the parts of a chunk one by one
chunk_parts : (kind : ℕ) (body more : List ℕ)
    → chunk_bytes kind body ++ more ≡ to_be_bytes w32 kind ++ (to_be_bytes w32 (length body) ++ (body ++ more))
chunk_parts kind body more =
    append_assoc (to_be_bytes w32 kind ++ to_be_bytes w32 (length body)) body more
    ∙ append_assoc (to_be_bytes w32 kind) (to_be_bytes w32 (length body)) (body ++ more)

-- the chunk of a track is one
pub track_stands : (body more : List ℕ) → length body < 2 ^ 32 → IsTrack (chunk_bytes TRACK body ++ more) body more
track_stands body more short = record {
  chunks = [];
  behind = chunk_bytes TRACK body ++ more;
  passed = refl;
  stands = subst (λ (bytes : List ℕ). IsRow chunk_row bytes (record { kind = TRACK; bytes = body }) more)
      (sym (chunk_parts TRACK body more)) (
        TRACK,
        _,
        number_4 TRACK _ (omega arith),
        (
          length body,
          _,
          number_4 (length body) (body ++ more) short,
          (body, more, body_stands body more, (refl, refl)),
        ),
      );
}

-- the header is one
pub header_stands : (tracks : ℕ) (more : List ℕ) → tracks < 2 ^ 16
    → IsHeader (header_bytes tracks ++ more) (record { format = 1; tracks = tracks; division = 480 }) more
header_stands tracks more few =
    let numbers : List ℕ = to_be_bytes w16 1 ++ (to_be_bytes w16 tracks ++ (to_be_bytes w16 480 ++ [])) in
    record {
      body = numbers;
      more = [];
      chunk = (
        HEADER,
        _,
        number_4 HEADER (to_be_bytes w32 6 ++ (numbers ++ more)) (omega arith),
        (6, _, number_4 6 (numbers ++ more) (omega arith), (numbers, more, body_stands numbers more, (refl, refl))),
      );
      fields = (
        1,
        _,
        number_2 1 (to_be_bytes w16 tracks ++ (to_be_bytes w16 480 ++ [])) (omega arith),
        (tracks, _, number_2 tracks (to_be_bytes w16 480 ++ []) few, (480, [], number_2 480 [] (omega arith), (refl, refl))),
      );
    }
