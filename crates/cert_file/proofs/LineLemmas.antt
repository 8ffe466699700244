-- What a piece makes of the line behind a front: it is wrong (`wrong_line`), it isn't ended
-- (`unended_line`), or the file is too long (`beyond_line`).
use Rattle.std.proofs.Common.{◌≡◌, ℕ, ◌+◌, ◌<◌, inl, inr, Bool, true, false, ◌==◌, ◌≤◌, List, [], ◌∷◌, ◌++◌, length, take, drop, refl, sym, ap, subst, ◌∙◌, arith, append_assoc, length-append}
use Rattle.std.proofs.Math.Seq.{drop-append_seam}
use Rattle.std.proofs.lemmas.List.{take-take}
use Rattle.std.specs.Io.{StartsWith}
use Rattle.std.specs.Prelude.{if◌then◌else◌}
use Rattle.cert_text.specs.declared.answers.CertFault.TheVariants.{CertWord, CertEnd}
use Rattle.cert_text.specs.Lines.{HasNoFeed, line_part}
use Rattle.cert_text.specs.Potentials.{IsOwedLine}
use Rattle.cert_text.proofs.PartLemmas.{begins_front, line_part-goes}
use Rattle.cert_file.specs.Nearness.{EndsNear}
use Rattle.cert_file.specs.Readings.{Begins, BeginsLine, FaultAtLine, Files, IsWanting, MayBe, Owed, AClaim, Stated, judged_bytes, longest_certificate, longest_piece}
use Rattle.fux_port.specs.Files.{MayHave}
use Rattle.cert_file.proofs.FileLemmas.{behind}

-- the first line of bytes behind some without a line feed
line_part-behind : (line bytes : List ℕ) → HasNoFeed line → line_part (line ++ bytes) ≡ line ++ line_part bytes
line_part-behind [] bytes none = refl
line_part-behind (byte ∷ line) bytes none =
    line_part-goes byte (line ++ bytes) none.0 ∙ ap (λ more. byte ∷ more) (line_part-behind line bytes none.1)

-- and all of them, where there is none
pub line_part-unended : (line : List ℕ) → HasNoFeed line → line_part line ≡ line
line_part-unended [] none = refl
line_part-unended (byte ∷ line) none =
    line_part-goes byte line none.0 ∙ ap (λ more. byte ∷ more) (line_part-unended line none.1)

-- the first line of bytes is a front of that of more bytes
line_part-front : (xs ys : List ℕ) → (zs : List ℕ) × (line_part (xs ++ ys) ≡ line_part xs ++ zs)
line_part-front [] ys = (line_part ys, refl)
line_part-front (x ∷ xs) ys = at (x == 10) (line_part-front xs ys)
  where
    at : (b : Bool) → (zs : List ℕ) × (line_part (xs ++ ys) ≡ line_part xs ++ zs)
        → (zs : List ℕ) × ((if b then x ∷ [] else x ∷ line_part (xs ++ ys)) ≡ (if b then x ∷ [] else x ∷ line_part xs)
        ++ zs)
    at true more = ([], refl)
    at false more = (more.0, ap (λ zs. x ∷ zs) more.1)

-- bytes that are the front of a file, and no more than are judged, are the front of those that are
pub begins_judged : (bytes xs : List ℕ) → length xs ≤ longest_certificate → StartsWith bytes xs
    → StartsWith (judged_bytes bytes) xs
begins_judged bytes xs short begins = take-take (length xs) longest_certificate bytes short ∙ begins

-- what begins no line that is owed begins none with more bytes
begins_line : (owed : Owed) (bytes more : List ℕ) → BeginsLine owed (bytes ++ more) → BeginsLine owed bytes
begins_line AClaim bytes more b = begins_front bytes more b
begins_line (Stated is_potential) bytes more b = record {
  rest = more ++ b.rest;
  whole = subst (IsOwedLine is_potential) (append_assoc bytes more b.rest) b.whole;
}

-- a reader behind a front, of whose line these bytes were begun, has read no more than a piece
-- beyond that line
pub near_line : (files : Files) (name front begun ahead : List ℕ) (offset : ℕ) → HasNoFeed begun
    → MayBe files name (Begins (front ++ (begun ++ ahead)))
    → offset ≡ length front + (length begun + length ahead) → length ahead ≤ longest_piece
    → EndsNear files name (length front) offset
near_line files name front begun ahead offset unended known far short =
    let rest = behind front (begun ++ ahead) known.bytes known.such in
    let part : line_part (drop (length front) known.bytes) ≡ begun ++ line_part (ahead ++ rest.0) =
    ap (λ xs. line_part (drop (length front) xs)) rest.1
    ∙ ap line_part (drop-append_seam front ((begun ++ ahead) ++ rest.0) ∙ append_assoc begun ahead rest.0)
    ∙ line_part-behind begun (ahead ++ rest.0) unended in
    record {
      bytes = known.bytes;
      had = known.had;
      such = omega (arith, far, short, ap length part, length-append begun (line_part (ahead ++ rest.0)));
    }

module _ (owed : Owed) (files : Files) (name front begun : List ℕ) (unended : HasNoFeed begun) where
  -- a line that was begun and goes on so begins none that is owed
  pub wrong_line : (ahead : List ℕ) (at : ℕ) → at ≡ length front
      → length (front ++ (begun ++ ahead)) ≤ longest_certificate
      → MayBe files name (Begins (front ++ (begun ++ ahead)))
      → (BeginsLine owed (begun ++ line_part ahead) → ⊥) → MayBe files name (FaultAtLine owed front (CertWord at))
  wrong_line ahead at here short known wrong =
      let rest = behind front (begun ++ ahead) (judged_bytes known.bytes)
      (begins_judged known.bytes (front ++ (begun ++ ahead)) short known.such) in
      record {
        bytes = known.bytes;
        had = known.had;
        such = (
          here,
          record {
            rest = (begun ++ ahead) ++ rest.0;
            is = rest.1;
            wrong = λ begins.
                let part = line_part-front ahead rest.0 in
                let line : line_part ((begun ++ ahead) ++ rest.0) ≡ (begun ++ line_part ahead) ++ part.0 =
                ap line_part (append_assoc begun ahead rest.0) ∙ line_part-behind begun (ahead ++ rest.0) unended
                ∙ ap (λ xs. begun ++ xs) part.1 ∙ sym (append_assoc begun (line_part ahead) part.0) in
                wrong (begins_line owed (begun ++ line_part ahead) part.0 (subst (BeginsLine owed) line begins));
          },
        );
      }

  -- the file ends within a line
  pub unended_line : (at : ℕ) → at ≡ length front → IsWanting owed begun → BeginsLine owed begun
      → length (front ++ begun) ≤ longest_certificate → MayHave files name (front ++ begun)
      → MayBe files name (FaultAtLine owed front (CertEnd at))
  unended_line at here some begins short had = record {
    bytes = front ++ begun;
    had = had;
    such = inl (
      here,
      record {
        short = short;
        rest = begun;
        is = refl;
        some = some;
        begun = record { begins = begins; unended = unended };
      },
    );
  }

  -- the file goes beyond what a certificate may have
  pub beyond_line : BeginsLine owed begun → length (front ++ begun) ≡ longest_certificate
      → MayBe files name (λ bytes. Begins (front ++ begun) bytes × (length (front ++ begun) < length bytes))
      → MayBe files name (FaultAtLine owed front (CertEnd longest_certificate))
  beyond_line begins full known = record {
    bytes = known.bytes;
    had = known.had;
    such = inr (
      refl,
      record {
        long = omega (arith, known.such.1, full);
        rest = begun;
        is = ap (λ n. take n known.bytes) (sym full) ∙ known.such.0;
        begun = record { begins = begins; unended = unended };
      },
    );
  }
