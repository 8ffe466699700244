-- What is known of a file of which more was read (`longer`), of one whose end was met (`ends`), and
-- of one that goes on (`goes_on`); so the next piece of it is one (`continues`), or shows that it
-- is too long (`past_at`).
use Rattle.std.proofs.Common.{◌≡◌, ℕ, ◌+◌, ◌-◌, ◌<◌, ◌≤◌, inl, inr, ⊎_elim, Bool, true, false, nat_lt, List, [], ◌∷◌, ◌++◌, Option, None, Some, Result, Ok, Err, IfOk, length, take, drop, refl, sym, ap, ap₂, subst, ◌∙◌, arith, append_assoc, append-nil, length-append}
use Rattle.std.proofs.Math.Seq.{take-add, take-append-add, take-append_seam}
use Rattle.std.proofs.lemmas.List.{drop-take, take_all, take-append-drop, take-append-le, take-take, length-take-le}
use Rattle.std.proofs.lemmas.Bool.{cases_lt}
use Rattle.std.proofs.lemmas.Bool.Decides.{nat_tests}
use Rattle.std.specs.Io.{StartsWith}
use Rattle.fux_port.specs.Files.{HasFile, IsMissing, MayHave, file_of}
use Rattle.cert_file.specs.Readings.{Begins, Continues, Files, IsPast, IsPlaced, MayBe, Piece}

-- bytes begin with themselves, and with what begins what begins them
all_begin : (xs : List ℕ) → StartsWith xs xs
all_begin xs = take_all (length xs) xs (omega arith)

pub begins_with : (xs ys : List ℕ) → StartsWith (xs ++ ys) xs
begins_with xs ys = take-append_seam xs ys

begins_more : (file front piece : List ℕ) → StartsWith file front → StartsWith (drop (length front) file) piece
    → StartsWith file (front ++ piece)
begins_more file front piece p q = rw (length-append, take-add) (ap₂ (λ a b. a ++ b) p q)

module _ (files : Files) (name : List ℕ) where
  -- a file of which more was read
  pub longer : (xs piece : List ℕ) → MayBe files name (Begins xs)
      → ((file : List ℕ) → HasFile files name file → StartsWith (drop (length xs) file) piece)
      → MayBe files name (Begins (xs ++ piece))
  longer xs piece known placed = at known.had
    where
      at : MayHave files name known.bytes → MayBe files name (Begins (xs ++ piece))
      at (inl untold) = record { bytes = xs ++ piece; had = inl untold; such = all_begin (xs ++ piece) }
      at (inr has) = record {
        bytes = known.bytes;
        had = inr has;
        such = begins_more known.bytes xs piece known.such (placed known.bytes has);
      }

  -- a file whose end was met
  pub ends : (xs : List ℕ) → MayBe files name (Begins xs)
      → ((file : List ℕ) → HasFile files name file → length file ≤ length xs)
      → MayHave files name xs
  ends xs known short = at known.had
    where
      at : MayHave files name known.bytes → MayHave files name xs
      at (inl untold) = inl untold
      at (inr has) =
          let whole : known.bytes ≡ xs = sym (take_all (length xs) known.bytes (short known.bytes has)) ∙ known.such in
          inr (subst (λ bytes. HasFile files name bytes) whole has)

  -- a file that has more bytes
  pub goes_on : (xs : List ℕ) → MayBe files name (Begins xs)
      → ((file : List ℕ) → HasFile files name file → length xs < length file)
      → MayBe files name (λ bytes. Begins xs bytes × (length xs < length bytes))
  goes_on xs known long = at known.had
    where
      at : MayHave files name known.bytes → MayBe files name (λ bytes. Begins xs bytes × (length xs < length bytes))
      at (inl untold) = record {
        bytes = xs ++ 0 ∷ [];
        had = inl untold;
        such = (begins_with xs (0 ∷ []), omega (arith, length-append xs (0 ∷ [])));
      }
      at (inr has) = record { bytes = known.bytes; had = inr has; such = (known.such, long known.bytes has) }

  -- a file that is there isn't missing
  pub not_missing : (Such : List ℕ → Type 0) → MayBe files name Such → IsMissing files name → ⊥
  not_missing Such known absent = at known.had
    where
      at : MayHave files name known.bytes → ⊥
      at (inl untold) = cc
      at (inr has) = cc

-- the next piece of a file, where nothing is left of the last one
module _ (files : Files) (name used : List ℕ) (before : Piece) (at : IsPlaced files name used before)
    (used_up : before.ahead ≡ []) where
  known : MayBe files name (Begins used)
  known = subst (λ xs. MayBe files name (Begins xs)) (ap (λ xs. used ++ xs) used_up ∙ append-nil used) at.begins

  far : before.offset ≡ length used
  far = omega (arith, at.offset, ap length used_up)

  -- a byte behind the last that a certificate may have
  pub past_at : 1073741824 - before.offset ≡ 0 → before.offset ≤ 1073741824
      → ((file : List ℕ) → HasFile files name file → before.offset < length file)
      → IsPast files name used
  past_at full within more = record {
    full = omega (arith, far, full, within);
    more = goes_on files name used known (λ file has. omega (arith, far, more file has));
  }

  pub continues : (buf ahead : List ℕ) (count : ℕ) (more : Bool) (rose : Type 0) → more ≡ nat_lt 0 count
      → ahead ≡ take count buf → count ≤ length buf
      → ((file : List ℕ) → HasFile files name file → StartsWith (drop before.offset file) (take count buf))
      → (count ≡ 0 → (file : List ℕ) → HasFile files name file → length file ≤ before.offset)
      → Continues files name rose used (record { ahead = ahead; offset = before.offset + count }) (Ok more)
  continues buf ahead count more rose is same fits placed end = by more is
    where
      stands : IsPlaced files name used (record { ahead = ahead; offset = before.offset + count })
      stands = record {
        begins = longer files name used ahead known
            (λ file has. subst (λ xs. StartsWith (drop (length used) file) xs) (sym same)
            (subst (λ k. StartsWith (drop k file) (take count buf)) far (placed file has)));
        offset = omega (arith, far, ap length same ∙ length-take-le count buf fits);
      }

      none : false ≡ nat_lt 0 count → count ≡ 0
      none e = grind (arith, nat_tests)

      by : (b : Bool) → b ≡ nat_lt 0 count
          → Continues files name rose used (record { ahead = ahead; offset = before.offset + count }) (Ok b)
      by true e = stands
      by false e = (stands, ends files name used known (λ file has. omega (arith, far, end (none e) file has)))

-- what stands behind a front
pub behind : (front line bytes : List ℕ) → StartsWith bytes (front ++ line)
    → (more : List ℕ) × (bytes ≡ front ++ (line ++ more))
behind front line bytes begins = (
  drop (length (front ++ line)) bytes,
  sym (take-append-drop (length (front ++ line)) bytes) ∙ ap (λ xs. xs ++ drop (length (front ++ line)) bytes) begins
      ∙ append_assoc front line (drop (length (front ++ line)) bytes),
)

-- a buffer that was filled further
pub filled : (file buf piece post : List ℕ) (done count : ℕ) → done ≤ length buf → count ≤ length piece
    → StartsWith file (take done buf) → StartsWith (drop done file) (take count piece)
    → StartsWith file (take (done + count) (take done buf ++ (piece ++ post)))
filled file buf piece post done count within fits p q =
    let size = length-take-le done buf within in
    let front : take (done + count) (take done buf ++ (piece ++ post)) ≡ take done buf ++ take count piece =
    ap (λ n. take (n + count) (take done buf ++ (piece ++ post))) (sym size)
    ∙ take-append-add (take done buf) (piece ++ post) count
    ∙ ap (λ xs. take done buf ++ xs) (take-append-le count piece post fits) in
    subst (λ xs. StartsWith file xs) (sym front)
    (begins_more file (take done buf) (take count piece) p
    (subst (λ n. StartsWith (drop n file) (take count piece)) (sym size) q))

-- the first bytes of a file that is there
pub first_known : (files : Files) (name bytes : List ℕ) (most : ℕ) → length bytes ≤ most → (IsMissing files name → ⊥)
    → ((file : List ℕ) → HasFile files name file → bytes ≡ take most file)
    → MayBe files name (λ all. bytes ≡ take most all)
first_known files name bytes most short here same = by (file_of files name) refl
  where
    by : (told : Option (Option (List ℕ))) → file_of files name ≡ told → MayBe files name (λ all. bytes ≡ take most all)
    by None is = record { bytes = bytes; had = inl is; such = sym (take_all most bytes short) }
    by (Some None) is = absurd (here is)
    by (Some (Some file)) is = record { bytes = file; had = inr is; such = same file is }

-- the first bytes of a list begin it
first_begin : (xs : List ℕ) (n : ℕ) → StartsWith xs (take n xs)
first_begin xs n = ⊎_elim
    (λ less. ap (λ k. take k xs) (length-take-le n xs (omega (arith, less))))
    (λ more.
    let whole : take n xs ≡ xs = take_all n xs more in
    ap (λ ys. take (length ys) xs) whole ∙ take_all (length xs) xs (omega arith) ∙ sym whole)
    (cases_lt n (length xs))

pub first_begins : (files : Files) (name bytes : List ℕ) (most : ℕ) → MayBe files name (λ all. bytes ≡ take most all)
    → MayBe files name (Begins bytes)
first_begins files name bytes most known = record {
  bytes = known.bytes;
  had = known.had;
  such = subst (λ xs. StartsWith known.bytes xs) (sym known.such) (first_begin known.bytes most);
}

-- the front of a buffer that was written back
pub front_written : (buf rest : List ℕ) (len count : ℕ) → count ≤ length buf → count ≤ len
    → take count (take len (buf ++ rest)) ≡ take count buf
front_written buf rest len count fits room = take-take count len (buf ++ rest) room ∙ take-append-le count buf rest fits

-- what is left of the front of a buffer
pub front_left : (whole front : List ℕ) (count used : ℕ) → used ≤ count → take count whole ≡ front
    → take (count - used) (drop used whole) ≡ drop used front
front_left whole front count used within is =
    let size : used + (count - used) ≡ count = omega (arith, within) in
    sym (drop-take used (count - used) whole) ∙ ap (λ n. drop used (take n whole)) size ∙ ap (λ xs. drop used xs) is

-- what holds of a value that is there, and what follows
pub if_ok : {X Y : Type 0} (result : Result X Y) (Known Told : X → Type 0) → IfOk result Known
    → ((x : X) → Known x → Told x)
    → IfOk result Told
if_ok (Ok x) Known Told known tells = tells x known
if_ok (Err y) Known Told known tells = tt
