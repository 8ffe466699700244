-- What is known of how much is read: it moves to the files and the count of before (`near_moved`,
-- `read_moved`).
use Rattle.std.proofs.Common.{◌≡◌, ℕ, ◌+◌, ◌≤◌, inl, inr, List, Result, Ok, Err, subst}
use Rattle.std.specs.Prelude.{IfOk, OnErr}
use Rattle.cert_file.specs.Nearness.{IsReadNear, IsReadTo, ReadsNear}
use Rattle.cert_file.specs.Readings.{Files, MayBe, longest_piece}
use Rattle.cert_file.specs.Subjects.{Subject}
use Rattle.cert_file.specs.declared.verdict.Verdict.{Verdict}

-- what holds whatever the result is, holds where it is an error
pub on_err : {T E A : Type 0} (result : Result T E) → A → OnErr result A
on_err (Ok it) all = tt
on_err (Err fault) all = all

-- what holds of every verdict
pub each_verdict : {E : Type 0} (Such : Verdict → Type 0) (result : Result Verdict E) → ((it : Verdict) → Such it)
    → IfOk result Such
each_verdict Such (Ok it) all = all it
each_verdict Such (Err fault) all = tt

module _ {H X : Type 0} (subject : Subject H X) (head : H) (files : Files) (name : List ℕ) where
  -- the files are those of before, and what was given since then is counted, too
  pub near_moved : (earlier : Files) (before mid given past : ℕ) (it : Verdict) → files ≡ earlier
      → ((read : ℕ) → given ≤ mid + read → past ≤ before + read)
      → ReadsNear subject head files name mid given it → IsReadNear subject earlier name before past it
  near_moved earlier before mid given past it same since near = inr (
    head,
    record {
      read = near.read;
      few = since near.read near.few;
      near = subst (λ fs. MayBe fs name (IsReadTo subject head near.read it)) same near.near;
    },
  )

-- the same of a file, whatever its head is
pub read_moved : {H X : Type 0} (subject : Subject H X) (files : Files) (name : List ℕ) (earlier : Files)
    (before mid given past : ℕ) (it : Verdict) → files ≡ earlier → ((read : ℕ) → given ≤ mid + read → past ≤ before + read)
    → IsReadNear subject files name mid given it → IsReadNear subject earlier name before past it
read_moved subject files name earlier before mid given past it same since (inl few) = inl (since longest_piece few)
read_moved subject files name earlier before mid given past it same since (inr near) =
    near_moved subject near.0 files name earlier before mid given past it same since near.1
