-- What isn't too long is no longer than a certificate may be (`within`).
use Rattle.std.proofs.Common.{ℕ, ◌<◌, ◌≤◌, List, length, inl, inr}
use Rattle.std.proofs.lemmas.Bool.Decides.{leb_tells}
use Rattle.cert_writer.specs.Certificates.{most_bytes}

pub within : (bytes : List ℕ) → (most_bytes < length bytes → ⊥) → length bytes ≤ most_bytes
within bytes short =
    elim (leb_tells (length bytes) most_bytes) [ inl few ↦ few.1 | inr many ↦ absurd (short many.1) ]
