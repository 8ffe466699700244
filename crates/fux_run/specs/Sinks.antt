-- What a sink got.
use Rattle.std.specs.Prelude.{◌≡◌, ℕ, ◌⊎◌, List, Option, length}
use Rattle.fux_port.specs.Promises.{Fails}
use Rattle.fux_port.specs.Written.{appended, StopsShort}

-- the sink got these bytes; or it failed, which it doesn't where it promised to take so many, and
-- got a front of them that is shorter
abbrev pub Gets : {S : Type 0} → (S → Option (List ℕ)) → (S → ℕ) → (S → ℕ → Type 0) → S → S → List ℕ → Type 0
Gets written faults serves old new bytes =
    (written new ≡ appended (written old) bytes)
    ⊎ (Fails faults serves old new (length bytes) × StopsShort (written old) (written new) bytes)
