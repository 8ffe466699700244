-- How the writing of a certificate ends.
use Rattle.std.specs.Prelude.{◌≡◌, ℕ, ◌⊎◌, List, Option, Result, Err}
use Rattle.cert_text.specs.declared.answers.CertWrite.{CertWrite}
use Rattle.cert_text.specs.declared.answers.CertWrite.TheVariants.{Memory, TooLong, WriteFault}
use Rattle.fux_port.specs.Written.{StopsShort}

-- where the sink failed, less than all of these bytes was written
abbrev pub FailsShort : Option (List ℕ) → Option (List ℕ) → List ℕ → Result (Unit {0}) CertWrite → Type 0
FailsShort old new whole result = result ≡ Err WriteFault → StopsShort old new whole

-- it ends before the first byte: the certificate is too long, or memory is wanting
abbrev pub EndsUnwritten : Result (Unit {0}) CertWrite → Type 0
EndsUnwritten result = (result ≡ Err TooLong) ⊎ (result ≡ Err Memory)
