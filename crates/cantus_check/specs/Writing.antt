-- The certificate that is written of a cantus.
use Rattle.std.specs.Prelude.{ℕ, List, ◌++◌}
use Rattle.cert_file.specs.Writing.{claim_lines}
use Rattle.cantus_space.specs.declared.plan.CantusPlan.{CantusPlan}
use Rattle.cantus_check.specs.Claims.{Said}
use Rattle.cantus_check.specs.Writer.{claims_of}
use Rattle.cantus_check.specs.Heads.{head_text}

-- the certificate that is written for a head
abbrev pub written_certificate : CantusPlan → Said → List ℕ
written_certificate plan said = head_text said ++ claim_lines (claims_of plan said)
