-- What is soon told of a prefix with a column more.
use Rattle.std.specs.Prelude.{◌≡◌, ℕ, ◌==◌, Bool, false, List, [], ◌∷◌, ◌++◌, Option, Some, length}
use Rattle.cert_text.specs.declared.answers.CertHead.{CertHead}
use Rattle.cert_text.specs.declared.answers.CertHead.TheVariants.{Best, Nothing}
use Rattle.cert_text.specs.declared.claim.Claim.{Claim}
use Rattle.cert_text.specs.declared.potential.Potential.{Potential}
use Rattle.cert_law.specs.Cases.{Matter}
use Rattle.cert_law.specs.Claims.{IsTrueOf}
use Rattle.cert_law.specs.Prefixes.{IsJudged}
use Rattle.cert_law.specs.Writer.{is_setting_of, least_break}
use Rattle.cert_law.specs.declared.judged.Judged.{Judged}
use Rattle.fux_grid.specs.declared.cell.Cell.{Cell}
use Rattle.rule_law.specs.Prefixes.{GoesOn}

-- the head has a setting of so many columns
abbrev pub has_length : CertHead → ℕ → Bool
has_length Nothing count = false
has_length (Best penalty score) count = count == length score.columns

-- of each prefix of which this is known and that goes on by the column: the two aren't the head's
-- setting, and this is the least rule of which a strict break is settled in them
abbrev pub TellsLeast : Matter → Judged → List Cell → ℕ → Type 0
TellsLeast t judged col rule =
    (p : List (List Cell)) → IsJudged t p judged → GoesOn t.exercise p (col ∷ [])
    → (is_setting_of t.head (p ++ col ∷ []) ≡ false) × (least_break t.exercise (p ++ col ∷ []) ≡ Some rule)

-- of each such prefix and the column the claim is true
abbrev pub TellsBreak : Matter → Judged → List Cell → Claim → Type 0
TellsBreak t judged col claim =
    (stated : Option (List Potential)) (p : List (List Cell)) → IsJudged t p judged → GoesOn t.exercise p (col ∷ [])
    → IsTrueOf t.exercise t.sheet t.head stated (p ++ col ∷ []) claim
