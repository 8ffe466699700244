-- What is told of the claims of prefixes.
use Rattle.std.specs.Prelude.{◌≡◌, ◌↔◌, ℕ, ◌+◌, Bool, IsTrue, List, Option}
use Rattle.cert_law.specs.Cases.{Matter}
use Rattle.cert_law.specs.Prefixes.{IsJudged}
use Rattle.cert_law.specs.declared.judged.Judged.{Judged}
use Rattle.cert_law.specs.Claims.{IsTrueOf}
use Rattle.cert_law.specs.Writer.{first_claim, is_no_better}
use Rattle.cert_text.specs.declared.claim.Claim.{Claim}
use Rattle.cert_text.specs.declared.claim.Claim.TheVariants.{Open}
use Rattle.cert_text.specs.declared.potential.Potential.{Potential}
use Rattle.cert_law.specs.Tails.{tail_of}
use Rattle.fux_grid.specs.declared.cell.Cell.{Cell}
use Rattle.fux_grid.specs.declared.exercise.Exercise.{Exercise}

-- whether the floor of each prefix of which this is known, with this tail, is no better than the
-- head's setting
abbrev pub TellsNoBetter : Matter → Judged → ℕ → Bool → Type 0
TellsNoBetter t judged tail result =
    (p : List (List Cell)) → IsJudged t p judged → result ≡ is_no_better t.head p (judged.paid + judged.least + tail)

-- whether each prefix of an exercise of which this is known is open
abbrev pub TellsOpen : Exercise → Judged → Bool → Type 0
TellsOpen ex judged result =
    (t : Matter) (stated : Option (List Potential)) (p : List (List Cell)) → t.exercise ≡ ex → IsJudged t p judged
    → IsTrue result ↔ IsTrueOf t.exercise t.sheet t.head stated p Open

-- whether a claim is true of each prefix of which this is known, and that has this tail
abbrev pub TellsTruth : Matter → Judged → Option ℕ → Claim → Bool → Type 0
TellsTruth t judged tail claim result =
    (stated : Option (List Potential)) (p : List (List Cell)) → IsJudged t p judged
    → tail ≡ tail_of t.exercise t.sheet stated p
    → IsTrue result ↔ IsTrueOf t.exercise t.sheet t.head stated p claim

-- whether a claim is the first one that is true of each prefix of which this is known, and that has
-- this tail
abbrev pub IsFirstClaim : Matter → Judged → Option ℕ → Claim → Type 0
IsFirstClaim t judged tail claim =
    (stated : Option (List Potential)) (p : List (List Cell)) → IsJudged t p judged
    → tail ≡ tail_of t.exercise t.sheet stated p → claim ≡ first_claim t.exercise t.sheet t.head stated p
