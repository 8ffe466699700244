-- The lines of claims.
use Rattle.std.specs.Prelude.{◌≡◌, ◌≢◌, ℕ, ◌≤◌, ◌==◌, ⊤, List, [], ◌∷◌, ◌++◌, codes, if◌then◌else◌, Option, Some, None}
use Rattle.std.specs.Fmt.{decimal}
use Rattle.fux_grid.specs.Exercises.{greatest_rule}
use Rattle.cert_text.specs.declared.claim.Claim.{Claim}
use Rattle.cert_text.specs.declared.claim.Claim.TheVariants.{Open, Broken, NoChain, Floor, TheScore}

-- the number of a claim's rule, where it names one
abbrev pub rule_or_one : Claim → ℕ
rule_or_one (Broken rule) = rule
rule_or_one Open = 1
rule_or_one NoChain = 1
rule_or_one Floor = 1
rule_or_one TheScore = 1

-- a claim's rule is one of S1 to S26
abbrev pub IsClaim : Claim → Type 0
IsClaim claim = (1 ≤ rule_or_one claim) × (rule_or_one claim ≤ greatest_rule)

-- a claim's line, but for its line feed
abbrev pub claim_word : Claim → List ℕ
claim_word Open = codes "o"
claim_word (Broken rule) = codes "b " ++ decimal rule
claim_word NoChain = codes "x"
claim_word Floor = codes "f"
claim_word TheScore = codes "s"

-- a claim's line
abbrev pub claim_line : Claim → List ℕ
claim_line claim = claim_word claim ++ 10 ∷ []

-- the line of a claim, if there is one
abbrev pub line_if : Option Claim → List ℕ
line_if None = []
line_if (Some claim) = claim_line claim

-- some claim's line begins with these bytes, or is these bytes
pub record BeginsClaim (bytes : List ℕ) : Type 0 where
  pub claim : Claim
  pub fits : IsClaim claim
  pub rest : List ℕ
  pub whole : bytes ++ rest ≡ claim_line claim

-- the bytes through the first line feed, or all bytes where there is none
abbrev pub line_part : List ℕ → List ℕ
line_part [] = []
line_part (byte ∷ bytes) = if byte == 10 then byte ∷ [] else byte ∷ line_part bytes

-- none of the bytes is a line feed
abbrev pub HasNoFeed : List ℕ → Type 0
HasNoFeed [] = ⊤
HasNoFeed (byte ∷ bytes) = (byte ≢ 10) × HasNoFeed bytes
