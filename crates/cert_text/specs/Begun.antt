-- What was read of a claim's line.
use Rattle.std.specs.Prelude.{◌≡◌, ◌≢◌, ℕ, ◌≤◌, List, [], ◌∷◌, ◌++◌, codes, length, take}
use Rattle.fux_grid.specs.Exercises.{greatest_rule}
use Rattle.cert_text.specs.Lines.{BeginsClaim, IsClaim, claim_line, claim_word, line_part, rule_or_one}
use Rattle.cert_text.specs.declared.begun.Begun.{Begun}
use Rattle.cert_text.specs.declared.begun.Begun.TheVariants.{Nothing, Word, Letter, Blank}
use Rattle.cert_text.specs.declared.begun.Step.{Step}
use Rattle.cert_text.specs.declared.begun.Step.TheVariants.{Goes, Ends, Wrong}
use Rattle.cert_text.specs.declared.begun.Stop.{Stop}

-- its bytes
abbrev pub begun_bytes : Begun → List ℕ
begun_bytes Nothing = []
begun_bytes (Word claim) = claim_word claim
begun_bytes Letter = codes "b"
begun_bytes Blank = codes "b "

-- the number of its rule, where it names one
abbrev pub begun_rule : Begun → ℕ
begun_rule Nothing = 1
begun_rule (Word claim) = rule_or_one claim
begun_rule Letter = 1
begun_rule Blank = 1

-- its rule is one of S1 to S26
abbrev pub IsBegun : Begun → Type 0
IsBegun begun = (1 ≤ begun_rule begun) × (begun_rule begun ≤ greatest_rule)

-- what one more byte makes of it
abbrev pub StepTells : Begun → ℕ → Step → Type 0
StepTells before byte (Goes after) = IsBegun after × (begun_bytes after ≡ begun_bytes before ++ byte ∷ []) × (byte ≢ 10)
StepTells before byte (Ends claim) = IsClaim claim × (claim_line claim ≡ begun_bytes before ++ byte ∷ []) × (byte ≡ 10)
StepTells before byte Wrong = BeginsClaim (begun_bytes before ++ byte ∷ []) → ⊥

-- what a piece makes of it
abbrev pub StopStep : Begun → List ℕ → ℕ → Step → Type 0
StopStep before piece used (Goes after) =
    IsBegun after × (begun_bytes after ≡ begun_bytes before ++ piece) × (used ≡ length piece) ×
    (line_part piece ≡ piece)
StopStep before piece used (Ends claim) =
    IsClaim claim × (claim_line claim ≡ begun_bytes before ++ take used piece) ×
    (used ≤ length piece) × (line_part piece ≡ take used piece)
StopStep before piece used Wrong = BeginsClaim (begun_bytes before ++ line_part piece) → ⊥

abbrev pub StopTells : Begun → List ℕ → Stop → Type 0
StopTells before piece stop = StopStep before piece stop.used stop.step
