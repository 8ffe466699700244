-- What was read of a line that states a potential, or of the line `claims` behind them.
use Rattle.std.specs.Prelude.{◌≡◌, ◌≢◌, ℕ, ◌<◌, ◌≤◌, ◌^◌, ⊤, Bool, true, false, List, [], ◌∷◌, ◌++◌, Option, Some, None, codes, length, take}
use Rattle.std.specs.Fmt.{decimal}
use Rattle.cert_text.specs.declared.potential.Potential.{Potential}
use Rattle.cert_text.specs.declared.stated_line.StatedLine.{StatedLine}
use Rattle.cert_text.specs.declared.stated_line.StatedLine.TheVariants.{Nothing, NoChain, Letter, Blank, Number, Claims}
use Rattle.cert_text.specs.declared.stated_line.StatedStep.{StatedStep}
use Rattle.cert_text.specs.declared.stated_line.StatedStep.TheVariants.{Goes, Ends, Wrong}
use Rattle.cert_text.specs.declared.stated_line.StatedStop.{StatedStop}
use Rattle.cert_text.specs.Lines.{line_part}
use Rattle.cert_text.specs.Potentials.{BeginsOwed, IsPotential, last_line, potential_line}

-- its bytes
abbrev pub stated_bytes : StatedLine → List ℕ
stated_bytes Nothing = []
stated_bytes NoChain = codes "n"
stated_bytes Letter = codes "p"
stated_bytes Blank = codes "p "
stated_bytes (Number number) = codes "p " ++ decimal number
stated_bytes (Claims read) = take read last_line

-- whether it is a potential's line
abbrev pub is_of_potential : StatedLine → Bool
is_of_potential Nothing = true
is_of_potential NoChain = true
is_of_potential Letter = true
is_of_potential Blank = true
is_of_potential (Number number) = true
is_of_potential (Claims read) = false

-- its number is below 2^32, and the line `claims` isn't whole
abbrev pub IsStatedLine : StatedLine → Type 0
IsStatedLine Nothing = ⊤
IsStatedLine NoChain = ⊤
IsStatedLine Letter = ⊤
IsStatedLine Blank = ⊤
IsStatedLine (Number number) = number < 2 ^ 32
IsStatedLine (Claims read) = read ≤ 6

-- a line that is owed ended: a potential's, or the line `claims`
abbrev pub IsEnded : Bool → Option Potential → List ℕ → Type 0
IsEnded true (Some potential) line = IsPotential potential × (line ≡ potential_line potential)
IsEnded true None line = ⊥
IsEnded false (Some potential) line = ⊥
IsEnded false None line = line ≡ last_line

-- what one more byte makes of it
abbrev pub StepTells : StatedLine → ℕ → StatedStep → Type 0
StepTells before byte (Goes after) =
    IsStatedLine after × (is_of_potential after ≡ is_of_potential before)
    × (stated_bytes after ≡ stated_bytes before ++ byte ∷ []) × (byte ≢ 10)
StepTells before byte (Ends ended) =
    IsEnded (is_of_potential before) ended (stated_bytes before ++ byte ∷ []) × (byte ≡ 10)
StepTells before byte Wrong = BeginsOwed (is_of_potential before) (stated_bytes before ++ byte ∷ []) → ⊥

-- what a piece makes of it
abbrev pub StopStep : StatedLine → List ℕ → ℕ → StatedStep → Type 0
StopStep before piece used (Goes after) =
    IsStatedLine after × (is_of_potential after ≡ is_of_potential before)
    × (stated_bytes after ≡ stated_bytes before ++ piece) × (used ≡ length piece) × (line_part piece ≡ piece)
StopStep before piece used (Ends ended) =
    IsEnded (is_of_potential before) ended (stated_bytes before ++ take used piece) × (used ≤ length piece)
    × (line_part piece ≡ take used piece)
StopStep before piece used Wrong = BeginsOwed (is_of_potential before) (stated_bytes before ++ line_part piece) → ⊥

abbrev pub StopTells : StatedLine → List ℕ → StatedStop → Type 0
StopTells before piece stop = StopStep before piece stop.used stop.step
