-- The text of a cantus certificate's head, where it stands at the front of bytes, and where bytes
-- stop being the front of one.
use Rattle.std.specs.Prelude.{◌≡◌, ◌⊎◌, ℕ, ◌<◌, ◌≤◌, ◌^◌, ⊤, List, [], ◌∷◌, ◌++◌, Option, None, Some, Result, MatchResult, codes, length, map}
use Rattle.std.specs.Fmt.{decimal}
use Rattle.fux_pitch.specs.declared.pitch.Pitch.{Pitch}
use Rattle.fux_pitch.specs.Names.{name_of}
use Rattle.fux_text.specs.Words.{spaced}
use Rattle.cert_text.specs.Pieces.{GoesTo}
use Rattle.cert_text.specs.declared.answers.CertFault.{CertFault}
use Rattle.cert_text.specs.declared.answers.CertFault.TheVariants as faults

-- what a head says: a penalty and a cantus, or that none is lawful
abbrev pub Said : Type 0
Said = Option (ℕ × List Pitch)

-- the penalty is below 2^64, and the cantus has 3 to 24 pitches
abbrev pub IsSaid : Said → Type 0
IsSaid None = ⊤
IsSaid (Some best) = (best.0 < 2 ^ 64) × (3 ≤ length best.1) × (length best.1 ≤ 24)

-- the line of a cantus
abbrev pub cantus_line : List Pitch → List ℕ
cantus_line cantus = codes "cantus" ++ (spaced (map name_of cantus) ++ 10 ∷ [])

abbrev pub opening_text : List ℕ
opening_text = codes "fux-cantus-cert 1" ++ 10 ∷ []

abbrev pub closing_text : List ℕ
closing_text = codes "claims" ++ 10 ∷ []

-- what stands between the first line of a head and its last one
abbrev pub said_text : Said → List ℕ
said_text None = codes "none" ++ 10 ∷ []
said_text (Some best) = codes "best " ++ (decimal best.0 ++ 10 ∷ cantus_line best.1)

-- the text of a head that says this
abbrev pub head_text : Said → List ℕ
head_text said = opening_text ++ (said_text said ++ closing_text)

abbrev pub IsHeadText : Said → List ℕ → Type 0
IsHeadText said text = IsSaid said × (text ≡ head_text said)

-- a head's fault: memory ran out, or no head goes on where it says
abbrev pub IsHeadFault : List ℕ → CertFault → Type 0
IsHeadFault bytes fault =
    (fault ≡ faults.Memory) ⊎ ((at : ℕ) × (fault ≡ faults.CertHead at) × GoesTo IsHeadText bytes at)

-- there is an answer of which this holds, unless memory runs out
abbrev pub UnlessMemory : {A : Type 0} → Result A CertFault → (A → Type 0) → Type 0
UnlessMemory result Holds = MatchResult result Holds (λ fault. fault ≡ faults.Memory)
