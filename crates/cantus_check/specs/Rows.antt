-- The text of a head as a row of pieces.
use Rattle.std.specs.Prelude.{◌≡◌, ℕ, zero, suc, ◌-◌, ◌==◌, Bool, true, false, List, [], ◌∷◌, ◌++◌, Option, None, Some, option_map, codes}
use Rattle.fux_pitch.specs.declared.pitch.Pitch.{Pitch}
use Rattle.cert_text.specs.HeadRows.{IsKind, NumberLine, PitchName}
use Rattle.cert_text.specs.Pieces.{Fixed, Literal, OneByte, Reads, Then}
use Rattle.cantus_check.specs.Heads.{Said, closing_text, opening_text}

-- ---- pitches

-- between two names a space stands; behind the last one, where none is owed, the line ends
abbrev pub Between : ℕ → Bool → List ℕ → Type 0
Between owed true text = text ≡ 32 ∷ []
Between owed false text = (owed ≡ 0) × (text ≡ 10 ∷ [])

abbrev pub Goes : Bool → (List Pitch → List ℕ → Type 0) → List Pitch → List ℕ → Type 0
Goes true more = more
Goes false more = Fixed [] []

-- a name, and more behind it
abbrev pub Named : (List Pitch → List ℕ → Type 0) → List Pitch → List ℕ → Type 0
Named more = Then PitchName (λ p. Then more (λ ps. Fixed (p ∷ ps) []))

-- names through the end of their line: no fewer than are owed, and no more than may come
abbrev pub Names : ℕ → ℕ → List Pitch → List ℕ → Type 0
Names owed zero = Fixed [] (10 ∷ [])
Names owed (suc most) = Then (Between owed) (λ goes. Goes goes (Named (Names (owed - 1) most)))

-- pitches are read, and put behind others
pub record ReadsNames (owed most : ℕ) (bytes : List ℕ) (old new : List Pitch) (rest : List ℕ) : Type 0 where
  pub read : List Pitch
  pub put : new ≡ old ++ read
  pub reads : Reads (Names owed most) bytes read rest

-- ---- heads

-- what follows the penalty
abbrev pub CantusRow : ℕ → Said → List ℕ → Type 0
CantusRow penalty =
    Then (Literal (codes "cantus")) (λ _. Then (Names 3 24) (λ cantus. Fixed (Some (penalty, cantus)) closing_text))

-- what follows the `b` of `best`
abbrev pub BestRow : Said → List ℕ → Type 0
BestRow = Then (Literal (codes "est ")) (λ _. Then NumberLine CantusRow)

abbrev pub ReadsBest : List ℕ → ℕ → List Pitch → List ℕ → Type 0
ReadsBest bytes penalty cantus rest = Reads BestRow bytes (Some (penalty, cantus)) rest

-- what follows the `n` of `none`
abbrev pub none_rest : List ℕ
none_rest = codes "one" ++ 10 ∷ closing_text

abbrev pub NothingRow : Said → List ℕ → Type 0
NothingRow = Fixed None none_rest

-- what follows the first byte of the second line
abbrev pub KindRow : Bool → Said → List ℕ → Type 0
KindRow true = BestRow
KindRow false = NothingRow

abbrev pub KindsRow : Said → List ℕ → Type 0
KindsRow = Then (OneByte IsKind) (λ byte. KindRow (byte == 98))

abbrev pub HeadRow : Said → List ℕ → Type 0
HeadRow = Then (Literal opening_text) (λ _. KindsRow)

-- what a head says with this penalty, if there is one, and these pitches
abbrev pub said_of : Option ℕ → List Pitch → Said
said_of penalty cantus = option_map (λ value. (value, cantus)) penalty
