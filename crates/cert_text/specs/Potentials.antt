-- What the second form states: a number for the start and for each column of the menus, one on each
-- line.
use Rattle.std.specs.Prelude.{◌≡◌, ℕ, ◌<◌, ◌^◌, Bool, true, false, ⊤, List, [], ◌∷◌, ◌++◌, codes, length}
use Rattle.std.specs.Fmt.{decimal}
use Rattle.std.specs.List.{AllByRecursion, flat_map}
use Rattle.cert_text.specs.declared.claim.Claim.{Claim}
use Rattle.cert_text.specs.declared.potential.Potential.{Potential}
use Rattle.cert_text.specs.declared.potential.Potential.TheVariants.{Least, NoChain}
use Rattle.cert_text.specs.Lines.{IsClaim, claim_line}

-- a number that is stated is below 2^32
abbrev pub IsPotential : Potential → Type 0
IsPotential (Least number) = number < 2 ^ 32
IsPotential NoChain = ⊤

-- a potential's line, but for its line feed
abbrev pub potential_word : Potential → List ℕ
potential_word (Least number) = codes "p " ++ decimal number
potential_word NoChain = codes "n"

-- a potential's line
abbrev pub potential_line : Potential → List ℕ
potential_line potential = potential_word potential ++ 10 ∷ []

-- the line behind the last potential
abbrev pub last_line : List ℕ
last_line = codes "claims" ++ 10 ∷ []

-- the bytes are the lines of so many potentials, of the line `claims`, and of claims
pub record ArePotentialLines (count : ℕ) (potentials : List Potential) (claims : List Claim) (bytes : List ℕ) : Type 0
  where
    pub counted : length potentials ≡ count
    pub each : AllByRecursion IsPotential potentials
    pub fits : AllByRecursion IsClaim claims
    pub is : bytes ≡ flat_map potential_line potentials ++ (last_line ++ flat_map claim_line claims)

-- the line that is owed: a potential's, or the line `claims` behind the last of them
abbrev pub IsOwedLine : Bool → List ℕ → Type 0
IsOwedLine true line = (potential : Potential) × IsPotential potential × (line ≡ potential_line potential)
IsOwedLine false line = line ≡ last_line

-- a line that is owed begins with these bytes, or is these bytes
pub record BeginsOwed (is_potential : Bool) (bytes : List ℕ) : Type 0 where
  pub rest : List ℕ
  pub whole : IsOwedLine is_potential (bytes ++ rest)
