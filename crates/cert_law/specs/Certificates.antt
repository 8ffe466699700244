-- Certificates: a head, in the second form entries, and claims, those of the prefixes in preorder
-- from the empty one; each of them true. What a head says is refuted by some lawful settings; a
-- valid certificate shows that there is none.
use Rattle.std.specs.Prelude.{◌≡◌, ◌<◌, ◌⊎◌, Bool, true, false, List, [], ◌++◌, Option, IfSome, ⊤}
use Rattle.cert_text.specs.declared.answers.CertHead.{CertHead}
use Rattle.cert_text.specs.declared.answers.CertHead.TheVariants.{Best, Nothing}
use Rattle.cert_text.specs.declared.claim.Claim.{Claim}
use Rattle.cert_text.specs.declared.claim.Claim.TheVariants.{Open, Broken, NoChain, Floor, TheScore}
use Rattle.cert_text.specs.declared.potential.Potential.{Potential}
use Rattle.cert_tree.specs.Trees.{IsCertifiedFrom, Tree}
use Rattle.cert_law.specs.Claims.{IsTrueOf, longer_prefixes}
use Rattle.cert_law.specs.Entries.{AreTrueEntries}
use Rattle.fux_grid.specs.declared.cell.Cell.{Cell}
use Rattle.fux_grid.specs.declared.exercise.Exercise.{Exercise}
use Rattle.fux_grid.specs.Order.{IsEarlier}
use Rattle.fux_judge.specs.Lawful.{HasNoLawful, IsBest, IsLawful}
use Rattle.fux_judge.specs.Penalties.{penalty_of}
use Rattle.penalty_sheet.specs.declared.sheet.Sheet.{Sheet}

abbrev pub is_open : Claim → Bool
is_open Open = true
is_open (Broken rule) = false
is_open NoChain = false
is_open Floor = false
is_open TheScore = false

-- the prefixes, with the claims of them, where entries are stated or none are
abbrev pub tree_of : Exercise → Sheet → CertHead → Option (List Potential) → Tree (List (List Cell)) Claim
tree_of ex sheet head stated =
    record { IsTrueOf = IsTrueOf ex sheet head stated; is_open = is_open; longer = longer_prefixes ex }

-- the head's setting is lawful, and has the head's penalty
abbrev pub IsHeadSound : Exercise → Sheet → CertHead → Type 0
IsHeadSound ex sheet Nothing = ⊤
IsHeadSound ex sheet (Best penalty score) =
    IsLawful ex score.columns × (penalty_of ex sheet score.columns ≡ penalty)

-- a valid certificate: of the first form, where no entries are stated, or of the second
pub record IsCertificate (ex : Exercise) (sheet : Sheet) (head : CertHead) (stated : Option (List Potential))
    (claims : List Claim) : Type 0
  where
    pub sound : IsHeadSound ex sheet head
    pub entries : IfSome stated (AreTrueEntries ex sheet)
    pub certified : IsCertifiedFrom (tree_of ex sheet head stated) [] claims

-- what a head says: its setting is the best one and has its penalty, or no setting is lawful
abbrev pub Holds : Exercise → Sheet → CertHead → Type 0
Holds ex sheet Nothing = HasNoLawful ex
Holds ex sheet (Best penalty score) =
    IsBest ex sheet score.columns × (penalty_of ex sheet score.columns ≡ penalty)

-- a setting is better than the head's: it has a lesser penalty, or the same one and is earlier in
-- reading order. Every setting is better than none
abbrev pub IsBetter : Exercise → Sheet → CertHead → List (List Cell) → Type 0
IsBetter ex sheet Nothing t = ⊤
IsBetter ex sheet (Best penalty score) t =
    (penalty_of ex sheet t < penalty) ⊎ ((penalty_of ex sheet t ≡ penalty) × IsEarlier t score.columns)

-- a lawful setting refutes a head where it is better
pub record Refutes (ex : Exercise) (sheet : Sheet) (head : CertHead) (t : List (List Cell)) : Type 0 where
  pub lawful : IsLawful ex t
  pub better : IsBetter ex sheet head t

-- a list of columns begins another one
pub record Begins (p t : List (List Cell)) : Type 0 where
  pub rest : List (List Cell)
  pub is : t ≡ p ++ rest
