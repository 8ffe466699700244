-- Certificates of a cantus: a head and claims, those of the lists of pitches in preorder from the
-- empty one, each of them true. What a head says is refuted by some lawful cantus; a valid
-- certificate shows that there is none.
use Rattle.std.specs.Prelude.{◌≡◌, ◌<◌, ◌⊎◌, Bool, true, false, List, [], ◌++◌, None, Some, ⊤}
use Rattle.cert_text.specs.declared.claim.Claim.{Claim}
use Rattle.cert_text.specs.declared.claim.Claim.TheVariants.{Open, Broken, NoChain, Floor, TheScore}
use Rattle.cert_tree.specs.Trees.{IsCertifiedFrom, Tree}
use Rattle.fux_pitch.specs.declared.pitch.Pitch.{Pitch}
use Rattle.cantus_space.specs.declared.plan.CantusPlan.{CantusPlan}
use Rattle.cantus_space.specs.Lawful.{HasNoLawful, IsBest, IsEarlier, IsLawful, penalty_of}
use Rattle.cantus_check.specs.Claims.{IsTrueOf, Said, longer_lists}

abbrev pub is_open : Claim → Bool
is_open Open = true
is_open (Broken rule) = false
is_open NoChain = false
is_open Floor = false
is_open TheScore = false

-- the lists of pitches of their bars' pools, with the claims of them
abbrev pub tree_of : CantusPlan → Said → Tree (List Pitch) Claim
tree_of plan said = record { IsTrueOf = IsTrueOf plan said; is_open = is_open; longer = longer_lists plan }

-- the head's cantus is lawful, and has the head's penalty
abbrev pub IsHeadSound : CantusPlan → Said → Type 0
IsHeadSound plan None = ⊤
IsHeadSound plan (Some best) = IsLawful plan best.1 × (penalty_of plan best.1 ≡ best.0)

-- a valid certificate
pub record IsCantusCertificate (plan : CantusPlan) (said : Said) (claims : List Claim) : Type 0 where
  pub sound : IsHeadSound plan said
  pub certified : IsCertifiedFrom (tree_of plan said) [] claims

-- what a head says: its cantus is the best one and has its penalty, or none is lawful
abbrev pub Holds : CantusPlan → Said → Type 0
Holds plan None = HasNoLawful plan
Holds plan (Some best) = IsBest plan best.1 × (penalty_of plan best.1 ≡ best.0)

-- a cantus is better than the head's: it has a lesser penalty, or the same one and is earlier.
-- Every cantus is better than none
abbrev pub IsBetter : CantusPlan → Said → List Pitch → Type 0
IsBetter plan None t = ⊤
IsBetter plan (Some best) t =
    (penalty_of plan t < best.0) ⊎ ((penalty_of plan t ≡ best.0) × IsEarlier t best.1)

-- a lawful cantus refutes a sound head where it is better
pub record Refutes (plan : CantusPlan) (said : Said) (t : List Pitch) : Type 0 where
  pub sound : IsHeadSound plan said
  pub lawful : IsLawful plan t
  pub better : IsBetter plan said t

-- pitches begin a cantus
pub record Begins (ps t : List Pitch) : Type 0 where
  pub rest : List Pitch
  pub is : t ≡ ps ++ rest
