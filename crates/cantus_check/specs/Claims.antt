-- Claims of pitches that may begin a cantus: what each of them says. Pitches go from the first bar
-- on.
use Rattle.std.specs.Prelude.{◌≡◌, ℕ, ◌+◌, ◌<◌, ◌⊎◌, Bool, IsTrue, List, [], ◌∷◌, ◌++◌, Option, None, Some, length, map, reverse}
use Rattle.cert_text.specs.declared.claim.Claim.{Claim}
use Rattle.cert_text.specs.declared.claim.Claim.TheVariants.{Open, Broken, NoChain, Floor, TheScore}
use Rattle.fux_pitch.specs.declared.pitch.Pitch.{Pitch}
use Rattle.cantus_space.specs.declared.plan.CantusPlan.{CantusPlan}
use Rattle.cantus_space.specs.Broken.{is_broken_in}
use Rattle.cantus_space.specs.Known.{pool_from}
use Rattle.cantus_space.specs.Lawful.{IsEarlier}
use Rattle.cantus_space.specs.Rules.{floor_of}

-- what a head says: a penalty and a cantus, or that none is lawful
abbrev pub Said : Type 0
Said = Option (ℕ × List Pitch)

-- the pitches of a bar's pool, in reading order
abbrev pub pool_of : CantusPlan → ℕ → List Pitch
pool_of plan bar = pool_from plan bar 0

-- the lists that are longer by one of them
abbrev pub longer_lists : CantusPlan → List Pitch → List (List Pitch)
longer_lists plan ps = map (λ p. ps ++ p ∷ []) (pool_of plan (length ps + 1))

-- a rule is broken by one of the pitches
abbrev pub has_break_of : CantusPlan → List Pitch → ℕ → Bool
has_break_of plan ps rule = is_broken_in plan (reverse ps) rule

-- a floor is above the penalty of the head's cantus, or it is that penalty and the pitches are
-- later in reading order
abbrev pub IsNoBetter : Said → List Pitch → ℕ → Type 0
IsNoBetter None ps floor = ⊥
IsNoBetter (Some best) ps floor = (best.0 < floor) ⊎ ((floor ≡ best.0) × IsEarlier best.1 ps)

-- the pitches are the head's cantus
abbrev pub IsCantusOf : Said → List Pitch → Type 0
IsCantusOf None ps = ⊥
IsCantusOf (Some best) ps = ps ≡ best.1

-- a claim is true of pitches
abbrev pub IsTrueOf : CantusPlan → Said → List Pitch → Claim → Type 0
IsTrueOf plan said ps Open = length ps < plan.bars
IsTrueOf plan said ps (Broken rule) = IsTrue (has_break_of plan ps rule)
IsTrueOf plan said ps NoChain = ⊥
IsTrueOf plan said ps Floor = IsNoBetter said ps (floor_of plan (reverse ps))
IsTrueOf plan said ps TheScore = IsCantusOf said ps
