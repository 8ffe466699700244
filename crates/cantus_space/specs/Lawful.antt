-- Which cantus is lawful, what it costs, and which is best. A cantus goes from the first bar to the
-- last.
use Rattle.std.specs.Prelude.{◌≡◌, ℕ, ◌+◌, ◌⊎◌, true, List, [], ◌∷◌, Some, length, reverse}
use Rattle.std.specs.declared.cmp.Ordering.TheVariants.{Less}
use Rattle.fux_pitch.specs.declared.pitch.Pitch.{Pitch}
use Rattle.fux_grid.specs.Order.{pitch_order}
use Rattle.tree_search.specs.Quests as quests
use Rattle.tree_search.specs.Quests.{Quest}
use Rattle.cantus_space.specs.declared.plan.CantusPlan.{CantusPlan}
use Rattle.cantus_space.specs.Melody.{charged, ends_cost}
use Rattle.cantus_space.specs.Rules.{floor_of, is_live, whole_cost}

-- pitches from the first bar on begin a cantus so far as they go: each is of its bar's pool, and no
-- rule is broken
abbrev pub IsLive : CantusPlan → List Pitch → Type 0
IsLive plan ps = is_live plan (reverse ps) ≡ true

-- a lawful cantus: a pitch for each bar
pub record IsLawful (plan : CantusPlan) (cantus : List Pitch) : Type 0 where
  pub live : IsLive plan cantus
  pub whole : length cantus ≡ plan.bars

-- what it costs: read as a free voice of species 1, Q7 to Q10, Q13 and Q17 to Q20; and C1 to C6
abbrev pub penalty_of : CantusPlan → List Pitch → ℕ
penalty_of plan cantus =
    whole_cost plan.sheet (reverse cantus)
    + (charged plan.prices (reverse cantus) + ends_cost plan.prices plan.bars (reverse cantus))

-- of two that differ in a bar, the one with the lower pitch at the first such difference comes
-- first
abbrev pub IsEarlier : List Pitch → List Pitch → Type 0
IsEarlier ps [] = ⊥
IsEarlier [] (q ∷ qs) = ⊥
IsEarlier (p ∷ ps) (q ∷ qs) = (pitch_order p q ≡ Less) ⊎ ((p ≡ q) × IsEarlier ps qs)

-- the cantus that are sought: pitches are live where they begin a cantus, and cost at least their
-- floor
abbrev pub quest_of : CantusPlan → Quest Pitch
quest_of plan = record {
  IsLive = IsLive plan;
  floor = λ ps. Some (floor_of plan (reverse ps));
  IsLawful = IsLawful plan;
  penalty = penalty_of plan;
  IsEarlier = λ ps qs. IsEarlier ps qs;
}

-- the best cantus: none costs less, and it comes before each other that costs as much
abbrev pub IsBest : CantusPlan → List Pitch → Type 0
IsBest plan = quests.IsBest (quest_of plan)

-- no cantus is lawful
abbrev pub HasNoLawful : CantusPlan → Type 0
HasNoLawful plan = (cantus : List Pitch) → IsLawful plan cantus → ⊥
