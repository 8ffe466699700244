-- Which rules pitches break, counted by the numbers that claims have of them. Pitches go from the
-- newest to the oldest.
use Rattle.std.specs.Prelude.{ℕ, ◌+◌, ◌==◌, Bool, false, not, ◌&&◌, ◌||◌, List, [], ◌∷◌, length, if◌then◌else◌}
use Rattle.std.specs.List.{list_any}
use Rattle.fux_pitch.specs.declared.pitch.Pitch.{Pitch}
use Rattle.fux_pitch.specs.Modes.{is_in_gamut}
use Rattle.cantus_space.specs.declared.plan.CantusPlan.{CantusPlan}
use Rattle.cantus_space.specs.Rules.{breaks, rules}

-- S2 and the rules that a cantus keeps bar by bar
abbrev pub rules_claimed : List ℕ
rules_claimed = 2 ∷ rules

-- a rule is broken by a pitch behind others: S2 where it isn't in its bar's gamut
abbrev pub breaks_rule : CantusPlan → List Pitch → Pitch → ℕ → Bool
breaks_rule plan behind p rule =
    if rule == 2 then not (is_in_gamut plan.mode (length behind + 1) plan.bars p) else breaks behind p rule

-- the rule is one of these, and is broken
abbrev pub is_broken_by : CantusPlan → List Pitch → Pitch → ℕ → Bool
is_broken_by plan behind p rule =
    list_any (λ claimed. rule == claimed) rules_claimed && breaks_rule plan behind p rule

-- a rule is broken by one of the pitches
abbrev pub is_broken_in : CantusPlan → List Pitch → ℕ → Bool
is_broken_in plan [] rule = false
is_broken_in plan (p ∷ behind) rule = is_broken_in plan behind rule || is_broken_by plan behind p rule
