-- The certificate that is written: for each list of pitches the first claim that is true of it.
use Rattle.std.specs.Prelude.{ℕ, Bool, false, ◌&&◌, ◌||◌, ◌==◌, nat_lt, List, [], ◌∷◌, Option, None, Some, length, reverse, if◌then◌else◌}
use Rattle.std.specs.List.{find}
use Rattle.std.specs.Option.{option_map_or}
use Rattle.std.specs.Ordering.{ordering_then, is_lt, is_eq}
use Rattle.std.specs.declared.cmp.Ordering.{Ordering}
use Rattle.std.specs.declared.cmp.Ordering.TheVariants.{Equal}
use Rattle.cert_text.specs.declared.claim.Claim.{Claim}
use Rattle.cert_text.specs.declared.claim.Claim.TheVariants.{Open, Broken, Floor, TheScore}
use Rattle.cert_tree.specs.Trees.{claims_from}
use Rattle.fux_pitch.specs.declared.pitch.Pitch.{Pitch}
use Rattle.fux_grid.specs.Order.{pitch_order}
use Rattle.cantus_space.specs.declared.plan.CantusPlan.{CantusPlan}
use Rattle.cantus_space.specs.Rules.{floor_of}
use Rattle.cantus_space.specs.Broken.{rules_claimed}
use Rattle.cantus_check.specs.Claims.{Said, has_break_of}
use Rattle.cantus_check.specs.Certificates.{tree_of}

-- how two lists go by the first pitch in which they differ; they are equal there where they differ
-- in none that both have
abbrev pub pitches_order : List Pitch → List Pitch → Ordering
pitches_order [] t = Equal
pitches_order (p ∷ s) [] = Equal
pitches_order (p ∷ s) (q ∷ t) = ordering_then (pitch_order p q) (pitches_order s t)

-- whether the pitches are the head's cantus
abbrev pub is_cantus_of : Said → List Pitch → Bool
is_cantus_of None ps = false
is_cantus_of (Some best) ps = (length ps == length best.1) && is_eq (pitches_order best.1 ps)

-- whether a floor is no better than the head's cantus
abbrev pub is_no_better : Said → List Pitch → ℕ → Bool
is_no_better None ps floor = false
is_no_better (Some best) ps floor =
    nat_lt best.0 floor || ((floor == best.0) && is_lt (pitches_order best.1 ps))

-- the least rule that is broken
abbrev pub least_break : CantusPlan → List Pitch → Option ℕ
least_break plan ps = find (has_break_of plan ps) rules_claimed

-- the first claim that is true of pitches: they are the head's cantus, a rule is broken, the floor
-- is no better than the head's cantus; else they are open
abbrev pub unbroken_claim : CantusPlan → Said → List Pitch → Claim
unbroken_claim plan said ps = if is_no_better said ps (floor_of plan (reverse ps)) then Floor else Open

abbrev pub first_claim : CantusPlan → Said → List Pitch → Claim
first_claim plan said ps =
    if is_cantus_of said ps then TheScore
    else option_map_or Broken (least_break plan ps) (unbroken_claim plan said ps)

-- all claims of a certificate
abbrev pub claims_of : CantusPlan → Said → List Claim
claims_of plan said = claims_from (tree_of plan said) (first_claim plan said) plan.bars []
