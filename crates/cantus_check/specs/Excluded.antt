-- True claims exclude what refutes a head (`excluded`).
use Rattle.std.specs.Prelude.{◌≡◌, ℕ, ◌≤◌, true, false, List, [], ◌∷◌, ◌++◌, Some, None, length, reverse, refl}
use Rattle.std.proofs.Common.{arith, inl, inr, ap, sym, ◌∙◌, subst}
use Rattle.cert_text.specs.declared.claim.Claim.{Claim}
use Rattle.cert_text.specs.declared.claim.Claim.TheVariants.{Open, Broken, NoChain, Floor, TheScore}
use Rattle.cert_tree.specs.Trees.{Excludes, IsBegunByOne}
use Rattle.fux_pitch.specs.declared.pitch.Pitch.{Pitch}
use Rattle.cantus_space.specs.declared.plan.CantusPlan.{CantusPlan}
use Rattle.cantus_space.specs.Lawful.{IsEarlier, IsLawful, penalty_of}
use Rattle.cantus_space.specs.Rules.{floor_of}
use Rattle.cantus_check.specs.Begun.{begun-longer, begun-low, begun-unbroken}
use Rattle.cantus_check.specs.Certificates.{Begins, IsBetter, IsHeadSound, Refutes, is_open, tree_of}
use Rattle.cantus_check.specs.Claims.{IsNoBetter, IsTrueOf, Said, longer_lists}
use Rattle.cantus_check.specs.Orders.{earlier-append, earlier-itself, earlier-reversed}

pub empty_begins : (t : List Pitch) → Begins [] t
empty_begins t = record { rest = t; is = refl }

begins_whole : (s rest : List Pitch) → length (s ++ rest) ≡ length s → s ++ rest ≡ s
begins_whole [] [] e = refl
begins_whole [] (q ∷ rest) e = absurd (omega arith)
begins_whole (p ∷ s) rest e = ap (λ t. p ∷ t) (begins_whole s rest (omega arith))

module _ (plan : CantusPlan) where
  -- no better cantus goes on from pitches whose floor is no better
  none_by_floor : (best : ℕ × List Pitch) (ps rest : List Pitch) (floor : ℕ) → floor ≤ penalty_of plan (ps ++ rest)
      → IsNoBetter (Some best) ps floor → IsBetter plan (Some best) (ps ++ rest) → ⊥
  none_by_floor best ps rest floor low (inl above) (inl less) = omega (arith, low, above, less)
  none_by_floor best ps rest floor low (inl above) (inr same) = omega (arith, low, above, same.0)
  none_by_floor best ps rest floor low (inr later) (inl less) = omega (arith, low, later.0, less)
  none_by_floor best ps rest floor low (inr later) (inr same) =
      earlier-reversed best.1 (ps ++ rest) (earlier-append best.1 ps rest later.1) same.1

  -- nor from the head's cantus
  none_by_cantus : (best : ℕ × List Pitch) (rest : List Pitch) → IsHeadSound plan (Some best)
      → IsLawful plan (best.1 ++ rest) → IsBetter plan (Some best) (best.1 ++ rest) → ⊥
  none_by_cantus best rest sound lawful better = at better
    where
      whole : best.1 ++ rest ≡ best.1
      whole = begins_whole best.1 rest (lawful.whole ∙ sym sound.0.whole)

      same : penalty_of plan (best.1 ++ rest) ≡ best.0
      same = ap (penalty_of plan) whole ∙ sound.1

      at : IsBetter plan (Some best) (best.1 ++ rest) → ⊥
      at (inl less) = omega (arith, same, less)
      at (inr earlier) = earlier-itself best.1 (subst (λ (s : List Pitch). IsEarlier s best.1) whole earlier.1)

  module _ (said : Said) where
    goes_on : (ps : List Pitch) (claim : Claim) (t : List Pitch) → is_open claim ≡ true → IsTrueOf plan said ps claim
        → Refutes plan said t → Begins ps t → IsBegunByOne Begins (longer_lists plan ps) t
    goes_on ps Open t e holds refutes begins =
        let L : List Pitch → Type 0 = λ s. IsLawful plan s in
        let B : List Pitch → Type 0 = λ s. IsBegunByOne Begins (longer_lists plan ps) s in
        subst B (sym begins.is) (begun-longer plan ps begins.rest holds (subst L begins.is refutes.lawful))
    goes_on ps (Broken rule) t e holds refutes begins = cc
    goes_on ps NoChain t e holds refutes begins = cc
    goes_on ps Floor t e holds refutes begins = cc
    goes_on ps TheScore t e holds refutes begins = cc

  by_floor : (said : Said) (ps rest : List Pitch) → IsLawful plan (ps ++ rest) → IsBetter plan said (ps ++ rest)
      → IsNoBetter said ps (floor_of plan (reverse ps)) → ⊥
  by_floor None ps rest lawful better h = h
  by_floor (Some best) ps rest lawful better h =
      none_by_floor best ps rest (floor_of plan (reverse ps)) (begun-low plan ps rest lawful) h better

  by_cantus : (said : Said) (ps rest : List Pitch) → IsHeadSound plan said → IsLawful plan (ps ++ rest)
      → IsBetter plan said (ps ++ rest) → IsTrueOf plan said ps TheScore → ⊥
  by_cantus None ps rest sound lawful better h = h
  by_cantus (Some best) ps rest sound lawful better h =
      let L : List Pitch → Type 0 = λ s. IsLawful plan (s ++ rest) in
      let B : List Pitch → Type 0 = λ s. IsBetter plan (Some best) (s ++ rest) in
      none_by_cantus best rest sound (subst L h lawful) (subst B h better)

  module _ (said : Said) where
    ends_here : (ps rest : List Pitch) (claim : Claim) → is_open claim ≡ false → IsTrueOf plan said ps claim
        → IsHeadSound plan said → IsLawful plan (ps ++ rest) → IsBetter plan said (ps ++ rest) → ⊥
    ends_here ps rest Open e holds sound lawful better = cc
    ends_here ps rest (Broken rule) e holds sound lawful better = begun-unbroken plan ps rest lawful rule holds
    ends_here ps rest NoChain e holds sound lawful better = holds
    ends_here ps rest Floor e holds sound lawful better = by_floor said ps rest lawful better holds
    ends_here ps rest TheScore e holds sound lawful better = by_cantus said ps rest sound lawful better holds

    pub excluded : Excludes (tree_of plan said) Begins (Refutes plan said)
    excluded = record {
      open_goes_on = goes_on said;
      closed_ends = λ ps claim t e holds refutes begins.
          let L : List Pitch → Type 0 = λ s. IsLawful plan s in
          let B : List Pitch → Type 0 = λ s. IsBetter plan said s in
          ends_here ps begins.rest claim e holds refutes.sound (subst L begins.is refutes.lawful)
          (subst B begins.is refutes.better);
    }
