-- What begins pitches that break no rule breaks none (`live_front`), and the floor of a whole
-- cantus is its penalty (`floor-whole`).
use Rattle.std.specs.Prelude.{◌≡◌, ℕ, ◌+◌, ◌<◌, ◌≤◌, true, List, [], ◌∷◌, ◌++◌, drop, get_or, length, reverse, take}
use Rattle.std.proofs.Common.{arith, ap, subst, sym, ◌∙◌}
use Rattle.std.proofs.lemmas.Bool.{and_parts}
use Rattle.std.proofs.lemmas.List.{length-reverse, reverse-append, take-append-drop, take_more}
use Rattle.fux_pitch.specs.declared.pitch.Pitch.{Pitch}
use Rattle.cantus_space.specs.declared.plan.CantusPlan.{CantusPlan}
use Rattle.cantus_space.specs.Ahead.{floor_ends}
use Rattle.cantus_space.specs.Lawful.{penalty_of}
use Rattle.cantus_space.specs.Rules.{floor_of, is_live, may_come}

-- the front of pitches with one more, from the newest to the oldest
pub front-more : (ps : List Pitch) (i : ℕ) (p : Pitch) → i < length ps → p ≡ get_or ps i p
    → reverse (take (i + 1) ps) ≡ p ∷ reverse (take i ps)
front-more ps i p within is =
    ap reverse (take_more ps i p within ∙ ap (λ q. take i ps ++ q ∷ []) (sym is)) ∙ reverse-append (take i ps) (p ∷ [])

module _ (plan : CantusPlan) where
  behind_live : (newer behind : List Pitch) → is_live plan (newer ++ behind) ≡ true → is_live plan behind ≡ true
  behind_live [] behind h = h
  behind_live (p ∷ newer) behind h =
      behind_live newer behind (and_parts (is_live plan (newer ++ behind)) (may_come plan (newer ++ behind) p) h).0

  pub live_front : (ps : List Pitch) (i : ℕ) → is_live plan (reverse ps) ≡ true → is_live plan (reverse (take i ps)) ≡ true
  live_front ps i h =
      behind_live (reverse (drop i ps)) (reverse (take i ps))
      (subst (λ qs. is_live plan qs ≡ true)
      (ap reverse (sym (take-append-drop i ps)) ∙ reverse-append (take i ps) (drop i ps)) h)

  pub floor-whole : (t : List Pitch) → length t ≡ plan.bars → floor_of plan (reverse t) ≡ penalty_of plan t
  floor-whole t whole =
      let long : plan.bars ≤ length (reverse t) = omega (arith, whole, length-reverse t) in
      floor_ends plan (reverse t) long
