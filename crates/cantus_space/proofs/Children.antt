-- Nodes of longer paths.
use Rattle.std.specs.Prelude.{◌≡◌, ℕ, ◌+◌, ◌<◌, ◌≤◌, ◌++◌, ◌==◌, Bool, true, false, ◌&&◌, nat_lt, [], ◌∷◌, List, Some, None, length, if◌then◌else◌, refl}
use Rattle.std.proofs.Common.{arith, sym, ap, ◌∙◌, subst}
use Rattle.std.proofs.lemmas.Bool.{and_from}
use Rattle.std.proofs.lemmas.List.Folds.{list_all-append}
use Rattle.fux_pitch.specs.declared.pitch.Pitch.{Pitch}
use Rattle.rule_law.specs.Law.{test_from_below}
use Rattle.cantus_space.specs.declared.node.CantusNode.{CantusNode}
use Rattle.cantus_space.specs.declared.plan.CantusPlan.{CantusPlan}
use Rattle.cantus_space.specs.Ahead.{no_ends}
use Rattle.cantus_space.specs.Cantus.{is_in_pool}
use Rattle.cantus_space.specs.Grows.{comes, goes_on, history-push, live_none, live_some, live_value}
use Rattle.cantus_space.specs.Nodes.{IsNodeOf}
use Rattle.cantus_space.specs.Numbers.{WIDTH, numbered_pitch}
use Rattle.cantus_space.specs.Paths.{IsNodeAt, are_numbers, history_at, live_at}
use Rattle.cantus_space.specs.Rules.{floor_of, gauge_cost, is_last_climax, is_live, least_climax, least_compass, least_leaps, starts_ahead}

module _ (plan : CantusPlan) (path : List ℕ) (k : ℕ) where
  pub numbers-push : are_numbers path ≡ true → k < WIDTH → are_numbers (path ++ k ∷ []) ≡ true
  numbers-push h w =
      list_all-append (λ j. nat_lt j WIDTH) path (k ∷ [])
      ∙ and_from (are_numbers path) (nat_lt k WIDTH && true) h
      (and_from (nat_lt k WIDTH) true (test_from_below k WIDTH w) refl)

  -- the node of a longer path
  pub child_lives : are_numbers path ≡ true → k < WIDTH → (next : CantusNode) (p : Pitch) (floor : ℕ)
      → p ≡ numbered_pitch plan k → IsNodeOf plan (p ∷ history_at plan path) next
      → floor ≡ floor_of plan (p ∷ history_at plan path)
      → IsNodeAt plan next (path ++ k ∷ []) × (live_at plan (path ++ k ∷ []) ≡ Some floor)
  child_lives numbers w next p floor e node f =
      let same : p ∷ history_at plan path ≡ history_at plan (path ++ k ∷ []) =
      ap (λ q. q ∷ history_at plan path) e ∙ sym (history-push plan path k) in
      let P : List Pitch → Type 0 = λ behind. IsNodeOf plan behind next in
      let there = subst P same node in
      let all = numbers-push numbers w in (
        record { numbers = all; here = there },
        live_some plan (path ++ k ∷ []) (and_from (are_numbers (path ++ k ∷ []))
            (is_live plan (history_at plan (path ++ k ∷ []))) all there.live)
            ∙ ap Some (sym (f ∙ ap (floor_of plan) same)),
      )

  -- a pitch that may not come
  pub child_dies : (p : Pitch) → p ≡ numbered_pitch plan k → is_live plan (p ∷ history_at plan path) ≡ false
      → live_at plan (path ++ k ∷ []) ≡ None
  child_dies p e dead =
      let same : history_at plan (path ++ k ∷ []) ≡ p ∷ history_at plan path =
      history-push plan path k ∙ ap (λ q. q ∷ history_at plan path) (sym e) in
      live_none plan (path ++ k ∷ []) (none (are_numbers (path ++ k ∷ []))
      (is_live plan (history_at plan (path ++ k ∷ []))) (ap (is_live plan) same ∙ dead))
    where
      none : (a b : Bool) → b ≡ false → (a && b) ≡ false
      none true b h = h
      none false b h = refl

-- pitches that aren't there cost nothing
no_floor : (plan : CantusPlan) → 3 ≤ plan.bars → floor_of plan [] ≡ 0
no_floor plan some =
    let climax : least_climax plan [] ≡ 0 = nothing (is_last_climax plan []) 0 in
    let compass : least_compass plan [] ≡ 0 = nothing (starts_ahead plan 0 == 0) 0 in
    let leaps : least_leaps plan [] ≡ 0 = omega arith in
    let none : gauge_cost plan.sheet (least_climax plan []) (least_compass plan []) (least_leaps plan []) 0 ≡ 0 =
    ap (λ n. gauge_cost plan.sheet n (least_compass plan []) (least_leaps plan []) 0) climax
    ∙ ap (λ n. gauge_cost plan.sheet 0 n (least_leaps plan []) 0) compass
    ∙ ap (λ n. gauge_cost plan.sheet 0 0 n 0) leaps ∙ omega arith
    in
    omega (arith, none, no_ends plan [] (omega (arith, some)))
  where
    nothing : (b : Bool) (n : ℕ) → (if b then n else n) ≡ n
    nothing true n = refl
    nothing false n = refl

-- the node of no pitches
pub root_lives : (plan : CantusPlan) → 3 ≤ plan.bars → live_at plan [] ≡ Some 0
root_lives plan some = live_some plan [] refl ∙ ap Some (no_floor plan some)

-- a child of a live path is of its bar's pool
pub live_child_in_pool : (plan : CantusPlan) (path : List ℕ) (k floor : ℕ) → live_at plan (path ++ k ∷ []) ≡ Some floor
    → is_in_pool plan (length (history_at plan path) + 1) (numbered_pitch plan k) ≡ true
live_child_in_pool plan path k floor h =
    let on = goes_on plan path k (live_value plan (path ++ k ∷ []) floor h).0 in
    (comes plan (history_at plan path) (numbered_pitch plan k) on.comes).pool
