-- Nodes of longer paths.
use Rattle.std.specs.Prelude.{◌≡◌, ℕ, ◌<◌, ◌++◌, Bool, true, false, ◌&&◌, nat_lt, [], ◌∷◌, List, Some, None, refl}
use Rattle.std.proofs.Common.{sym, ap, ◌∙◌, subst}
use Rattle.std.proofs.lemmas.Bool.{and_from}
use Rattle.std.proofs.lemmas.List.Folds.{list_all-append}
use Rattle.fux_grid.specs.declared.cell.Cell.{Cell}
use Rattle.rule_law.specs.Law.{test_from_below}
use Rattle.penalty_sheet.specs.declared.sheet.Sheet.{Sheet}
use Rattle.canon_space.specs.declared.canon.Canon.{Canon}
use Rattle.canon_space.specs.declared.node.CanonNode.{CanonNode}
use Rattle.canon_space.specs.Canons.{Bars}
use Rattle.canon_space.specs.Grows.{history-push, live_none, live_some}
use Rattle.canon_space.specs.Nodes.{IsNodeOf}
use Rattle.canon_space.specs.Paths.{IsNodeAt, WIDTH, are_numbers, history_at, live_at, numbered_bar}
use Rattle.canon_space.specs.Rules.{is_live}

module _ (canon : Canon) (sheet : Sheet) (path : List ℕ) (k : ℕ) where
  pub numbers-push : are_numbers path ≡ true → k < WIDTH → are_numbers (path ++ k ∷ []) ≡ true
  numbers-push h w =
      list_all-append (λ j. nat_lt j WIDTH) path (k ∷ [])
      ∙ and_from (are_numbers path) (nat_lt k WIDTH && true) h
      (and_from (nat_lt k WIDTH) true (test_from_below k WIDTH w) refl)

  -- the node of a longer path
  pub child_lives : are_numbers path ≡ true → k < WIDTH → (next : CanonNode) (now : List Cell) → now ≡ numbered_bar k
      → IsNodeOf canon sheet (now ∷ history_at path) next
      → IsNodeAt canon sheet next (path ++ k ∷ []) × (live_at canon sheet (path ++ k ∷ []) ≡ Some next.paid)
  child_lives numbers w next now e node =
      let same : now ∷ history_at path ≡ history_at (path ++ k ∷ []) =
      ap (λ bar. bar ∷ history_at path) e ∙ sym (history-push path k) in
      let P : Bars → Type 0 = λ behind. IsNodeOf canon sheet behind next in
      let there = subst P same node in
      let all = numbers-push numbers w in (
        record { numbers = all; here = there },
        live_some canon sheet (path ++ k ∷ []) (and_from (are_numbers (path ++ k ∷ []))
            (is_live canon (history_at (path ++ k ∷ []))) all there.live) ∙ ap Some (sym there.paid),
      )

  -- a bar that may not come
  pub child_dies : (now : List Cell) → now ≡ numbered_bar k → is_live canon (now ∷ history_at path) ≡ false
      → live_at canon sheet (path ++ k ∷ []) ≡ None
  child_dies now e dead =
      let same : history_at (path ++ k ∷ []) ≡ now ∷ history_at path =
      history-push path k ∙ ap (λ bar. bar ∷ history_at path) (sym e) in
      live_none canon sheet (path ++ k ∷ []) (none (are_numbers (path ++ k ∷ []))
      (is_live canon (history_at (path ++ k ∷ []))) (ap (is_live canon) same ∙ dead))
    where
      none : (a b : Bool) → b ≡ false → (a && b) ≡ false
      none true b h = h
      none false b h = refl

-- the node of no bars
pub root_lives : (canon : Canon) (sheet : Sheet) → live_at canon sheet [] ≡ Some 0
root_lives canon sheet = live_some canon sheet [] refl
