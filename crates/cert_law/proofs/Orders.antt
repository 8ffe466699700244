-- How two lists go by their first difference, and reading order (`order-less`, `less-order`); of
-- lists of one length, only those that are one differ nowhere (`order-equal`, `order-itself`).
use Rattle.std.proofs.Common.{◌≡◌, inl, inr, ◌<◌, List, [], ◌∷◌, ◌++◌, length, slice_index_or, refl, ap, sym, ◌∙◌, arith}
use Rattle.std.specs.Ordering.{ordering_then}
use Rattle.std.specs.declared.cmp.Ordering.{Ordering}
use Rattle.std.specs.declared.cmp.Ordering.TheVariants.{Less, Equal, Greater}
use Rattle.cert_law.specs.Writer.{columns_order}
use Rattle.fux_grid.specs.declared.cell.Cell.{Cell}
use Rattle.fux_grid.specs.Order.{IsEarlier, column_order}
use Rattle.fux_grid.proofs.OrderLemmas.{column_order-equal, column_order-itself}

pub order-less : (s t : List (List Cell)) → columns_order s t ≡ Less → IsEarlier s t
order-less [] t h = cc
order-less (c ∷ s) [] h = cc
order-less (c ∷ s) (d ∷ t) h = at (column_order c d) refl h (order-less s t)
  where
    at : (o : Ordering) → column_order c d ≡ o → ordering_then o (columns_order s t) ≡ Less
        → (columns_order s t ≡ Less → IsEarlier s t) → IsEarlier (c ∷ s) (d ∷ t)
    at Less e m later = inl e
    at Equal e m later = inr (column_order-equal c d e, later m)
    at Greater e m later = cc

pub less-order : (s t : List (List Cell)) → IsEarlier s t → columns_order s t ≡ Less
less-order s [] h = absurd h
less-order [] (d ∷ t) h = absurd h
less-order (c ∷ s) (d ∷ t) (inl h) = ap (λ o. ordering_then o (columns_order s t)) h
less-order (c ∷ s) (d ∷ t) (inr h) =
    ap (λ o. ordering_then o (columns_order s t)) (ap (column_order c) (sym h.0) ∙ column_order-itself c)
    ∙ less-order s t h.1

pub order-equal : (s t : List (List Cell)) → length s ≡ length t → columns_order s t ≡ Equal → s ≡ t
order-equal [] [] e h = refl
order-equal [] (d ∷ t) e h = absurd (omega arith)
order-equal (c ∷ s) [] e h = absurd (omega arith)
order-equal (c ∷ s) (d ∷ t) e h = at (column_order c d) refl h (order-equal s t (omega arith))
  where
    at : (o : Ordering) → column_order c d ≡ o → ordering_then o (columns_order s t) ≡ Equal
        → (columns_order s t ≡ Equal → s ≡ t) → c ∷ s ≡ d ∷ t
    at Less e m later = cc
    at Equal e m later = ap (λ x. x ∷ s) (column_order-equal c d e) ∙ ap (λ x. d ∷ x) (later m)
    at Greater e m later = cc

pub order-itself : (s : List (List Cell)) → columns_order s s ≡ Equal
order-itself [] = refl
order-itself (c ∷ s) = ap (λ o. ordering_then o (columns_order s s)) (column_order-itself c) ∙ order-itself s

-- with one column more, the first difference is that of before, or else that of the column
pub order-push : (s p : List (List Cell)) (col : List Cell) → length p < length s
    → columns_order s (p ++ col ∷ []) ≡ ordering_then (columns_order s p)
    (column_order (slice_index_or s (length p) []) col)
order-push [] p col h = absurd (omega arith)
order-push (c ∷ s) [] col h = last (column_order c col) s
  where
    last : (o : Ordering) (s : List (List Cell)) → ordering_then o (columns_order s []) ≡ ordering_then Equal o
    last Less s = refl
    last Equal [] = refl
    last Equal (d ∷ s) = refl
    last Greater s = refl
order-push (c ∷ s) (d ∷ p) col h =
    ap (ordering_then (column_order c d)) (order-push s p col (omega arith))
    ∙ again (column_order c d) (columns_order s p) (column_order (slice_index_or s (length p) []) col)
  where
    again : (a b o : Ordering) → ordering_then a (ordering_then b o) ≡ ordering_then (ordering_then a b) o
    again Less b o = refl
    again Equal b o = refl
    again Greater b o = refl
