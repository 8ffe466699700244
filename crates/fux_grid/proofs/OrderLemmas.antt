-- Reading order is a strict total order.
use Rattle.std.proofs.Common.{◌≡◌, ◌⊎◌, inl, inr, List, [], ◌∷◌, ◌++◌, length, ℤ, pos, ◌+ℤ◌, refl, ap, sym, ◌∙◌, arith}
use Rattle.std.specs.Cmp.{IsTotalOrder}
use Rattle.std.specs.FinMap.{IsAntisymmetric, nat_cmp-IsAntisymmetric, int_cmp-IsAntisymmetric, slice_cmp-IsAntisymmetric}
use Rattle.std.specs.Ordering.{ordering_then, ordering_reverse, nat_cmp, int_cmp}
use Rattle.std.specs.declared.cmp.Ordering.{Ordering}
use Rattle.std.specs.declared.cmp.Ordering.TheVariants.{Less, Equal, Greater}
use Rattle.std.proofs.lemmas.Int.{ints}
use Rattle.std.proofs.lemmas.Cmp.{nat_cmp_total, int_cmp_total, on_total, then_total, lists_total, tied_itself}
use Rattle.fux_pitch.specs.Pitch.{key_of, degree_of, alter_of}
use Rattle.fux_pitch.specs.Key.{natural_key}
use Rattle.fux_pitch.proofs.PitchLemmas.{pitch_ext}
use Rattle.fux_grid.specs.declared.cell.Cell.{Cell}
use Rattle.fux_grid.specs.declared.cell.Cell.TheVariants.{Rest, Hold, Start}
use Rattle.fux_grid.specs.Order.{pitch_order, cell_order, column_order, IsEarlier}

both_equal : (a b : Ordering) → ordering_then a b ≡ Equal → (a ≡ Equal) × (b ≡ Equal)
both_equal Less b h = cc
both_equal Equal b h = (refl, h)
both_equal Greater b h = cc

pub pitch_order-total : IsTotalOrder pitch_order
pitch_order-total = then_total (on_total key_of int_cmp_total) (on_total degree_of nat_cmp_total)

-- only one pitch has this key and this degree
pub pitch_order-equal : IsAntisymmetric pitch_order
pitch_order-equal p q h =
    let both = both_equal (int_cmp (key_of p) (key_of q)) (nat_cmp (degree_of p) (degree_of q)) h in
    let keys : key_of p ≡ key_of q = int_cmp-IsAntisymmetric _ _ both.0 in
    let degrees : degree_of p ≡ degree_of q = nat_cmp-IsAntisymmetric _ _ both.1 in
    let naturals : pos (natural_key (degree_of p))
    ≡ pos (natural_key (degree_of q)) = ap (λ d. pos (natural_key d)) degrees in
    pitch_ext p q degrees (cancelled (pos (natural_key (degree_of p))) (alter_of p) (alter_of q)
    (keys ∙ ap (λ n. n +ℤ alter_of q) (sym naturals)))
  where
    cancelled : (n a b : ℤ) → n +ℤ a ≡ n +ℤ b → a ≡ b
    cancelled n a b h = omega (arith, ints)

-- only equal cells are equal in the order
pub cell_order-equal : IsAntisymmetric cell_order
cell_order-equal Rest Rest h = refl
cell_order-equal Rest (Hold q) h = cc
cell_order-equal Rest (Start q) h = cc
cell_order-equal (Hold p) Rest h = cc
cell_order-equal (Hold p) (Hold q) h = ap Hold (pitch_order-equal p q h)
cell_order-equal (Hold p) (Start q) h = cc
cell_order-equal (Start p) Rest h = cc
cell_order-equal (Start p) (Hold q) h = cc
cell_order-equal (Start p) (Start q) h = ap Start (pitch_order-equal p q h)

pub cell_order-total : IsTotalOrder cell_order
cell_order-total = record { antisymm = reversed; trans = chained; congr = alike }
  where
    reversed : (c d : Cell) → cell_order c d ≡ ordering_reverse (cell_order d c)
    reversed Rest Rest = refl
    reversed Rest (Hold q) = refl
    reversed Rest (Start q) = refl
    reversed (Hold p) Rest = refl
    reversed (Hold p) (Hold q) = pitch_order-total.antisymm p q
    reversed (Hold p) (Start q) = refl
    reversed (Start p) Rest = refl
    reversed (Start p) (Hold q) = refl
    reversed (Start p) (Start q) = pitch_order-total.antisymm p q

    chained : (c d e : Cell) → cell_order c d ≡ Less → cell_order d e ≡ Less → cell_order c e ≡ Less
    chained (Hold p) (Hold q) (Hold r) h k = pitch_order-total.trans p q r h k
    chained (Start p) (Start q) (Start r) h k = pitch_order-total.trans p q r h k
    chained Rest Rest e h k = cc
    chained Rest (Hold q) Rest h k = cc
    chained Rest (Hold q) (Hold r) h k = refl
    chained Rest (Hold q) (Start r) h k = refl
    chained Rest (Start q) Rest h k = cc
    chained Rest (Start q) (Hold r) h k = cc
    chained Rest (Start q) (Start r) h k = refl
    chained (Hold p) Rest e h k = cc
    chained (Hold p) (Hold q) Rest h k = cc
    chained (Hold p) (Hold q) (Start r) h k = refl
    chained (Hold p) (Start q) Rest h k = cc
    chained (Hold p) (Start q) (Hold r) h k = cc
    chained (Hold p) (Start q) (Start r) h k = refl
    chained (Start p) Rest e h k = cc
    chained (Start p) (Hold q) e h k = cc
    chained (Start p) (Start q) Rest h k = cc
    chained (Start p) (Start q) (Hold r) h k = cc

    alike : (c d e : Cell) → cell_order c d ≡ Equal → cell_order c e ≡ cell_order d e
    alike c d e h = ap (λ x. cell_order x e) (cell_order-equal c d h)

pub column_order-total : IsTotalOrder column_order
column_order-total = lists_total cell_order-total

-- only equal columns are equal in the order
pub column_order-equal : IsAntisymmetric column_order
column_order-equal = slice_cmp-IsAntisymmetric cell_order-equal

pub column_order-itself : (c : List Cell) → column_order c c ≡ Equal
column_order-itself = tied_itself column_order-total

-- less one way exactly where greater the other way
pub column_order-reversed : (c d : List Cell) → column_order c d ≡ ordering_reverse (column_order d c)
column_order-reversed = column_order-total.antisymm

pub column_order-chained : (c d e : List Cell) → column_order c d ≡ Less → column_order d e ≡ Less → column_order c e
    ≡ Less
column_order-chained = column_order-total.trans

not_less : (c d : List Cell) → c ≡ d → column_order c d ≡ Less → ⊥
not_less c d e h = let itself : column_order c d ≡ Equal = ap (column_order c) (sym e) ∙ column_order-itself c in cc

-- no list is earlier than itself
pub earlier-itself : (s : List (List Cell)) → IsEarlier s s → ⊥
earlier-itself [] h = h
earlier-itself (c ∷ s) (inl h) = not_less c c refl h
earlier-itself (c ∷ s) (inr h) = earlier-itself s h.1

pub earlier-chained : (s t u : List (List Cell)) → IsEarlier s t → IsEarlier t u → IsEarlier s u
earlier-chained (c ∷ s) (d ∷ t) (e ∷ u) (inl h) (inl k) = inl (column_order-chained c d e h k)
earlier-chained (c ∷ s) (d ∷ t) (e ∷ u) (inl h) (inr k) = inl (rw (← k.0) h)
earlier-chained (c ∷ s) (d ∷ t) (e ∷ u) (inr h) (inl k) = inl (rw h.0 k)
earlier-chained (c ∷ s) (d ∷ t) (e ∷ u) (inr h) (inr k) = inr (h.0 ∙ k.0, earlier-chained s t u h.1 k.1)
earlier-chained s [] u h k = absurd h
earlier-chained [] (d ∷ t) u h k = absurd h
earlier-chained (c ∷ s) (d ∷ t) [] h k = absurd k

-- of two lists of equal length one is earlier, or they are equal
pub earlier-cases : (s t : List (List Cell)) → length s ≡ length t → IsEarlier s t ⊎ ((s ≡ t) ⊎ IsEarlier t s)
earlier-cases [] [] e = inr (inl refl)
earlier-cases [] (d ∷ t) e = absurd (omega arith)
earlier-cases (c ∷ s) [] e = absurd (omega arith)
earlier-cases (c ∷ s) (d ∷ t) e = at (column_order c d) refl (earlier-cases s t (omega arith))
  where
    at : (o : Ordering) → column_order c d ≡ o → IsEarlier s t ⊎ ((s ≡ t) ⊎ IsEarlier t s) → IsEarlier (c ∷ s) (d ∷ t)
        ⊎ ((c ∷ s ≡ d ∷ t) ⊎ IsEarlier (d ∷ t) (c ∷ s))
    at Less h rest = inl (inl h)
    at Greater h rest = inr (inr (inl (column_order-reversed d c ∙ ap ordering_reverse h)))
    at Equal h (inl k) = inl (inr (column_order-equal c d h, k))
    at Equal h (inr (inl k)) = inr (inl (ap (λ x. x ∷ s) (column_order-equal c d h) ∙ ap (λ x. d ∷ x) k))
    at Equal h (inr (inr k)) = inr (inr (inr (sym (column_order-equal c d h), k)))

-- what comes after the first difference changes nothing
pub earlier-append : (s t u w : List (List Cell)) → IsEarlier s t → IsEarlier (s ++ u) (t ++ w)
earlier-append (c ∷ s) (d ∷ t) u w (inl h) = inl h
earlier-append (c ∷ s) (d ∷ t) u w (inr h) = inr (h.0, earlier-append s t u w h.1)
earlier-append s [] u w h = absurd h
earlier-append [] (d ∷ t) u w h = absurd h
