-- Reading order of pitches: nothing is earlier than what is earlier than it (`earlier-reversed`),
-- and of two lists of one length one is earlier or they are equal (`earlier-cases`).
use Rattle.std.specs.Prelude.{◌≡◌, ◌⊎◌, List, [], ◌∷◌, ◌++◌, length, refl}
use Rattle.std.specs.Ordering.{ordering_reverse}
use Rattle.std.specs.declared.cmp.Ordering.{Ordering}
use Rattle.std.specs.declared.cmp.Ordering.TheVariants.{Less, Equal, Greater}
use Rattle.std.proofs.Common.{arith, inl, inr, ap, sym, ◌∙◌}
use Rattle.std.proofs.lemmas.Cmp.{tied_itself}
use Rattle.fux_pitch.specs.declared.pitch.Pitch.{Pitch}
use Rattle.fux_grid.specs.Order.{pitch_order}
use Rattle.fux_grid.proofs.OrderLemmas.{pitch_order-equal, pitch_order-total}
use Rattle.cantus_space.specs.Lawful.{IsEarlier}

pub pitch-itself : (p : Pitch) → pitch_order p p ≡ Equal
pitch-itself = tied_itself pitch_order-total

pub lower-reversed : (p q : Pitch) → pitch_order p q ≡ Less → pitch_order q p ≡ Less → ⊥
lower-reversed p q h k =
    let other : pitch_order p q ≡ Greater = pitch_order-total.antisymm p q ∙ ap ordering_reverse k in
    let clash : Less ≡ Greater = sym h ∙ other in
    cc

lower-itself : (p q : Pitch) → p ≡ q → pitch_order p q ≡ Less → ⊥
lower-itself p q e h =
    let itself : pitch_order p q ≡ Equal = ap (pitch_order p) (sym e) ∙ pitch-itself p in
    let clash : Less ≡ Equal = sym h ∙ itself in
    cc

pub earlier-reversed : (s t : List Pitch) → IsEarlier s t → IsEarlier t s → ⊥
earlier-reversed s [] h k = absurd h
earlier-reversed [] (q ∷ t) h k = absurd h
earlier-reversed (p ∷ s) (q ∷ t) (inl h) (inl k) = lower-reversed p q h k
earlier-reversed (p ∷ s) (q ∷ t) (inl h) (inr k) = lower-itself p q (sym k.0) h
earlier-reversed (p ∷ s) (q ∷ t) (inr h) (inl k) = lower-itself q p (sym h.0) k
earlier-reversed (p ∷ s) (q ∷ t) (inr h) (inr k) = earlier-reversed s t h.1 k.1

pub earlier-itself : (s : List Pitch) → IsEarlier s s → ⊥
earlier-itself s h = earlier-reversed s s h h

pub earlier-cases : (s t : List Pitch) → length s ≡ length t → IsEarlier s t ⊎ ((s ≡ t) ⊎ IsEarlier t s)
earlier-cases [] [] e = inr (inl refl)
earlier-cases [] (q ∷ t) e = absurd (omega arith)
earlier-cases (p ∷ s) [] e = absurd (omega arith)
earlier-cases (p ∷ s) (q ∷ t) e = at (pitch_order p q) refl (earlier-cases s t (omega arith))
  where
    at : (o : Ordering) → pitch_order p q ≡ o → IsEarlier s t ⊎ ((s ≡ t) ⊎ IsEarlier t s) → IsEarlier (p ∷ s) (q ∷ t)
        ⊎ ((p ∷ s ≡ q ∷ t) ⊎ IsEarlier (q ∷ t) (p ∷ s))
    at Less h rest = inl (inl h)
    at Greater h rest = inr (inr (inl (pitch_order-total.antisymm q p ∙ ap ordering_reverse h)))
    at Equal h (inl k) = inl (inr (pitch_order-equal p q h, k))
    at Equal h (inr (inl k)) = inr (inl (ap (λ x. x ∷ s) (pitch_order-equal p q h) ∙ ap (λ x. q ∷ x) k))
    at Equal h (inr (inr k)) = inr (inr (inr (sym (pitch_order-equal p q h), k)))

-- what comes after the first difference changes nothing
pub earlier-append : (s t w : List Pitch) → IsEarlier s t → IsEarlier s (t ++ w)
earlier-append s [] w h = absurd h
earlier-append [] (q ∷ t) w h = absurd h
earlier-append (p ∷ s) (q ∷ t) w (inl h) = inl h
earlier-append (p ∷ s) (q ∷ t) w (inr h) = inr (h.0, earlier-append s t w h.1)
