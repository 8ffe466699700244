-- How a cantus goes against pitches and one more (`order-push`, `order-past`).
use Rattle.std.specs.Prelude.{◌≡◌, ◌<◌, ◌≤◌, List, [], ◌∷◌, ◌++◌, length, slice_index_or, refl}
use Rattle.std.specs.Ordering.{ordering_then}
use Rattle.std.specs.declared.cmp.Ordering.{Ordering}
use Rattle.std.specs.declared.cmp.Ordering.TheVariants.{Less, Equal, Greater}
use Rattle.std.proofs.Common.{arith, ap, ◌∙◌}
use Rattle.fux_pitch.specs.declared.pitch.Pitch.{Pitch}
use Rattle.fux_grid.specs.Order.{pitch_order}
use Rattle.cantus_check.specs.Writer.{pitches_order}

-- the first difference is that of before, or else that of the new pitch
pub order-push : (s ps : List Pitch) (p d : Pitch) → length ps < length s
    → pitches_order s (ps ++ p ∷ []) ≡ ordering_then (pitches_order s ps) (pitch_order (slice_index_or s (length ps) d) p)
order-push [] ps p d h = absurd (omega (arith, h))
order-push (q ∷ s) [] p d h = last (pitch_order q p) s
  where
    last : (o : Ordering) (s : List Pitch) → ordering_then o (pitches_order s []) ≡ ordering_then Equal o
    last Less s = refl
    last Equal [] = refl
    last Equal (r ∷ s) = refl
    last Greater s = refl
order-push (q ∷ s) (r ∷ ps) p d h =
    ap (ordering_then (pitch_order q r)) (order-push s ps p d (omega (arith, h)))
    ∙ again (pitch_order q r) (pitches_order s ps) (pitch_order (slice_index_or s (length ps) d) p)
  where
    again : (a b o : Ordering) → ordering_then a (ordering_then b o) ≡ ordering_then (ordering_then a b) o
    again Less b o = refl
    again Equal b o = refl
    again Greater b o = refl

-- behind its end nothing changes
pub order-past : (s ps : List Pitch) (p : Pitch) → length s ≤ length ps → pitches_order s (ps ++ p ∷ []) ≡ pitches_order s ps
order-past [] ps p h = refl
order-past (q ∷ s) [] p h = absurd (omega (arith, h))
order-past (q ∷ s) (r ∷ ps) p h = ap (ordering_then (pitch_order q r)) (order-past s ps p (omega (arith, h)))
