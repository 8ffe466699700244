-- Sets of shapes as bits.
use Rattle.std.proofs.Common.{◌≡◌, ℕ, zero, suc, ◌+◌, ◌*◌, ◌/◌, ◌%◌, ◌<◌, min, ◌==◌, Bool, true, false, ◌&&◌, ◌||◌, List, [], ◌∷◌, ◌++◌, length, bit_and, refl, ap, sym, ◌∙◌, arith}
use Rattle.std.specs.Prelude.{nat_eq, not, slice_index, if◌then◌else◌}
use Rattle.std.specs.List.{list_any, starts_with}
use Rattle.std.specs.Int.{bit_at}
use Rattle.std.proofs.Math.Bool.{and-true, and_assoc}
use Rattle.std.proofs.lemmas.Bool.{ne_eqb, eqb-true, eq-eqb}
use Rattle.std.proofs.lemmas.Nat.Bits.{bit_at_and, bit_at_lowest, bit_at-suc, same_from_bits}
use Rattle.rhythm_cadence.specs.Parts.{shape_set}

-- one letter more: the shape has it behind those that it begins with
same_test : (a b : ℕ) → (a == b) ≡ (b == a)
same_test a b =
    decide (a == b) (b == a) (λ e. eq-eqb b a (sym (eqb-true a b e))) (λ e. eq-eqb a b (sym (eqb-true b a e)))
  where
    decide : (x y : Bool) → (x ≡ true → y ≡ true) → (y ≡ true → x ≡ true) → x ≡ y
    decide true y f g = sym (f refl)
    decide false true f g = g refl
    decide false false f g = refl

pub starts_with-more : (shape letters : List ℕ) (l : ℕ) → 0 < l → starts_with nat_eq shape (letters ++ l ∷ [])
    ≡ (starts_with nat_eq shape letters && (slice_index shape (length letters) == l))
starts_with-more [] [] l h = sym (ne_eqb 0 l (λ e. omega arith))
starts_with-more (s ∷ shape) [] l h = and-true (nat_eq l s) ∙ same_test l s
starts_with-more [] (x ∷ letters) l h = refl
starts_with-more (s ∷ shape) (x ∷ letters) l h =
    ap (λ b. nat_eq x s && b) (starts_with-more shape letters l h)
    ∙ sym (and_assoc (nat_eq x s) (starts_with nat_eq shape letters) (slice_index shape (length letters) == l))

-- tests that agree pick the same set
pub shape_set-same : (f g : List ℕ → Bool) (shapes : List (List ℕ)) → ((shape : List ℕ) → f shape ≡ g shape)
    → shape_set f shapes ≡ shape_set g shapes
shape_set-same f g [] e = refl
shape_set-same f g (shape ∷ shapes) e = ap (λ b. (if b then 1 else 0) + 2 * shape_set f shapes) (e shape)
    ∙ ap (λ n. (if g shape then 1 else 0) + 2 * n) (shape_set-same f g shapes e)

-- the bits of a number that begins with one bit
half : (b : Bool) (n : ℕ) → ((if b then 1 else 0) + 2 * n) / 2 ≡ n
half true n = omega arith
half false n = omega arith

lowest : (b : Bool) (n : ℕ) → ((if b then 1 else 0) + 2 * n) % 2 ≡ (if b then 1 else 0)
lowest true n = omega arith
lowest false n = omega arith

both_bits : (a b : Bool) → min (if a then 1 else 0) (if b then 1 else 0) ≡ (if (a && b) then 1 else 0)
both_bits true true = refl
both_bits true false = refl
both_bits false true = refl
both_bits false false = refl

bit_at-first : (b : Bool) (n : ℕ) → bit_at ((if b then 1 else 0) + 2 * n) 0 ≡ (if b then 1 else 0)
bit_at-first b n = bit_at_lowest ((if b then 1 else 0) + 2 * n) ∙ lowest b n

bit_at-later : (b : Bool) (n i : ℕ) → bit_at ((if b then 1 else 0) + 2 * n) (suc i) ≡ bit_at n i
bit_at-later b n i = bit_at-suc ((if b then 1 else 0) + 2 * n) i ∙ ap (λ m. bit_at m i) (half b n)

-- the common part of two such numbers
bit_and-first : (a b : Bool) (m n k : ℕ) → bit_and m n ≡ k
    → bit_and ((if a then 1 else 0) + 2 * m) ((if b then 1 else 0) + 2 * n) ≡ (if (a && b) then 1 else 0) + 2 * k
bit_and-first a b m n k e = same_from_bits (bit_and ((if a then 1 else 0) + 2 * m) ((if b then 1 else 0) + 2 * n))
    ((if (a && b) then 1 else 0) + 2 * k) bits
  where
    bits : (i : ℕ) → bit_at (bit_and ((if a then 1 else 0) + 2 * m) ((if b then 1 else 0) + 2 * n)) i
        ≡ bit_at ((if (a && b) then 1 else 0) + 2 * k) i
    bits zero =
        bit_at_and ((if a then 1 else 0) + 2 * m) ((if b then 1 else 0) + 2 * n) 0
        ∙ ap (λ x. min x (bit_at ((if b then 1 else 0) + 2 * n) 0)) (bit_at-first a m)
        ∙ ap (min (if a then 1 else 0)) (bit_at-first b n)
        ∙ both_bits a b ∙ sym (bit_at-first (a && b) k)
    bits (suc i) =
        bit_at_and ((if a then 1 else 0) + 2 * m) ((if b then 1 else 0) + 2 * n) (suc i)
        ∙ ap (λ x. min x (bit_at ((if b then 1 else 0) + 2 * n) (suc i))) (bit_at-later a m i)
        ∙ ap (min (bit_at m i)) (bit_at-later b n i)
        ∙ sym (bit_at_and m n i) ∙ ap (λ x. bit_at x i) e ∙ sym (bit_at-later (a && b) k i)

-- the shapes of two sets are those that pass both tests
pub bit_and-shape_set : (f g : List ℕ → Bool) (shapes : List (List ℕ))
    → bit_and (shape_set f shapes) (shape_set g shapes) ≡ shape_set (λ shape. f shape && g shape) shapes
bit_and-shape_set f g [] = refl
bit_and-shape_set f g (shape ∷ shapes) = bit_and-first (f shape) (g shape) (shape_set f shapes) (shape_set g shapes)
    (shape_set (λ shape. f shape && g shape) shapes) (bit_and-shape_set f g shapes)

-- a set is empty where no shape passes
pub empty_set : (f : List ℕ → Bool) (shapes : List (List ℕ)) → (shape_set f shapes == 0) ≡ not (list_any f shapes)
empty_set f [] = refl
empty_set f (shape ∷ shapes) = join (f shape) (shape_set f shapes) (list_any f shapes) (empty_set f shapes)
  where
    join : (b : Bool) (n : ℕ) (any : Bool) → (n == 0) ≡ not any → ((if b then 1 else 0) + 2 * n == 0) ≡ not (b || any)
    join true n any e = ne_eqb (1 + 2 * n) 0 (λ k. omega arith)
    join false zero any e = e
    join false (suc n) any e =
        ne_eqb (0 + 2 * suc n) 0 (λ k. omega arith) ∙ sym (ne_eqb (suc n) 0 (λ k. omega arith)) ∙ e
