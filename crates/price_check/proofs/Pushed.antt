-- What holds of each element of a list holds with one more (`each_pushed`), and what holds of all is
-- had of one (`each_at`).
use Rattle.std.proofs.Common.{◌≡◌, ℕ, zero, suc, ◌<◌, List, [], ◌∷◌, ◌++◌, Some, arith, get_or, length, map, slice_get, subst, sym}
use Rattle.std.specs.List.{AllByRecursion}

some-one : {X : Type 0} (x y : X) → Some x ≡ Some y → x ≡ y
some-one x y e = cc

pub each_pushed : {X : Type 0} (P : ℕ → X → Type 0) (xs : List X) (x : X)
    → ((j : ℕ) (it : X) → slice_get xs j ≡ Some it → P j it) → P (length xs) x
    → (j : ℕ) (it : X) → slice_get (xs ++ x ∷ []) j ≡ Some it → P j it
each_pushed P [] x before here zero it e = subst (P 0) (some-one x it e) here
each_pushed P [] x before here (suc j) it e = cc
each_pushed P (y ∷ xs) x before here zero it e = before zero it e
each_pushed P (y ∷ xs) x before here (suc j) it e =
    each_pushed (λ k. P (suc k)) xs x (λ k other f. before (suc k) other f) here j it e

pub each_at : {X Y : Type 0} (P : Y → Type 0) (f : X → Y) (xs : List X) (k : ℕ) (x : X) → AllByRecursion P (map f xs)
    → k < length xs → x ≡ get_or xs k x → P (f x)
each_at P f [] k x all within is = absurd (omega (arith, within))
each_at P f (y ∷ xs) zero x all within is = subst (λ z. P (f z)) (sym is) all.0
each_at P f (y ∷ xs) (suc k) x all within is = each_at P f xs k x all.1 (omega (arith, within)) is
