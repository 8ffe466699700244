-- What begins a shape, and what goes on with it.
use Rattle.std.proofs.Common.{◌≡◌, ℕ, zero, suc, ◌-◌, true, List, [], ◌∷◌, ◌++◌, length, take, refl, ap, inl, inr, arith}
use Rattle.std.specs.Prelude.{nat_eq}
use Rattle.std.specs.List.{starts_with}
use Rattle.std.proofs.lemmas.List.{map-append}
use Rattle.std.proofs.lemmas.Bool.{and_parts, and_from, or_cases, or_left, or_right}
use Rattle.fux_grid.specs.declared.cell.Cell.{Cell}
use Rattle.fux_grid.specs.Cells.{cell_in}
use Rattle.fux_grid.specs.Shapes.{letter_of, begins_shape}
use Rattle.fux_grid.specs.Letters.{letters_of}

-- a shape that begins with letters begins with fewer of them
starts_with-fewer : (shape letters more : List ℕ) → starts_with nat_eq shape (letters ++ more) ≡ true
    → starts_with nat_eq shape letters ≡ true
starts_with-fewer shape [] more h = refl
starts_with-fewer [] (l ∷ letters) more h = h
starts_with-fewer (s ∷ shape) (l ∷ letters) more h =
    let both = and_parts (nat_eq l s) (starts_with nat_eq shape (letters ++ more)) h in
    and_from (nat_eq l s) (starts_with nat_eq shape letters) both.0 (starts_with-fewer shape letters more both.1)

-- letters that begin no shape begin none with more letters behind them
pub begins_shape-fewer : (shapes : List (List ℕ)) (letters more : List ℕ) → begins_shape shapes (letters ++ more) ≡ true
    → begins_shape shapes letters ≡ true
begins_shape-fewer [] letters more h = h
begins_shape-fewer (shape ∷ shapes) letters more h =
    elim (or_cases (starts_with nat_eq shape (letters ++ more)) (begins_shape shapes (letters ++ more)) h) [
      | inl e ↦ or_left (starts_with nat_eq shape letters) (begins_shape shapes letters)
          (starts_with-fewer shape letters more e)
      | inr e ↦ or_right (starts_with nat_eq shape letters) (begins_shape shapes letters)
          (begins_shape-fewer shapes letters more e)
    ]

-- the first columns of a list with more columns behind it
pub take-append : {A : Type 0} (n : ℕ) (xs ys : List A) → take n (xs ++ ys) ≡ take n xs ++ take (n - length xs) ys
take-append zero xs ys = let e : 0 - length xs ≡ 0 = omega arith in rw e refl
take-append (suc n) [] ys = let e : suc n - 0 ≡ suc n = omega arith in rw e refl
take-append (suc n) (x ∷ xs) ys =
    let e : suc n - suc (length xs) ≡ n - length xs = omega arith in rw e (ap (λ zs. x ∷ zs) (take-append n xs ys))

pub letters_of-append : (v : ℕ) (p t : List (List Cell)) → letters_of v (p ++ t) ≡ letters_of v p ++ letters_of v t
letters_of-append v p t = map-append (λ col. letter_of (cell_in col v)) p t
