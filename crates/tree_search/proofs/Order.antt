-- The order of paths.
use Rattle.std.proofs.Common.{◌≡◌, ℕ, ◌+◌, ◌<◌, ◌≤◌, ◌⊎◌, inl, inr, ⊎_elim, List, [], ◌∷◌, ◌++◌, length, refl, sym, ap₂, subst, ◌∙◌, arith}
use Rattle.std.proofs.lemmas.Bool.{cases_lt}
use Rattle.tree_search.specs.Answer.{IsBefore}
use Rattle.tree_search.specs.Walks.{BeginsWith}

-- before a later child: before an earlier one, or from one of those between
pub IsBefore-later : (start path : List ℕ) (from to : ℕ) → IsBefore path (start ++ to ∷ []) →
    IsBefore path (start ++ from ∷ []) ⊎ ((k : ℕ) × (from ≤ k) × (k < to) × BeginsWith (start ++ k ∷ []) path)
IsBefore-later [] [] from to h = inl tt
IsBefore-later [] (x ∷ path) from to (inl below) =
    ⊎_elim (λ less. inl (inl less)) (λ more. inr (x, more, below, (path, refl))) (cases_lt x from)
IsBefore-later [] (x ∷ path) from to (inr same) = absurd same.1
IsBefore-later (a ∷ start) [] from to h = inl tt
IsBefore-later (a ∷ start) (x ∷ path) from to (inl below) = inl (inl below)
IsBefore-later (a ∷ start) (x ∷ path) from to (inr same) =
    ⊎_elim (λ before. inl (inr (same.0, before)))
    (λ by. inr (by.0, by.1, by.2, (by.3.0, ap₂ (λ y ys. y ∷ ys) same.0 by.3.1)))
    (IsBefore-later start path from to same.1)

-- before the next child: before this one, or from it
pub IsBefore-next : (start path : List ℕ) (k : ℕ) → IsBefore path (start ++ (k + 1) ∷ [])
    → IsBefore path (start ++ k ∷ []) ⊎ BeginsWith (start ++ k ∷ []) path
IsBefore-next start path k h =
    ⊎_elim (λ before. inl before)
    (λ by. let same : by.0 ≡ k = omega (arith, by.1, by.2) in
    inr (subst (λ (j : ℕ). BeginsWith (start ++ j ∷ []) path) same by.3))
    (IsBefore-later start path k (k + 1) h)

-- what is from a child is before each later one
child_before : (start rest : List ℕ) (j k : ℕ) → j < k → IsBefore ((start ++ j ∷ []) ++ rest) (start ++ k ∷ [])
child_before [] rest j k less = inl less
child_before (a ∷ start) rest j k less = inr (refl, child_before start rest j k less)

pub IsBefore-from : (start path : List ℕ) (j k : ℕ) → j < k → BeginsWith (start ++ j ∷ []) path
    → IsBefore path (start ++ k ∷ [])
IsBefore-from start path j k less from =
    subst (λ (p : List ℕ). IsBefore p (start ++ k ∷ [])) (sym from.1) (child_before start from.0 j k less)

-- before a path: before all that is below it
pub IsBefore-below : (start rest path : List ℕ) → IsBefore path start → IsBefore path (start ++ rest)
IsBefore-below [] rest path h = absurd h
IsBefore-below (a ∷ start) rest [] h = tt
IsBefore-below (a ∷ start) rest (x ∷ path) (inl less) = inl less
IsBefore-below (a ∷ start) rest (x ∷ path) (inr same) = inr (same.0, IsBefore-below start rest path same.1)

-- before the first child: before the parent, or no longer than it
pub IsBefore-first : (start path : List ℕ) → IsBefore path (start ++ 0 ∷ []) → IsBefore path start
    ⊎ (length path ≤ length start)
IsBefore-first [] [] h = inr (omega arith)
IsBefore-first [] (x ∷ path) (inl less) = absurd (omega arith)
IsBefore-first [] (x ∷ path) (inr same) = absurd same.1
IsBefore-first (a ∷ start) [] h = inl tt
IsBefore-first (a ∷ start) (x ∷ path) (inl less) = inl (inl less)
IsBefore-first (a ∷ start) (x ∷ path) (inr same) =
    ⊎_elim (λ before. inl (inr (same.0, before))) (λ short. inr (omega (arith, short)))
    (IsBefore-first start path same.1)

-- before a child: before each later one
pub IsBefore-on : (start path : List ℕ) (from to : ℕ) → from ≤ to → IsBefore path (start ++ from ∷ [])
    → IsBefore path (start ++ to ∷ [])
IsBefore-on [] [] from to le h = tt
IsBefore-on [] (x ∷ path) from to le (inl less) = inl (omega arith)
IsBefore-on [] (x ∷ path) from to le (inr same) = absurd same.1
IsBefore-on (a ∷ start) [] from to le h = tt
IsBefore-on (a ∷ start) (x ∷ path) from to le (inl less) = inl less
IsBefore-on (a ∷ start) (x ∷ path) from to le (inr same) = inr (same.0, IsBefore-on start path from to le same.1)

-- before what is below a child: before the next child
pub IsBefore-up : (start rest path : List ℕ) (k : ℕ) → IsBefore path ((start ++ k ∷ []) ++ rest)
    → IsBefore path (start ++ (k + 1) ∷ [])
IsBefore-up [] rest [] k h = tt
IsBefore-up [] rest (x ∷ path) k (inl less) = inl (omega arith)
IsBefore-up [] rest (x ∷ path) k (inr same) = inl (omega (arith, same.0))
IsBefore-up (a ∷ start) rest [] k h = tt
IsBefore-up (a ∷ start) rest (x ∷ path) k (inl less) = inl less
IsBefore-up (a ∷ start) rest (x ∷ path) k (inr same) = inr (same.0, IsBefore-up start rest path k same.1)

pub IsBefore-self : (path : List ℕ) → IsBefore path path → ⊥
IsBefore-self [] h = h
IsBefore-self (a ∷ path) (inl less) = omega (arith, less)
IsBefore-self (a ∷ path) (inr same) = IsBefore-self path same.1

pub IsBefore-trans : (p q r : List ℕ) → IsBefore p q → IsBefore q r → IsBefore p r
IsBefore-trans p q [] h k = absurd k
IsBefore-trans p [] (c ∷ r) h k = absurd h
IsBefore-trans [] (b ∷ q) (c ∷ r) h k = tt
IsBefore-trans (a ∷ p) (b ∷ q) (c ∷ r) (inl h) (inl k) = inl (omega (arith, h, k))
IsBefore-trans (a ∷ p) (b ∷ q) (c ∷ r) (inl h) (inr k) = inl (omega (arith, h, k.0))
IsBefore-trans (a ∷ p) (b ∷ q) (c ∷ r) (inr h) (inl k) = inl (omega (arith, h.0, k))
IsBefore-trans (a ∷ p) (b ∷ q) (c ∷ r) (inr h) (inr k) = inr (h.0 ∙ k.0, IsBefore-trans p q r h.1 k.1)

-- of two paths of one length, one is before the other, or they are one
pub compared : (p q : List ℕ) → length p ≡ length q → (p ≡ q) ⊎ (IsBefore p q ⊎ IsBefore q p)
compared [] [] same = inl refl
compared [] (b ∷ q) same = absurd (omega (arith, same))
compared (a ∷ p) [] same = absurd (omega (arith, same))
compared (a ∷ p) (b ∷ q) same = ⊎_elim
    (λ less. inr (inl (inl less)))
    (λ more. ⊎_elim
    (λ less. inr (inr (inl less)))
    (λ no_less.
    let level : a ≡ b = omega (arith, more, no_less) in
    ⊎_elim
    (λ one. inl (ap₂ (λ x xs. x ∷ xs) level one))
    (λ apart. inr (⊎_elim (λ before. inl (inr (level, before))) (λ after. inr (inr (sym level, after))) apart))
    (compared p q (omega (arith, same))))
    (cases_lt b a))
    (cases_lt a b)
