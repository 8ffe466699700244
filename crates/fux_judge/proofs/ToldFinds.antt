-- The first of a list that passes a test, where some are passed over.
use Rattle.std.proofs.Common.{◌≡◌, ℕ, ◌+◌, ◌<◌, ◌≤◌, Bool, true, false, List, drop, get_or, length, ap, ◌∙◌}
use Rattle.std.specs.Prelude.{Some, None, cond}
use Rattle.std.specs.List.{find}
use Rattle.std.proofs.lemmas.List.{drop_all, drop_more}

pub find_here : (f : ℕ → Bool) (xs : List ℕ) (i d : ℕ) → i < length xs → f (get_or xs i d) ≡ true
    → find f (drop i xs) ≡ Some (get_or xs i d)
find_here f xs i d h e =
    ap (find f) (drop_more xs i d h) ∙ ap (λ b. cond b (Some (get_or xs i d)) (find f (drop (i + 1) xs))) e

pub find_later : (f : ℕ → Bool) (xs : List ℕ) (i d : ℕ) → i < length xs → f (get_or xs i d) ≡ false
    → find f (drop i xs) ≡ find f (drop (i + 1) xs)
find_later f xs i d h e =
    ap (find f) (drop_more xs i d h) ∙ ap (λ b. cond b (Some (get_or xs i d)) (find f (drop (i + 1) xs))) e

pub nothing_left : (f : ℕ → Bool) (xs : List ℕ) (i : ℕ) → length xs ≤ i → find f (drop i xs) ≡ None
nothing_left f xs i h = ap (find f) (drop_all i xs h)
