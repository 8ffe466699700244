-- A path, number by number.
use Rattle.std.proofs.Common.{◌≡◌, ℕ, zero, suc, ◌+◌, ◌<◌, true, nat_lt, List, [], ◌∷◌, ◌++◌, length, take, slice_index_or, ap, ◌∙◌, subst, arith}
use Rattle.std.proofs.lemmas.List.{take_more, length-take-le}
use Rattle.fux_grid.specs.declared.exercise.Exercise.{Exercise}
use Rattle.fux_grid.specs.Menus.{menu_of}
use Rattle.rule_law.specs.Law.{first_true, second_true, below_from_test}
use Rattle.species_space.specs.Paths.{prefix_at, is_in_menus, prefix_at-append}

-- each number is that of a column of its menu
in_menus_at : (ex : Exercise) (j : ℕ) (path : List ℕ) → is_in_menus ex j path ≡ true → (i : ℕ) → i < length path
    → slice_index_or path i 0 < length (menu_of ex (j + i))
in_menus_at ex j [] h i lt = absurd (omega arith)
in_menus_at ex j (k ∷ path) h zero lt =
    let e : j ≡ j + 0 = omega arith in
    subst (λ n. k < length (menu_of ex n)) e
    (below_from_test k (length (menu_of ex j))
    (first_true (nat_lt k (length (menu_of ex j))) (is_in_menus ex (suc j) path) h))
in_menus_at ex j (k ∷ path) h (suc i) lt =
    let e : suc j + i ≡ j + suc i = omega arith in
    subst (λ n. slice_index_or path i 0 < length (menu_of ex n)) e
    (in_menus_at ex (suc j) path (second_true (nat_lt k (length (menu_of ex j))) (is_in_menus ex (suc j) path) h) i
    (omega arith))

pub number_in_menu : (ex : Exercise) (path : List ℕ) → is_in_menus ex 0 path ≡ true → (i : ℕ) → i < length path
    → slice_index_or path i 0 < length (menu_of ex i)
number_in_menu ex path h i lt =
    let e : 0 + i ≡ i = omega arith in
    subst (λ n. slice_index_or path i 0 < length (menu_of ex n)) e (in_menus_at ex 0 path h i lt)

-- a prefix that is longer by a number has its column as well
pub one_more_column : (ex : Exercise) (path : List ℕ) (i : ℕ) → i < length path → prefix_at ex (take (i + 1) path)
    ≡ prefix_at ex (take i path) ++ slice_index_or (menu_of ex i) (slice_index_or path i 0) [] ∷ []
one_more_column ex path i lt =
    ap (prefix_at ex) (take_more path i 0 lt)
    ∙ prefix_at-append ex (take i path) (slice_index_or path i 0)
    ∙ ap (λ n. prefix_at ex (take i path) ++ slice_index_or (menu_of ex n) (slice_index_or path i 0) [] ∷ [])
    (length-take-le i path (omega (arith, lt)))
