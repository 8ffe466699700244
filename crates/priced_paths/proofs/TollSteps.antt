-- What a path is charged with a step more (`charged-append`), and that what goes on from a path has
-- its steps (`charged_start`).
use Rattle.std.proofs.Common.{◌≡◌, ℕ, ◌+◌, ◌||◌, suc, List, [], ◌∷◌, ◌++◌, length, Option, Some, None, Bool, true, false, refl, sym, ap, ◌∙◌, arith}
use Rattle.priced_paths.specs.Tolls.{sum_of, charged_from, has_reached_from}

sum_of-zero : (one : Option ℕ) → sum_of one (Some 0) ≡ one
sum_of-zero None = refl
sum_of-zero (Some x) = let e : x + 0 ≡ x = omega arith in ap (λ n. Some n) e

sum_of-zero_first : (one : Option ℕ) → sum_of (Some 0) one ≡ one
sum_of-zero_first None = refl
sum_of-zero_first (Some x) = let e : 0 + x ≡ x = omega arith in ap (λ n. Some n) e

sum_of-associates : (a b c : Option ℕ) → sum_of a (sum_of b c) ≡ sum_of (sum_of a b) c
sum_of-associates None b c = refl
sum_of-associates (Some x) None c = refl
sum_of-associates (Some x) (Some y) None = refl
sum_of-associates (Some x) (Some y) (Some z) =
    let e : x + (y + z) ≡ (x + y) + z = omega arith in ap (λ n. Some n) e

-- the start of a path and what goes on from it
charged_from-append : (toll : ℕ → ℕ → Option ℕ) (depth : ℕ) (path rest : List ℕ)
    → charged_from toll depth (path ++ rest)
    ≡ sum_of (charged_from toll depth path) (charged_from toll (depth + length path) rest)
charged_from-append toll depth [] rest =
    let e : depth ≡ depth + 0 = omega arith in
    ap (λ (d : ℕ). charged_from toll d rest) e ∙ sym (sum_of-zero_first (charged_from toll (depth + 0) rest))
charged_from-append toll depth (label ∷ path) rest =
    let e : (depth + 1) + length path ≡ depth + suc (length path) = omega arith in
    ap (sum_of (toll depth label)) (charged_from-append toll (depth + 1) path rest
    ∙ ap (λ (d : ℕ). sum_of (charged_from toll (depth + 1) path) (charged_from toll d rest)) e)
    ∙ sum_of-associates (toll depth label) (charged_from toll (depth + 1) path)
    (charged_from toll (depth + suc (length path)) rest)

pub charged-append : (toll : ℕ → ℕ → Option ℕ) (path : List ℕ) (label : ℕ)
    → charged_from toll 0 (path ++ label ∷ []) ≡ sum_of (charged_from toll 0 path) (toll (length path) label)
charged-append toll path label =
    let e : 0 + length path ≡ length path = omega arith in
    charged_from-append toll 0 path (label ∷ [])
    ∙ ap (λ (d : ℕ). sum_of (charged_from toll 0 path) (sum_of (toll d label) (Some 0))) e
    ∙ ap (sum_of (charged_from toll 0 path)) (sum_of-zero (toll (length path) label))

-- what is charged for all of a path is charged for its start too
first_there : (one other : Option ℕ) (sum : ℕ) → sum_of one other ≡ Some sum → (x : ℕ) × (one ≡ Some x)
first_there None other sum h = cc
first_there (Some x) other sum h = (x, refl)

pub charged_start : (toll : ℕ → ℕ → Option ℕ) (path rest : List ℕ) (charged : ℕ)
    → charged_from toll 0 (path ++ rest) ≡ Some charged → (x : ℕ) × (charged_from toll 0 path ≡ Some x)
charged_start toll path rest charged h =
    first_there (charged_from toll 0 path) (charged_from toll (0 + length path) rest) charged
    (sym (charged_from-append toll 0 path rest) ∙ h)

or-associates : (a b c : Bool) → (a || (b || c)) ≡ ((a || b) || c)
or-associates true b c = refl
or-associates false b c = refl

or-false : (a : Bool) → (a || false) ≡ a
or-false true = refl
or-false false = refl

reached_from-append : (reaches : ℕ → ℕ → Bool) (depth : ℕ) (path : List ℕ) (label : ℕ)
    → has_reached_from reaches depth (path ++ label ∷ [])
    ≡ (has_reached_from reaches depth path || reaches (depth + length path) label)
reached_from-append reaches depth [] label =
    let e : depth ≡ depth + 0 = omega arith in
    or-false (reaches depth label) ∙ ap (λ (d : ℕ). reaches d label) e
reached_from-append reaches depth (first ∷ path) label =
    let e : (depth + 1) + length path ≡ depth + suc (length path) = omega arith in
    ap (λ b. reaches depth first || b) (reached_from-append reaches (depth + 1) path label
    ∙ ap (λ (d : ℕ). has_reached_from reaches (depth + 1) path || reaches d label) e)
    ∙ or-associates (reaches depth first) (has_reached_from reaches (depth + 1) path)
    (reaches (depth + suc (length path)) label)

pub reached-append : (reaches : ℕ → ℕ → Bool) (path : List ℕ) (label : ℕ)
    → has_reached_from reaches 0 (path ++ label ∷ []) ≡ (has_reached_from reaches 0 path || reaches (length path) label)
reached-append reaches path label =
    let e : 0 + length path ≡ length path = omega arith in
    reached_from-append reaches 0 path label
    ∙ ap (λ (d : ℕ). has_reached_from reaches 0 path || reaches d label) e
