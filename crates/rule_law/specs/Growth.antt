-- What the places of a list have together, and how it grows by a column.
use Rattle.std.specs.Prelude.{◌≡◌, ℕ, zero, suc, ◌+◌, ◌<◌, ◌≤◌, Bool, true, false, not, ◌&&◌, ◌||◌, nat_lt, List, [], ◌∷◌, ◌++◌, IsTrue, length, drop, slice_index_or, if◌then◌else◌, refl}
use Rattle.std.specs.List.{list_any, sum_by}
use Rattle.std.proofs.Common.{ap, sym, ◌∙◌, subst, arith}
use Rattle.std.proofs.Math.Bool.{or-false}
use Rattle.std.proofs.lemmas.Bool.{and_from}
use Rattle.std.proofs.lemmas.List.Sums.{sum_by-cons}
use Rattle.std.proofs.lemmas.List.{length-append}
use Rattle.fux_grid.specs.declared.cell.Cell.{Cell}
use Rattle.fux_grid.specs.declared.exercise.Exercise.{Exercise}
use Rattle.fux_grid.specs.Columns.{earlier}
use Rattle.rule_law.specs.Prefixes.{GoesOn}
use Rattle.rule_law.specs.Places.{Reading, Row, IsLocal, reading_of, settled_by}
use Rattle.rule_law.specs.Law.{first_true, second_true, below_from_test, test_from_below, reading-append}

-- some number below n passes the test
abbrev pub any_below : (ℕ → Bool) → ℕ → Bool
any_below test zero = false
any_below test (suc n) = any_below test n || test n

-- the sum over the numbers below n
abbrev pub sum_below : (ℕ → ℕ) → ℕ → ℕ
sum_below f zero = 0
sum_below f (suc n) = sum_below f n + f n

-- what is settled in a prefix is settled in every list that it begins
abbrev pub Stays : Reading Bool → Type 0
Stays settles = (p t : List (List Cell)) (i : ℕ) → IsTrue (settles p i) → IsTrue (settles (p ++ t) i)

-- nothing is settled at a place that the list doesn't have
abbrev pub NeedsPlace : Reading Bool → Type 0
NeedsPlace settles = (p : List (List Cell)) (i : ℕ) → IsTrue (settles p i) → i < length p

-- settled by the last column, and by none before
abbrev pub newly : Reading Bool → List (List Cell) → List Cell → ℕ → Bool
newly settles p col i = settles (p ++ col ∷ []) i && not (settles p i)

-- enough stays enough when more columns come
abbrev pub EnoughStays : Row Bool → Type 0
EnoughStays enough = (i : ℕ) (behind : List (List Cell)) (now : List Cell) (ahead t : List (List Cell))
    → IsTrue (enough i behind now ahead) → IsTrue (enough i behind now (ahead ++ t))

-- at each place any columns are enough
abbrev pub AlwaysEnough : Row Bool → Type 0
AlwaysEnough enough =
    (i : ℕ) (behind : List (List Cell)) (now : List Cell) (ahead : List (List Cell)) → enough i behind now ahead ≡ true

pub stays_from_enough : (enough : Row Bool) → EnoughStays enough → Stays (settled_by enough)
stays_from_enough enough more p t i h =
    let here : i < length p = below_from_test i (length p) (first_true (nat_lt i (length p)) (reading_of enough p i) h)
    in
    let P : Bool → Type 0 = λ b. IsTrue b in
    and_from (nat_lt i (length (p ++ t))) (reading_of enough (p ++ t) i)
    (test_from_below i (length (p ++ t)) (omega (arith, length-append p t)))
    (subst P (sym (reading-append enough p t i here))
    (more i (earlier p i) (slice_index_or p i []) (drop (i + 1) p) t
    (second_true (nat_lt i (length p)) (reading_of enough p i) h)))

pub needs_place : (enough : Row Bool) → NeedsPlace (settled_by enough)
needs_place enough p i h = below_from_test i (length p) (first_true (nat_lt i (length p)) (reading_of enough p i) h)

pub any_below-same : (f g : ℕ → Bool) (n : ℕ) → ((i : ℕ) → i < n → f i ≡ g i) → any_below f n ≡ any_below g n
any_below-same f g zero e = refl
any_below-same f g (suc n) e = ap (λ b. b || f n) (any_below-same f g n (λ i h. e i (omega arith)))
    ∙ ap (λ b. any_below g n || b) (e n (omega arith))

pub sum_below-same : (f g : ℕ → ℕ) (n : ℕ) → ((i : ℕ) → i < n → f i ≡ g i) → sum_below f n ≡ sum_below g n
sum_below-same f g zero e = refl
sum_below-same f g (suc n) e = ap (λ b. b + f n) (sum_below-same f g n (λ i h. e i (omega arith)))
    ∙ ap (λ b. sum_below g n + b) (e n (omega arith))

or_four : (a b c d : Bool) → ((a || b) || (c || d)) ≡ ((a || c) || (b || d))
or_four true b c d = refl
or_four false true true d = refl
or_four false true false d = refl
or_four false false c d = refl

pub any_below-or : (f g : ℕ → Bool) (n : ℕ) → any_below (λ i. f i || g i) n ≡ (any_below f n || any_below g n)
any_below-or f g zero = refl
any_below-or f g (suc n) =
    ap (λ b. b || (f n || g n)) (any_below-or f g n) ∙ or_four (any_below f n) (any_below g n) (f n) (g n)

pub sum_below-plus : (f g : ℕ → ℕ) (n : ℕ) → sum_below (λ i. f i + g i) n ≡ sum_below f n + sum_below g n
sum_below-plus f g zero = refl
sum_below-plus f g (suc n) = omega (arith, sum_below-plus f g n)

pub list_any-same : {X : Type 0} (f g : X → Bool) (xs : List X) → ((x : X) → f x ≡ g x) → list_any f xs ≡ list_any g xs
list_any-same f g [] e = refl
list_any-same f g (x ∷ xs) e = ap (λ b. b || list_any f xs) (e x) ∙ ap (λ b. g x || b) (list_any-same f g xs e)

pub list_any-or : {X : Type 0} (f g : X → Bool) (xs : List X) → list_any (λ x. f x || g x) xs
    ≡ (list_any f xs || list_any g xs)
list_any-or f g [] = refl
list_any-or f g (x ∷ xs) =
    ap (λ b. (f x || g x) || b) (list_any-or f g xs) ∙ or_four (f x) (g x) (list_any f xs) (list_any g xs)

pub sum_by-same : {X : Type 0} (f g : X → ℕ) (xs : List X) → ((x : X) → f x ≡ g x) → sum_by f xs ≡ sum_by g xs
sum_by-same f g [] e = refl
sum_by-same f g (x ∷ xs) e = sum_by-cons f x xs ∙ ap (λ n. n + sum_by f xs) (e x)
    ∙ ap (λ n. g x + n) (sum_by-same f g xs e) ∙ sym (sum_by-cons g x xs)

pub sum_by-plus : {X : Type 0} (f g : X → ℕ) (xs : List X) → sum_by (λ x. f x + g x) xs ≡ sum_by f xs + sum_by g xs
sum_by-plus f g [] = refl
sum_by-plus f g (x ∷ xs) =
    omega (arith, sum_by-cons (λ x. f x + g x) x xs, sum_by-cons f x xs, sum_by-cons g x xs, sum_by-plus f g xs)

-- a number of some number of zeros
pub sum_by-none : {X : Type 0} (f : X → ℕ) (xs : List X) → ((x : X) → f x ≡ 0) → sum_by f xs ≡ 0
sum_by-none f [] e = refl
sum_by-none f (x ∷ xs) e = omega (arith, sum_by-cons f x xs, e x, sum_by-none f xs e)

-- the order of two sums changes nothing
pub sum_below-sum_by : {X : Type 0} (f : X → ℕ → ℕ) (xs : List X) (n : ℕ) → sum_below (λ i. sum_by (λ x. f x i) xs) n
    ≡ sum_by (λ x. sum_below (f x) n) xs
sum_below-sum_by f xs zero = sym (sum_by-none (λ x. sum_below (f x) 0) xs (λ x. refl))
sum_below-sum_by f xs (suc n) = ap (λ k. k + sum_by (λ x. f x n) xs) (sum_below-sum_by f xs n)
    ∙ sym (sum_by-plus (λ x. sum_below (f x) n) (λ x. f x n) xs)

list_any-none : {X : Type 0} (xs : List X) → false ≡ list_any (λ x. false) xs
list_any-none [] = refl
list_any-none (x ∷ xs) = list_any-none xs

pub any_below-list_any : {X : Type 0} (f : X → ℕ → Bool) (xs : List X) (n : ℕ)
    → any_below (λ i. list_any (λ x. f x i) xs) n ≡ list_any (λ x. any_below (f x) n) xs
any_below-list_any f xs zero = list_any-none xs
any_below-list_any f xs (suc n) = ap (λ b. b || list_any (λ x. f x n) xs) (any_below-list_any f xs n)
    ∙ sym (list_any-or (λ x. any_below (f x) n) (λ x. f x n) xs)

module _ (settles : Reading Bool) (stays : Stays settles) (needs : NeedsPlace settles) (p : List (List Cell))
    (col : List Cell) where
  split : (s' s b b' x : Bool) → (IsTrue s → s' ≡ true) → (IsTrue s → b' ≡ b) → (s' && b' && x)
      ≡ ((s && b && x) || ((s' && not s) && b' && x))
  split s' true b b' x f g = rw (f refl, g refl) (sym (or-false (b && x)))
  split true false b b' x f g = refl
  split false false b b' x f g = refl

  sum_split : (s' s : Bool) (b b' : ℕ) → (IsTrue s → s' ≡ true) → (IsTrue s → b' ≡ b) → (if s' then b' else 0)
      ≡ (if s then b else 0) + (if s' && not s then b' else 0)
  sum_split s' true b b' f g = rw (f refl, g refl) (omega arith)
  sum_split true false b b' f g = omega arith
  sum_split false false b b' f g = refl

  unsettled : (i : ℕ) → length p ≤ i → settles p i ≡ false
  unsettled i h = from (settles p i) (λ e. absurd (omega (arith, needs p i e)))
    where
      from : (b : Bool) → (IsTrue b → b ≡ false) → b ≡ false
      from true f = f refl
      from false f = refl

  -- a settled test of a longer list is one of the list, or one that its last column settles
  pub test_grows : (ex : Exercise) (breaks : Reading Bool) (also : ℕ → Bool) → IsLocal ex breaks settles
      → GoesOn ex p (col ∷ []) → (i : ℕ) → (settles (p ++ col ∷ []) i && breaks (p ++ col ∷ []) i && also i)
      ≡ ((settles p i && breaks p i && also i) || (newly settles p col i && breaks (p ++ col ∷ []) i && also i))
  test_grows ex breaks also local on i = split (settles (p ++ col ∷ []) i) (settles p i) (breaks p i)
      (breaks (p ++ col ∷ []) i) (also i) (stays p (col ∷ []) i) (local p (col ∷ []) i on)

  -- what is settled of a longer list is what is of the list, and what its last column settles
  pub charge_grows : (ex : Exercise) (cost : Reading ℕ) → IsLocal ex cost settles → GoesOn ex p (col ∷ []) → (i : ℕ)
      → (if settles (p ++ col ∷ []) i then cost (p ++ col ∷ []) i else 0)
      ≡ (if settles p i then cost p i else 0) + (if newly settles p col i then cost (p ++ col ∷ []) i else 0)
  charge_grows ex cost local on i = sum_split (settles (p ++ col ∷ []) i) (settles p i) (cost p i)
      (cost (p ++ col ∷ []) i) (stays p (col ∷ []) i) (local p (col ∷ []) i on)

  pub unsettled_at_end : settles p (length p) ≡ false
  unsettled_at_end = unsettled (length p) (omega arith)
