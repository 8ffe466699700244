-- The least sum as one number is the least over the chains themselves (`least_sum_is`), and there
-- is one least of some numbers (`least_is_one`), so each least over the chains is that number
-- (`least_is_sum`).
use Rattle.std.proofs.Common.{◌≡◌, ◌⊎◌, inl, inr, ℕ, zero, suc, ◌+◌, ◌-◌, ◌<◌, ◌≤◌, Bool, true, false, if◌then◌else◌, List, [], ◌∷◌, length, map, Option, Some, None, refl, ap, sym, ◌∙◌, subst, arith}
use Rattle.std.specs.Prelude.{IsSomeAnd, ◌↔◌}
use Rattle.std.specs.List.{Contains, list_all, range_with_len}
use Rattle.std.proofs.lemmas.Bool.{and_parts, cases_lt}
use Rattle.std.proofs.lemmas.List.{get_or_past}
use Rattle.fux_grid.specs.declared.cell.Cell.{Cell}
use Rattle.fux_grid.specs.declared.cell.Cell.TheVariants.{Rest}
use Rattle.fux_grid.specs.Cells.{cell_in, cell_follows}
use Rattle.fux_grid.specs.Columns.{ColumnFollows}
use Rattle.chain_sums.specs.Chains.{Chains, AreLinked, HasSum, IsLeast, IsLeastOf, cells_of, chain_sum, plus}
use Rattle.chain_sums.specs.Sums.{column_follows, least_in, least_sum, lesser}
use Rattle.chain_sums.proofs.LeastLemmas.{PartsOf, at_most, ends_at_nothing, least_more, plus_from, plus_parts}

-- ---- what follows

all_from : (f : ℕ → Bool) (a n : ℕ) → ((v : ℕ) → v < n → f (a + v) ≡ true) → list_all f (range_with_len a n) ≡ true
all_from f a zero h = refl
all_from f a (suc n) h =
    let here : f a ≡ true = subst (λ (v : ℕ). f v ≡ true) (plus_none a) (h 0 (omega arith)) in
    rw here (all_from f (a + 1) n (λ v l. subst (λ (w : ℕ). f w ≡ true) (plus_one a v) (h (suc v) (omega arith))))
  where
    plus_none : (a : ℕ) → a + 0 ≡ a
    plus_none a = omega arith

    plus_one : (a v : ℕ) → a + suc v ≡ a + 1 + v
    plus_one a v = omega arith

all_to : (f : ℕ → Bool) (a n : ℕ) → list_all f (range_with_len a n) ≡ true → (v : ℕ) → v < n → f (a + v) ≡ true
all_to f a zero h v l = absurd (omega arith)
all_to f a (suc n) h zero l =
    subst (λ (w : ℕ). f w ≡ true) (plus_none a) (and_parts (f a) (list_all f (range_with_len (a + 1) n)) h).0
  where
    plus_none : (a : ℕ) → a ≡ a + 0
    plus_none a = omega arith
all_to f a (suc n) h (suc v) l =
    subst (λ (w : ℕ). f w ≡ true) (plus_one a v)
    (all_to f (a + 1) n (and_parts (f a) (list_all f (range_with_len (a + 1) n)) h).1 v (omega arith))
  where
    plus_one : (a v : ℕ) → a + 1 + v ≡ a + suc v
    plus_one a v = omega arith

-- the test tells which columns follow
pub column_follows_is : (before next : List Cell) → (column_follows before next ≡ true) ↔ ColumnFollows before next
column_follows_is before next = (there, back)
  where
    test : ℕ → Bool
    test v = cell_follows (cell_in before v) (cell_in next v)

    there : column_follows before next ≡ true → ColumnFollows before next
    there h v = at (cases_lt v (length next))
      where
        at : (v < length next) ⊎ (length next ≤ v) → test v ≡ true
        at (inl l) = let none : 0 + v ≡ v = omega arith in
            subst (λ (w : ℕ). test w ≡ true) none (all_to test 0 (length next) h v l)
        at (inr l) = ap (cell_follows (cell_in before v)) (get_or_past next v Rest l)

    back : ColumnFollows before next → column_follows before next ≡ true
    back h = all_from test 0 (length next) (λ v l. h (0 + v))

-- ---- the least of a list

-- one of some columns has the number
abbrev pub IsNumberIn : (List Cell → Option ℕ) → List (List Cell) → ℕ → Type 0
IsNumberIn f cols x = (d : List Cell) × Contains cols d × (f d ≡ Some x)

contains_later : (c : List Cell) (cols : List (List Cell)) (d : List Cell) → Contains cols d → Contains (c ∷ cols) d
contains_later c cols d (k, h, e) = (suc k, omega (arith, h), e)

in_front : (c : List Cell) (cols : List (List Cell)) (d : List Cell) → Contains (c ∷ cols) d → (d ≡ c) ⊎ Contains cols d
in_front c cols d (zero, h, e) = inl (sym e)
in_front c cols d (suc k, h, e) = inr (k, omega (arith, h), e)

lesser-swap : (a b : Option ℕ) → lesser a b ≡ lesser b a
lesser-swap None None = refl
lesser-swap None (Some y) = refl
lesser-swap (Some x) None = refl
lesser-swap (Some x) (Some y) = ap Some (omega arith)

least_in_is : (f : List Cell → Option ℕ) (cols : List (List Cell))
    → IsLeastOf (IsNumberIn f cols) (least_in (map f cols))
least_in_is f [] = record { reached = λ x e. cc; lowest = none }
  where
    none : (x : ℕ) → IsNumberIn f [] x → IsSomeAnd None (λ (y : ℕ). y ≤ x)
    none x (d, (k, h, e), g) = absurd (omega (arith, h))
least_in_is f (c ∷ cols) =
    subst (IsLeastOf (IsNumberIn f (c ∷ cols))) (lesser-swap (least_in (map f cols)) (f c))
    (least_more (IsNumberIn f cols) (λ x. f c ≡ Some x) (IsNumberIn f (c ∷ cols)) (least_in (map f cols)) (f c)
    (least_in_is f cols)
    (λ x. (λ e. e, λ e. e)) later here cases)
  where
    later : (x : ℕ) → IsNumberIn f cols x → IsNumberIn f (c ∷ cols) x
    later x (d, h, e) = (d, contains_later c cols d h, e)

    here : (x : ℕ) → f c ≡ Some x → IsNumberIn f (c ∷ cols) x
    here x e = (c, (0, omega arith, refl), e)

    cases : (x : ℕ) → IsNumberIn f (c ∷ cols) x → IsNumberIn f cols x ⊎ (f c ≡ Some x)
    cases x (d, h, e) = by (in_front c cols d h)
      where
        by : (d ≡ c) ⊎ Contains cols d → IsNumberIn f cols x ⊎ (f c ≡ Some x)
        by (inl same) = inr (ap f (sym same) ∙ e)
        by (inr k) = inl (d, k, e)

-- two ways to say which numbers are meant, where each number of the second kind has one of the
-- first that is no higher
least_of_same : (P Q : ℕ → Type 0) (least : Option ℕ) → IsLeastOf P least → ((x : ℕ) → P x → Q x)
    → ((x : ℕ) → Q x → (y : ℕ) × P y × (y ≤ x)) → IsLeastOf Q least
least_of_same P Q least is there back =
    record { reached = λ x e. there x (is.reached x e); lowest = λ x q. low x (back x q) }
  where
    low : (x : ℕ) → (y : ℕ) × P y × (y ≤ x) → IsSomeAnd least (λ z. z ≤ x)
    low x (y, p, l) = at_most least y x l (is.lowest y p)

-- ---- chains

-- what a column of the menu costs with the least sum behind it, where it follows
abbrev pub sum_with : Chains → ℕ → ℕ → Option (List Cell) → List Cell → Option ℕ
sum_with c count i before d =
    if column_follows (cells_of before) d then plus (c.cost i before d) (least_sum c count (suc i) (Some d)) else None

pub chosen : (b : Bool) (s : Option ℕ) (x : ℕ) → (if b then s else None) ≡ Some x → (b ≡ true) × (s ≡ Some x)
chosen true s x e = (refl, e)
chosen false s x e = cc

module _ (c : Chains) (count i : ℕ) (before : Option (List Cell)) (whole : i + suc count ≡ c.places)
    (behind : (d : List Cell) → IsLeast c (suc i) (Some d) (least_sum c count (suc i) (Some d))) where
  with_parts : (x : ℕ) (d : List Cell) → Contains (c.menu i) d → column_follows (cells_of before) d ≡ true
      → PartsOf (c.cost i before d) (least_sum c count (suc i) (Some d)) x → HasSum c i before x
  with_parts x d h follows parts =
      let rest : HasSum c (suc i) (Some d) parts.second = (behind d).reached parts.second parts.is_second in
      record {
        chain = d ∷ rest.chain;
        linked = (h, (column_follows_is (cells_of before) d).0 follows, rest.linked);
        whole = omega (arith, rest.whole);
        is = plus_from _ _ parts.first parts.second x parts.is_first rest.is parts.both;
      }

  there : (x : ℕ) → IsNumberIn (sum_with c count i before) (c.menu i) x → HasSum c i before x
  there x (d, h, e) =
      let at = chosen (column_follows (cells_of before) d)
      (plus (c.cost i before d) (least_sum c count (suc i) (Some d))) x e in
      with_parts x d h at.0 (plus_parts (c.cost i before d) (least_sum c count (suc i) (Some d)) x at.1)

  -- a chain that begins with a column comes to no less
  module _ (x : ℕ) (d : List Cell) (chain : List (List Cell)) (linked : AreLinked c i before (d ∷ chain))
      (all : i + suc (length chain) ≡ c.places)
      (parts : PartsOf (c.cost i before d) (chain_sum c (suc i) (Some d) chain) x) where
    rest : HasSum c (suc i) (Some d) parts.second
    rest = record { chain = chain; linked = linked.2; whole = omega (arith, all); is = parts.is_second }

    with_least : (o : Option ℕ) → least_sum c count (suc i) (Some d) ≡ o → IsSomeAnd o (λ y. y ≤ parts.second)
        → (y : ℕ) × IsNumberIn (sum_with c count i before) (c.menu i) y × (y ≤ x)
    with_least None same l = absurd l
    with_least (Some z) same l = (
      parts.first + z,
      (
        d,
        linked.0,
        ap (λ b. if b then plus (c.cost i before d) (least_sum c count (suc i) (Some d)) else None)
            ((column_follows_is (cells_of before) d).1 linked.1)
            ∙ plus_from _ _ parts.first z (parts.first + z) parts.is_first same refl,
      ),
      omega (arith, parts.both, l),
    )

    low : (y : ℕ) × IsNumberIn (sum_with c count i before) (c.menu i) y × (y ≤ x)
    low = with_least (least_sum c count (suc i) (Some d)) refl ((behind d).lowest parts.second rest)

  back_by : (x : ℕ) (chain : List (List Cell)) → AreLinked c i before chain → i + length chain ≡ c.places
      → chain_sum c i before chain ≡ Some x
      → (y : ℕ) × IsNumberIn (sum_with c count i before) (c.menu i) y × (y ≤ x)
  back_by x [] linked all e = absurd (omega (arith, all, whole))
  back_by x (d ∷ chain) linked all e =
      low x d chain linked all (plus_parts (c.cost i before d) (chain_sum c (suc i) (Some d) chain) x e)

  one_place : IsLeast c i before (least_sum c (suc count) i before)
  one_place =
      least_of_same (IsNumberIn (sum_with c count i before) (c.menu i)) (HasSum c i before)
      (least_sum c (suc count) i before)
      (least_in_is (sum_with c count i before) (c.menu i)) there (λ x h. back_by x h.chain h.linked h.whole h.is)

least_on : (c : Chains) (count i : ℕ) (before : Option (List Cell)) → i + count ≡ c.places
    → IsLeast c i before (least_sum c count i before)
least_on c zero i before whole =
    let end : c.places ≡ i = omega arith in
    subst (λ (j : ℕ). IsLeast c j before (Some 0)) end (ends_at_nothing c before)
least_on c (suc count) i before whole =
    one_place c count i before whole (λ d. least_on c count (suc i) (Some d) (omega arith))

-- from each place on, the number is the least
pub least_sum_is : (c : Chains) (i : ℕ) (before : Option (List Cell)) → i ≤ c.places
    → IsLeast c i before (least_sum c (c.places - i) i before)
least_sum_is c i before h = least_on c (c.places - i) i before (omega (arith, h))

-- there is one least
pub least_is_one : (P : ℕ → Type 0) (a b : Option ℕ) → IsLeastOf P a → IsLeastOf P b → a ≡ b
least_is_one P None None f g = refl
least_is_one P None (Some y) f g = absurd (f.lowest y (g.reached y refl))
least_is_one P (Some x) None f g = absurd (g.lowest x (f.reached x refl))
least_is_one P (Some x) (Some y) f g =
    ap Some (omega (arith, f.lowest y (g.reached y refl), g.lowest x (f.reached x refl)))

-- so what is the least over the chains is that number
pub least_is_sum : (c : Chains) (i : ℕ) (before : Option (List Cell)) (least : Option ℕ) → i ≤ c.places
    → IsLeast c i before least
    → least ≡ least_sum c (c.places - i) i before
least_is_sum c i before least h is =
    least_is_one (HasSum c i before) least (least_sum c (c.places - i) i before) is (least_sum_is c i before h)
