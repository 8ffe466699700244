-- The least over a menu beside its row is the least sum over the chains that begin in the menu
-- (`row_is_enough`).
use Rattle.std.proofs.Common.{◌≡◌, ◌⊎◌, inl, inr, ℕ, suc, ◌+◌, ◌<◌, ◌≤◌, min, Bool, true, false, List, [], ◌∷◌, length, get_or, Option, Some, None, refl, ap, sym, ◌∙◌, subst, arith}
use Rattle.std.specs.Prelude.{nat_le, IsSomeAnd, ◌↔◌}
use Rattle.std.specs.List.{Contains}
use Rattle.std.proofs.lemmas.Bool.{cases_lt}
use Rattle.std.proofs.lemmas.Bool.Decides.{nat_tests}
use Rattle.std.proofs.lemmas.List.{get_or_default, length-map}
use Rattle.std.proofs.lemmas.List.Elements.{Contains-get_or}
use Rattle.fux_grid.specs.declared.cell.Cell.{Cell}
use Rattle.std.specs.Borrow.{Bor}
use Rattle.fux_grid.specs.Columns.{ColumnFollows, cells_before}
use Rattle.fux_grid.specs.Grid.{items_of}
use Rattle.arrayvec.specs.ArrayVec.{ArrayVec}
use Rattle.chain_sums.specs.Chains.{Chains, AreLinked, HasSum, IsLeast, IsLeastOf, cells_of, chain_sum, given, plus}
use Rattle.chain_sums.specs.Rows.{IsRow, IsSumAt, IsSumOf, IsSumWithin}
use Rattle.chain_sums.specs.Sums.{lesser}

-- ---- numbers that may be lacking

value_of : Option ℕ → ℕ
value_of None = 0
value_of (Some n) = n

pub same_value : (x y : ℕ) → Some x ≡ Some y → x ≡ y
unfolding value_of
same_value x y e = ap value_of e

-- what a sum is of
pub record PartsOf (a b : Option ℕ) (x : ℕ) : Type 0 where
  pub first : ℕ
  pub second : ℕ
  pub is_first : a ≡ Some first
  pub is_second : b ≡ Some second
  pub both : first + second ≡ x

pub plus_parts : (a b : Option ℕ) (x : ℕ) → plus a b ≡ Some x → PartsOf a b x
plus_parts None b x e = cc
plus_parts (Some u) None x e = cc
plus_parts (Some u) (Some v) x e =
    record { first = u; second = v; is_first = refl; is_second = refl; both = same_value (u + v) x e }

pub plus_from : (a b : Option ℕ) (u v x : ℕ) → a ≡ Some u → b ≡ Some v → u + v ≡ x → plus a b ≡ Some x
plus_from a b u v x e f h = ap (λ s. plus s b) e ∙ ap (plus (Some u)) f ∙ ap Some h

-- ---- one number more

-- the lesser of the least of some numbers and of one that may be another is the least of all of
-- them
pub least_more : (IsOne IsOther IsNext : ℕ → Type 0) (least other : Option ℕ) → IsLeastOf IsOne least
    → ((x : ℕ) → (other ≡ Some x) ↔ IsOther x)
    → ((x : ℕ) → IsOne x → IsNext x) → ((x : ℕ) → IsOther x → IsNext x) → ((x : ℕ) → IsNext x → IsOne x ⊎ IsOther x)
    → IsLeastOf IsNext (lesser least other)
least_more IsOne IsOther IsNext least other old is one two cases =
    record { reached = reached least other old.reached (λ x. (is x).0); lowest = lowest }
  where
    reached : (a b : Option ℕ) → ((x : ℕ) → a ≡ Some x → IsOne x) → ((x : ℕ) → b ≡ Some x → IsOther x) → (x : ℕ)
        → lesser a b ≡ Some x → IsNext x
    reached None b f g x e = two x (g x e)
    reached (Some u) None f g x e = one x (f x e)
    reached (Some u) (Some v) f g x e = either (nat_le u v) refl
      where
        m : min u v ≡ x
        m = same_value (min u v) x e

        either : (t : Bool) → nat_le u v ≡ t → IsNext x
        either true h = let k : u ≡ x = grind (arith, nat_tests) in one x (f x (ap Some k))
        either false h = let k : v ≡ x = grind (arith, nat_tests) in two x (g x (ap Some k))

    first : (a b : Option ℕ) (x : ℕ) → IsSomeAnd a (λ y. y ≤ x) → IsSomeAnd (lesser a b) (λ y. y ≤ x)
    first None b x h = absurd h
    first (Some u) None x h = h
    first (Some u) (Some v) x h = let k : min u v ≤ x = omega (arith, h) in k

    second : (a b : Option ℕ) (x : ℕ) → b ≡ Some x → IsSomeAnd (lesser a b) (λ y. y ≤ x)
    second None None x e = cc
    second (Some u) None x e = cc
    second None (Some v) x e = let k : v ≡ x = same_value v x e in let l : v ≤ x = omega arith in l
    second (Some u) (Some v) x e = let k : v ≡ x = same_value v x e in let l : min u v ≤ x = omega arith in l

    by : (x : ℕ) → IsOne x ⊎ IsOther x → IsSomeAnd (lesser least other) (λ y. y ≤ x)
    by x (inl h) = first least other x (old.lowest x h)
    by x (inr h) = second least other x ((is x).1 h)

    lowest : (x : ℕ) → IsNext x → IsSomeAnd (lesser least other) (λ y. y ≤ x)
    lowest x h = by x (cases x h)

-- the next column of a menu
pub below_or_at : (k count : ℕ) → k < count + 1 → (k < count) ⊎ (k ≡ count)
below_or_at k count h = by (cases_lt k count)
  where
    by : (k < count) ⊎ (count ≤ k) → (k < count) ⊎ (k ≡ count)
    by (inl l) = inl l
    by (inr l) = inr (omega arith)

pub least_within_more : (c : Chains) (i : ℕ) (before : Option (List Cell)) (row : List (Option ℕ)) (count : ℕ)
    (least other : Option ℕ)
    → IsLeastOf (IsSumWithin c i before row count) least
    → ((x : ℕ) → (other ≡ Some x) ↔ IsSumAt c i before row count x)
    → IsLeastOf (IsSumWithin c i before row (count + 1)) (lesser least other)
least_within_more c i before row count least other old is =
    least_more (IsSumWithin c i before row count) (IsSumAt c i before row count)
    (IsSumWithin c i before row (count + 1)) least other old is kept here cases
  where
    kept : (x : ℕ) → IsSumWithin c i before row count x → IsSumWithin c i before row (count + 1) x
    kept x (k, h, s) = (k, omega (arith, h), s)

    here : (x : ℕ) → IsSumAt c i before row count x → IsSumWithin c i before row (count + 1) x
    here x s = (count, omega arith, s)

    cases : (x : ℕ) → IsSumWithin c i before row (count + 1) x → IsSumWithin c i before row count x
        ⊎ IsSumAt c i before row count x
    cases x (k, h, s) = by (below_or_at k count h)
      where
        by : (k < count) ⊎ (k ≡ count) → IsSumWithin c i before row count x ⊎ IsSumAt c i before row count x
        by (inl l) = inl (k, l, s)
        by (inr e) = inr (subst (λ (j : ℕ). IsSumAt c i before row j x) e s)

-- ---- chains

pub at_most : (a : Option ℕ) (x y : ℕ) → x ≤ y → IsSomeAnd a (λ z. z ≤ x) → IsSomeAnd a (λ z. z ≤ y)
at_most None x y l h = h
at_most (Some z) x y l h = let k : z ≤ y = omega (arith, h, l) in k

pub row_is_enough : (c : Chains) (i : ℕ) (before : Option (List Cell)) (row : List (Option ℕ)) (least : Option ℕ)
    → i < c.places → IsRow c i row
    → IsLeastOf (IsSumWithin c i before row (length (c.menu i))) least → IsLeast c i before least
row_is_enough c i before row least here is old =
    record { reached = λ x e. reached x (old.reached x e); lowest = lowest }
  where
    reached : (x : ℕ) → IsSumWithin c i before row (length (c.menu i)) x → HasSum c i before x
    reached x (k, h, s) = with_chain ((is.least k h).reached s.behind s.is_rest)
      where
        with_chain : HasSum c (suc i) (Some (get_or (c.menu i) k [])) s.behind → HasSum c i before x
        with_chain rest = record {
          chain = get_or (c.menu i) k [] ∷ rest.chain;
          linked = (Contains-get_or (c.menu i) k [] h, s.follows, rest.linked);
          whole = omega (arith, rest.whole);
          is = plus_from _ _ s.own s.behind x s.is_own rest.is s.both;
        }

    lowest : (x : ℕ) → HasSum c i before x → IsSomeAnd least (λ y. y ≤ x)
    lowest x h = by h.chain h.linked h.whole h.is
      where
        by : (chain : List (List Cell)) → AreLinked c i before chain → i + length chain ≡ c.places
            → chain_sum c i before chain ≡ Some x → IsSomeAnd least (λ y. y ≤ x)
        by [] linked whole e = absurd (omega arith)
        by (d ∷ chain) linked whole e = at linked.0
          where
            parts : PartsOf (c.cost i before d) (chain_sum c (suc i) (Some d) chain) x
            parts = plus_parts (c.cost i before d) (chain_sum c (suc i) (Some d) chain) x e

            rest : HasSum c (suc i) (Some d) parts.second
            rest = record { chain = chain; linked = linked.2; whole = omega arith; is = parts.is_second }

            no_more : (z : ℕ) → z ≤ parts.second → IsSomeAnd least (λ y. y ≤ parts.first + z)
                → IsSomeAnd least (λ y. y ≤ x)
            no_more z l h = at_most least (parts.first + z) x (omega (arith, parts.both)) h

            with_rest : (k : ℕ) → k < length (c.menu i) → get_or (c.menu i) k [] ≡ d → (o : Option ℕ)
                → get_or row k None ≡ o
                → IsSomeAnd o (λ y. y ≤ parts.second) → IsSomeAnd least (λ y. y ≤ x)
            with_rest k h same None f l = absurd l
            with_rest k h same (Some z) f l =
                no_more z l (old.lowest (parts.first + z) (
                  k,
                  h,
                  record {
                    follows = subst (λ (b : List Cell). ColumnFollows (cells_of before) b) (sym same) linked.1;
                    own = parts.first;
                    is_own = ap (c.cost i before) same ∙ parts.is_first;
                    behind = z;
                    is_rest = f;
                    both = refl;
                  },
                ))

            at : Contains (c.menu i) d → IsSomeAnd least (λ y. y ≤ x)
            at (k, h, f) =
                let same : get_or (c.menu i) k [] ≡ d = get_or_default (c.menu i) k [] d h ∙ f in
                with_rest k h same (get_or row k None) refl
                ((is.least k h).lowest parts.second
                (subst (λ (b : List Cell). HasSum c (suc i) (Some b) parts.second) (sym same) rest))

-- behind the last place the one chain is empty, and costs nothing
pub ends_at_nothing : (c : Chains) (before : Option (List Cell)) → IsLeast c c.places before (Some 0)
ends_at_nothing c before = record { reached = reached; lowest = lowest }
  where
    reached : (x : ℕ) → Some 0 ≡ Some x → HasSum c c.places before x
    reached x e = record { chain = []; linked = tt; whole = omega arith; is = e }

    lowest : (x : ℕ) → HasSum c c.places before x → IsSomeAnd (Some 0) (λ y. y ≤ x)
    lowest x h = let l : 0 ≤ x = omega arith in l

-- ---- what the code reads

-- the columns of a menu, as lists of cells
pub length-columns : (menu : List (ArrayVec Cell)) (columns : List (List Cell)) → items_of menu ≡ columns → length menu
    ≡ length columns
length-columns menu columns e = sym (length-map menu (λ col. col.items)) ∙ ap length e

pub given-cells : (prev : Option (Bor (ArrayVec Cell))) → cells_before prev ≡ cells_of (given prev)
given-cells None = refl
given-cells (Some col) = refl

-- what the code sums is what is to be summed
pub sum_of_both : (c : Chains) (i : ℕ) (before : Option (List Cell)) (d : List Cell) (rest own : Option ℕ)
    → ColumnFollows (cells_of before) d → own ≡ c.cost i before d
    → (x : ℕ) → (plus own rest ≡ Some x) ↔ IsSumOf c i before d rest x
sum_of_both c i before d rest own follows is x =
    (there, λ s. plus_from own rest s.own s.behind x (is ∙ s.is_own) s.is_rest s.both)
  where
    there : plus own rest ≡ Some x → IsSumOf c i before d rest x
    there e =
        let parts = plus_parts own rest x e in
        record {
          follows = follows;
          own = parts.first;
          is_own = sym is ∙ parts.is_first;
          behind = parts.second;
          is_rest = parts.is_second;
          both = parts.both;
        }
