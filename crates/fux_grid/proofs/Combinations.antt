-- The combinations of several lists of cells: how many, which, and in which order.
use Rattle.std.proofs.Common.{◌≡◌, ◌⊎◌, inl, inr, ℕ, zero, suc, ◌+◌, ◌*◌, ◌/◌, ◌%◌, ◌-◌, ◌<◌, ◌≤◌, List, [], ◌∷◌, ◌++◌, length, map, get_or, drop, refl, ap, sym, ◌∙◌, subst, arith, append_assoc, length-append, mul_comm, mul_assoc}
use Rattle.std.specs.List.{All, flat_map, AllZip, AllPairs, Contains}
use Rattle.std.specs.Ordering.{ordering_then}
use Rattle.std.specs.declared.cmp.Ordering.TheVariants.{Less}
use Rattle.std.proofs.Math.Nat.{div-lt_iff_lt-mul, mod-lt, div-add-mod, mul-div_cancel_left}
use Rattle.std.proofs.lemmas.Bool.{cases_lt, cases_order}
use Rattle.std.proofs.lemmas.Cmp.{tied_itself}
use Rattle.std.proofs.lemmas.List.{length-map, get_or_append_left, get_or-append_right, get_or-append-add, get_or_default, get_or-map, drop_more}
use Rattle.std.proofs.lemmas.List.Elements.{All-head, All-tail, Contains-append_cases, Contains-get_or}
use Rattle.std.proofs.lemmas.Nat.{mul-add-lt}
use Rattle.arrayvec.specs.ArrayVec.{ArrayVec}
use Rattle.fux_grid.specs.declared.cell.Cell.{Cell}
use Rattle.fux_grid.specs.Grid.{items_of}
use Rattle.fux_grid.specs.Menus.{combinations}
use Rattle.fux_grid.specs.Order.{cell_order, column_order}
use Rattle.fux_grid.proofs.OrderLemmas.{cell_order-total}

-- the columns that begin with one of these cells and go on with one of these columns
abbrev pub begun : List Cell → List (List Cell) → List (List Cell)
begun cells rests = flat_map (λ cell. map (λ rest. cell ∷ rest) rests) cells

pub length-begun : (cells : List Cell) (rests : List (List Cell)) → length (begun cells rests)
    ≡ length cells * length rests
length-begun [] rests = omega arith
length-begun (c ∷ cs) rests =
    length-append (map (λ rest. c ∷ rest) rests) (begun cs rests)
    ∙ ap (λ n. n + length (begun cs rests)) (length-map rests (λ rest. c ∷ rest))
    ∙ ap (λ n. length rests + n) (length-begun cs rests) ∙ omega arith

pub length-combinations : (cells : List Cell) (others : List (List Cell)) → length (combinations (cells ∷ others))
    ≡ length cells * length (combinations others)
length-combinations cells others = length-begun cells (combinations others)

get_or-map_cons : (c : Cell) (rests : List (List Cell)) (r : ℕ) → r < length rests
    → get_or (map (λ rest. c ∷ rest) rests) r [] ≡ c ∷ get_or rests r []
get_or-map_cons c [] r h = absurd (omega arith)
get_or-map_cons c (x ∷ xs) zero h = refl
get_or-map_cons c (x ∷ xs) (suc r) h = get_or-map_cons c xs r (omega arith)

-- the columns go by their first cell, and then by the rest
pub get_or-begun : (cells : List Cell) (rests : List (List Cell)) (q r : ℕ) (d : Cell) → q < length cells
    → r < length rests → get_or (begun cells rests) (q * length rests + r) [] ≡ get_or cells q d ∷ get_or rests r []
get_or-begun [] rests q r d h k = absurd (omega arith)
get_or-begun (c ∷ cs) rests zero r d h k =
    let first = map (λ rest. c ∷ rest) rests in
    let e : zero * length rests + r ≡ r = omega arith in
    let l : length first ≡ length rests = length-map rests (λ rest. c ∷ rest) in
    ap (λ n. get_or (first ++ begun cs rests) n []) e ∙ get_or_append_left first (begun cs rests) [] r (omega arith)
    ∙ get_or-map_cons c rests r k
get_or-begun (c ∷ cs) rests (suc q) r d h k =
    let first = map (λ rest. c ∷ rest) rests in
    let l : length first ≡ length rests = length-map rests (λ rest. c ∷ rest) in
    let e : suc q * length rests + r ≡ length first + (q * length rests + r) = rw l (omega arith) in
    ap (λ n. get_or (first ++ begun cs rests) n []) e
    ∙ get_or-append-add first (begun cs rests) (q * length rests + r) []
    ∙ get_or-begun cs rests q r d (omega arith) k

-- ---- which columns

pub Contains-cons_cases : {X : Type 0} (x : X) (xs : List X) (y : X) → Contains (x ∷ xs) y → (x ≡ y) ⊎ Contains xs y
Contains-cons_cases x xs y (zero, h, e) = inl e
Contains-cons_cases x xs y (suc k, h, e) = inr (k, omega arith, e)

pub Contains-map_only : {X Y : Type 0} (f : X → Y) (xs : List X) (y : Y) → Contains (map f xs) y → (x : X)
    × Contains xs x × (f x ≡ y)
Contains-map_only f [] y (k, h, e) = absurd (omega arith)
Contains-map_only f (x ∷ xs) y h = elim (Contains-cons_cases (f x) (map f xs) y h) [
  | inl e ↦ (x, (0, omega arith, refl), e)
  | inr k ↦ let below =
      Contains-map_only f xs y k in (below.0, (suc below.1.0, omega (arith, below.1.1), below.1.2), below.2)
]

begun-contains : (cells : List Cell) (rests : List (List Cell)) (c : Cell) (rest : List Cell) → Contains cells c
    → Contains rests rest → Contains (begun cells rests) (c ∷ rest)
begun-contains cells rests c rest (q, h, e) (r, k, f) =
    let n : ℕ = length rests in
    let within : q * n + r < length (begun cells rests) = rw (length-begun cells rests, mul_comm (length cells) n)
    (mul-add-lt q n r (length cells) h k) in (
      q * n + r,
      within,
      get_or_default (begun cells rests) (q * n + r) (c ∷ rest) [] within
          ∙ get_or-begun cells rests q r c h k ∙ ap (λ x. x ∷ get_or rests r []) e
          ∙ ap (λ x. c ∷ x) (get_or_default rests r [] rest k ∙ f),
    )

begun-only : (cells : List Cell) (rests : List (List Cell)) (col : List Cell) → Contains (begun cells rests) col
    → (c : Cell) × (rest : List Cell) × Contains cells c × Contains rests rest × (c ∷ rest ≡ col)
begun-only [] rests col (k, h, e) = absurd (omega arith)
begun-only (c ∷ cs) rests col h = elim (Contains-append_cases (map (λ rest. c ∷ rest) rests) (begun cs rests) col h) [
  | inl k ↦ let first =
      Contains-map_only (λ rest. c ∷ rest) rests col k in (c, first.0, (0, omega arith, refl), first.1, first.2)
  | inr k ↦ let below = begun-only cs rests col k in
      (below.0, below.1, (suc below.2.0, omega (arith, below.2.1), below.2.2), below.3, below.4)
]

-- the cell at each place is one of the list at that place
abbrev pub IsChoice : List (List Cell) → List Cell → Type 0
IsChoice = AllZip Contains

pub combinations-contain : (lists : List (List Cell)) (col : List Cell) → IsChoice lists col
    → Contains (combinations lists) col
combinations-contain [] [] h = (0, omega arith, refl)
combinations-contain [] (c ∷ cs) h = absurd h
combinations-contain (cells ∷ others) [] h = absurd h
combinations-contain (cells ∷ others) (c ∷ cs) h =
    begun-contains cells (combinations others) c cs h.0 (combinations-contain others cs h.1)

pub combinations-only : (lists : List (List Cell)) (col : List Cell) → Contains (combinations lists) col
    → IsChoice lists col
combinations-only [] col (zero, h, e) = let P : List Cell → Type 0 = IsChoice [] in subst P e tt
combinations-only [] col (suc k, h, e) = absurd (omega arith)
combinations-only (cells ∷ others) col h =
    let made = begun-only cells (combinations others) col h in
    let P : List Cell → Type 0 = IsChoice (cells ∷ others) in
    subst P made.4 (made.2, combinations-only others made.1 made.3)

-- ---- in which order

abbrev pub IsBefore : Cell → Cell → Type 0
IsBefore c d = cell_order c d ≡ Less

abbrev pub IsColumnBefore : List Cell → List Cell → Type 0
IsColumnBefore c d = column_order c d ≡ Less

pub AllPairs-append : {X : Type 0} (R : X → X → Type 0) (xs ys : List X) → AllPairs R xs → AllPairs R ys
    → ((x y : X) → Contains xs x → Contains ys y → R x y) → AllPairs R (xs ++ ys)
AllPairs-append R xs ys first second across i j d h k =
    elim (cases_lt j (length xs)) [
      | inl b ↦ rw (get_or_append_left xs ys d i (omega arith), get_or_append_left xs ys d j b) (first i j d h b)
      | inr b ↦
          let right : get_or (xs ++ ys) j d
          ≡ get_or ys (j - length xs) d = get_or-append_right xs ys (length xs) j d refl b in
          elim (cases_lt i (length xs)) [
            | inl a ↦ rw (get_or_append_left xs ys d i a, right)
                (across _ _ (Contains-get_or xs i d a)
                (Contains-get_or ys (j - length xs) d (omega (arith, length-append xs ys))))
            | inr a ↦ rw (get_or-append_right xs ys (length xs) i d refl a, right)
                (second (i - length xs) (j - length xs) d (omega arith) (omega (arith, length-append xs ys)))
          ]
    ]

pub AllPairs-cons : {X : Type 0} (R : X → X → Type 0) (x : X) (xs : List X) → All (R x) xs → AllPairs R xs
    → AllPairs R (x ∷ xs)
AllPairs-cons R x xs h k zero (suc j) d a b = h j d (omega arith)
AllPairs-cons R x xs h k (suc i) (suc j) d a b = k i j d (omega arith) (omega arith)
AllPairs-cons R x xs h k zero zero d a b = absurd (omega arith)
AllPairs-cons R x xs h k (suc i) zero d a b = absurd (omega arith)

pub AllPairs-tail : {X : Type 0} (R : X → X → Type 0) (x : X) (xs : List X) → AllPairs R (x ∷ xs) → AllPairs R xs
AllPairs-tail R x xs h i j d a b = h (suc i) (suc j) d (omega arith) (omega arith)

pub AllPairs-head : {X : Type 0} (R : X → X → Type 0) (x : X) (xs : List X) (y : X) → AllPairs R (x ∷ xs)
    → Contains xs y → R x y
AllPairs-head {X} R x xs y h (k, b, e) =
    let P : X → Type 0 = R x in subst P e (h 0 (suc k) y (omega arith) (omega arith))

map_cons-ascends : (c : Cell) (rests : List (List Cell)) → AllPairs IsColumnBefore rests
    → AllPairs IsColumnBefore (map (λ rest. c ∷ rest) rests)
map_cons-ascends c rests h i j d a b =
    let l : length (map (λ rest. c ∷ rest) rests) ≡ length rests = length-map rests (λ rest. c ∷ rest) in
    rw (
      get_or-map (λ rest. c ∷ rest) rests i [] d (omega arith),
      get_or-map (λ rest. c ∷ rest) rests j [] d
          (omega arith),
    )
    (ap (λ o. ordering_then o (column_order (get_or rests i []) (get_or rests j []))) (tied_itself cell_order-total c)
    ∙ h i j [] a (omega arith))

begun-ascends : (cells : List Cell) (rests : List (List Cell)) → AllPairs IsBefore cells → AllPairs IsColumnBefore rests
    → AllPairs IsColumnBefore (begun cells rests)
begun-ascends [] rests h k = λ i j d a b. absurd (omega arith)
begun-ascends (c ∷ cs) rests h k =
    AllPairs-append IsColumnBefore (map (λ rest. c ∷ rest) rests) (begun cs rests) (map_cons-ascends c rests k)
    (begun-ascends cs rests (AllPairs-tail IsBefore c cs h) k)
    (λ x y a b.
    let first = Contains-map_only (λ rest. c ∷ rest) rests x a in
    let later = begun-only cs rests y b in
    rw (← first.2, ← later.4) (ap (λ o. ordering_then o (column_order first.0 later.1))
    (AllPairs-head IsBefore c cs later.0 h later.2)))

pub combinations-ascend : (lists : List (List Cell)) → All (AllPairs IsBefore) lists
    → AllPairs IsColumnBefore (combinations lists)
combinations-ascend [] h = λ i j d a b. absurd (omega arith)
combinations-ascend (cells ∷ others) h = begun-ascends cells (combinations others)
    (All-head (AllPairs IsBefore) cells others h)
    (combinations-ascend others (All-tail (AllPairs IsBefore) cells others h))

-- ---- how many

-- one list more multiplies the number of combinations by its length
pub length-combinations_push : (lists : List (List Cell)) (cells : List Cell)
    → length (combinations (lists ++ cells ∷ [])) ≡ length (combinations lists) * length cells
length-combinations_push [] cells = length-combinations cells [] ∙ omega arith
length-combinations_push (first ∷ lists) cells =
    length-combinations first (lists ++ cells ∷ []) ∙ ap (λ n. length first * n) (length-combinations_push lists cells)
    ∙ sym (mul_assoc (length first) (length (combinations lists)) (length cells))
    ∙ ap (λ n. n * length cells) (sym (length-combinations first lists))

-- ---- a combination by its place

-- the place of a combination is told apart into that of its first cell and that of the rest
pub record SplitsPlace (cells : List Cell) (others : List (List Cell)) (k n : ℕ) : Type 0 where
  pub some : 0 < n
  pub filled : 0 < length cells
  pub size : length (combinations (cells ∷ others)) / length cells ≡ n
  pub first_below : k / n < length cells
  pub rest_below : k % n < n
  pub is : (d : Cell) → get_or (combinations (cells ∷ others)) k [] ≡ get_or cells (k / n) d
      ∷ get_or (combinations others) (k % n) []

factors_above_zero : (a b k : ℕ) → k < a * b → (0 < a) × (0 < b)
factors_above_zero zero b k h = absurd (omega arith)
factors_above_zero (suc a) zero k h = absurd (omega arith)
factors_above_zero (suc a) (suc b) k h = (omega arith, omega arith)

pub splits_place : (cells : List Cell) (others : List (List Cell)) (k : ℕ) → k < length (combinations (cells ∷ others))
    → SplitsPlace cells others k (length (combinations others))
splits_place cells others k h =
    let n : ℕ = length (combinations others) in
    let total : length (combinations (cells ∷ others)) ≡ length cells * n = length-combinations cells others in
    let within : k < length cells * n = rw (← total) h in
    let above : (0 < length cells) × (0 < n) = factors_above_zero (length cells) n k within in
    let first : k / n < length cells = (div-lt_iff_lt-mul above.1).1 within in
    let rest : k % n < n = mod-lt k above.1 in
    let place : k ≡ k / n * n + k % n = sym (ap (λ m. m + k % n) (mul_comm (k / n) n) ∙ div-add-mod k n) in
    record {
      some = above.1;
      filled = above.0;
      size = ap (λ m. m / length cells) total ∙ mul-div_cancel_left n above.0;
      first_below = first;
      rest_below = rest;
      is = λ d. ap (λ m. get_or (combinations (cells ∷ others)) m []) place
          ∙ get_or-begun cells (combinations others) (k / n) (k % n) d first rest;
    }

-- ---- lists in order

pub AllPairs-short : {X : Type 0} (R : X → X → Type 0) (xs : List X) → length xs ≤ 1 → AllPairs R xs
AllPairs-short R xs h = λ i j d a b. absurd (omega arith)

-- where no item comes before itself, each stands once
pub AllPairs-place : {X : Type 0} (R : X → X → Type 0) (xs : List X) → AllPairs R xs → ((x : X) → R x x → ⊥)
    → (i j : ℕ) (d : X) → i < length xs → j < length xs → get_or xs i d ≡ get_or xs j d → i ≡ j
AllPairs-place {X} R xs h never i j d a b e = elim (cases_order i j) [
  | inl same ↦ same
  | inr rest ↦ elim rest [
    | inl below ↦ absurd (let P : X → Type 0 = R (get_or xs i d) in never _ (subst P (sym e) (h i j d below b)))
    | inr above ↦ absurd (let P : X → Type 0 = R (get_or xs j d) in never _ (subst P e (h j i d above a)))
  ]
]

pub AllPairs-map : {X Y : Type 0} (Q : X → X → Type 0) (R : Y → Y → Type 0) (f : X → Y)
    → ((x y : X) → Q x y → R (f x) (f y)) → (xs : List X) → AllPairs Q xs → AllPairs R (map f xs)
AllPairs-map Q R f keeps [] h = λ i j d a b. absurd (omega arith)
AllPairs-map {X} {Y} Q R f keeps (x ∷ xs) h =
    AllPairs-cons R (f x) (map f xs)
    (λ k d b.
    let l : k < length xs = omega (arith, length-map xs f) in
    let P : Y → Type 0 = R (f x) in
    subst P (sym (get_or-map f xs k x d l)) (keeps x (get_or xs k x) (h 0 (suc k) x (omega arith) (omega arith))))
    (AllPairs-map Q R f keeps xs (AllPairs-tail Q x xs h))

-- one list more of a combination that is made cell by cell: `x` is the list at place j, and `size`
-- the number of combinations of the lists from there on
pub splits_list : (lists : List (ArrayVec Cell)) (j : ℕ) (x : ArrayVec Cell) (size count rest : ℕ) → j < length lists
    → x ≡ get_or lists j x → count ≡ length x.items → size ≡ length (combinations (items_of (drop j lists)))
    → rest < size → SplitsPlace x.items (items_of (drop (j + 1) lists)) rest (size / count)
splits_list lists j x size count rest h is c s within =
    let others : List (List Cell) = items_of (drop (j + 1) lists) in
    let first : drop j lists ≡ x ∷ drop (j + 1) lists = drop_more lists j x h
    ∙ ap (λ y. y ∷ drop (j + 1) lists) (sym is) in
    let total : size ≡ length (combinations (x.items ∷ others)) = s
    ∙ ap (λ t. length (combinations (items_of t))) first in
    let split : SplitsPlace x.items others rest (length (combinations others)) = splits_place x.items others rest
    (rw (← total) within) in
    let P : ℕ → Type 0 = SplitsPlace x.items others rest in
    subst P (sym (ap (λ m. m / count) total ∙ ap (λ m. length (combinations (x.items ∷ others)) / m) c ∙ split.size))
    split

pub splits_size : (lists : List (ArrayVec Cell)) (j : ℕ) (x : ArrayVec Cell) (size count : ℕ) → 0 < size
    → j < length lists → x ≡ get_or lists j x → count ≡ length x.items → size
    ≡ length (combinations (items_of (drop j lists))) → size / count
    ≡ length (combinations (items_of (drop (j + 1) lists)))
splits_size lists j x size count some h is c s =
    let others : List (List Cell) = items_of (drop (j + 1) lists) in
    let first : drop j lists ≡ x ∷ drop (j + 1) lists = drop_more lists j x h
    ∙ ap (λ y. y ∷ drop (j + 1) lists) (sym is) in
    let total : size ≡ length (combinations (x.items ∷ others)) = s
    ∙ ap (λ t. length (combinations (items_of t))) first in
    ap (λ m. m / count) total ∙ ap (λ m. length (combinations (x.items ∷ others)) / m) c
    ∙ (splits_place x.items others 0 (rw (← total) some)).size

pub splits_column : (lists : List (ArrayVec Cell)) (j : ℕ) (x : ArrayVec Cell) (rest n : ℕ) (column : List Cell)
    (cell : Cell) → j < length lists → x ≡ get_or lists j x → SplitsPlace x.items (items_of (drop (j + 1) lists)) rest n
    → cell ≡ get_or x.items (rest / n) cell → (column ++ cell ∷ [])
    ++ get_or (combinations (items_of (drop (j + 1) lists))) (rest % n) [] ≡ column
    ++ get_or (combinations (items_of (drop j lists))) rest []
splits_column lists j x rest n column cell h is split at =
    let others : List (List Cell) = items_of (drop (j + 1) lists) in
    let after : List Cell = get_or (combinations others) (rest % n) [] in
    let first : drop j lists ≡ x ∷ drop (j + 1) lists = drop_more lists j x h
    ∙ ap (λ y. y ∷ drop (j + 1) lists) (sym is) in
    append_assoc column (cell ∷ []) after ∙ ap (λ c. column ++ c ∷ after) at
    ∙ ap (λ t. column ++ t) (sym (split.is cell) ∙ ap (λ t. get_or (combinations (items_of t)) rest []) (sym first))
