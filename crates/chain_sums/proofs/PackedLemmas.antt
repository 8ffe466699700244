-- The numbers of columns of one length go in reading order (`packed-order`), and columns with one
-- number are equal (`packed-same`).
use Rattle.std.proofs.Common.{◌≡◌, ◌⊎◌, inl, inr, ℕ, suc, ◌+◌, ◌*◌, ◌^◌, ◌<◌, ◌≤◌, List, [], ◌∷◌, length, ℤ, pos, negsuc, ◌≤ℤ◌, refl, ap, sym, ◌∙◌, arith}
use Rattle.std.specs.Prelude.{unsigned_abs}
use Rattle.std.specs.Cmp.{int_cmp_is, nat_cmp_is}
use Rattle.std.specs.Ordering.{ordering_then, nat_cmp, int_cmp}
use Rattle.std.specs.declared.cmp.Ordering.{Ordering}
use Rattle.std.specs.declared.cmp.Ordering.TheVariants.{Less, Equal, Greater}
use Rattle.std.proofs.Math.Nat.{mul-le-mul_left}
use Rattle.std.proofs.lemmas.Bool.{cases_order}
use Rattle.std.proofs.lemmas.Int.{ints}
use Rattle.fux_pitch.specs.declared.pitch.Pitch.{Pitch}
use Rattle.fux_pitch.specs.Pitch.{alter_of, degree_of, key_of}
use Rattle.fux_pitch.specs.Key.{key_at}
use Rattle.fux_grid.specs.declared.cell.Cell.{Cell}
use Rattle.fux_grid.specs.declared.cell.Cell.TheVariants.{Rest, Hold, Start}
use Rattle.fux_grid.specs.Order.{pitch_order, cell_order, column_order}
use Rattle.fux_grid.proofs.OrderLemmas.{column_order-equal}
use Rattle.chain_sums.specs.Packed.{packed, packed_cell, packed_pitch}

-- ---- numbers

pub nat_less : (x y : ℕ) → x < y → nat_cmp x y ≡ Less
nat_less x y h = sym (nat_cmp_is x y Less h)

pub nat_equal : (x y : ℕ) → x ≡ y → nat_cmp x y ≡ Equal
nat_equal x y h = sym (nat_cmp_is x y Equal h)

pub nat_greater : (x y : ℕ) → y < x → nat_cmp x y ≡ Greater
nat_greater x y h = sym (nat_cmp_is x y Greater h)

-- numbers with one order answer alike
same_order : (x y v w : ℕ) → (x ≡ y → v ≡ w) → (x < y → v < w) → (y < x → w < v) → nat_cmp x y ≡ nat_cmp v w
same_order x y v w e l g = by (cases_order x y)
  where
    by : (x ≡ y) ⊎ ((x < y) ⊎ (y < x)) → nat_cmp x y ≡ nat_cmp v w
    by (inl h) = nat_equal x y h ∙ sym (nat_equal v w (e h))
    by (inr (inl h)) = nat_less x y h ∙ sym (nat_less v w (l h))
    by (inr (inr h)) = nat_greater x y h ∙ sym (nat_greater v w (g h))

-- the higher digits decide, and else the lower ones do
apart : (size a b r s : ℕ) → r < size → a < b → size * a + r < size * b + s
apart size a b r s h l = let k : size * suc a ≤ size * b = mul-le-mul_left size (omega arith) in omega (arith, k, h)

pub digits : (size a b r s : ℕ) → r < size → s < size → ordering_then (nat_cmp a b) (nat_cmp r s)
    ≡ nat_cmp (size * a + r) (size * b + s)
digits size a b r s h k = by (cases_order a b)
  where
    by : (a ≡ b) ⊎ ((a < b) ⊎ (b < a)) → ordering_then (nat_cmp a b) (nat_cmp r s)
        ≡ nat_cmp (size * a + r) (size * b + s)
    by (inl e) =
        ap (λ o. ordering_then o (nat_cmp r s)) (nat_equal a b e)
        ∙ let f : size * a ≡ size * b = ap (λ n. size * n) e in
        same_order r s (size * a + r) (size * b + s) (λ x. omega arith) (λ x. omega arith) (λ x. omega arith)
    by (inr (inl l)) = ap (λ o. ordering_then o (nat_cmp r s)) (nat_less a b l)
        ∙ sym (nat_less (size * a + r) (size * b + s) (apart size a b r s h l))
    by (inr (inr l)) = ap (λ o. ordering_then o (nat_cmp r s)) (nat_greater a b l)
        ∙ sym (nat_greater (size * a + r) (size * b + s) (apart size b a s r k l))

-- ---- pitches

key_is : (p : Pitch) → pos (unsigned_abs (key_of p)) ≡ key_of p
key_is p = let l : pos 24 ≤ℤ key_of p = p.is_pitch.low in absolute (key_of p) l
  where
    absolute : (z : ℤ) → pos 24 ≤ℤ z → pos (unsigned_abs z) ≡ z
    absolute z l = omega (arith, ints)

key_small : (p : Pitch) → unsigned_abs (key_of p) ≤ 96
key_small p =
    let l : key_of p ≤ℤ pos 96 = p.is_pitch.high in let e = key_is p in bounded (unsigned_abs (key_of p)) (key_of p) e l
  where
    bounded : (n : ℕ) (z : ℤ) → pos n ≡ z → z ≤ℤ pos 96 → n ≤ 96
    bounded n z e l = omega (arith, ints)

pub degree_small : (p : Pitch) → degree_of p < 64
degree_small p = bounded (degree_of p) (alter_of p) p.is_pitch.high p.is_pitch.flat
  where
    bounded : (d : ℕ) (z : ℤ) → key_at d z ≤ℤ pos 96 → negsuc 0 ≤ℤ z → d < 64
    bounded d z h l = omega (arith, ints)

pub pitch_small : (p : Pitch) → packed_pitch p < 8192
pitch_small p = omega (arith, key_small p, degree_small p)

of_naturals : (m n : ℕ) → int_cmp (pos m) (pos n) ≡ nat_cmp m n
of_naturals m n = by (cases_order m n)
  where
    by : (m ≡ n) ⊎ ((m < n) ⊎ (n < m)) → int_cmp (pos m) (pos n) ≡ nat_cmp m n
    by (inl h) = sym (int_cmp_is (pos m) (pos n) Equal (ap pos h)) ∙ sym (nat_equal m n h)
    by (inr (inl h)) = sym (int_cmp_is (pos m) (pos n) Less (omega (arith, ints))) ∙ sym (nat_less m n h)
    by (inr (inr h)) = sym (int_cmp_is (pos m) (pos n) Greater (omega (arith, ints))) ∙ sym (nat_greater m n h)

pitch-order : (p q : Pitch) → pitch_order p q ≡ nat_cmp (packed_pitch p) (packed_pitch q)
pitch-order p q =
    ap (λ o. ordering_then o (nat_cmp (degree_of p) (degree_of q)))
    (keys (unsigned_abs (key_of p)) (unsigned_abs (key_of q)) (key_of p) (key_of q) (key_is p) (key_is q))
    ∙ digits 64 (unsigned_abs (key_of p)) (unsigned_abs (key_of q)) (degree_of p) (degree_of q) (degree_small p)
    (degree_small q)
  where
    keys : (m n : ℕ) (x y : ℤ) → pos m ≡ x → pos n ≡ y → int_cmp x y ≡ nat_cmp m n
    keys m n x y e f = ap (λ z. int_cmp z y) (sym e) ∙ ap (int_cmp (pos m)) (sym f) ∙ of_naturals m n

-- ---- cells

pub cell_small : (c : Cell) → packed_cell c < 65536
cell_small Rest = omega arith
cell_small (Hold p) = omega (arith, pitch_small p)
cell_small (Start p) = omega (arith, pitch_small p)

shifted : (by x y : ℕ) → nat_cmp x y ≡ nat_cmp (by + x) (by + y)
shifted by x y = same_order x y (by + x) (by + y) (λ h. omega arith) (λ h. omega arith) (λ h. omega arith)

cell-order : (c d : Cell) → cell_order c d ≡ nat_cmp (packed_cell c) (packed_cell d)
cell-order Rest Rest = refl
cell-order Rest (Hold q) = sym (nat_less (0) (8192 + packed_pitch q) (omega arith))
cell-order Rest (Start q) = sym (nat_less (0) (16384 + packed_pitch q) (omega arith))
cell-order (Hold p) Rest = sym (nat_greater (8192 + packed_pitch p) (0) (omega arith))
cell-order (Hold p) (Hold q) = pitch-order p q ∙ shifted 8192 (packed_pitch p) (packed_pitch q)
cell-order (Hold p) (Start q) =
    sym (nat_less (8192 + packed_pitch p) (16384 + packed_pitch q) (omega (arith, pitch_small p)))
cell-order (Start p) Rest = sym (nat_greater (16384 + packed_pitch p) (0) (omega arith))
cell-order (Start p) (Hold q) =
    sym (nat_greater (16384 + packed_pitch p) (8192 + packed_pitch q) (omega (arith, pitch_small q)))
cell-order (Start p) (Start q) = pitch-order p q ∙ shifted 16384 (packed_pitch p) (packed_pitch q)

-- ---- columns

abbrev quad : ℕ → ℕ → ℕ → ℕ → ℕ
quad a b c d = 2 ^ 48 * a + (2 ^ 32 * b + (2 ^ 16 * c + d))

quads : (a b c d a' b' c' d' : Cell)
    → ordering_then (cell_order a a') (ordering_then (cell_order b b')
    (ordering_then (cell_order c c') (cell_order d d')))
    ≡ nat_cmp (quad (packed_cell a) (packed_cell b) (packed_cell c) (packed_cell d))
    (quad (packed_cell a') (packed_cell b') (packed_cell c') (packed_cell d'))
quads a b c d a' b' c' d' =
    let two : ordering_then (cell_order c c') (cell_order d d')
    ≡ nat_cmp (2 ^ 16 * packed_cell c + packed_cell d) (2 ^ 16 * packed_cell c' + packed_cell d') =
    ap (λ o. ordering_then o (cell_order d d')) (cell-order c c')
    ∙ ap (ordering_then (nat_cmp (packed_cell c) (packed_cell c'))) (cell-order d d')
    ∙ digits (2 ^ 16) (packed_cell c) (packed_cell c') (packed_cell d) (packed_cell d') (cell_small d) (cell_small d')
    in
    let three : ordering_then (cell_order b b') (ordering_then (cell_order c c') (cell_order d d'))
    ≡ nat_cmp (2 ^ 32 * packed_cell b + (2 ^ 16 * packed_cell c + packed_cell d))
    (2 ^ 32 * packed_cell b' + (2 ^ 16 * packed_cell c' + packed_cell d')) =
    ap (λ o. ordering_then o (ordering_then (cell_order c c') (cell_order d d'))) (cell-order b b')
    ∙ ap (ordering_then (nat_cmp (packed_cell b) (packed_cell b'))) two
    ∙ digits (2 ^ 32) (packed_cell b) (packed_cell b') (2 ^ 16 * packed_cell c + packed_cell d)
    (2 ^ 16 * packed_cell c' + packed_cell d')
    (omega (arith, cell_small c, cell_small d)) (omega (arith, cell_small c', cell_small d')) in
    ap (λ o. ordering_then o (ordering_then (cell_order b b') (ordering_then (cell_order c c') (cell_order d d'))))
    (cell-order a a') ∙ ap (ordering_then (nat_cmp (packed_cell a) (packed_cell a'))) three
    ∙ digits (2 ^ 48) (packed_cell a) (packed_cell a')
    (2 ^ 32 * packed_cell b + (2 ^ 16 * packed_cell c + packed_cell d))
    (2 ^ 32 * packed_cell b' + (2 ^ 16 * packed_cell c' + packed_cell d'))
    (omega (arith, cell_small b, cell_small c, cell_small d))
    (omega (arith, cell_small b', cell_small c', cell_small d'))

then_equal : (o : Ordering) → ordering_then o Equal ≡ o
then_equal Less = refl
then_equal Equal = refl
then_equal Greater = refl

pub packed-order : (c d : List Cell) → length c ≡ length d → length c ≤ 4 → column_order c d
    ≡ nat_cmp (packed c) (packed d)
packed-order [] [] e h = refl
packed-order (a ∷ []) (a' ∷ []) e h = quads a Rest Rest Rest a' Rest Rest Rest
packed-order (a ∷ b ∷ []) (a' ∷ b' ∷ []) e h = quads a b Rest Rest a' b' Rest Rest
packed-order (a ∷ b ∷ c ∷ []) (a' ∷ b' ∷ c' ∷ []) e h = quads a b c Rest a' b' c' Rest
packed-order (a ∷ b ∷ c ∷ d ∷ []) (a' ∷ b' ∷ c' ∷ d' ∷ []) e h =
    ap (λ o. ordering_then (cell_order a a') (ordering_then (cell_order b b') (ordering_then (cell_order c c') o)))
    (then_equal (cell_order d d'))
    ∙ quads a b c d a' b' c' d'
packed-order c d e h = absurd (omega arith)

pub packed-same : (c d : List Cell) → length c ≡ length d → length c ≤ 4 → packed c ≡ packed d → c ≡ d
packed-same c d e h f = column_order-equal c d (packed-order c d e h ∙ nat_equal (packed c) (packed d) f)

pub packed-less : (c d : List Cell) → length c ≡ length d → length c ≤ 4 → column_order c d ≡ Less → packed c < packed d
packed-less c d e h f = by (cases_order (packed c) (packed d))
  where
    by : (packed c ≡ packed d) ⊎ ((packed c < packed d) ⊎ (packed d < packed c)) → packed c < packed d
    by (inl g) = let k : nat_cmp (packed c) (packed d) ≡ Less = sym (packed-order c d e h) ∙ f in
        let l = nat_equal (packed c) (packed d) g in cc
    by (inr (inl g)) = g
    by (inr (inr g)) = let k : nat_cmp (packed c) (packed d) ≡ Less = sym (packed-order c d e h) ∙ f in
        let l = nat_greater (packed c) (packed d) g in cc
