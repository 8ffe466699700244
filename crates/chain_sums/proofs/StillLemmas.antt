-- In a menu of columns that hold all they sound at most one follows another: the one that goes on
-- with all that the other sounds. So its sum is the least (`one_held`), and where there is none
-- there is no sum (`none_held`). Where it costs nothing, the place before has the same row, if it
-- has the same menu (`row_goes_on`).
use Rattle.std.proofs.Common.{◌≡◌, ℕ, zero, suc, ◌+◌, ◌<◌, ◌≤◌, ◌↔◌, true, List, [], ◌∷◌, length, map, get_or, Option, Some, None, refl, ap, sym, ◌∙◌, subst, arith}
use Rattle.std.specs.Prelude.{IsSomeAnd}
use Rattle.std.specs.List.{Contains, list_all}
use Rattle.std.proofs.lemmas.Bool.{and_parts}
use Rattle.std.proofs.lemmas.List.Elements.{All-contains, Contains-get_or}
use Rattle.fux_pitch.proofs.PitchLemmas.{equal_from_test}
use Rattle.fux_grid.specs.declared.cell.Cell.{Cell}
use Rattle.fux_grid.specs.declared.cell.Cell.TheVariants.{Rest, Hold, Start}
use Rattle.fux_grid.specs.Cells.{cell_in, cell_follows, held, is_hold}
use Rattle.fux_grid.specs.Columns.{ColumnFollows}
use Rattle.fux_grid.proofs.PitchTests.{same_pitch-from_equal}
use Rattle.chain_sums.specs.Chains.{AreFull, Chains, IsLeast, IsLeastOf, HasSum, plus}
use Rattle.chain_sums.specs.Packed.{packed}
use Rattle.chain_sums.specs.Rows.{IsRow, IsSumAt, IsSumOf, IsSumWithin}
use Rattle.chain_sums.specs.Still.{GoesOnFreely, IsStill, all_hold, packed_held}
use Rattle.chain_sums.proofs.LeastLemmas.{row_is_enough, sum_of_both}
use Rattle.chain_sums.proofs.SumLemmas.{least_is_one}

-- ---- numbers

cell_in-held : (col : List Cell) (v : ℕ) → cell_in (map held col) v ≡ held (cell_in col v)
cell_in-held [] v = refl
cell_in-held (c ∷ col) zero = refl
cell_in-held (c ∷ col) (suc v) = cell_in-held col v

pub packed_held-packed : (col : List Cell) → packed_held col ≡ packed (map held col)
packed_held-packed col = rw (cell_in-held col 0, cell_in-held col 1, cell_in-held col 2, cell_in-held col 3) refl

-- ---- the one that follows

goes_on : (b c : Cell) → cell_follows b c ≡ true → is_hold c ≡ true → c ≡ held b
goes_on b Rest f h = cc
goes_on b (Start p) f h = cc
goes_on Rest (Hold p) f h = cc
goes_on (Hold q) (Hold p) f h = ap Hold (sym (equal_from_test q p f))
goes_on (Start q) (Hold p) f h = ap Hold (sym (equal_from_test q p f))

follower_is_held : (before next : List Cell) → length before ≡ length next → ColumnFollows before next → all_hold next
    ≡ true → next ≡ map held before
follower_is_held [] [] e f h = refl
follower_is_held [] (c ∷ next) e f h = absurd (omega (arith, e))
follower_is_held (b ∷ before) [] e f h = absurd (omega (arith, e))
follower_is_held (b ∷ before) (c ∷ next) e f h =
    let both = and_parts (is_hold c) (list_all is_hold next) h in
    ap (λ d. d ∷ next) (goes_on b c (f 0) both.0)
    ∙ ap (λ cells. held b ∷ cells) (follower_is_held before next (omega (arith, e)) (λ v. f (suc v)) both.1)

module _ (c : Chains) (i : ℕ) (before : List Cell) (row : List (Option ℕ)) (full : AreFull c.voices (c.menu i))
    (own : length before ≡ c.voices)
    (still : IsStill (c.menu i)) where
  -- a column that has a sum behind another goes on with it
  has_sum_held : (k x : ℕ) → k < length (c.menu i) → IsSumAt c i (Some before) row k x → get_or (c.menu i) k []
      ≡ map held before
  has_sum_held k x h s =
      let size : length (get_or (c.menu i) k [])
      ≡ c.voices = All-contains (λ col. length col ≡ c.voices) (c.menu i) (get_or (c.menu i) k []) full
      (Contains-get_or (c.menu i) k [] h) in
      follower_is_held before (get_or (c.menu i) k []) (own ∙ sym size) s.follows (still k h)

  pub none_held : (Contains (c.menu i) (map held before) → ⊥)
      → IsLeastOf (IsSumWithin c i (Some before) row (length (c.menu i))) None
  none_held out = record { reached = λ x e. cc; lowest = lowest }
    where
      lowest : (x : ℕ) → IsSumWithin c i (Some before) row (length (c.menu i)) x → IsSomeAnd None (λ (y : ℕ). y ≤ x)
      lowest x (k, h, s) =
          absurd (out (subst (Contains (c.menu i)) (has_sum_held k x h s) (Contains-get_or (c.menu i) k [] h)))

  pub one_held : (n : ℕ) (sum : Option ℕ) → IsRow c i row → n < length (c.menu i)
      → (Contains (c.menu i) (map held before) → get_or (c.menu i) n [] ≡ map held before)
      → ((x : ℕ) → (sum ≡ Some x) ↔ IsSumAt c i (Some before) row n x)
      → IsLeastOf (IsSumWithin c i (Some before) row (length (c.menu i))) sum
  one_held n sum is within here value = record { reached = λ x e. (n, within, (value x).0 e); lowest = lowest }
    where
      reached_by : (o : Option ℕ) (x : ℕ) → o ≡ Some x → IsSomeAnd o (λ y. y ≤ x)
      reached_by o x e = let at : x ≤ x = omega arith in subst (λ (p : Option ℕ). IsSomeAnd p (λ y. y ≤ x)) (sym e) at

      lowest : (x : ℕ) → IsSumWithin c i (Some before) row (length (c.menu i)) x → IsSomeAnd sum (λ y. y ≤ x)
      lowest x (k, h, s) =
          let other : get_or (c.menu i) k [] ≡ map held before = has_sum_held k x h s in
          let same : get_or (c.menu i) k [] ≡ get_or (c.menu i) n [] = other
          ∙ sym (here (subst (Contains (c.menu i)) other (Contains-get_or (c.menu i) k [] h))) in
          let rests : get_or row k None ≡ get_or row n None =
          least_is_one (HasSum c (suc i) (Some (get_or (c.menu i) n []))) (get_or row k None) (get_or row n None)
          (subst (λ (d : List Cell). IsLeast c (suc i) (Some d) (get_or row k None)) same (is.least k h))
          (is.least n within) in
          reached_by sum x ((value x).1
          (subst (λ (o : Option ℕ). IsSumOf c i (Some before) (get_or (c.menu i) n []) o x) rests
          (subst (λ (d : List Cell). IsSumOf c i (Some before) d (get_or row k None) x) same s)))

-- ---- the row of the place before

-- a column that holds all it sounds is the one that goes on with what it sounds
held_is_own : (d : List Cell) → all_hold d ≡ true → map held d ≡ d
held_is_own [] h = refl
held_is_own (Rest ∷ d) h = cc
held_is_own (Hold p ∷ d) h = ap (λ cells. Hold p ∷ cells) (held_is_own d h)
held_is_own (Start p ∷ d) h = cc

follows_itself : (d : List Cell) → all_hold d ≡ true → ColumnFollows d d
follows_itself [] h v = refl
follows_itself (Rest ∷ d) h v = cc
follows_itself (Hold p ∷ d) h zero = same_pitch-from_equal p p refl
follows_itself (Hold p ∷ d) h (suc v) = follows_itself d h v
follows_itself (Start p ∷ d) h v = cc

plus_nothing : (rest : Option ℕ) → plus (Some 0) rest ≡ rest
plus_nothing None = refl
plus_nothing (Some x) = ap Some (omega arith)

module _ (c : Chains) (i : ℕ) (row : List (Option ℕ)) (within : i + 1 < c.places) (full : AreFull c.voices (c.menu (i + 1)))
    (free : GoesOnFreely c i) (is : IsRow c (i + 1) row) where
  goes_on_least : (k : ℕ) → k < length (c.menu (i + 1))
      → IsLeast c (i + 1) (Some (get_or (c.menu (i + 1)) k [])) (get_or row k None)
  goes_on_least k h =
      row_is_enough c (i + 1) (Some d) row rest within is
      (one_held c (i + 1) d row full own free.still k rest is h (λ there. sym (held_is_own d still)) value)
    where
      d : List Cell
      d = get_or (c.menu (i + 1)) k []

      rest : Option ℕ
      rest = get_or row k None

      still : all_hold d ≡ true
      still = free.still k h

      own : length d ≡ c.voices
      own = All-contains (λ col. length col ≡ c.voices) (c.menu (i + 1)) d full (Contains-get_or (c.menu (i + 1)) k [] h)

      value : (x : ℕ) → (rest ≡ Some x) ↔ IsSumAt c (i + 1) (Some d) row k x
      value =
          subst (λ (o : Option ℕ). (x : ℕ) → (o ≡ Some x) ↔ IsSumAt c (i + 1) (Some d) row k x) (plus_nothing rest)
          (sum_of_both c (i + 1) (Some d) d rest (Some 0) (follows_itself d still) (sym (free.free d d still)))

  -- each column of the place goes on with itself
  pub row_goes_on : IsRow c i row
  row_goes_on =
      let next : i + 1 ≡ suc i = omega arith in
      record {
        beside = is.beside ∙ ap length (sym free.menu);
        least = λ k h.
            subst (λ (columns : List (List Cell)). IsLeast c (suc i) (Some (get_or columns k [])) (get_or row k None))
            (sym free.menu)
            (subst (λ (n : ℕ). IsLeast c n (Some (get_or (c.menu (i + 1)) k [])) (get_or row k None)) next
            (goes_on_least k (subst (λ (columns : List (List Cell)). k < length columns) free.menu h)));
      }
