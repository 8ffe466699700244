-- Each column of a bar may follow the one before it.
use Rattle.std.specs.Prelude.{◌≡◌, ℕ, zero, suc, ◌+◌, ◌*◌, ◌<◌, ◌≤◌, List, [], ◌∷◌, ◌++◌, IsSome, IsTrue, nat_lt, true, length, replicate, reverse, slice_index_or, take, refl}
use Rattle.std.proofs.Common.{sym, ap, ◌∙◌, subst, arith}
use Rattle.std.proofs.lemmas.List.{append_assoc, append-nil, length-append, length-map, length-take-le, replicate-append-replicate}
use Rattle.fux_grid.specs.declared.cell.Cell.{Cell}
use Rattle.fux_grid.specs.declared.cell.Cell.TheVariants.{Rest, Hold, Start}
use Rattle.fux_grid.specs.Cells.{cell_follows}
use Rattle.fux_grid.specs.Columns.{ColumnFollows, FollowsLast, newest_column}
use Rattle.fux_grid.proofs.Histories.{reverse-push}
use Rattle.fux_grid.proofs.PitchTests.{same_pitch-from_equal}
use Rattle.rule_law.specs.Law.{below_from_test, first_true, second_true}
use Rattle.penalty_sheet.specs.declared.sheet.Sheet.{Sheet}
use Rattle.canon_space.specs.declared.canon.Canon.{Canon}
use Rattle.canon_space.specs.Grows.{history-length}
use Rattle.canon_space.specs.Paths.{WIDTH, are_numbers, bars_at, history_at, live_at, numbered_bar}
use Rattle.canon_space.specs.Rules.{columns_of, columns_of_bar, goes_on, is_live}
use Rattle.canon_space.proofs.Trees.{few_if_live, path_is_live}

goes_on_follows : (c : Cell) → IsTrue (cell_follows c (goes_on c))
goes_on_follows Rest = refl
goes_on_follows (Hold p) = same_pitch-from_equal p p refl
goes_on_follows (Start p) = same_pitch-from_equal p p refl

held_follows : (c : Cell) → IsTrue (cell_follows (goes_on c) (goes_on c))
held_follows Rest = refl
held_follows (Hold p) = same_pitch-from_equal p p refl
held_follows (Start p) = same_pitch-from_equal p p refl

-- the columns within a bar, after those before them
abbrev pub held_after : List (List Cell) → Cell → Cell → ℕ → List (List Cell)
held_after first a b i = first ++ replicate i (goes_on a ∷ goes_on b ∷ [])

module _ (before : List (List Cell)) (a b : Cell) where
  abbrev begun : List (List Cell)
  begun = before ++ (a ∷ b ∷ []) ∷ []

  abbrev held : List Cell
  held = goes_on a ∷ goes_on b ∷ []

  pub held-more : (i : ℕ) → held_after begun a b i ++ held ∷ [] ≡ held_after begun a b (i + 1)
  held-more i = append_assoc begun (replicate i held) (held ∷ [])
      ∙ ap (λ cols. begun ++ cols) (replicate-append-replicate i 1 held)

  pub held-follow : (i : ℕ) → FollowsLast (held_after begun a b i) held
  held-follow zero = subst (λ (col : List Cell). ColumnFollows col held) (sym newest) first
    where
      newest : newest_column (reverse (held_after begun a b 0)) ≡ a ∷ b ∷ []
      newest = ap (λ s. newest_column (reverse s)) (append-nil begun) ∙ ap newest_column (reverse-push before (a ∷ b ∷ []))

      first : ColumnFollows (a ∷ b ∷ []) held
      first zero = goes_on_follows a
      first (suc zero) = goes_on_follows b
      first (suc (suc v)) = refl
  held-follow (suc i) = subst (λ (col : List Cell). ColumnFollows col held) (sym newest) next
    where
      one : i + 1 ≡ suc i
      one = omega arith

      newest : newest_column (reverse (held_after begun a b (suc i))) ≡ held
      newest = ap (λ n. newest_column (reverse (held_after begun a b n))) (sym one)
          ∙ ap (λ s. newest_column (reverse s)) (sym (held-more i))
          ∙ ap newest_column (reverse-push (held_after begun a b i) held)

      next : ColumnFollows held held
      next zero = held_follows a
      next (suc zero) = held_follows b
      next (suc (suc v)) = refl

-- ---- bar after bar

eight_each : (bars : List (List Cell)) → length (columns_of bars) ≡ 8 * length bars
eight_each [] = refl
eight_each (bar ∷ bars) =
    let both = length-append (columns_of_bar bar) (columns_of bars) in
    omega (arith, both, eight_each bars)

pub eight_a_number : (path : List ℕ) → length (columns_of (bars_at path)) ≡ 8 * length path
eight_a_number path =
    let same : length (bars_at path) ≡ length path = length-map path numbered_bar in
    omega (arith, eight_each (bars_at path), same)

number-at : (path : List ℕ) → are_numbers path ≡ true → (i : ℕ) → i < length path → slice_index_or path i 0 < WIDTH
number-at [] h i w = absurd (omega arith)
number-at (k ∷ path) h zero w = below_from_test k WIDTH (first_true (nat_lt k WIDTH) (are_numbers path) h)
number-at (k ∷ path) h (suc i) w = number-at path (second_true (nat_lt k WIDTH) (are_numbers path) h) i (omega arith)

-- there is room for each bar of a live path
pub record HasPlace (path : List ℕ) (i : ℕ) : Type 0 where
  pub number : slice_index_or path i 0 < 5476
  pub room : length (columns_of (bars_at (take i path))) + 8 ≤ 192

pub bar_has_place : (canon : Canon) (sheet : Sheet) → canon.bars ≤ 24 → (path : List ℕ)
    → IsSome (live_at canon sheet path) → (i : ℕ) → i < length path → HasPlace path i
bar_has_place canon sheet most path h i w =
    let live = path_is_live canon sheet path h in
    let few = few_if_live canon (history_at path)
    (second_true (are_numbers path) (is_live canon (history_at path)) live) in
    let before : length (bars_at (take i path)) ≡ i = length-map (take i path) numbered_bar
    ∙ length-take-le i path (omega (arith, w)) in
    record {
      number = number-at path (first_true (are_numbers path) (is_live canon (history_at path)) live) i w;
      room = omega (arith, eight_each (bars_at (take i path)), before, few, history-length path, most, w);
    }
