-- What is read of the first voices of a column: their cells, and which of them is the lowest that
-- sounds. It's the same in each column that has their cells.
use Rattle.std.specs.Prelude.{◌≡◌, ℕ, zero, suc, ◌+◌, ◌<◌, ◌==◌, Bool, true, false, not, ◌&&◌, ◌||◌, nat_lt, List, [], ◌∷◌, Option, Some, None, take, length, if◌then◌else◌, refl}
use Rattle.std.specs.List.{position_or_len}
use Rattle.std.proofs.Common.{ap, sym, ◌∙◌, arith}
use Rattle.std.proofs.lemmas.List.{get_or-take}
use Rattle.std.proofs.lemmas.Bool.Decides.{nat_tests}
use Rattle.fux_grid.specs.declared.cell.Cell.{Cell}
use Rattle.fux_grid.specs.declared.cell.Cell.TheVariants.{Rest}
use Rattle.fux_grid.specs.declared.exercise.Exercise.{Exercise}
use Rattle.fux_grid.specs.Cells.{cell_in}
use Rattle.rule_law.specs.Law.{first_true, second_true, below_from_test, test_from_below}
use Rattle.rule_law.specs.Pairs.{one_starts, sound_same_key, sound_perfect, both_move, move_alike, move_into_perfect, go_same_way}
use Rattle.rule_law.specs.Terms.{starts, moves, sounds, is_this, is_lowest, clash, holds_of, interval_in, interval_of_cells, is_same_key}
use Rattle.fux_pitch.specs.Size.{is_consonant_size, is_perfect_size}
use Rattle.rule_law.specs.Voices.{voice_of, pair_of, holds_of_voice, holds_of_pair, on_voice, on_free_voice, on_pair, is_free, voice_is_below, pair_is_below, is_below}

-- a test of voices answers the same of all the first ones
abbrev pub SameBelow : {R : Type 0} → ℕ → (ℕ → R) → (ℕ → R) → Type 0
SameBelow n f g = (v : ℕ) → v < n → f v ≡ g v

pub on_voice-same : (ex : Exercise) (n voices : ℕ) (f g : ℕ → Bool) → is_below n voices ≡ true → SameBelow n f g
    → on_voice ex f voices ≡ on_voice ex g voices
on_voice-same ex n voices f g h same =
    at (voice_of voices) (first_true (voice_is_below n (voice_of voices)) (pair_is_below n (pair_of voices)) h)
  where
    at : (o : Option ℕ) → voice_is_below n o ≡ true → holds_of_voice ex f o ≡ holds_of_voice ex g o
    at None k = refl
    at (Some v) k = ap (λ b. nat_lt v ex.voices && b) (same v (below_from_test v n k))

pub on_free_voice-same : (ex : Exercise) (n voices : ℕ) (f g : ℕ → Bool) → is_below n voices ≡ true → SameBelow n f g
    → on_free_voice ex f voices ≡ on_free_voice ex g voices
on_free_voice-same ex n voices f g h same =
    on_voice-same ex n voices (λ v. is_free ex v && f v) (λ v. is_free ex v && g v) h
    (λ v k. ap (λ b. is_free ex v && b) (same v k))

pub on_pair-same : (ex : Exercise) (n voices : ℕ) (f g : ℕ → ℕ → Bool) → is_below n voices ≡ true
    → ((v w : ℕ) → v < n → w < n → f v w ≡ g v w) → on_pair ex f voices ≡ on_pair ex g voices
on_pair-same ex n voices f g h same =
    at (pair_of voices) (second_true (voice_is_below n (voice_of voices)) (pair_is_below n (pair_of voices)) h)
  where
    at : (o : Option (ℕ × ℕ)) → pair_is_below n o ≡ true → holds_of_pair ex f o ≡ holds_of_pair ex g o
    at None k = refl
    at (Some pair) k =
        ap (λ b. nat_lt pair.1 ex.voices && b)
        (same pair.0 pair.1 (below_from_test pair.0 n (first_true (nat_lt pair.0 n) (nat_lt pair.1 n) k))
        (below_from_test pair.1 n (second_true (nat_lt pair.0 n) (nat_lt pair.1 n) k)))

-- where a column begins with a cell, its voice 0 is the lowest where the cell sounds, and a later
-- one where it doesn't
lowest_first : (b : Bool) (k l : ℕ) → is_this 0
    (if nat_lt (if not b then 1 + k else 0) (suc l) then Some (if not b then 1 + k else 0) else None) ≡ b
lowest_first true k l = ap (λ t. is_this 0 (if t then Some 0 else None)) (test_from_below 0 (suc l) (omega arith))
lowest_first false k l = at (nat_lt (1 + k) (suc l))
  where
    at : (t : Bool) → is_this 0 (if t then Some (1 + k) else None) ≡ false
    at true = grind (arith, nat_tests)
    at false = refl

lowest_later : (b : Bool) (k l v : ℕ) → is_this (suc v)
    (if nat_lt (if not b then 1 + k else 0) (suc l) then Some (if not b then 1 + k else 0) else None)
    ≡ (not b && is_this v (if nat_lt k l then Some k else None))
lowest_later true k l v =
    ap (λ t. is_this (suc v) (if t then Some 0 else None)) (test_from_below 0 (suc l) (omega arith)) ∙ not_first v
  where
    not_first : (v : ℕ) → (0 == suc v) ≡ false
    not_first v = grind (arith, nat_tests)
lowest_later false k l v = at (nat_lt k l) (nat_lt (1 + k) (suc l)) (same_test k l)
  where
    same_test : (k l : ℕ) → nat_lt (1 + k) (suc l) ≡ nat_lt k l
    same_test k l = grind (arith, nat_tests)

    same_number : (k v : ℕ) → (1 + k == suc v) ≡ (k == v)
    same_number k v = grind (arith, nat_tests)

    at : (s t : Bool) → t ≡ s → is_this (suc v) (if t then Some (1 + k) else None)
        ≡ is_this v (if s then Some k else None)
    at true true e = same_number k v
    at false false e = refl
    at true false e = cc
    at false true e = cc

lowest_of_first : (c : Cell) (cs : List Cell) → is_lowest (c ∷ cs) 0 ≡ sounds c
lowest_of_first c cs = lowest_first (sounds c) (position_or_len sounds cs) (length cs)

lowest_of_later : (c : Cell) (cs : List Cell) (v : ℕ) → is_lowest (c ∷ cs) (suc v) ≡ (not (sounds c) && is_lowest cs v)
lowest_of_later c cs v = lowest_later (sounds c) (position_or_len sounds cs) (length cs) v

-- of the first voices all is read in the first cells
pub lowest-take : (n : ℕ) (col : List Cell) (v : ℕ) → v < n → is_lowest (take n col) v ≡ is_lowest col v
lowest-take zero col v h = absurd (omega arith)
lowest-take (suc n) [] v h = refl
lowest-take (suc n) (c ∷ cs) zero h = lowest_of_first c (take n cs) ∙ sym (lowest_of_first c cs)
lowest-take (suc n) (c ∷ cs) (suc v) h =
    lowest_of_later c (take n cs) v ∙ ap (λ b. not (sounds c) && b) (lowest-take n cs v (omega arith))
    ∙ sym (lowest_of_later c cs v)

-- two columns have the same cells in their first voices
pub record IsSameBelow (n : ℕ) (a b : List Cell) : Type 0 where
  pub cells : SameBelow n (cell_in a) (cell_in b)
  pub lowest : SameBelow n (is_lowest a) (is_lowest b)

pub same_below : (n : ℕ) (a b : List Cell) → take n a ≡ take n b → IsSameBelow n a b
same_below n a b e = record {
  cells = λ v h. sym (get_or-take n a v Rest h) ∙ ap (λ col. cell_in col v) e ∙ get_or-take n b v Rest h;
  lowest = λ v h. sym (lowest-take n a v h) ∙ ap (λ col. is_lowest col v) e ∙ lowest-take n b v h;
}

-- so the words of two voices are the same of the first ones
module _ (n : ℕ) (a b : List Cell) (same : IsSameBelow n a b) (v w : ℕ) (h : v < n) (k : w < n) where
  pub one_starts-same : one_starts a v w ≡ one_starts b v w
  one_starts-same = ap (λ c. starts c || starts (cell_in a w)) (same.cells v h)
      ∙ ap (λ c. starts (cell_in b v) || starts c) (same.cells w k)

  pub interval-same : interval_in a v w ≡ interval_in b v w
  interval-same = ap (λ c. interval_of_cells c (cell_in a w)) (same.cells v h)
      ∙ ap (interval_of_cells (cell_in b v)) (same.cells w k)

  pub same_key-same : sound_same_key a v w ≡ sound_same_key b v w
  same_key-same = ap (holds_of is_same_key) interval-same

  pub perfect-same : sound_perfect a v w ≡ sound_perfect b v w
  perfect-same = ap (holds_of is_perfect_size) interval-same

  pub clash-same : clash a v w ≡ clash b v w
  clash-same =
      ap (λ l. holds_of (λ i. not (is_consonant_size i (l || is_lowest a w))) (interval_in a v w)) (same.lowest v h)
      ∙ ap (λ l. holds_of (λ i. not (is_consonant_size i (is_lowest b v || l))) (interval_in a v w)) (same.lowest w k)
      ∙ ap (holds_of (λ i. not (is_consonant_size i (is_lowest b v || is_lowest b w)))) interval-same

  module _ (before : List Cell) where
    pub both_move-same : both_move before a v w ≡ both_move before b v w
    both_move-same =
        ap (λ c. moves (cell_in before v) c && moves (cell_in before w) (cell_in a w)) (same.cells v h)
        ∙ ap (λ c. moves (cell_in before v) (cell_in b v) && moves (cell_in before w) c) (same.cells w k)

    pub move_alike-same : move_alike before a v w ≡ move_alike before b v w
    move_alike-same =
        ap (λ t. t && go_same_way (interval_of_cells (cell_in before v) (cell_in a v))
        (interval_of_cells (cell_in before w) (cell_in a w))) both_move-same
        ∙ ap (λ c. both_move before b v w && go_same_way (interval_of_cells (cell_in before v) c)
        (interval_of_cells (cell_in before w) (cell_in a w))) (same.cells v h)
        ∙ ap (λ c. both_move before b v w && go_same_way (interval_of_cells (cell_in before v) (cell_in b v))
        (interval_of_cells (cell_in before w) c)) (same.cells w k)

    pub into_perfect-same : move_into_perfect before a v w ≡ move_into_perfect before b v w
    into_perfect-same =
        ap (λ t. t && sound_perfect a v w) move_alike-same ∙ ap (λ t. move_alike before b v w && t) perfect-same
