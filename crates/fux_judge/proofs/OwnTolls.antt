-- What a column settles of its own tolls is what they cost it, whatever stands before it
-- (`own_apart`), and that is what each of them does (`own_of_each`).
use Rattle.std.proofs.Common.{◌≡◌, ℕ, ◌+◌, ◌*◌, true, List, [], ◌∷◌, length, reverse, refl, ap, sym, ◌∙◌, arith}
use Rattle.std.specs.List.{sum_by}
use Rattle.fux_grid.specs.declared.cell.Cell.{Cell}
use Rattle.fux_grid.specs.declared.exercise.Exercise.{Exercise}
use Rattle.rule_law.specs.Growth.{sum_by-same}
use Rattle.rule_law.specs.Law.{reading-at_end}
use Rattle.rule_law.specs.Prefixes.{GoesOn}
use Rattle.penalty_sheet.specs.declared.sheet.Sheet.{Sheet}
use Rattle.penalty_sheet.specs.Weights.{weight_of}
use Rattle.fux_judge.specs.Links.{column_tolls, is_toll_between, other_late_tolls, others_at_once, own_of, own_toll}
use Rattle.fux_judge.specs.Rules.{costs, is_late_toll, late_tolls, toll_at, tolls_at_once, tolls_read}
use Rattle.fux_judge.specs.Steps.{toll_at_end, toll_late, tolls_at_end}
use Rattle.fux_judge.proofs.ChargeLemmas.{others_here, tolls_here}
use Rattle.fux_judge.proofs.LateLemmas.{other_late_are, tolls_are}
use Rattle.fux_judge.proofs.LinkLemmas.{toll_settled_soon}
use Rattle.fux_judge.proofs.StepPlaces.{toll-late, toll-soon}

-- the tolls of a column
columns_are : column_tolls ≡ 1 ∷ 2 ∷ 3 ∷ 4 ∷ 5 ∷ 6 ∷ 15 ∷ []
unfolding column_tolls tolls_read toll_at
columns_are = refl

-- what they cost a column is what each of them does
pub own_of_each : (ex : Exercise) (sheet : Sheet) (i : ℕ) (now : List Cell) (a b c d e f g : ℕ)
    → a ≡ own_toll ex sheet i now 1 → b ≡ own_toll ex sheet i now 2 → c ≡ own_toll ex sheet i now 3
    → d ≡ own_toll ex sheet i now 4 → e ≡ own_toll ex sheet i now 5 → f ≡ own_toll ex sheet i now 6
    → g ≡ own_toll ex sheet i now 15 → a + b + c + d + e + f + g ≡ own_of ex sheet i now
own_of_each ex sheet i now a b c d e f g ha hb hc hd he hf hg =
    together _ _ _ _ _ _ _ ha hb hc hd he hf hg ∙ sym (ap (sum_by (own_toll ex sheet i now)) columns_are)
  where
    together : (s t u v w x y : ℕ) → a ≡ s → b ≡ t → c ≡ u → d ≡ v → e ≡ w → f ≡ x → g ≡ y
        → a + b + c + d + e + f + g ≡ 0 + s + t + u + v + w + x + y
    together s t u v w x y ha hb hc hd he hf hg = omega arith

-- of two charges that agree on the late ones among them, those of a column stand apart
apart : (f g : ℕ → ℕ) → g 3 ≡ f 3 → g 4 ≡ f 4 → g 5 ≡ f 5 → g 6 ≡ f 6 → g 15 ≡ f 15
    → sum_by f tolls_at_once + sum_by g late_tolls
    ≡ sum_by f others_at_once + sum_by f column_tolls + sum_by g other_late_tolls
apart f g third fourth fifth sixth fifteenth =
    omega (
      arith,
      ap (sum_by f) tolls_here,
      ap (sum_by g) tolls_are,
      ap (sum_by f) others_here,
      ap (sum_by f) columns_are,
      ap (sum_by g) other_late_are,
    )

module _ (ex : Exercise) (sheet : Sheet) (p : List (List Cell)) (col : List Cell) where
  -- a toll of a column reads nothing of what stands before it
  read_alone : sum_by (λ toll. costs toll ex (length p) (reverse p) col [] * weight_of sheet toll) column_tolls
      ≡ own_of ex sheet (length p) col
  unfolding column_tolls tolls_read toll_at
  read_alone = refl

  own_at_end : sum_by (toll_at_end ex sheet p col) column_tolls ≡ own_of ex sheet (length p) col
  own_at_end =
      sum_by-same (toll_at_end ex sheet p col)
      (λ toll. costs toll ex (length p) (reverse p) col [] * weight_of sheet toll) column_tolls
      (λ toll. ap (λ n. n * weight_of sheet toll) (reading-at_end (costs toll ex) p col))
      ∙ read_alone

  module _ (on : GoesOn ex p (col ∷ [])) where
    -- a late one among them is settled at the column's own place
    settled_there : (toll : ℕ) → is_late_toll toll ≡ true → is_toll_between toll ≡ true
        → toll_late ex sheet p col toll ≡ toll_at_end ex sheet p col toll
    settled_there toll late between =
        sym (toll-late ex p col sheet toll late on)
        ∙ toll-soon ex p col sheet toll (toll_settled_soon toll between ex)

    third : toll_late ex sheet p col 3 ≡ toll_at_end ex sheet p col 3
    unfolding toll_at
    third = settled_there 3 refl refl

    fourth : toll_late ex sheet p col 4 ≡ toll_at_end ex sheet p col 4
    unfolding toll_at
    fourth = settled_there 4 refl refl

    fifth : toll_late ex sheet p col 5 ≡ toll_at_end ex sheet p col 5
    unfolding toll_at
    fifth = settled_there 5 refl refl

    sixth : toll_late ex sheet p col 6 ≡ toll_at_end ex sheet p col 6
    unfolding toll_at
    sixth = settled_there 6 refl refl

    fifteenth : toll_late ex sheet p col 15 ≡ toll_at_end ex sheet p col 15
    unfolding toll_at
    fifteenth = settled_there 15 refl refl

    -- so all that it settles of tolls is what its own ones cost it, and the others
    pub own_apart : tolls_at_end ex sheet p col + sum_by (toll_late ex sheet p col) late_tolls
        ≡ sum_by (toll_at_end ex sheet p col) others_at_once + own_of ex sheet (length p) col + sum_by
        (toll_late ex sheet p col) other_late_tolls
    own_apart =
        apart (toll_at_end ex sheet p col) (toll_late ex sheet p col) third fourth fifth sixth fifteenth
        ∙ ap (λ n. sum_by (toll_at_end ex sheet p col) others_at_once + n + sum_by (toll_late ex sheet p col)
        other_late_tolls) own_at_end
