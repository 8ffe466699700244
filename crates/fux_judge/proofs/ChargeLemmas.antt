-- The tolls of melody, summed by voices in place of tolls.
use Rattle.std.proofs.Common.{◌≡◌, Option, Some, None, add-one, ℕ, zero, suc, ◌+◌, ◌*◌, ◌<◌, ◌≤◌, ◌&&◌, Bool, true, false, List, [], ◌∷◌, ◌++◌, length, reverse, take, refl, ap, sym, ◌∙◌, arith}
use Rattle.std.specs.Prelude.{IsSomeAnd, if◌then◌else◌}
use Rattle.std.specs.List.{sum_by}
use Rattle.fux_grid.specs.declared.cell.Cell.{Cell}
use Rattle.fux_grid.specs.declared.exercise.Exercise.{Exercise}
use Rattle.fux_grid.specs.Cells.{cell_in}
use Rattle.fux_grid.specs.Columns.{line}
use Rattle.rule_law.specs.Growth.{sum_below, sum_below-same}
use Rattle.rule_law.specs.Law.{reading-at_end}
use Rattle.rule_law.proofs.LowerVoices.{same_below}
use Rattle.rule_law.specs.Nearby.{pitch_at, previous_pitches}
use Rattle.rule_law.specs.Terms.{previous_pitch}
use Rattle.rule_law.specs.Voices.{is_free}
use Rattle.melody_rules.specs.Rows as melody
use Rattle.penalty_sheet.specs.declared.sheet.Sheet.{Sheet}
use Rattle.penalty_sheet.specs.Weights.{weight_of}
use Rattle.fux_judge.specs.Charges.{stands, tolls_of_melody, tolls_of_pairs, voice_charge, voice_charges, voice_toll}
use Rattle.fux_judge.specs.Links.{others_at_once}
use Rattle.fux_judge.specs.Penalties.{newly_paid}
use Rattle.fux_judge.specs.Rules.{costs, cost_at, toll_at, tolls_at_once, tolls_read}
use Rattle.fux_judge.specs.Steps.{toll_at_end, tolls_at_end}
use Rattle.fux_judge.proofs.StepPlaces.{tolls_within}

-- so many of four, by a weight, is the weight for each of them
weighed : (a b c d : Bool) (w : ℕ) → (0 + (if a then 1 else 0) + (if b then 1 else 0) + (if c then 1 else 0) +
    (if d then 1 else 0)) * w ≡ (if a then w else 0) + (if b then w else 0) + (if c then w else 0) +
    (if d then w else 0)
weighed true true true true w = omega arith
weighed true true true false w = omega arith
weighed true true false true w = omega arith
weighed true true false false w = omega arith
weighed true false true true w = omega arith
weighed true false true false w = omega arith
weighed true false false true w = omega arith
weighed true false false false w = omega arith
weighed false true true true w = omega arith
weighed false true true false w = omega arith
weighed false true false true w = omega arith
weighed false true false false w = omega arith
weighed false false true true w = omega arith
weighed false false true false w = omega arith
weighed false false false true w = omega arith
weighed false false false false w = omega arith

-- the tolls that are settled at once are those of melody, and those of several voices
pub tolls_here : tolls_at_once ≡ 1 ∷ 2 ∷ 7 ∷ 8 ∷ 9 ∷ 10 ∷ 11 ∷ 13 ∷ []
unfolding tolls_at_once tolls_read toll_at
tolls_here = refl

-- without those that a column decides by itself
pub others_here : others_at_once ≡ 7 ∷ 8 ∷ 9 ∷ 10 ∷ 11 ∷ 13 ∷ []
unfolding others_at_once tolls_at_once tolls_read toll_at
others_here = refl

module _ (ex : Exercise) (sheet : Sheet) (p : List (List Cell)) (col : List Cell) where
  -- each toll of melody at the column is what it costs the four voices
  seven : cost_at 7 ex (p ++ col ∷ []) (length p) * weight_of sheet 7
      ≡ voice_toll ex sheet p col 0 7 + voice_toll ex sheet p col 1 7 + voice_toll ex sheet p col 2 7 + voice_toll ex
      sheet p col 3 7
  unfolding toll_at melody.toll_rows
  seven = ap (λ n. n * weight_of sheet 7) (reading-at_end (costs 7 ex) p col) ∙ weighed _ _ _ _ (weight_of sheet 7)

  eight : cost_at 8 ex (p ++ col ∷ []) (length p) * weight_of sheet 8
      ≡ voice_toll ex sheet p col 0 8 + voice_toll ex sheet p col 1 8 + voice_toll ex sheet p col 2 8 + voice_toll ex
      sheet p col 3 8
  unfolding toll_at melody.toll_rows
  eight = ap (λ n. n * weight_of sheet 8) (reading-at_end (costs 8 ex) p col) ∙ weighed _ _ _ _ (weight_of sheet 8)

  nine : cost_at 9 ex (p ++ col ∷ []) (length p) * weight_of sheet 9
      ≡ voice_toll ex sheet p col 0 9 + voice_toll ex sheet p col 1 9 + voice_toll ex sheet p col 2 9 + voice_toll ex
      sheet p col 3 9
  unfolding toll_at melody.toll_rows
  nine = ap (λ n. n * weight_of sheet 9) (reading-at_end (costs 9 ex) p col) ∙ weighed _ _ _ _ (weight_of sheet 9)

  ten : cost_at 10 ex (p ++ col ∷ []) (length p) * weight_of sheet 10
      ≡ voice_toll ex sheet p col 0 10 + voice_toll ex sheet p col 1 10 + voice_toll ex sheet p col 2 10 + voice_toll ex
      sheet p col 3 10
  unfolding toll_at melody.toll_rows
  ten = ap (λ n. n * weight_of sheet 10) (reading-at_end (costs 10 ex) p col) ∙ weighed _ _ _ _ (weight_of sheet 10)

  thirteen : cost_at 13 ex (p ++ col ∷ []) (length p) * weight_of sheet 13
      ≡ voice_toll ex sheet p col 0 13 + voice_toll ex sheet p col 1 13 + voice_toll ex sheet p col 2 13 + voice_toll ex
      sheet p col 3 13
  unfolding toll_at melody.open_leaps
  thirteen =
      ap (λ n. n * weight_of sheet 13) (reading-at_end (costs 13 ex) p col) ∙ weighed _ _ _ _ (weight_of sheet 13)

  by_numbers : sum_by (toll_at_end ex sheet p col) (1 ∷ 2 ∷ 7 ∷ 8 ∷ 9 ∷ 10 ∷ 11 ∷ 13 ∷ [])
      ≡ voice_charge ex sheet p col 0 + voice_charge ex sheet p col 1 + voice_charge ex sheet p col 2 + voice_charge ex
      sheet p col 3 + sum_by (toll_at_end ex sheet p col) tolls_of_pairs
  by_numbers = omega (arith, seven, eight, nine, ten, thirteen)

  -- so all tolls that are settled at once are what each voice pays, and the others
  pub tolls_by_voices : tolls_at_end ex sheet p col
      ≡ voice_charge ex sheet p col 0 + voice_charge ex sheet p col 1 + voice_charge ex sheet p col 2 + voice_charge ex
      sheet p col 3 + sum_by (λ toll. cost_at toll ex (p ++ col ∷ []) (length p) * weight_of sheet toll) tolls_of_pairs
  tolls_by_voices = ap (sum_by (toll_at_end ex sheet p col)) tolls_here ∙ by_numbers

  others_by_numbers : sum_by (toll_at_end ex sheet p col) (7 ∷ 8 ∷ 9 ∷ 10 ∷ 11 ∷ 13 ∷ [])
      ≡ voice_charge ex sheet p col 0 + voice_charge ex sheet p col 1 + voice_charge ex sheet p col 2 + voice_charge ex
      sheet p col 3 + toll_at_end ex sheet p col 11
  others_by_numbers = omega (arith, seven, eight, nine, ten, thirteen)

  -- and those of them that a column doesn't decide by itself are what each voice pays, and Q11
  pub others_by_voices : sum_by (toll_at_end ex sheet p col) others_at_once
      ≡ voice_charge ex sheet p col 0 + voice_charge ex sheet p col 1 + voice_charge ex sheet p col 2 + voice_charge ex
      sheet p col 3 + toll_at_end ex sheet p col 11
  others_by_voices = ap (sum_by (toll_at_end ex sheet p col)) others_here ∙ others_by_numbers

  no_more : (n : ℕ) → n ≤ 4 → voice_charges n ex sheet p col ≤ voice_charge ex sheet p col 0 + voice_charge ex sheet p
      col 1 + voice_charge ex sheet p col 2 + voice_charge ex sheet p col 3
  no_more zero h = omega arith
  no_more (suc zero) h = omega arith
  no_more (suc (suc zero)) h = omega arith
  no_more (suc (suc (suc zero))) h = omega arith
  no_more (suc (suc (suc (suc zero)))) h = omega arith
  no_more (suc (suc (suc (suc (suc n))))) h = absurd (omega arith)

  -- a column settles no less than its first voices pay, with what they cost together
  pub settles_all : (n : ℕ) → n ≤ 4 → voice_charges n ex sheet p col + sum_by
      (λ toll. cost_at toll ex (p ++ col ∷ []) (length p) * weight_of sheet toll) tolls_of_pairs ≤ newly_paid ex sheet p
      col
  settles_all n h = at_most _ _ _ _ _ (no_more n h) tolls_by_voices (tolls_within ex p col sheet)
    where
      at_most : (few four together tolls settled : ℕ) → few ≤ four → tolls ≡ four + together → tolls ≤ settled
          → few + together ≤ settled
      at_most few four together tolls settled a b c = omega arith

-- and no less than the first voices pay of any column that has their cells
pub settles_first : (ex : Exercise) (sheet : Sheet) (p : List (List Cell)) (col other : List Cell) (n : ℕ) → n ≤ 4
    → take n other ≡ take n col → voice_charges n ex sheet p col ≤ newly_paid ex sheet p other
settles_first ex sheet p col other n h same =
    at_most _ _ _ _ (sum_below-same (voice_charge ex sheet p col) (voice_charge ex sheet p other) n
    (λ v k. ap (charge_of v) (sym ((same_below n other col same).cells v k)))) (settles_all ex sheet p other n h)
  where
    charge_of : ℕ → Cell → ℕ
    charge_of v now = sum_by (λ toll. if is_free ex v && stands toll (line v (reverse p)) now then weight_of sheet toll
        else 0) tolls_of_melody

    at_most : (few same together settled : ℕ) → few ≡ same → same + together ≤ settled → few ≤ settled
    at_most few same together settled a b = omega arith

-- what the voice's move costs, from the pitch of its latest note
pub paid_by_voice : (ex : Exercise) (sheet : Sheet) (p : List (List Cell)) (col : List Cell) (v move leap : ℕ)
    → is_free ex v ≡ true
    → move ≡ (if stands 7 (line v (reverse p)) (cell_in col v) then weight_of sheet 7 else 0) +
    (if stands 8 (line v (reverse p)) (cell_in col v) then weight_of sheet 8 else 0) +
    (if stands 9 (line v (reverse p)) (cell_in col v) then weight_of sheet 9 else 0) +
    (if stands 10 (line v (reverse p)) (cell_in col v) then weight_of sheet 10 else 0)
    → leap ≡ (if stands 13 (line v (reverse p)) (cell_in col v) then weight_of sheet 13 else 0)
    → move + leap ≡ voice_charge ex sheet p col v
paid_by_voice ex sheet p col v move leap free e f = together _ _ _ _ _ move leap e f ∙ sym (ap charge_where free)
  where
    charge_where : Bool → ℕ
    charge_where b = sum_by (λ toll. if b && stands toll (line v (reverse p)) (cell_in col v) then weight_of sheet toll
        else 0) tolls_of_melody

    together : (a b c d e move leap : ℕ) → move ≡ a + b + c + d → leap ≡ e → move + leap ≡ 0 + a + b + c + d + e
    together a b c d e move leap h k = omega arith

pub latest_of_line : (behind : List (List Cell)) (v : ℕ) → v < 4 → pitch_at (previous_pitches behind) v
    ≡ previous_pitch (line v behind)
latest_of_line behind zero h = refl
latest_of_line behind (suc zero) h = refl
latest_of_line behind (suc (suc zero)) h = refl
latest_of_line behind (suc (suc (suc zero))) h = refl
latest_of_line behind (suc (suc (suc (suc v)))) h = absurd (omega arith)

-- and together they cost that
pub charged_by_voices : (ex : Exercise) (sheet : Sheet) (p : List (List Cell)) (col : List Cell) (a b c d e : ℕ) → a
    ≡ voice_charge ex sheet p col 0 → b ≡ voice_charge ex sheet p col 1 → c ≡ voice_charge ex sheet p col 2 → d
    ≡ voice_charge ex sheet p col 3 → e ≡ toll_at_end ex sheet p col 11 → a + b + c + d + e ≡ sum_by
    (toll_at_end ex sheet p col) others_at_once
charged_by_voices ex sheet p col a b c d e ha hb hc hd he =
    together _ _ _ _ _ ha hb hc hd he ∙ sym (others_by_voices ex sheet p col)
  where
    together : (w x y z t : ℕ) → a ≡ w → b ≡ x → c ≡ y → d ≡ z → e ≡ t → a + b + c + d + e ≡ w + x + y + z + t
    together w x y z t ha hb hc hd he = omega arith

-- one voice more
pub one_voice_more : (ex : Exercise) (sheet : Sheet) (p : List (List Cell)) (col : List Cell) (n least charge : ℕ)
    → least ≤ voice_charges n ex sheet p col → charge ≤ voice_charge ex sheet p col n
    → least + charge ≤ voice_charges (n + 1) ex sheet p col
one_voice_more ex sheet p col n least charge h k =
    at_most _ _ _ h k (ap (sum_below (voice_charge ex sheet p col)) (add-one n))
  where
    at_most : (a b c : ℕ) → least ≤ a → charge ≤ b → c ≡ a + b → least + charge ≤ c
    at_most a b c h k e = omega arith

-- a limit that what is found reaches, is reached by no less
pub reached : {P Q : ℕ → Type 0} (limit : Option ℕ) → ((most : ℕ) → P most → Q most) → IsSomeAnd limit P
    → IsSomeAnd limit Q
reached None more h = h
reached (Some most) more h = more most h
