-- What a column costs behind another is at most 7,864,200 (`link_low`): a toll costs 6 at most,
-- twenty tolls are read at most, and a weight has sixteen bits. So the least sum over the chains of
-- 192 columns is below 2^32, and so is each entry that is written (`entries_small`).
use Rattle.std.proofs.Common.{◌≡◌, ℕ, zero, suc, ◌+◌, ◌*◌, ◌≤◌, Bool, true, false, List, [], ◌∷◌, Option, Some, None, length, refl, subst, arith, if◌then◌else◌}
use Rattle.std.specs.Prelude.{◌-◌, ◌++◌, ◌&&◌, ◌==◌, map, nat_lt, slice_index_or}
use Rattle.std.specs.Int.{from_bool}
use Rattle.std.specs.List.{AllByRecursion, list_any, sum_by}
use Rattle.std.proofs.lemmas.List.Sums.{count_by-le-length, sum_by-le}
use Rattle.cert_text.specs.declared.potential.Potential.{Potential}
use Rattle.cert_text.specs.Potentials.{IsPotential}
use Rattle.cert_law.specs.Rests.{HasSmallWeights, entries_at, entries_from, entries_of, rest_behind, stating}
use Rattle.cert_law.proofs.EntryLemmas.{least_at}
use Rattle.chain_sums.specs.Chains.{cells_of, plus}
use Rattle.chain_sums.specs.Sums.{column_follows, least_sum, sum_behind}
use Rattle.chain_sums.proofs.LeastLemmas.{same_value}
use Rattle.dissonance_rules.specs.Book as dissonance
use Rattle.doubling_rules.specs.Book as doubling
use Rattle.doubling_rules.specs.Rows as doubling_rows
use Rattle.floor_tables.specs.Floors.{chains_of, rest_of}
use Rattle.fux_grid.specs.declared.cell.Cell.{Cell}
use Rattle.fux_grid.specs.declared.exercise.Exercise.{Exercise}
use Rattle.fux_grid.specs.Cells.{cell_in}
use Rattle.fux_grid.specs.Columns.{line}
use Rattle.fux_grid.specs.Exercises.{IsValid, columns_in}
use Rattle.fux_grid.specs.Menus.{menu_of}
use Rattle.fux_judge.specs.Links.{behind_of, breaks_strictly, cost_between, is_of_neighbors, link_of}
use Rattle.fux_judge.specs.Rules.{rules_read, toll_at, tolls_read}
use Rattle.melody_rules.specs.Book as melody
use Rattle.melody_rules.specs.Rows as melody_rows
use Rattle.motion_rules.specs.Book as motion
use Rattle.motion_rules.specs.Runs.{ends_four_bars}
use Rattle.penalty_sheet.specs.declared.sheet.Sheet.{Sheet}
use Rattle.penalty_sheet.specs.Weights.{weight_of}
use Rattle.rhythm_cadence.specs.Book as rhythm
use Rattle.rhythm_cadence.specs.Inflections.{inflection_toll, is_inflected}
use Rattle.rhythm_cadence.specs.Patterns.{is_pattern, lacks_ligature, missing_ligatures, pattern_toll}
use Rattle.rule_law.specs.Nearby.{pitch_at, previous_pitches, whole_of}
use Rattle.rule_law.specs.Pairs.{count_pairs}
use Rattle.rule_law.specs.Places.{Row}
use Rattle.rule_law.specs.Rulebooks.{TollRow, no_toll}
use Rattle.rule_law.specs.Voices.{count_free, is_free, voice_pairs}

-- ---- what a toll costs

-- a row costs little, and so does a toll
abbrev IsLow : Row ℕ → Type 0
IsLow row = (i : ℕ) (behind : List (List Cell)) (now : List Cell) (ahead : List (List Cell)) → row i behind now ahead ≤ 6

abbrev IsLowToll : TollRow → Type 0
IsLowToll it = (ex : Exercise) → IsLow (it.cost ex)

either : (b : Bool) (x y : Row ℕ) → IsLow x → IsLow y → IsLow (if b then x else y)
either true x y h k = h
either false x y h k = k

either_toll : (b : Bool) (x y : TollRow) → IsLowToll x → IsLowToll y → IsLowToll (if b then x else y)
either_toll true x y h k = h
either_toll false x y h k = k

pairs_low : (test : ℕ → ℕ → Bool) → count_pairs test ≤ 6
unfolding voice_pairs
pairs_low test = count_by-le-length (λ (pair : ℕ × ℕ). test pair.0 pair.1) voice_pairs

free_low : (ex : Exercise) (test : ℕ → Bool) → count_free ex test ≤ 6
free_low ex test =
    let four : count_free ex test ≤ 4 = count_by-le-length (λ v. is_free ex v && test v) (0 ∷ 1 ∷ 2 ∷ 3 ∷ []) in
    omega (arith, four)

bit_low : (b : Bool) → from_bool b ≤ 1
bit_low true = omega arith
bit_low false = omega arith

pick_low : (b : Bool) (n m : ℕ) → n ≤ 6 → m ≤ 6 → (if b then n else m) ≤ 6
pick_low true n m h k = h
pick_low false n m h k = k

one_low : (b : Bool) → from_bool b ≤ 6
one_low b = omega (arith, bit_low b)

three_low : (a b c : Bool) → from_bool a + from_bool b + from_bool c ≤ 6
three_low a b c = omega (arith, bit_low a, bit_low b, bit_low c)

none_low : 0 ≤ 6
none_low = omega arith

melody_low : (n : ℕ) → IsLowToll (melody.toll_row n)
unfolding melody_rows.toll_rows melody_rows.open_leaps
melody_low n ex =
    either (n == 13) (melody_rows.open_leaps ex) (whole_of (melody_rows.toll_rows n ex))
    (λ i behind now ahead. free_low ex (λ v. melody_rows.leaves_open (melody_rows.pitches (line v behind)) (cell_in now v)))
    (λ i behind now ahead. free_low ex
    (λ v. melody_rows.pays_move n (pitch_at (previous_pitches behind) v) (cell_in now v)))

motion_low : (n : ℕ) → IsLowToll (motion.toll_row n)
motion_low n =
    either_toll (motion.is_late_toll n) (motion.late_toll n) (motion.at_once_toll n)
    (either_toll (n == 12) motion.inner_row motion.run_row
    (λ ex i behind now ahead. pick_low _ _ 0 (pairs_low _) none_low)
    (λ ex i behind now ahead. pick_low (ends_four_bars i) _ 0 (pairs_low _) none_low))
    (λ ex i behind now ahead. pairs_low _)

dissonance_low : (n : ℕ) → IsLowToll (dissonance.toll_row n)
dissonance_low n ex i behind now ahead =
    pick_low (n == 1) _ _ (one_low _) (pick_low _ 0 _ none_low (pairs_low _))

rhythm_low : (n : ℕ) → IsLowToll (rhythm.toll_row n)
unfolding missing_ligatures pattern_toll inflection_toll
rhythm_low n =
    either_toll (rhythm.is_late_toll n) (rhythm.late_toll n) no_toll
    (either_toll (n == 15) rhythm.ligature_row _
    (λ ex i behind now ahead. free_low ex (λ v. nat_lt v ex.voices && lacks_ligature ex i now v))
    (either_toll (n == 21) rhythm.inflection_row rhythm.pattern_row
    (λ ex i behind now ahead. free_low ex (λ v. nat_lt v ex.voices && is_inflected v behind now))
    (λ ex i behind now ahead. free_low ex (λ v. nat_lt v ex.voices && is_pattern v ex i behind now ahead))))
    (λ ex i behind now ahead. none_low)

doubling_low : (n : ℕ) → IsLowToll (doubling.toll_row n)
unfolding doubling_rows.straying_notes
doubling_low n ex i behind now ahead =
    pick_low (n == 3) _ _ (one_low _)
    (pick_low (n == 4) _ _ (pick_low _ _ 0 (three_low _ _ _) none_low)
    (pick_low (n == 5) _ _ (one_low _)
    (free_low ex (λ v. nat_lt v ex.voices && doubling_rows.strays ex v i (cell_in now v)))))

toll_low : (n : ℕ) → IsLowToll (toll_at n)
unfolding toll_at
toll_low n =
    either_toll (melody.has_toll n) (melody.toll_row n) _ (melody_low n)
    (either_toll (motion.has_toll n) (motion.toll_row n) _ (motion_low n)
    (either_toll (dissonance.has_toll n) (dissonance.toll_row n) _ (dissonance_low n)
    (either_toll (rhythm.has_toll n) (rhythm.toll_row n) _ (rhythm_low n)
    (either_toll (doubling.has_toll n) (doubling.toll_row n) no_toll (doubling_low n)
    (λ ex i behind now ahead. none_low)))))

-- ---- what a column costs

between_low : (ex : Exercise) (i : ℕ) (before : Option (List Cell)) (next : List Cell) (toll : ℕ)
    → cost_between ex i before next toll ≤ 6
between_low ex i before next toll =
    pick_low (is_of_neighbors (toll_at toll).kind) _ 0 (toll_low toll ex i (behind_of before) next []) none_low

tolls_few : length tolls_read ≤ 20
unfolding tolls_read
tolls_few = let count : length tolls_read ≡ 17 = refl in omega (arith, count)

module _ (ex : Exercise) (sheet : Sheet) (small : HasSmallWeights sheet) where
  charge_low : (i : ℕ) (before : Option (List Cell)) (next : List Cell) (toll : ℕ)
      → cost_between ex i before next toll * weight_of sheet toll ≤ 393210
  charge_low i before next toll =
      at (cost_between ex i before next toll) (weight_of sheet toll) (between_low ex i before next toll) (small toll)
    where
      at : (cost weight : ℕ) → cost ≤ 6 → weight ≤ 65535 → cost * weight ≤ 393210
      at cost weight h k = grind arith

  link_low : (i : ℕ) (before : Option (List Cell)) (next : List Cell) (x : ℕ) → link_of ex sheet i before next ≡ Some x
      → x ≤ 7864200
  unfolding link_of
  link_low i before next x e =
      at (list_any (breaks_strictly ex i before next) rules_read) (sum_by charge tolls_read) all e
    where
      charge : ℕ → ℕ
      charge toll = cost_between ex i before next toll * weight_of sheet toll

      all : sum_by charge tolls_read ≤ 7864200
      all =
          let most = sum_by-le charge 393210 tolls_read (λ k d h. charge_low i before next (slice_index_or tolls_read k d)) in
          omega (arith, most, tolls_few)

      at : (b : Bool) (sum : ℕ) → sum ≤ 7864200 → (if b then None else Some sum) ≡ Some x → x ≤ 7864200
      at true sum h e = cc
      at false sum h e = subst (λ n. n ≤ 7864200) (same_value sum x e) h

  -- ---- what chains cost

  least_sum_low : (count i : ℕ) (before : Option (List Cell)) (x : ℕ)
      → least_sum (chains_of ex sheet) count i before ≡ Some x → x ≤ count * 7864200
  least_sum_low zero i before x e = subst (λ n. n ≤ 0) (same_value 0 x e) (omega arith)
  least_sum_low (suc count) i before x e =
      let at = least_at
      (λ d. sum_behind (chains_of ex sheet) i before d (least_sum (chains_of ex sheet) count (suc i) (Some d)))
      (menu_of ex i) x e in
      let d : List Cell = slice_index_or (menu_of ex i) at.k [] in
      through (column_follows (cells_of before) d) (link_of ex sheet i before d)
      (least_sum (chains_of ex sheet) count (suc i) (Some d)) (link_low i before d)
      (least_sum_low count (suc i) (Some d)) at.is
    where
      through : (follows : Bool) (cost rest : Option ℕ) → ((y : ℕ) → cost ≡ Some y → y ≤ 7864200)
          → ((z : ℕ) → rest ≡ Some z → z ≤ count * 7864200) → (if follows then plus cost rest else None) ≡ Some x
          → x ≤ suc count * 7864200
      through false cost rest h k e = cc
      through true None rest h k e = cc
      through true (Some y) None h k e = cc
      through true (Some y) (Some z) h k e =
          let sum : y + z ≡ x = same_value (y + z) x e in
          omega (arith, sum, h y refl, k z refl)

  stating_small : (count i : ℕ) (before : Option (List Cell)) → count ≤ 192
      → IsPotential (stating (least_sum (chains_of ex sheet) count i before))
  stating_small count i before few =
      at (least_sum (chains_of ex sheet) count i before) (least_sum_low count i before)
    where
      at : (sum : Option ℕ) → ((x : ℕ) → sum ≡ Some x → x ≤ count * 7864200) → IsPotential (stating sum)
      at None h = tt
      at (Some x) h = let most : x ≤ count * 7864200 = h x refl in omega (arith, most, few)

  module _ (valid : IsValid ex) where
    columns_few : columns_in ex ≤ 192
    columns_few = omega (arith, valid.most_bars)

    pub start_small : IsPotential (stating (rest_of ex sheet []))
    unfolding rest_of
    start_small = stating_small (columns_in ex - 0) 0 None (omega (arith, columns_few))

    pub rest_small : (i : ℕ) (col : List Cell) → IsPotential (stating (rest_behind ex sheet i col))
    rest_small i col = stating_small (columns_in ex - suc i) (suc i) (Some col) (omega (arith, columns_few))

    all_map : (f : List Cell → Potential) (cols : List (List Cell)) → ((col : List Cell) → IsPotential (f col))
        → AllByRecursion IsPotential (map f cols)
    all_map f [] each = tt
    all_map f (col ∷ cols) each = (each col, all_map f cols each)

    all_append : (xs ys : List Potential) → AllByRecursion IsPotential xs → AllByRecursion IsPotential ys
        → AllByRecursion IsPotential (xs ++ ys)
    all_append [] ys h k = k
    all_append (x ∷ xs) ys h k = (h.0, all_append xs ys h.1 k)

    all_from : (i count : ℕ) → AllByRecursion IsPotential (entries_from ex sheet i count)
    all_from i zero = tt
    all_from i (suc count) =
        all_append (entries_at ex sheet i) (entries_from ex sheet (i + 1) count)
        (all_map (λ col. stating (rest_behind ex sheet i col)) (menu_of ex i) (rest_small i)) (all_from (i + 1) count)

    -- each entry that is written is below 2^32
    pub entries_small : AllByRecursion IsPotential (entries_of ex sheet)
    unfolding entries_of
    entries_small = (start_small, all_from 0 (columns_in ex))
