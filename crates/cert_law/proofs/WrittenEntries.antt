-- The entries that are written state the least sums over chains (`entries_are_rests`,
-- `stated_are_rests`), and those are what tables say (`start_is_rest`, `rest_is_behind`).
use Rattle.std.proofs.Common.{◌≡◌, ℕ, zero, suc, ◌+◌, ◌-◌, ◌<◌, ◌≤◌, [], Option, Some, None, length, refl, sym, ap, ◌∙◌, subst, arith, length-append, List}
use Rattle.std.specs.Prelude.{IfSome, slice_index_or}
use Rattle.std.proofs.Math.ListN.{get_or-append}
use Rattle.std.proofs.lemmas.List.{get_or-append-add, get_or-map, length-map}
use Rattle.cert_text.specs.declared.answers.Form.{Form}
use Rattle.cert_text.specs.declared.answers.Form.TheVariants.{First, Second, Third}
use Rattle.cert_text.specs.declared.potential.Potential.TheVariants.{NoChain}
use Rattle.cert_law.specs.Entries.{columns_before, entry_of, menu_column, number_in}
use Rattle.cert_law.specs.Rests.{AreRests, entries_at, entries_from, entries_of, rest_behind, stated_in, stating}
use Rattle.chain_sums.specs.Chains.{IsLeast}
use Rattle.chain_sums.proofs.SumLemmas.{least_is_sum, least_sum_is}
use Rattle.floor_tables.specs.Floors.{chains_of, rest_of}
use Rattle.floor_tables.specs.Tables.{IsRest, IsStart}
use Rattle.fux_grid.specs.declared.cell.Cell.{Cell}
use Rattle.fux_grid.specs.declared.exercise.Exercise.{Exercise}
use Rattle.fux_grid.specs.Exercises.{columns_in}
use Rattle.fux_grid.specs.Menus.{menu_of}
use Rattle.penalty_sheet.specs.declared.sheet.Sheet.{Sheet}

pub number_in-stating : (sum : Option ℕ) → number_in (stating sum) ≡ sum
number_in-stating None = refl
number_in-stating (Some n) = refl

module _ (ex : Exercise) (sheet : Sheet) where
  -- one of each column of the places
  length-from : (a count : ℕ) → columns_before ex a + length (entries_from ex sheet a count) ≡ columns_before ex (a + count)
  length-from a zero = let end : a + 0 ≡ a = omega arith in ap (λ n. n + 0) refl ∙ none (columns_before ex a) ∙ ap (columns_before ex) (sym end)
    where
      none : (n : ℕ) → n + 0 ≡ n
      none n = omega arith
  length-from a (suc count) =
      let end : a + suc count ≡ suc a + count = omega arith in
      let next : a + 1 ≡ suc a = omega arith in
      let rest : columns_before ex (suc a) + length (entries_from ex sheet (a + 1) count) ≡ columns_before ex (suc a + count)
      = ap (λ n. columns_before ex (suc a) + length (entries_from ex sheet n count)) next ∙ length-from (suc a) count in
      let here = length-map (menu_of ex a) (λ col. stating (rest_behind ex sheet a col)) in
      let both = length-append (entries_at ex sheet a) (entries_from ex sheet (a + 1) count) in
      sums (columns_before ex a) (length (menu_of ex a)) (length (entries_at ex sheet a))
      (length (entries_from ex sheet (a + 1) count)) (length (entries_from ex sheet a (suc count)))
      (columns_before ex (suc a + count)) here both rest
      ∙ ap (columns_before ex) (sym end)
    where
      sums : (b m here rest whole end : ℕ) → here ≡ m → whole ≡ here + rest → b + m + rest ≡ end → b + whole ≡ end
      sums b m here rest whole end e f g = omega (arith, e, f, g)

  -- the entry of a column stands behind those of the places before it
  at_place : (a count j m k : ℕ) → j < count → columns_before ex a + m ≡ columns_before ex (a + j)
      → k < length (menu_of ex (a + j))
      → slice_index_or (entries_from ex sheet a count) (m + k) NoChain ≡ slice_index_or (entries_at ex sheet (a + j)) k NoChain
  at_place a zero j m k within here inside = absurd (omega (arith, within))
  at_place a (suc count) zero m k within here inside =
      let same : a + 0 ≡ a = omega arith in
      let first : m ≡ 0 = first_is (columns_before ex a) m (here ∙ ap (columns_before ex) same) in
      let few : k < length (entries_at ex sheet a) = subst (λ n. k < n)
      (ap (λ n. length (menu_of ex n)) same ∙ sym (length-map (menu_of ex a) (λ col. stating (rest_behind ex sheet a col)))) inside in
      ap (λ n. slice_index_or (entries_from ex sheet a (suc count)) n NoChain) (only m k first)
      ∙ get_or-append (entries_at ex sheet a) (entries_from ex sheet (a + 1) count) NoChain k few
      ∙ ap (λ n. slice_index_or (entries_at ex sheet n) k NoChain) (sym same)
    where
      first_is : (b m : ℕ) → b + m ≡ b → m ≡ 0
      first_is b m e = omega (arith, e)

      only : (m k : ℕ) → m ≡ 0 → m + k ≡ k
      only m k e = omega (arith, e)
  at_place a (suc count) (suc j) m k within here inside =
      let next : a + 1 ≡ suc a = omega arith in
      let place : a + suc j ≡ suc a + j = omega arith in
      let before : ℕ = length (entries_at ex sheet a) in
      let size : before ≡ length (menu_of ex a) = length-map (menu_of ex a) (λ col. stating (rest_behind ex sheet a col)) in
      let grown = grows (suc a) j in
      let less : ℕ = m - before in
      let split : before + less ≡ m = omega (arith, size, here, ap (columns_before ex) place, grown) in
      let index : m + k ≡ before + (less + k) = omega (arith, split) in
      let later : columns_before ex (suc a) + less ≡ columns_before ex (suc a + j)
      = omega (arith, size, here, split, ap (columns_before ex) place) in
      ap (λ n. slice_index_or (entries_from ex sheet a (suc count)) n NoChain) index
      ∙ get_or-append-add (entries_at ex sheet a) (entries_from ex sheet (a + 1) count) (less + k) NoChain
      ∙ ap (λ n. slice_index_or (entries_from ex sheet n count) (less + k) NoChain) next
      ∙ at_place (suc a) count j less k (omega (arith, within)) later (subst (λ n. k < length (menu_of ex n)) place inside)
      ∙ ap (λ n. slice_index_or (entries_at ex sheet n) k NoChain) (sym place)
    where
      grows : (b j : ℕ) → columns_before ex b ≤ columns_before ex (b + j)
      grows b zero = subst (λ n. columns_before ex b ≤ columns_before ex n) (none b) (omega arith)
        where
          none : (n : ℕ) → n ≡ n + 0
          none n = omega arith
      grows b (suc j) = subst (λ n. columns_before ex b ≤ columns_before ex n) (one b j) (omega (arith, grows b j))
        where
          one : (n k : ℕ) → suc (n + k) ≡ n + suc k
          one n k = omega arith

  entry_is : (i k : ℕ) → i < columns_in ex → k < length (menu_of ex i)
      → number_in (entry_of ex (entries_of ex sheet) i k) ≡ rest_behind ex sheet i (menu_column ex i k)
  unfolding entries_of
  entry_is i k here within =
      let place : 0 + i ≡ i = omega arith in
      let behind : 1 + columns_before ex i + k ≡ suc (columns_before ex i + k) = omega arith in
      ap number_in (ap (λ n. slice_index_or (entries_of ex sheet) n NoChain) behind
      ∙ at_place 0 (columns_in ex) i (columns_before ex i) k here (none (columns_before ex i) (columns_before ex (0 + i)) (ap (columns_before ex) (sym place)))
      (subst (λ n. k < length (menu_of ex n)) (sym place) within)
      ∙ ap (λ n. slice_index_or (entries_at ex sheet n) k NoChain) place
      ∙ get_or-map (λ col. stating (rest_behind ex sheet i col)) (menu_of ex i) k [] NoChain within)
      ∙ number_in-stating (rest_behind ex sheet i (menu_column ex i k))
    where
      none : (a b : ℕ) → a ≡ b → 0 + a ≡ b
      none a b e = omega (arith, e)

  pub entries_are_rests : AreRests ex sheet (entries_of ex sheet)
  unfolding entries_of rest_of
  entries_are_rests = record {
    whole = let none : 0 + columns_in ex ≡ columns_in ex = omega arith in
        all (length (entries_from ex sheet 0 (columns_in ex))) (columns_before ex (columns_in ex))
        (length-from 0 (columns_in ex) ∙ ap (columns_before ex) none);
    start = subst (IsLeast (chains_of ex sheet) 0 None) (sym (number_in-stating (rest_of ex sheet [])))
        (least_sum_is (chains_of ex sheet) 0 None (omega arith));
    each = λ i k here within.
        subst (IsLeast (chains_of ex sheet) (suc i) (Some (menu_column ex i k))) (sym (entry_is i k here within))
        (least_sum_is (chains_of ex sheet) (suc i) (Some (menu_column ex i k)) (omega (arith, here)));
  }
    where
      all : (n m : ℕ) → 0 + n ≡ m → suc n ≡ 1 + m
      all n m e = omega (arith, e)

  -- and so does what is stated in either form
  pub stated_are_rests : (form : Form) → IfSome (stated_in form ex sheet) (AreRests ex sheet)
  stated_are_rests First = tt
  stated_are_rests Second = entries_are_rests
  stated_are_rests Third = tt

  -- what the tables say is what they state
  pub start_is_rest : (rest : Option ℕ) → IsStart ex sheet rest → rest ≡ rest_of ex sheet []
  unfolding rest_of
  start_is_rest rest least = least_is_sum (chains_of ex sheet) 0 None rest (omega arith) least

  pub rest_is_behind : (i : ℕ) (col : List Cell) (rest : Option ℕ) → i < columns_in ex → IsRest ex sheet i col rest
      → rest ≡ rest_behind ex sheet i col
  rest_is_behind i col rest within least =
      least_is_sum (chains_of ex sheet) (suc i) (Some col) rest (omega (arith, within)) least
