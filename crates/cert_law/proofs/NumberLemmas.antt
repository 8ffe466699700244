-- The columns that pass from a number on, where the column of the number passes or not
-- (`passing_here`, `passing_later`), and the first of a menu that follows (`found_next`, `found_none`).
use Rattle.std.proofs.Common.{◌≡◌, ℕ, zero, suc, ◌+◌, ◌-◌, ◌<◌, ◌≤◌, Bool, true, false, List, [], ◌∷◌, Option, Some, None, drop, length, reverse, slice_index_or, ap, sym, ◌∙◌, subst, add-one, arith, if◌then◌else◌}
use Rattle.std.specs.List.{filter}
use Rattle.std.proofs.Math.Seq.{drop-cons}
use Rattle.std.proofs.lemmas.Bool.{false_from_ne_true}
use Rattle.std.proofs.lemmas.List.{drop_all}
use Rattle.cert_law.specs.Known.{IsNextNumber}
use Rattle.chain_sums.specs.Sums.{column_follows}
use Rattle.chain_sums.proofs.SumLemmas.{column_follows_is}
use Rattle.fux_grid.specs.declared.cell.Cell.{Cell}
use Rattle.fux_grid.specs.declared.exercise.Exercise.{Exercise}
use Rattle.fux_grid.specs.Columns.{ColumnFollows, newest_column}
use Rattle.fux_grid.specs.Menus.{menu_of}

pub passing_here : (test : List Cell → Bool) (menu : List (List Cell)) (k : ℕ) → k < length menu
    → test (slice_index_or menu k []) ≡ true
    → filter test (drop k menu) ≡ slice_index_or menu k [] ∷ filter test (drop (k + 1) menu)
passing_here test menu k h t =
    ap (filter test) (drop-cons menu k [] h)
    ∙ ap (λ b. if b then slice_index_or menu k [] ∷ filter test (drop (suc k) menu)
    else filter test (drop (suc k) menu)) t
    ∙ ap (λ n. slice_index_or menu k [] ∷ filter test (drop n menu)) (sym (add-one k))

pub passing_later : (test : List Cell → Bool) (menu : List (List Cell)) (k : ℕ) → k < length menu
    → test (slice_index_or menu k []) ≡ false
    → filter test (drop k menu) ≡ filter test (drop (k + 1) menu)
passing_later test menu k h t =
    ap (filter test) (drop-cons menu k [] h)
    ∙ ap (λ b. if b then slice_index_or menu k [] ∷ filter test (drop (suc k) menu)
    else filter test (drop (suc k) menu)) t
    ∙ ap (λ n. filter test (drop n menu)) (sym (add-one k))

-- the test of a column that is equal
pub follow_test : (before next col : List Cell) → next ≡ col → ColumnFollows before next → column_follows before col
    ≡ true
follow_test before next col e h =
    (column_follows_is before col).1 (subst (λ (c : List Cell). ColumnFollows before c) e h)

pub follow_from : (before next col : List Cell) → next ≡ col → column_follows before col ≡ true
    → ColumnFollows before next
follow_from before next col e h =
    subst (λ (c : List Cell). ColumnFollows before c) (sym e) ((column_follows_is before col).0 h)

-- a number found in the menu of a place, behind some cells, is one behind the prefix that has that
-- length and ends so
pub number_moved : (there ex : Exercise) (i : ℕ) (p : List (List Cell)) (before : List Cell) (from : ℕ)
    (found : Option ℕ)
    → there ≡ ex → i ≡ length p → before ≡ newest_column (reverse p)
    → IsNextNumber (menu_of there i) before from found
    → IsNextNumber (menu_of ex (length p)) (newest_column (reverse p)) from found
number_moved there ex i p before from found e n b h =
    subst (λ (c : List Cell). IsNextNumber (menu_of ex (length p)) c from found) b
    (subst (λ (m : List (List Cell)). IsNextNumber m before from found) (ap (λ x. menu_of x i) e ∙ ap (menu_of ex) n) h)

-- what passes from a number on passes from a later one on, where no column before that does
passed_by : (test : List Cell → Bool) (menu : List (List Cell)) (from n : ℕ) → from + n ≤ length menu
    → ((k : ℕ) → from ≤ k → k < from + n → test (slice_index_or menu k []) ≡ false)
    → filter test (drop from menu) ≡ filter test (drop (from + n) menu)
passed_by test menu from zero within fails =
    let here : from ≡ from + 0 = omega arith in
    ap (λ j. filter test (drop j menu)) here
passed_by test menu from (suc n) within fails =
    let there : from + 1 + n ≡ from + suc n = omega arith in
    passing_later test menu from (omega (arith, within)) (fails from (omega arith) (omega arith))
    ∙ passed_by test menu (from + 1) n (omega (arith, within))
    (λ k low high. fails k (omega (arith, low)) (omega (arith, high)))
    ∙ ap (λ j. filter test (drop j menu)) there

-- the number before which, from a number on, no column of a menu follows: it is the one to be
-- found, where its column follows (`found_next`), and there is none where the menu ends there
-- (`found_none`) or before (`none_beyond`)
module _ (menu : List (List Cell)) (before : List Cell) (from next : ℕ) (onward : from ≤ next)
    (within : next ≤ length menu)
    (passed : (k : ℕ) → from ≤ k → k < next → ColumnFollows before (slice_index_or menu k []) → ⊥) where
  passed_to : filter (column_follows before) (drop from menu) ≡ filter (column_follows before) (drop next menu)
  passed_to =
      let there : from + (next - from) ≡ next = omega (arith, onward) in
      passed_by (column_follows before) menu from (next - from) (omega (arith, onward, within))
      (λ k low high. false_from_ne_true (column_follows before (slice_index_or menu k []))
      (λ t. passed k low (omega (arith, onward, high))
      ((column_follows_is before (slice_index_or menu k [])).0 t)))
      ∙ ap (λ j. filter (column_follows before) (drop j menu)) there

  pub found_next : next < length menu → ColumnFollows before (slice_index_or menu next [])
      → IsNextNumber menu before from (Some next)
  found_next there follows =
      let test = (column_follows_is before (slice_index_or menu next [])).1 follows in
      (there, test, passed_to ∙ passing_here (column_follows before) menu next there test)

  pub found_none : length menu ≤ next → IsNextNumber menu before from None
  found_none end = passed_to ∙ ap (filter (column_follows before)) (drop_all next menu end)

pub none_beyond : (menu : List (List Cell)) (before : List Cell) (from : ℕ) → length menu < from
    → IsNextNumber menu before from None
none_beyond menu before from past = ap (filter (column_follows before)) (drop_all from menu (omega (arith, past)))
