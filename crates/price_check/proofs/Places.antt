-- What holds of each place of so many lists holds with one more (`places_more`); a list's sum is that
-- by a case's exercise and sheet (`sum_for`), and the greatest of them tells the tail (`tail_told`).
use Rattle.std.proofs.Common.{◌≡◌, ℕ, zero, suc, ◌+◌, ◌-◌, ◌<◌, ◌≤◌, Bool, List, [], ◌∷◌, drop, length, Option, Some, None, option_map, ⊎_elim, refl, sym, subst, ap, ap₂, ◌∙◌, arith, slice_get, slice_index_or, slice_set}
use Rattle.std.specs.Prelude.{◌≢◌}
use Rattle.std.proofs.lemmas.Bool.{cases_lt}
use Rattle.std.proofs.lemmas.List.{get_or-set_other, get_or-set_same}
use Rattle.std.proofs.lemmas.Option.{get_or_from_slice_get}
use Rattle.fux_grid.specs.declared.cell.Cell.{Cell}
use Rattle.fux_grid.specs.declared.exercise.Exercise.{Exercise}
use Rattle.fux_grid.specs.Exercises.{columns_in}
use Rattle.fux_judge.specs.Gauges.{least_of}
use Rattle.fux_judge.specs.Penalties.{paid}
use Rattle.open_ends.specs.declared.keeps.Keeps.{Keeps}
use Rattle.priced_paths.specs.LeastRests.{least_sum}
use Rattle.penalty_sheet.specs.declared.sheet.Sheet.{Sheet}
use Rattle.price_check.specs.declared.floors.ListFloor.{ListFloor}
use Rattle.price_check.specs.Floors.{StandsIn, exercise_of, list_of, sheet_of}
use Rattle.price_check.specs.PriceLists.{PriceList, case_in, charged_sum, greatest_sum, least_on, list_sum, paid_on, path_of, sharp_floor, sharp_tail, spent_by, spent_of}
use Rattle.price_check.proofs.Ways.{way_back}
use Rattle.priced_floors.specs.declared.charges.Charges.{Charges}
use Rattle.priced_floors.specs.Kept.{kept_of, step_of}
use Rattle.priced_floors.specs.PricedLaws.{breadth_of}
use Rattle.priced_paths.specs.declared.guide.Place.{Place}
use Rattle.rule_law.specs.Prefixes.{IsPrefix}

-- the list that is read at a place is the one there
pub floor_there : (floors : List ListFloor) (j : ℕ) (own floor : ListFloor) → own ≡ slice_index_or floors j own
    → slice_get floors j ≡ Some floor → own ≡ floor
floor_there floors j own floor e f = e ∙ get_or_from_slice_get floors j floor own f

pub places_more : (P : ℕ → Option Place → Type 0) (xs : List (Option Place)) (n : ℕ) (own : Option Place)
    → n < length xs → ((k : ℕ) → k < n → P k (slice_index_or xs k None)) → P n own
    → (k : ℕ) → k < n + 1 → P k (slice_index_or (slice_set xs n own) k None)
places_more P xs n own room before here k within = ⊎_elim
    (λ earlier.
    let other : k ≢ n = omega (arith, earlier) in
    subst (P k) (sym (get_or-set_other xs n k own None other)) (before k earlier))
    (λ after.
    let same : k ≡ n = omega (arith, within, after) in
    subst (λ (j : ℕ). P j (slice_index_or (slice_set xs n own) j None)) (sym same)
    (subst (P n) (sym (get_or-set_same xs n own None room)) here))
    (cases_lt k n)

-- what is spent of a prefix is what is spent of its path
pub spent_there : (ex : Exercise) (sheet : Sheet) (plain : Bool) (p : List (List Cell)) (a b : ℕ) → IsPrefix ex p
    → a ≡ paid ex sheet p → b ≡ least_of ex sheet p
    → spent_by plain a b ≡ spent_by plain (paid_on ex sheet (path_of ex p)) (least_on ex sheet (path_of ex p))
spent_there ex sheet plain p a b prefix e f =
    let back = way_back ex p prefix in
    ap₂ (spent_by plain) (e ∙ sym (ap (paid ex sheet) back)) (f ∙ sym (ap (least_of ex sheet) back))

-- a list's sum for an exercise and a sheet by other names
pub sum_for : (floor : ListFloor) (ex : Exercise) (sheet : Sheet) (place : Option Place) (p : List (List Cell)) (a b : ℕ)
    (result : Option ℕ) → exercise_of floor ≡ ex → sheet_of floor ≡ sheet
    → (IsPrefix (exercise_of floor) p → StandsIn floor place (path_of (exercise_of floor) p)
    → a ≡ paid (exercise_of floor) (sheet_of floor) p → b ≡ least_of (exercise_of floor) (sheet_of floor) p
    → result ≡ list_sum (exercise_of floor) (sheet_of floor) (list_of floor) p)
    → IsPrefix ex p → StandsIn floor place (path_of ex p) → a ≡ paid ex sheet p → b ≡ least_of ex sheet p
    → result ≡ list_sum ex sheet (list_of floor) p
sum_for floor ex sheet place p a b result e f tells prefix stands h i =
    tells (subst (λ (x : Exercise). IsPrefix x p) (sym e) prefix)
    (subst (λ (x : Exercise). StandsIn floor place (path_of x p)) (sym e) stands)
    (h ∙ sym (ap₂ (λ x s. paid x s p) e f)) (i ∙ sym (ap₂ (λ x s. least_of x s p) e f))
    ∙ ap₂ (λ x s. list_sum x s (list_of floor) p) e f

-- the tail by the greatest of the sums
pub tail_told : (ex : Exercise) (sheet : Sheet) (lists : List PriceList) (p : List (List Cell)) (greatest : Option ℕ)
    (spent : ℕ) → spent ≡ spent_of ex sheet p → greatest ≡ greatest_sum ex sheet spent lists p
    → option_map (λ g. g - spent) greatest ≡ sharp_tail ex sheet lists p
unfolding sharp_floor
tail_told ex sheet lists p greatest spent e f =
    ap (option_map (λ g. g - spent)) f ∙ ap (λ n. option_map (λ g. g - n) (greatest_sum ex sheet n lists p)) e

-- nothing is left behind the end of a list
pub drop_end : {X : Type 0} (xs : List X) (n : ℕ) → length xs ≤ n → drop n xs ≡ []
drop_end [] zero past = refl
drop_end [] (suc n) past = refl
drop_end (x ∷ xs) zero past = absurd (omega (arith, past))
drop_end (x ∷ xs) (suc n) past = drop_end xs n (omega (arith, past))

-- the least of a list's sums, by its definition
pub charged_is : (ex : Exercise) (sheet : Sheet) (keeps : Keeps) (charges : Charges) (spent : ℕ) (path : List ℕ)
    → least_sum (columns_in ex) (kept_of ex keeps []) (breadth_of ex) (step_of ex sheet keeps) (case_in ex charges)
    (length charges.summits.items) spent path ≡ charged_sum ex sheet keeps charges spent path
unfolding charged_sum
charged_is ex sheet keeps charges spent path = refl
