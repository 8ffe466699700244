-- What holds of each of a list's entries holds with one more (`numbers_more`), or with one replaced
-- (`standings_more`).
use Rattle.std.proofs.Common.{◌≡◌, ℕ, ◌+◌, ◌*◌, ◌^◌, ◌<◌, ◌≤◌, List, [], ◌∷◌, ◌++◌, length, Option, Some, None, ⊎_elim, refl, sym, subst, ◌∙◌, arith, slice_index_or, slice_set}
use Rattle.std.specs.Prelude.{◌≢◌, IfSome}
use Rattle.std.proofs.Math.ListN.{get_or-append}
use Rattle.std.proofs.lemmas.List.{get_or_push, get_or-set_same, get_or-set_other, get_or_default}
use Rattle.std.proofs.lemmas.Bool.{cases_lt}
use Rattle.floor_graphs.specs.Numbers.{AreSmall, number_in}
use Rattle.priced_paths.specs.declared.guide.Standing.{Standing}
use Rattle.priced_paths.specs.Places.{AreNumbersOf, numbers_of}
use Rattle.priced_paths.specs.declared.web.Web.{Web}
use Rattle.priced_paths.specs.CaseGraphs.{Case}

pub numbers_more : (P : ℕ → List (Option ℕ) → Type 0) (xs longer : List (List (Option ℕ))) (own : List (Option ℕ))
    (n : ℕ) → length xs ≡ n → longer ≡ xs ++ own ∷ [] → ((k : ℕ) → k < n → P k (numbers_of xs k)) → P n own
    → (k : ℕ) → k < n + 1 → P k (numbers_of longer k)
numbers_more P xs longer own n long is before here k within =
    let Q : List (List (Option ℕ)) → Type 0 = λ ys. P k (numbers_of ys k) in
    subst Q (sym is) (⊎_elim
    (λ earlier. subst (P k) (sym (get_or-append xs (own ∷ []) [] k (omega (arith, long, earlier)))) (before k earlier))
    (λ after.
    let same : k ≡ n = omega (arith, within, after) in
    subst (P k) (sym (get_or_push xs own [] k (omega (arith, long, same))))
    (subst (λ (j : ℕ). P j own) (sym same) here))
    (cases_lt k n))

pub standings_more : (P : ℕ → Option Standing → Type 0) (xs : List (Option Standing)) (n : ℕ) (own : Option Standing)
    → n < length xs → ((k : ℕ) → k < n → P k (slice_index_or xs k None)) → P n own
    → (k : ℕ) → k < n + 1 → P k (slice_index_or (slice_set xs n own) k None)
standings_more P xs n own room before here k within = ⊎_elim
    (λ earlier.
    let other : k ≢ n = omega (arith, earlier) in
    subst (P k) (sym (get_or-set_other xs n k own None other)) (before k earlier))
    (λ after.
    let same : k ≡ n = omega (arith, within, after) in
    subst (λ (j : ℕ). P j (slice_index_or (slice_set xs n own) j None)) (sym same)
    (subst (P n) (sym (get_or-set_same xs n own None room)) here))
    (cases_lt k n)

-- what is read of the numbers of a case
pub number-read : (numbers : List (List (Option ℕ))) (case node : ℕ) (list own : List (Option ℕ)) → case <
    length numbers
    → list ≡ slice_index_or numbers case own → number_in list node ≡ number_in (numbers_of numbers case) node
number-read numbers case node list own within is =
    let P : List (Option ℕ) → Type 0 = λ xs. number_in list node ≡ number_in xs node in
    subst P (is ∙ get_or_default numbers case own [] within) refl

-- the numbers of a graph of so few spots are small
pub number-small : (numbers : List (Option ℕ)) (node count : ℕ) → AreSmall numbers → node < 2 * count
    → count ≤ 4194304 → IfSome (number_in numbers node) (λ own. own ≤ 2 ^ 55)
number-small numbers node count small within few = by (number_in numbers node) refl
  where
    by : (o : Option ℕ) → number_in numbers node ≡ o → IfSome o (λ own. own ≤ 2 ^ 55)
    by None is = tt
    by (Some own) is = let low = small node own is in omega (arith, low)

-- the numbers of a case, when the height and the list are known by other names
pub numbers-same : {K : Type 0} (web : Web K) (h height : ℕ) (case : Case) (xs ys : List (Option ℕ)) → h ≡ height
    → ys ≡ xs → AreNumbersOf web h case xs → AreNumbersOf web height case ys
numbers-same web h height case xs ys same is own =
    subst (λ (n : ℕ). AreNumbersOf web n case ys) same (subst (AreNumbersOf web h case) (sym is) own)
