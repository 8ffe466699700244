-- What is found of each number side by side stands in their order (`each_found`), so numbers of each
-- list that are worked so are its own (`numbers_are`), and those of each case the case's (`cases_are`).
use Rattle.std.proofs.Common.{◌≡◌, ℕ, zero, suc, ◌+◌, ◌<◌, ◌≤◌, List, [], ◌∷◌, Option, Some, Result, Ok, Err, arith, get_or, length, map, slice_get, refl, ap, subst, sym, ◌∙◌}
use Rattle.std.specs.Prelude.{IfOk, MatchResult, Vec}
use Rattle.std.specs.List.{AllZip, Contains, range_with_len}
use Rattle.std.specs.declared.alloc.Global.{Global}
use Rattle.std.proofs.lemmas.List.{length-map}
use Rattle.std.proofs.lemmas.List.FromFn.{get_or-range_with_len, length-range_with_len}
use Rattle.std.proofs.lemmas.Option.{slice_get_within}
use Rattle.std.proofs.lemmas.Slice.Zip.{AllZip-long}
use Rattle.fux_grid.specs.Exercises.{columns_in}
use Rattle.price_check.specs.declared.priced_list.PricedList.{PricedList}
use Rattle.price_check.specs.Woven.{AreCaseNumbers, AreEachNumbers, AreNumbersAt, AreNumbersOver}
use Rattle.price_check.proofs.Webs.{some-same}
use Rattle.priced_floors.specs.declared.kept.Kept.{Kept}
use Rattle.priced_floors.specs.declared.pricing.PricedSpace.{PricedSpace}
use Rattle.priced_paths.specs.declared.pricing.TheConstants.{MOST_CASES}
use Rattle.priced_paths.specs.Places.{numbers_of}
use Rattle.priced_paths.specs.declared.web.Web.{Web}

pub each_found : {X : Type 0} (E : Type 0) (R : ℕ → X → Type 0) (indices : List ℕ) (found : List X) (n : ℕ) (own : X)
    → AllZip (λ j (r : Result X E). IfOk r (R j)) indices (map Ok found) → slice_get found n ≡ Some own
    → R (get_or indices n 0) own
each_found E R [] [] n own h e = cc
each_found E R [] (x ∷ found) n own h e = absurd h
each_found E R (i ∷ indices) [] n own h e = cc
each_found E R (i ∷ indices) (x ∷ found) zero own h e = subst (R i) (some-same x own e) h.0
each_found E R (i ∷ indices) (x ∷ found) (suc n) own h e = each_found E R indices found n own h.1 e

pub found_at : {X : Type 0} (E : Type 0) (R : ℕ → X → Type 0) (count : ℕ) (indices : List ℕ) (given : List (Result X E))
    (found : List X) → indices ≡ range_with_len 0 count → given ≡ map Ok found
    → AllZip (λ j (r : Result X E). IfOk r (R j)) indices given
    → (length found ≡ count) × ((j : ℕ) (own : X) → j < count → slice_get found j ≡ Some own → R j own)
found_at E R count indices given found all same each =
    let long : length indices ≡ count = ap length all ∙ length-range_with_len 0 count in (
      sym (length-map found Ok) ∙ ap length (sym same) ∙ AllZip-long _ indices given each ∙ long,
      λ j own within here.
          let plain : 0 + j ≡ j = omega arith in
          let number : get_or indices j 0 ≡ j = ap (λ xs. get_or xs j 0) all
          ∙ get_or-range_with_len 0 count j 0 within ∙ plain in
          let told = subst (λ rs. AllZip (λ i r. IfOk r (R i)) indices rs) same each in
          subst (λ i. R i own) number (each_found E R indices found j own told here),
    )

pub numbers_are : (E : Type 0) (lists : List PricedList) (webs : List (Option (Web Kept))) (indices : List ℕ)
    (given : List (Result (Vec (List (Option ℕ)) Global) E)) (found : List (Vec (List (Option ℕ)) Global))
    → indices ≡ range_with_len 0 (length lists) → given ≡ map Ok found
    → AllZip (λ j (r : Result (Vec (List (Option ℕ)) Global) E). IfOk r (AreNumbersAt lists webs j)) indices given
    → AreEachNumbers lists webs found
numbers_are E lists webs indices given found all same each =
    let its = found_at E (AreNumbersAt lists webs) (length lists) indices given found all same each in
    record {
      whole = its.0;
      each = λ j it own there here. (its.1 j own (slice_get_within lists j it there) here) it there;
    }

-- the same of what was collected, unless one was wanting
pub all_numbers : (E : Type 0) (lists : List PricedList) (webs : List (Option (Web Kept))) (indices : List ℕ)
    (given : List (Result (Vec (List (Option ℕ)) Global) E)) (result : Result (Vec (Vec (List (Option ℕ)) Global) Global) E)
    → indices ≡ range_with_len 0 (length lists)
    → AllZip (λ j (r : Result (Vec (List (Option ℕ)) Global) E). IfOk r (AreNumbersAt lists webs j)) indices given
    → MatchResult result
    (λ all. (own : List (Vec (List (Option ℕ)) Global)) × (given ≡ map Ok own) × (all.items ≡ own))
    (λ e. Contains given (Err e))
    → IfOk result (λ numbers. AreEachNumbers lists webs numbers.items)
all_numbers E lists webs indices given (Ok found) all each m =
    numbers_are E lists webs indices given found.items all (m.1 ∙ ap (map Ok) (sym m.2)) each
all_numbers E lists webs indices given (Err e) all each m = tt

-- the same by other names of the lists and the webs
pub numbers_for : (E : Type 0) (lists ls : List PricedList) (webs ws : List (Option (Web Kept))) → ls ≡ lists → ws ≡ webs
    → (indices : List ℕ) (given : List (Result (Vec (List (Option ℕ)) Global) E))
    (result : Result (Vec (Vec (List (Option ℕ)) Global) Global) E)
    → indices ≡ range_with_len 0 (length lists)
    → AllZip (λ j (r : Result (Vec (List (Option ℕ)) Global) E). IfOk r (AreNumbersAt ls ws j)) indices given
    → MatchResult result
    (λ all. (own : List (Vec (List (Option ℕ)) Global)) × (given ≡ map Ok own) × (all.items ≡ own))
    (λ e. Contains given (Err e))
    → IfOk result (λ numbers. AreEachNumbers lists webs numbers.items)
numbers_for E lists ls webs ws same also indices given result all each m =
    all_numbers E lists webs indices given result all
    (subst
    (λ (l : List PricedList). AllZip (λ j (r : Result (Vec (List (Option ℕ)) Global) E). IfOk r (AreNumbersAt l webs j)) indices given)
    same
    (subst
    (λ (w : List (Option (Web Kept))). AllZip (λ j (r : Result (Vec (List (Option ℕ)) Global) E). IfOk r (AreNumbersAt ls w j)) indices given)
    also each))
    m

-- ---- the cases of one list

-- what is read at a place is there
there_at : (numbers : List (List (Option ℕ))) (k : ℕ) → k < length numbers → slice_get numbers k ≡ Some (numbers_of numbers k)
there_at [] k within = absurd (omega (arith, within))
there_at (own ∷ numbers) zero within = refl
there_at (own ∷ numbers) (suc k) within = there_at numbers k (omega (arith, within))

pub cases_are : (E : Type 0) (priced : PricedSpace) (web : Web Kept) → columns_in priced.space.now.exercise ≤ 192
    → length priced.charges.now.summits.items ≤ MOST_CASES → (count : ℕ) → count ≡ length priced.charges.now.summits.items
    → (indices : List ℕ) (given : List (Result (List (Option ℕ)) E)) (result : Result (Vec (List (Option ℕ)) Global) E)
    → indices ≡ range_with_len 0 count
    → AllZip (λ k (r : Result (List (Option ℕ)) E). IfOk r (AreCaseNumbers priced web k)) indices given
    → MatchResult result
    (λ all. (own : List (List (Option ℕ))) × (given ≡ map Ok own) × (all.items ≡ own))
    (λ e. Contains given (Err e))
    → IfOk result (λ numbers. AreNumbersOver priced web numbers.items)
cases_are E priced web short few count same indices given (Ok found) all each m =
    let its = found_at E (AreCaseNumbers priced web) count indices given found.items all (m.1 ∙ ap (map Ok) (sym m.2)) each in
    record {
      short = short;
      few = few;
      each = its.0 ∙ same;
      worked = λ k within.
          its.1 k (numbers_of found.items k) (omega (arith, same, within))
          (there_at found.items k (omega (arith, same, within, its.0)));
    }
cases_are E priced web short few count same indices given (Err e) all each m = tt

-- the same by other names of the settings and the web
pub cases_for : (E : Type 0) (priced p : PricedSpace) (web w : Web Kept) → p ≡ priced → w ≡ web
    → columns_in priced.space.now.exercise ≤ 192 → length priced.charges.now.summits.items ≤ MOST_CASES
    → (count : ℕ) → count ≡ length priced.charges.now.summits.items
    → (indices : List ℕ) (given : List (Result (List (Option ℕ)) E)) (result : Result (Vec (List (Option ℕ)) Global) E)
    → indices ≡ range_with_len 0 count
    → AllZip (λ k (r : Result (List (Option ℕ)) E). IfOk r (AreCaseNumbers p w k)) indices given
    → MatchResult result
    (λ all. (own : List (List (Option ℕ))) × (given ≡ map Ok own) × (all.items ≡ own))
    (λ e. Contains given (Err e))
    → IfOk result (λ numbers. AreNumbersOver priced web numbers.items)
cases_for E priced p web w same also short few count is indices given result all each m =
    cases_are E priced web short few count is indices given result all
    (subst
    (λ (x : PricedSpace). AllZip (λ k (r : Result (List (Option ℕ)) E). IfOk r (AreCaseNumbers x web k)) indices given) same
    (subst
    (λ (x : Web Kept). AllZip (λ k (r : Result (List (Option ℕ)) E). IfOk r (AreCaseNumbers p x k)) indices given) also each))
    m
