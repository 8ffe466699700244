-- What waits, as numbers.
use Rattle.std.proofs.Common.{◌≡◌, ℕ, ◌<◌, ◌≤◌, List, ◌∷◌, length, get_or, Option, Some, All, IsPermutation, sym, ap, subst, ◌∙◌, arith}
use Rattle.std.proofs.lemmas.List.{get_or-map, length-map}
use Rattle.std.proofs.lemmas.List.Elements.{All-cons, All-tail}
use Rattle.std.proofs.lemmas.List.Sorted.{All-permutation, IsPermutation-map}
use Rattle.tree_search.specs.declared.links.Link.{Link}
use Rattle.tree_search.specs.Links.{path_in}
use Rattle.tree_search.specs.Entries.{Entry, numbers, HaveFloors}
use Rattle.tree_search.specs.Fronts.{floor_of, floor_in}

abbrev number : Entry → ℕ
number entry = entry.1

All_numbers : (P : ℕ → Type 0) (xs : List Entry) → All (λ entry. P entry.1) xs → All P (numbers xs)
All_numbers P xs h = λ k d within.
    let none : Entry = (record { 0 = 0 }, 0) in
    let inside : k < length xs = omega (arith, within, length-map xs number) in
    subst P (sym (get_or-map number xs k none d inside)) (h k none inside)

All_entries : (P : ℕ → Type 0) (xs : List Entry) → All P (numbers xs) → All (λ entry. P entry.1) xs
All_entries P xs h = λ k d within. subst P (get_or-map number xs k d d.1 within)
    (h k d.1 (omega (arith, within, length-map xs number)))

pub numbers-permutation : (xs ys : List Entry) → IsPermutation xs ys → IsPermutation (numbers xs) (numbers ys)
numbers-permutation xs ys moved = IsPermutation-map number xs ys moved

-- one entry more
pub HaveFloors-add : (live : List ℕ → Option ℕ) (links links' : List Link) (f n : ℕ) (xs ys : List Entry)
    → live (path_in links' n) ≡ Some f →
    ((i : ℕ) → i < n → path_in links' i ≡ path_in links i) → All (λ i. i < n) (numbers xs)
    → HaveFloors live links xs →
    IsPermutation ((record { 0 = f }, n) ∷ xs) ys → HaveFloors live links' ys
HaveFloors-add live links links' f n xs ys is earlier within h added =
    let P : Entry → Type 0 = λ entry. live (path_in links' entry.1) ≡ Some entry.0.0 in
    All-permutation P ((record { 0 = f }, n) ∷ xs) ys added
    (All-cons P (record { 0 = f }, n) xs is
    (λ k d inside. ap live (earlier (get_or xs k d).1 (All_entries (λ i. i < n) xs within k d inside))
    ∙ h k d inside))

module _ (live : List ℕ → Option ℕ) (links : List Link) (f c : ℕ) (xs ys : List Entry)
    (h : HaveFloors live links xs)
    (taken : IsPermutation xs ((record { 0 = f }, c) ∷ ys)) where
  all : HaveFloors live links ((record { 0 = f }, c) ∷ ys)
  all = All-permutation (λ entry. live (path_in links entry.1) ≡ Some entry.0.0) xs
      ((record { 0 = f }, c) ∷ ys) taken h

  -- the floor of the one taken out
  pub taken_floor : live (path_in links c) ≡ Some f
  taken_floor = all 0 (record { 0 = 0 }, 0) (omega arith)

  -- the rest
  pub HaveFloors-rest : HaveFloors live links ys
  HaveFloors-rest = All-tail (λ entry. live (path_in links entry.1) ≡ Some entry.0.0) (record { 0 = f }, c) ys all

  pub least_number : All (λ other. f ≤ other.0.0) ys → All (λ j. f ≤ floor_in live links j) (numbers ys)
  least_number least = All_numbers (λ j. f ≤ floor_in live links j) ys
      (λ k d inside. omega (arith, ap floor_of (HaveFloors-rest k d inside), least k d inside))
