-- What a column costs by itself, with what is stated for it, is no more than the sum through it
-- (`bound_is`). Bounds are found one by one (`bounds_more`).
use Rattle.std.proofs.Common.{◌≡◌, ◌⊎◌, inl, inr, ℕ, ◌+◌, ◌<◌, ◌≤◌, Bool, true, false, List, [], ◌∷◌, ◌++◌, Option, Some, None, length, get_or, refl, sym, ◌∙◌, subst, arith}
use Rattle.std.specs.Prelude.{IsSomeAnd, if◌then◌else◌}
use Rattle.std.proofs.lemmas.List.{get_or_append_left, get_or_push, length_push}
use Rattle.cert_check.specs.Boards.{AllowsFrom, AreBounds, IsBound, IsBoundAt, IsBoundOf, IsFrom}
use Rattle.cert_check.proofs.PlaceLemmas.{place_is_one}
use Rattle.cert_law.specs.Entries.{AllowsSum, columns_before, entry_of, menu_column, number_in}
use Rattle.cert_text.specs.declared.potential.Potential.{Potential}
use Rattle.cert_text.specs.declared.potential.Potential.TheVariants.{Least, NoChain}
use Rattle.chain_sums.specs.Chains.{cells_of, plus}
use Rattle.chain_sums.specs.Sums.{column_follows}
use Rattle.chain_sums.proofs.LeastLemmas.{below_or_at, same_value}
use Rattle.fux_grid.specs.declared.cell.Cell.{Cell}
use Rattle.fux_grid.specs.declared.exercise.Exercise.{Exercise}
use Rattle.fux_grid.specs.Menus.{menu_of}
use Rattle.fux_judge.specs.Links.{IsLeastOfLinks, link_of}
use Rattle.penalty_sheet.specs.declared.sheet.Sheet.{Sheet}

below : (o c n x : ℕ) → c + n ≡ x → o ≤ c → (least : Option ℕ) → IsSomeAnd least (λ y. y ≤ o + n)
    → IsSomeAnd least (λ y. y ≤ x)
below o c n x sum low None h = absurd h
below o c n x sum low (Some y) h = let few : y ≤ x = omega (arith, h, low, sum) in few

by_own : (c n x : ℕ) (own least : Option ℕ) → c + n ≡ x → IsSomeAnd own (λ y. y ≤ c) → IsBoundOf own (Some n) least
    → IsSomeAnd least (λ y. y ≤ x)
by_own c n x None least sum low bound = absurd low
by_own c n x (Some o) least sum low bound = below o c n x sum low least (bound o n refl refl)

part : (follows : Bool) (cost own stated least : Option ℕ) → ((x : ℕ) → cost ≡ Some x → IsSomeAnd own (λ y. y ≤ x))
    → IsBoundOf own stated least → IsFrom least (if follows then plus cost stated else None)
part false cost own stated least lowest bound x e = cc
part true None own stated least lowest bound x e = cc
part true (Some c) own None least lowest bound x e = cc
part true (Some c) own (Some n) least lowest bound x e =
    by_own c n x own least (same_value (c + n) x e) (lowest c refl) bound

pub bound_is : (ex : Exercise) (sheet : Sheet) (entries : List Potential) (i k : ℕ) (col : List Cell) (own least : Option ℕ)
    → col ≡ menu_column ex i k → IsLeastOfLinks ex sheet i col own
    → IsBoundOf own (number_in (entry_of ex entries i k)) least → IsBound ex sheet entries i k least
bound_is ex sheet entries i k col own least is lowest bound before =
    part (column_follows (cells_of before) (menu_column ex i k)) (link_of ex sheet i before (menu_column ex i k)) own
    (number_in (entry_of ex entries i k)) least
    (subst (λ (c : List Cell). (x : ℕ) → link_of ex sheet i before c ≡ Some x → IsSomeAnd own (λ y. y ≤ x)) is (lowest before))
    bound

-- the bound of the column of a number is that of its place
pub bound_at : (ex : Exercise) (sheet : Sheet) (entries : List Potential) (number i k : ℕ) (least : Option ℕ)
    → number ≡ columns_before ex i + k → k < length (menu_of ex i) → IsBound ex sheet entries i k least
    → IsBoundAt ex sheet entries number least
bound_at ex sheet entries number i k least is within bound j l e short =
    let one = place_is_one ex i k j l within short (sym is ∙ e) in
    subst (λ (m : ℕ). IsBound ex sheet entries m l least) one.0
    (subst (λ (m : ℕ). IsBound ex sheet entries i m least) one.1 bound)

pub bounds_more : (ex : Exercise) (sheet : Sheet) (entries : List Potential) (bounds : List (Option ℕ)) (least : Option ℕ)
    → AreBounds ex sheet entries bounds → IsBoundAt ex sheet entries (length bounds) least
    → AreBounds ex sheet entries (bounds ++ least ∷ [])
bounds_more ex sheet entries bounds least are last number d short =
    at (below_or_at number (length bounds) (omega (arith, short, length_push bounds least)))
  where
    at : (number < length bounds) ⊎ (number ≡ length bounds)
        → IsBoundAt ex sheet entries number (get_or (bounds ++ least ∷ []) number d)
    at (inl less) =
        subst (λ (b : Option ℕ). IsBoundAt ex sheet entries number b)
        (sym (get_or_append_left bounds (least ∷ []) d number less)) (are number d less)
    at (inr same) =
        subst (λ (b : Option ℕ). IsBoundAt ex sheet entries number b)
        (sym (get_or_push bounds least d number (sym same)))
        (subst (λ (m : ℕ). IsBoundAt ex sheet entries m least) (sym same) last)

-- an entry allows each sum from a bound on, where it states no more, and where there is none
pub allows_none : (entry : Potential) (least : Option ℕ) → least ≡ None → AllowsFrom entry least
allows_none (Least n) least none None h = tt
allows_none NoChain least none None h = refl
allows_none entry least none (Some x) h =
    absurd (subst (λ (l : Option ℕ). IsSomeAnd l (λ y. y ≤ x)) none (h x refl))

pub allows_more : (entry : Potential) (least : Option ℕ) (n bound : ℕ) → entry ≡ Least n → least ≡ Some bound → n ≤ bound
    → AllowsFrom entry least
allows_more entry least n bound states is low sum h =
    subst (λ (e : Potential). AllowsSum e sum) (sym states) (at sum h)
  where
    at : (o : Option ℕ) → IsFrom least o → AllowsSum (Least n) o
    at None g = tt
    at (Some x) g =
        let few : bound ≤ x = subst (λ (l : Option ℕ). IsSomeAnd l (λ y. y ≤ x)) is (g x refl) in
        let all : n ≤ x = omega (arith, few, low) in all
