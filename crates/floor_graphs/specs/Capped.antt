-- A tree of which only what is below a cap is kept obeys the law of floors (`capped_grows`).
use Rattle.std.specs.Prelude.{◌≡◌, ℕ, ◌≤◌, ◌++◌, [], ◌∷◌, List, Option, Some, None, IsSome, Bool, true, false, nat_le, if◌then◌else◌, max}
use Rattle.std.proofs.Common.{refl, ap, sym, ◌∙◌, arith}
use Rattle.std.proofs.lemmas.Bool.Decides.{nat_tests}
use Rattle.tree_search.specs.Space.{FloorsGrow}
use Rattle.tree_search.proofs.Trails.{some_of}

-- none of a floor above the second number; else the greater of the floor and the first number
abbrev pub capped_floor : ℕ → ℕ → Option ℕ → Option ℕ
capped_floor low high None = None
capped_floor low high (Some floor) = if nat_le floor high then Some (max low floor) else None

-- a tree without what is above a cap, whose floors are raised to a bound
abbrev pub capped : (List ℕ → Option ℕ) → ℕ → ℕ → List ℕ → Option ℕ
capped live low high path = capped_floor low high (live path)

-- what is said of a floor by a capped one
pub record IsCapped (low high : ℕ) (floor : Option ℕ) (raised : ℕ) : Type 0 where
  pub own : ℕ
  pub is_own : floor ≡ Some own
  pub within : own ≤ high
  pub raised_is : raised ≡ max low own

-- ---- what holds of them

pub capped_parts : (low high : ℕ) (floor : Option ℕ) (raised : ℕ) → capped_floor low high floor ≡ Some raised
    → IsCapped low high floor raised
capped_parts low high None raised h = cc
capped_parts low high (Some own) raised h = at (nat_le own high) refl h
  where
    at : (b : Bool) → nat_le own high ≡ b → (if b then Some (max low own) else None) ≡ Some raised
        → IsCapped low high (Some own) raised
    at true is h = record { own = own; is_own = refl; within = grind (arith, nat_tests); raised_is = cc }
    at false is h = cc

-- a floor within the cap is there
pub capped-within : (low high : ℕ) (floor : Option ℕ) (own : ℕ) → floor ≡ Some own → own ≤ high
    → capped_floor low high floor ≡ Some (max low own)
capped-within low high floor own is within =
    let has : nat_le own high ≡ true = grind (arith, nat_tests) in
    ap (capped_floor low high) is ∙ ap (λ b. if b then Some (max low own) else None) has

-- and so is one of which it is known that it is kept
pub capped-kept : (low high : ℕ) (floor : Option ℕ) (own : ℕ) → IsSome (capped_floor low high floor) → floor ≡ Some own
    → capped_floor low high floor ≡ Some (max low own)
capped-kept low high floor own kept is =
    let raised = some_of (capped_floor low high floor) kept in
    let parts = capped_parts low high floor raised.0 raised.1 in
    let same : parts.own ≡ own = let e = sym parts.is_own ∙ is in cc in
    capped-within low high floor own is (omega (arith, parts.within, same))

-- the law of the capped tree
pub capped_grows : (live : List ℕ → Option ℕ) (low high : ℕ) (width : List ℕ → ℕ) (height : ℕ)
    → FloorsGrow live width height → FloorsGrow (capped live low high) width height
capped_grows live low high width height grows path child floor h =
    let parts = capped_parts low high (live (path ++ child ∷ [])) floor h in
    let parent = grows path child parts.own parts.is_own in
    record {
      own_floor = max low parent.own_floor;
      is_live = capped-within low high (live path) parent.own_floor parent.is_live
          (omega (arith, parent.no_higher, parts.within));
      no_higher = omega (arith, parent.no_higher, parts.raised_is);
      within = parent.within;
      above = parent.above;
    }
