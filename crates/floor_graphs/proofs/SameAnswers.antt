-- What a search finds in a sharpened tree is so of the tree itself (`found_from_sharpened`,
-- `bounds_from_sharpened`), and what was found agrees with every answer (`agrees_from_facts`).
use Rattle.std.specs.Prelude.{Result, Ok, Err, IfOk}
use Rattle.std.proofs.Common.{◌≡◌, ℕ, ◌+◌, List, Option, Some, None, IsSome, refl, arith}
use Rattle.tree_search.specs.Answer.{IsLeaf, IsFirstLeast, HasNoLeaf, BoundsLeaves, IsLoaded, IsLiveBelowRoot, IsOverBudget}
use Rattle.tree_search.specs.Outcomes.{IfFound, IfSpent, IsSpent, OnNothing}
use Rattle.tree_search.specs.Space.{FloorsGrow}
use Rattle.tree_search.specs.declared.outcome.Outcome.{Outcome}
use Rattle.tree_search.specs.declared.outcome.Outcome.TheVariants.{Found, Nothing, Spent}
use Rattle.floor_graphs.specs.Graphs.{AreFloors}
use Rattle.floor_graphs.specs.Sharper.{sharpened}
use Rattle.tree_search.proofs.Agreement.{outcomes_agree}
use Rattle.tree_search.proofs.Counts.{Many-by}
use Rattle.floor_graphs.specs.Sameness.{AgreesWithAnswers}
use Rattle.floor_graphs.specs.Laws.{leaf_to_sharpened, leaf_from_sharpened, live_from_sharpened, some_from}

pub agrees_from_facts : (live : List ℕ → Option ℕ) (height : ℕ) (outcome : Outcome)
    → IfFound outcome (IsFirstLeast live height) → OnNothing outcome (HasNoLeaf live height)
    → AgreesWithAnswers live height outcome
agrees_from_facts live height outcome found nothing unspent other answer =
    outcomes_agree live height outcome other record { found = found; nothing = nothing; unspent = unspent } answer

-- what follows of an outcome follows where there is one
pub on_ok : {E : Type 0} (P Q : Outcome → Type 0) → ((outcome : Outcome) → P outcome → Q outcome)
    → (result : Result Outcome E) → IfOk result P → IfOk result Q
on_ok P Q f (Ok outcome) h = f outcome h
on_ok P Q f (Err e) h = h

-- and what follows of it from two facts
pub on_ok₂ : {E : Type 0} (P R Q : Outcome → Type 0) → ((outcome : Outcome) → P outcome → R outcome → Q outcome)
    → (result : Result Outcome E) → IfOk result P → IfOk result R → IfOk result Q
on_ok₂ P R Q f (Ok outcome) h k = f outcome h k
on_ok₂ P R Q f (Err e) h k = h

pub not_spent : (outcome : Outcome) → ((bound : ℕ) → outcome ≡ Spent bound → ⊥) → IsSpent outcome → ⊥
not_spent (Found path value) h spent = spent
not_spent Nothing h spent = spent
not_spent (Spent bound) h spent = h bound refl

-- of an outcome that isn't spent any fact of its bound is so
pub if_unspent : (P : ℕ → Type 0) (outcome : Outcome) → (IsSpent outcome → ⊥) → IfSpent outcome P
if_unspent P (Found path value) unspent = tt
if_unspent P Nothing unspent = tt
if_unspent P (Spent bound) unspent = absurd (unspent tt)

module _ (live sum : List ℕ → Option ℕ) (width : List ℕ → ℕ) (height : ℕ) (grows : FloorsGrow live width height)
    (floors : AreFloors live height sum) where
  to : (path : List ℕ) (value : ℕ) → IsLeaf live height path value → IsLeaf (sharpened live sum) height path value
  to = leaf_to_sharpened live sum width height grows floors

  from : (path : List ℕ) (value : ℕ) → IsLeaf (sharpened live sum) height path value → IsLeaf live height path value
  from = leaf_from_sharpened live sum width height grows floors

  pub first_from_sharpened : (path : List ℕ) (value : ℕ) → IsFirstLeast (sharpened live sum) height path value
      → IsFirstLeast live height path value
  first_from_sharpened path value h = record {
    leaf = from path value h.leaf;
    least = λ other its_value leaf. h.least other its_value (to other its_value leaf);
    first = λ other leaf. h.first other (to other value leaf);
  }

  first_to_sharpened : (path : List ℕ) (value : ℕ) → IsFirstLeast live height path value
      → IsFirstLeast (sharpened live sum) height path value
  first_to_sharpened path value h = record {
    leaf = to path value h.leaf;
    least = λ other its_value leaf. h.least other its_value (from other its_value leaf);
    first = λ other leaf. h.first other (from other value leaf);
  }

  pub none_from_sharpened : HasNoLeaf (sharpened live sum) height → HasNoLeaf live height
  none_from_sharpened h path value leaf = h path value (to path value leaf)

  pub bounds_to_sharpened : (bound : ℕ) → BoundsLeaves live height bound → BoundsLeaves (sharpened live sum) height bound
  bounds_to_sharpened bound h path value leaf = h path value (from path value leaf)

  pub bounds_from_sharpened : (bound : ℕ) → BoundsLeaves (sharpened live sum) height bound
      → BoundsLeaves live height bound
  bounds_from_sharpened bound h path value leaf = h path value (to path value leaf)

  live_some : (path : List ℕ) (floor : Option ℕ) → sharpened live sum path ≡ floor → IsSome floor
      → IsSome (live path)
  live_some path None is h = cc
  live_some path (Some floor) is h =
      let own = live_from_sharpened live sum path floor is in some_from (live path) own.0 own.1

  loaded_from_sharpened : (floor : ℕ) (path : List ℕ) → IsLoaded (sharpened live sum) floor path
      → IsLoaded live floor path
  loaded_from_sharpened floor path h =
      let own = live_from_sharpened live sum h.parent h.own_floor h.parent_live in
      record {
        is_live = live_some path (sharpened live sum path) refl h.is_live;
        parent = h.parent;
        child = h.child;
        is = h.is;
        own_floor = own.0;
        parent_live = own.1;
        low = omega (arith, own.2, h.low);
      }

  -- no load of the sharpened tree is above the tree's own
  pub over_from_sharpened : (budget : ℕ) → IsOverBudget (sharpened live sum) height budget
      → IsOverBudget live height budget
  over_from_sharpened budget h = record {
    load = λ path value first.
        Many-by (IsLoaded (sharpened live sum) value) (IsLoaded live value) (loaded_from_sharpened value) (budget + 1)
        (budget + 1) refl (h.load path value (first_to_sharpened path value first));
    whole = λ none.
        Many-by (IsLiveBelowRoot (sharpened live sum)) (IsLiveBelowRoot live)
        (λ path below. (live_some path (sharpened live sum path) refl below.0, below.1)) (budget + 1) (budget + 1) refl
        (h.whole (λ path value leaf. none path value (from path value leaf)));
  }

  pub found_from_sharpened : (outcome : Outcome) → IfFound outcome (IsFirstLeast (sharpened live sum) height)
      → IfFound outcome (IsFirstLeast live height)
  found_from_sharpened (Found path value) h = first_from_sharpened path value h
  found_from_sharpened Nothing h = tt
  found_from_sharpened (Spent bound) h = tt

  pub nothing_from_sharpened : (outcome : Outcome) → OnNothing outcome (HasNoLeaf (sharpened live sum) height)
      → OnNothing outcome (HasNoLeaf live height)
  nothing_from_sharpened (Found path value) h = tt
  nothing_from_sharpened Nothing h = none_from_sharpened h
  nothing_from_sharpened (Spent bound) h = tt

  pub spent_from_sharpened : (outcome : Outcome) → IfSpent outcome (BoundsLeaves (sharpened live sum) height)
      → IfSpent outcome (BoundsLeaves live height)
  spent_from_sharpened (Found path value) h = tt
  spent_from_sharpened Nothing h = tt
  spent_from_sharpened (Spent bound) h = bounds_from_sharpened bound h

  pub agrees_from_sharpened : (outcome : Outcome) → IfFound outcome (IsFirstLeast (sharpened live sum) height)
      → OnNothing outcome (HasNoLeaf (sharpened live sum) height) → AgreesWithAnswers live height outcome
  agrees_from_sharpened outcome found nothing =
      agrees_from_facts live height outcome (found_from_sharpened outcome found) (nothing_from_sharpened outcome nothing)

  pub spent_over_from_sharpened : (budget : ℕ) (outcome : Outcome)
      → (IsSpent outcome → IsOverBudget (sharpened live sum) height budget) → IsSpent outcome
      → IsOverBudget live height budget
  spent_over_from_sharpened budget outcome h spent = over_from_sharpened budget (h spent)
