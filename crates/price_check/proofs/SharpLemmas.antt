-- What is known of a prefix with lists is known of it without them (`plain_open`, `plain_step`), its
-- path goes on by the number of a column (`next_path`), and what is told by the lists of the floors
-- is told by those that the lines state (`stated_truth`). A break is told without lists
-- (`broken_truth`, `broken_first`).
use Rattle.std.proofs.Common.{◌≡◌, ℕ, zero, suc, ◌+◌, ◌<◌, Bool, true, false, List, [], ◌∷◌, ◌++◌, Option, Some, None, length, map, nat_lt, option_map, reverse, slice_get, slice_index_or, refl, ap, sym, subst, ◌∙◌, arith}
use Rattle.std.specs.Prelude.{◌↔◌, IsSomeAnd, IsTrue, if◌then◌else◌, is_none}
use Rattle.std.specs.Option.{option_map_or}
use Rattle.std.proofs.lemmas.Bool.{and_parts, ltb-true}
use Rattle.cert_law.specs.Cases.{IsCase}
use Rattle.cert_law.specs.Certificates.{is_open}
use Rattle.cert_law.specs.Claims.{IsNoBetter, IsTrueOf}
use Rattle.cert_law.specs.Known.{IsKnown, IsStepOf as IsPlainStepOf, KeepsKnown, column_after, is_step_of, tree_in as plain_tree}
use Rattle.cert_law.specs.Prefixes.{IsSmall}
use Rattle.cert_law.specs.declared.known.PrefixKnown.{PrefixKnown}
use Rattle.cert_law.specs.Tails.{tail_of, used_floor}
use Rattle.cert_law.specs.Writer.{first_claim, is_no_better, is_setting_of, least_break}
use Rattle.cert_law.proofs.KnownLemmas.{known_small}
use Rattle.cert_law.proofs.TailLemmas.{number_is}
use Rattle.cert_text.specs.declared.answers.CertHead.{CertHead}
use Rattle.cert_text.specs.declared.claim.Claim.{Claim}
use Rattle.cert_text.specs.declared.claim.Claim.TheVariants.{Open, Broken, NoChain, Floor, TheScore}
use Rattle.cert_tree.specs.Walks.{IsOfOpen, IsOfSome}
use Rattle.chain_sums.specs.Sums.{column_follows}
use Rattle.fux_grid.specs.declared.cell.Cell.{Cell}
use Rattle.fux_grid.specs.declared.exercise.Exercise.{Exercise}
use Rattle.fux_grid.specs.Columns.{newest_column}
use Rattle.fux_grid.specs.Menus.{menu_of}
use Rattle.penalty_sheet.specs.declared.sheet.Sheet.{Sheet}
use Rattle.price_check.specs.declared.sharp_case.SharpKnown.{SharpKnown}
use Rattle.price_check.specs.Sharps.{IsSharpKnown, IsStepOf, Sharp, StandIn, Webbed, plain_of, tree_in, webbed}
use Rattle.price_check.specs.Statements.{IsStatedTrueOf}
use Rattle.price_check.specs.Certificates.{IsSharpTrueOf}
use Rattle.price_check.specs.PriceLists.{PriceList, case_in, numbers_from, path_of, sharp_floor}
use Rattle.price_check.specs.Truths.{sharp_first_claim, sharp_unbroken}
use Rattle.price_check.proofs.Ways.{numbers_from-append}
use Rattle.price_check.specs.Laws.{StatedFloorsAreOne}
use Rattle.price_check.specs.Stated.{AreStated}
use Rattle.price_check.specs.PriceLines.{Line}
use Rattle.priced_paths.specs.Stands.{StandsAt}
use Rattle.price_check.specs.declared.floors.ListFloor.{ListFloor}
use Rattle.price_check.specs.Floors.{AreFor, ArePlaces, list_of}
use Rattle.priced_paths.specs.declared.guide.Place.{Place}
use Rattle.price_check.proofs.Webs.{some-same}

-- ---- without lists

open_plain : (s : Sharp) (p : List (List Cell)) (claim : Claim) → is_open claim ≡ true
    → IsStatedTrueOf s.case.exercise s.case.sheet s.case.head s.lines p claim
    → IsTrueOf s.case.exercise s.case.sheet s.case.head None p claim
open_plain s p Open e true_of = true_of.holds
open_plain s p (Broken rule) e true_of = cc
open_plain s p NoChain e true_of = cc
open_plain s p Floor e true_of = cc
open_plain s p TheScore e true_of = cc

module _ (s : Sharp) (known : SharpKnown) where
  pub plain_open : IsOfOpen (tree_in s) (IsSharpKnown s) known → IsOfOpen (plain_tree (plain_of s.case)) (IsKnown (plain_of s.case)) known.own
  plain_open it = record {
    node = it.node;
    is_open = record {
      is_of = it.is_open.is_of.own;
      claim = it.is_open.claim;
      says = it.is_open.says;
      holds = open_plain s it.node it.is_open.claim it.is_open.says it.is_open.holds;
    };
  }

  pub plain_step : (k : ℕ) → IsStepOf s k known → IsPlainStepOf (plain_of s.case) k known.own
  plain_step k it = record {
    node = it.node;
    is_open = record {
      is_of = it.is_open.is_of.own;
      claim = it.is_open.claim;
      says = it.is_open.says;
      holds = open_plain s it.node it.is_open.claim it.is_open.says it.is_open.holds;
    };
    step = it.step;
  }

  pub plain_small : IsCase s.case → IsOfSome (IsSharpKnown s) known → IsSmall known.own.judged
  plain_small case it = known_small (plain_of s.case) known.own case (record { node = it.node; is_of = it.is_of.own })

-- more that is known without lists is more that is known
module _ (s : Sharp) (known : SharpKnown) (own : PrefixKnown) (kept : KeepsKnown (plain_of s.case) known.own own) where
  pub sharp_kept : (p : List (List Cell)) → IsSharpKnown s known p → IsSharpKnown s (record known { own = own }) p
  sharp_kept p is = record { own = kept p is.own; places = is.places; tail = is.tail }

  pub sharp_step : (k : ℕ) → IsStepOf s k known → IsStepOf s k (record known { own = own })
  sharp_step k it = record {
    node = it.node;
    is_open = record {
      is_of = sharp_kept it.node it.is_open.is_of;
      claim = it.is_open.claim;
      says = it.is_open.says;
      holds = it.is_open.holds;
    };
    step = it.step;
  }

-- ---- webs

map_there : {X Y : Type 0} (f : X → Y) (xs : List X) (j : ℕ) (x : X) → slice_get xs j ≡ Some x
    → slice_get (map f xs) j ≡ Some (f x)
map_there f [] j x e = cc
map_there f (y ∷ xs) zero x e = ap (option_map f) e
map_there f (y ∷ xs) (suc j) x e = map_there f xs j x e

map_back : {X Y : Type 0} (f : X → Y) (xs : List X) (j : ℕ) (y : Y) → slice_get (map f xs) j ≡ Some y
    → (x : X) × (slice_get xs j ≡ Some x) × (f x ≡ y)
map_back f [] j y e = cc
map_back f (x ∷ xs) zero y e = (x, refl, some-same (f x) y e)
map_back f (x ∷ xs) (suc j) y e = map_back f xs j y e

pub same_lists : (floors : List ListFloor) → map (λ (it : Webbed). it.list) (map webbed floors) ≡ map list_of floors
same_lists [] = refl
same_lists (floor ∷ floors) = ap (λ (ls : List PriceList). list_of floor ∷ ls) (same_lists floors)

abbrev StandsBy : Exercise → Webbed → Option Place → List ℕ → Type 0
StandsBy ex it place path =
    StandsAt it.web (case_in ex it.list.charges) (length it.list.charges.summits.items) place path

module _ (ex : Exercise) (sheet : Sheet) (floors : List ListFloor) (own : AreFor ex sheet floors) (places : List (Option Place))
    (path : List ℕ) where
  -- places in the webs of floors are places in these webs
  pub to_webbed : ArePlaces floors places path → StandIn ex (map webbed floors) places path
  to_webbed stand j it e =
      let back = map_back webbed floors j it e in
      subst (λ (l : Webbed). StandsBy ex l (slice_index_or places j None) path) back.2
      (subst (λ (x : Exercise). StandsBy x (webbed back.0) (slice_index_or places j None) path) (own j back.0 back.1).0
      (stand j back.0 back.1))

  pub from_webbed : StandIn ex (map webbed floors) places path → ArePlaces floors places path
  from_webbed stand j floor e =
      subst (λ (x : Exercise). StandsBy x (webbed floor) (slice_index_or places j None) path) (sym (own j floor e).0)
      (stand j (webbed floor) (map_there webbed floors j floor e))

-- ---- paths

pub next_path : (ex : Exercise) (p : List (List Cell)) (k : ℕ) → is_step_of ex p k ≡ true
    → path_of ex p ++ k ∷ [] ≡ path_of ex (p ++ column_after ex p k ∷ [])
next_path ex p k step =
    let parts = and_parts (nat_lt k (length (menu_of ex (length p))))
    (column_follows (newest_column (reverse p)) (column_after ex p k)) step in
    let within : k < length (menu_of ex (length p)) = ltb-true k (length (menu_of ex (length p))) parts.0 in
    let place : 0 + length p ≡ length p = omega arith in
    sym (numbers_from-append ex 0 p (column_after ex p k ∷ [])
    ∙ ap (λ (n : ℕ). numbers_from ex 0 p ++ numbers_from ex n (column_after ex p k ∷ [])) place
    ∙ ap (λ (n : ℕ). numbers_from ex 0 p ++ n ∷ []) (number_is ex (length p) k within))

-- ---- claims

module _ (ex : Exercise) (sheet : Sheet) (head : CertHead) (one : StatedFloorsAreOne) (lines : List Line) (lists : List PriceList)
    (stated : AreStated sheet lines lists) (p : List (List Cell)) where
  same_floor : (others : List PriceList) → AreStated sheet lines others
      → sharp_floor ex sheet others p ≡ sharp_floor ex sheet lists p
  same_floor others also = one ex sheet lines others lists p also stated

  told : (claim : Claim) → IsStatedTrueOf ex sheet head lines p claim → IsSharpTrueOf ex sheet head lists p claim
  told Open it = it.holds
  told (Broken rule) it = it.holds
  told NoChain it = sym (same_floor it.lists it.stated) ∙ it.holds
  told Floor it = subst (λ (o : Option ℕ). IsSomeAnd o (IsNoBetter head p)) (same_floor it.lists it.stated) it.holds
  told TheScore it = it.holds

  pub stated_truth : (claim : Claim) (result : Bool) → IsTrue result ↔ IsSharpTrueOf ex sheet head lists p claim
      → IsTrue result ↔ IsStatedTrueOf ex sheet head lines p claim
  stated_truth claim result truth = (
    λ yes. record { lists = lists; stated = stated; holds = truth.0 yes },
    λ it. truth.1 (told claim it),
  )

  pub broken_truth : (claim : Claim) (rule : ℕ) (result : Bool) → claim ≡ Broken rule
      → IsTrue result ↔ IsTrueOf ex sheet head None p claim → IsTrue result ↔ IsStatedTrueOf ex sheet head lines p claim
  broken_truth claim rule result is truth =
      subst (λ (k : Claim). IsTrue result ↔ IsStatedTrueOf ex sheet head lines p k) (sym is)
      (stated_truth (Broken rule) result
      (subst (λ (k : Claim). IsTrue result ↔ IsTrueOf ex sheet head None p k) is truth))

-- a first claim that is of a break is the first one by whatever floors
module _ (rule : ℕ) (others : Claim) where
  not_unbroken : (none no_better : Bool) → (if none then NoChain else (if no_better then Floor else Open)) ≡ Broken rule → ⊥
  not_unbroken true no_better e = cc
  not_unbroken false true e = cc
  not_unbroken false false e = cc

  same_break : (is_setting none no_better : Bool) (least : Option ℕ)
      → (if is_setting then TheScore
      else option_map_or Broken least (if none then NoChain else (if no_better then Floor else Open))) ≡ Broken rule
      → (if is_setting then TheScore else option_map_or Broken least others) ≡ Broken rule
  same_break true none no_better least e = cc
  same_break false none no_better None e = absurd (not_unbroken none no_better e)
  same_break false none no_better (Some own) e = e

pub broken_first : (ex : Exercise) (sheet : Sheet) (head : CertHead) (lists : List PriceList) (p : List (List Cell)) (rule : ℕ)
    → first_claim ex sheet head None p ≡ Broken rule → sharp_first_claim ex sheet head lists p ≡ Broken rule
broken_first ex sheet head lists p rule e =
    same_break rule (sharp_unbroken ex sheet head lists p) (is_setting_of head p) (is_none (tail_of ex sheet None p))
    (option_map_or (is_no_better head p) (used_floor ex sheet None p) false) (least_break ex p) e
