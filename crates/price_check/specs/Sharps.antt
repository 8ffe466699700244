-- A case with the lists that lines state, as a tree of claims.
use Rattle.std.specs.Prelude.{◌≡◌, ℕ, ◌<◌, ◌≤◌, true, List, [], Option, Some, None, length, map, slice_get, slice_index_or, refl}
use Rattle.cert_text.specs.declared.claim.Claim.{Claim}
use Rattle.cert_text.specs.declared.claim.Claim.TheVariants.{Open, Broken, NoChain, Floor, TheScore}
use Rattle.cert_tree.specs.Trees.{Excludes, Tree}
use Rattle.cert_tree.specs.Walks.{AreWays, IsOfStep}
use Rattle.cert_law.specs.Cases.{IsCase, Matter}
use Rattle.cert_law.specs.Certificates.{Begins, Refutes, is_open}
use Rattle.cert_law.specs.Known.{IsKnown, Tailed, ways_of}
use Rattle.cert_law.specs.WayLaws.{are_ways}
use Rattle.fux_grid.specs.declared.cell.Cell.{Cell}
use Rattle.fux_grid.specs.Exercises.{columns_in}
use Rattle.price_check.specs.declared.sharp_case.SharpKnown.{SharpKnown}
use Rattle.price_check.specs.declared.floors.ListFloor.{ListFloor}
use Rattle.price_check.specs.declared.floors.TheConstants.{MOST_LISTS}
use Rattle.priced_paths.specs.Stands.{StandsAt}
use Rattle.priced_floors.specs.declared.kept.Kept.{Kept}
use Rattle.priced_paths.specs.declared.guide.Place.{Place}
use Rattle.priced_paths.specs.declared.web.Web.{Web}
use Rattle.fux_grid.specs.declared.exercise.Exercise.{Exercise}
use Rattle.price_check.specs.Floors.{AreFor, list_of}
use Rattle.price_check.specs.Statements.{IsStatedTrueOf, stated_tree}
use Rattle.price_check.specs.PriceLists.{PriceList, case_in, path_of, sharp_tail}
use Rattle.price_check.specs.Truths.{sharp_first_claim}
use Rattle.price_check.specs.Stated.{AreStated}
use Rattle.price_check.specs.PriceLines.{Line}

-- a list, and the web in which its numbers were worked
pub record Webbed : Type 0 where
  pub list : PriceList
  pub web : Web Kept

abbrev pub webbed : ListFloor → Webbed
webbed floor = record { list = list_of floor; web = floor.sums.guide.web.now }

-- what a certificate is about, its lines, and the lists with their webs
pub record Sharp : Type 0 where
  pub case : Matter
  pub lines : List Line
  pub floors : List Webbed

abbrev pub lists_in : Sharp → List PriceList
lists_in s = map (λ (it : Webbed). it.list) s.floors

-- each place is where a path stands in the web of the list of the same number
abbrev pub StandIn : Exercise → List Webbed → List (Option Place) → List ℕ → Type 0
StandIn ex floors places path =
    (j : ℕ) (it : Webbed) → slice_get floors j ≡ Some it
    → StandsAt it.web (case_in ex it.list.charges) (length it.list.charges.summits.items) (slice_index_or places j None) path

abbrev pub tree_in : Sharp → Tree (List (List Cell)) Claim
tree_in s = stated_tree s.case.exercise s.case.sheet s.case.head s.lines

abbrev pub own_in : Sharp → List (List Cell) → Claim
own_in s = sharp_first_claim s.case.exercise s.case.sheet s.case.head (lists_in s)

-- the case without its lists
abbrev pub plain_of : Matter → Tailed
plain_of t = record { case = t; stated = None }

-- the case is one, what judges it without its lists is that, and the floors are those of the few
-- lists that the lines state
pub record IsSharp (t : Matter) (lines : List Line) (plain : Tailed) (floors : List ListFloor) : Type 0 where
  pub case : IsCase t
  pub without : plain ≡ plain_of t
  pub few : length floors ≤ MOST_LISTS
  pub own : AreFor t.exercise t.sheet floors
  pub stated : AreStated t.sheet lines (map list_of floors)

-- what is known of a prefix: what is known of it without lists, where it stands in the webs, and its
-- tail by the lists
pub record IsSharpKnown (s : Sharp) (known : SharpKnown) (p : List (List Cell)) : Type 0 where
  pub own : IsKnown (plain_of s.case) known.own p
  pub places : StandIn s.case.exercise s.floors known.places (path_of s.case.exercise p)
  pub tail : known.tail ≡ sharp_tail s.case.exercise s.case.sheet (lists_in s) p

-- this is known of an open prefix, and the column of the number may come next
abbrev pub IsStepOf : Sharp → ℕ → SharpKnown → Type 0
IsStepOf s k known = IsOfStep (tree_in s) (IsSharpKnown s) (ways_of s.case.exercise) k known

-- ---- what the tree owes

module _ (s : Sharp) where
  few : (p : List (List Cell)) (claim : Claim) → is_open claim ≡ true
      → IsStatedTrueOf s.case.exercise s.case.sheet s.case.head s.lines p claim → length p < columns_in s.case.exercise
  few p Open e true_of = true_of.holds.0
  few p (Broken rule) e true_of = cc
  few p NoChain e true_of = cc
  few p Floor e true_of = cc
  few p TheScore e true_of = cc

  pub sharp_ways : AreWays (tree_in s) [] (ways_of s.case.exercise)
  sharp_ways =
      let plain = are_ways (plain_of s.case) in
      record {
        start = refl;
        all = plain.all;
        no_steps = refl;
        one_step = plain.one_step;
        each_step = plain.each_step;
        few_steps = few;
      }

-- true claims exclude what refutes the head
abbrev pub ExcludesRefuting : Sharp → Type 0
ExcludesRefuting s = Excludes (tree_in s) Begins (Refutes s.case.exercise s.case.sheet s.case.head)

-- where they do, a setting refutes it
pub record RefutesExcluded (s : Sharp) (t : List (List Cell)) : Type 0 where
  pub excluded : ExcludesRefuting s
  pub refutes : Refutes s.case.exercise s.case.sheet s.case.head t

pub excluded : (s : Sharp) → Excludes (tree_in s) Begins (RefutesExcluded s)
excluded s = record {
  open_goes_on = λ p claim t e holds refutes begins.
      refutes.excluded.open_goes_on p claim t e holds refutes.refutes begins;
  closed_ends = λ p claim t e holds refutes begins.
      refutes.excluded.closed_ends p claim t e holds refutes.refutes begins;
}
