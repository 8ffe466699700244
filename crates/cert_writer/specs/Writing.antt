-- What is still to be written of a certificate's claims.
use Rattle.std.specs.Prelude.{◌≡◌, List, None}
use Rattle.cert_tree.specs.Walks.{IsWalk}
use Rattle.cert_tree.specs.Writing.{AreTold, claims_to_come}
use Rattle.cert_tree.specs.declared.walk.Walk.{Walk}
use Rattle.cert_law.specs.Bases.{HasTails, basis_of}
use Rattle.cert_law.specs.Cases.{IsCase, Matter}
use Rattle.cert_law.specs.Certificates.{Holds}
use Rattle.cert_law.specs.Known.{IsKnown, Tailed, tree_in, ways_of}
use Rattle.cert_law.specs.Rests.{HasSmallWeights}
use Rattle.cert_law.specs.Writer.{first_claim}
use Rattle.cert_law.specs.declared.known.PrefixKnown.{PrefixKnown}
use Rattle.cert_text.specs.declared.claim.Claim.{Claim}
use Rattle.floor_tables.specs.Tables.{Task}
use Rattle.fux_grid.specs.declared.cell.Cell.{Cell}

-- the exercise is within the limits and isn't mixed, since claims have no words for the rules of
-- mixed ones; the tables are of it and the sheet, whose weights are small, and the head holds
pub record IsTask (t : Matter) (tables : Task) : Type 0 where
  pub case : IsCase t
  pub unmixed : t.exercise.mixed ≡ None
  pub has : HasTails t (basis_of tables)
  pub small : HasSmallWeights t.sheet
  pub holds : Holds t.exercise t.sheet t.head

-- the case, where the tails are those of tables
abbrev pub by_tables : Matter → Tailed
by_tables t = record { case = t; stated = None }

-- the claim that is written of a prefix
abbrev pub own_in : Tailed → List (List Cell) → Claim
own_in x p = first_claim x.case.exercise x.case.sheet x.case.head x.stated p

abbrev pub own_claim : Matter → List (List Cell) → Claim
own_claim t = own_in (by_tables t)

-- the claims that are still to come, the next one first
abbrev pub to_come : Matter → Walk PrefixKnown → List Claim
to_come t walk = claims_to_come (tree_in (by_tables t)) (own_claim t) (ways_of t.exercise) walk

-- a walk at which a writer stands: each claim that is to come is true
pub record IsWriting (t : Matter) (walk : Walk PrefixKnown) : Type 0 where
  pub is : IsWalk (tree_in (by_tables t)) (IsKnown (by_tables t)) (ways_of t.exercise) walk
  pub told : AreTold (tree_in (by_tables t)) (own_claim t) (ways_of t.exercise) walk
