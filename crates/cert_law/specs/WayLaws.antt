-- What a case with tails promises as a tree of claims: prefixes are found by the numbers of columns
-- (`are_ways`), and true claims exclude what refutes its head (`excluded`).
use Rattle.std.specs.Prelude.{◌≡◌, ◌+◌, ◌<◌, true, List, [], ◌∷◌, ◌++◌, length, map, refl}
use Rattle.std.specs.List.{AllByRecursion}
use Rattle.std.proofs.Common.{arith}
use Rattle.std.proofs.lemmas.List.{length-append}
use Rattle.cert_text.specs.declared.claim.Claim.{Claim}
use Rattle.cert_text.specs.declared.claim.Claim.TheVariants.{Open, Broken, NoChain, Floor, TheScore}
use Rattle.cert_tree.specs.Trees.{Excludes}
use Rattle.cert_tree.specs.Walks.{AreWays}
use Rattle.cert_law.specs.Certificates.{Begins, Refutes, is_open}
use Rattle.cert_law.specs.Claims.{IsTrueOf, next_columns}
use Rattle.cert_law.specs.Known.{Tailed, column_after, tree_in, ways_of}
use Rattle.fux_grid.specs.declared.cell.Cell.{Cell}
use Rattle.fux_grid.specs.Exercises.{columns_in}

module _ (t : Tailed) where
  pub few : (p : List (List Cell)) (claim : Claim) → is_open claim ≡ true
      → IsTrueOf t.case.exercise t.case.sheet t.case.head t.stated p claim → length p < columns_in t.case.exercise
  few p Open e holds = holds.0
  few p (Broken rule) e holds = cc
  few p NoChain e holds = cc
  few p Floor e holds = cc
  few p TheScore e holds = cc

  each_step : (p cols : List (List Cell)) → AllByRecursion (λ q. length q ≡ length p + 1) (map (λ col. p ++ col ∷ []) cols)
  each_step p [] = tt
  each_step p (col ∷ cols) = (length-append p (col ∷ []), each_step p cols)

  pub are_ways : AreWays (tree_in t) [] (ways_of t.case.exercise)
  are_ways = record {
    start = refl;
    all = λ p. refl;
    no_steps = refl;
    one_step = λ p k. omega (arith, length-append p (column_after t.case.exercise p k ∷ []));
    each_step = λ p. each_step p (next_columns t.case.exercise p);
    few_steps = few;
  }

pub empty_begins : (s : List (List Cell)) → Begins [] s
empty_begins s = record { rest = s; is = refl }

-- true claims exclude what refutes the head
abbrev pub ExcludesRefuting : Tailed → Type 0
ExcludesRefuting t = Excludes (tree_in t) Begins (Refutes t.case.exercise t.case.sheet t.case.head)

-- where they do, a setting refutes it
pub record RefutesExcluded (t : Tailed) (s : List (List Cell)) : Type 0 where
  pub excluded : ExcludesRefuting t
  pub refutes : Refutes t.case.exercise t.case.sheet t.case.head s

pub excluded : (t : Tailed) → Excludes (tree_in t) Begins (RefutesExcluded t)
excluded t = record {
  open_goes_on = λ p claim s e holds refutes begins.
      refutes.excluded.open_goes_on p claim s e holds refutes.refutes begins;
  closed_ends = λ p claim s e holds refutes begins.
      refutes.excluded.closed_ends p claim s e holds refutes.refutes begins;
}
