-- Pitches are found by their numbers (`are_ways`).
use Rattle.std.specs.Prelude.{◌≡◌, ◌+◌, ◌<◌, true, List, [], ◌∷◌, ◌++◌, length, map, refl}
use Rattle.std.specs.List.{AllByRecursion}
use Rattle.std.proofs.Common.{arith}
use Rattle.std.proofs.lemmas.List.{length-append}
use Rattle.cert_text.specs.declared.claim.Claim.{Claim}
use Rattle.cert_text.specs.declared.claim.Claim.TheVariants.{Open, Broken, NoChain, Floor, TheScore}
use Rattle.cert_tree.specs.Walks.{AreWays}
use Rattle.fux_pitch.specs.declared.pitch.Pitch.{Pitch}
use Rattle.cantus_space.specs.declared.plan.CantusPlan.{CantusPlan}
use Rattle.cantus_space.specs.Numbers.{numbered_pitch}
use Rattle.cantus_check.specs.Certificates.{is_open, tree_of}
use Rattle.cantus_check.specs.Claims.{IsTrueOf, Said, longer_lists, pool_of}
use Rattle.cantus_check.specs.Known.{longer_from, ways_of}

module _ (plan : CantusPlan) (said : Said) where
  all_longer : (ps : List Pitch) → longer_from plan ps 0 ≡ longer_lists plan ps
  all_longer ps = refl

  pub few : (ps : List Pitch) (claim : Claim) → is_open claim ≡ true → IsTrueOf plan said ps claim → length ps < plan.bars
  few ps Open e holds = holds
  few ps (Broken rule) e holds = cc
  few ps NoChain e holds = cc
  few ps Floor e holds = cc
  few ps TheScore e holds = cc

  each_step : (ps pool : List Pitch) → AllByRecursion (λ q. length q ≡ length ps + 1) (map (λ p. ps ++ p ∷ []) pool)
  each_step ps [] = tt
  each_step ps (p ∷ pool) = (length-append ps (p ∷ []), each_step ps pool)

  pub are_ways : AreWays (tree_of plan said) [] (ways_of plan)
  are_ways = record {
    start = refl;
    all = all_longer;
    no_steps = refl;
    one_step = λ ps k. omega (arith, length-append ps (numbered_pitch plan k ∷ []));
    each_step = λ ps. each_step ps (pool_of plan (length ps + 1));
    few_steps = few;
  }
