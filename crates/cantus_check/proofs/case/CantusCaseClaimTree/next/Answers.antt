use Rattle.std.proofs.Common.{◌+◌, ◌++◌, ◌∷◌, [], length, map, reverse, ap, ◌∙◌, subst, sym, arith}
use Rattle.std.specs.Prelude.{nat_lt}
use Rattle.std.proofs.lemmas.Bool.{and_from, lt-ltb}
use Rattle.std.proofs.lemmas.List.{length-reverse}
use Rattle.cantus_space.specs.Cantus.{is_in_pool}
use Rattle.cantus_space.specs.Known.{IsFirstOfPool}
use Rattle.cantus_space.specs.Numbers.{numbered_pitch}
use Rattle.cantus_check.specs.Known.{longer_from}
use Rattle.cantus_check.proofs.PoolHeads.{head_is_of}
use Rattle.cantus_check.proofs.case.CantusCaseClaimTree.next.Goals as goal

pub returns-in-Some : goal.returns-in-Some
returns-in-Some c = λ ps judged.
    let plan = c.args.self.now.space in
    let number = c.in-Some.number in
    let p = c.in-Some.pitch in
    let found = subst (λ n. IsFirstOfPool plan (n + 1) c.args.from number p) (length-reverse ps)
    (c.in-Some.ensures (reverse ps) judged.node) in
    record {
      within = omega (arith, found.within);
      step =
          and_from (nat_lt number 73) (is_in_pool plan (length ps + 1) (numbered_pitch plan number))
          (lt-ltb number 73 found.within)
          (ap (is_in_pool plan (length ps + 1)) (sym found.is) ∙ head_is_of plan (length ps + 1) c.args.from p _ found.rest);
      rest = ap (map (λ q. ps ++ q ∷ [])) found.rest
          ∙ ap (λ q. (ps ++ q ∷ []) ∷ longer_from plan ps (number + 1)) found.is;
    }
