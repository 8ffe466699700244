use Rattle.std.proofs.Common.{◌≡◌, sym, subst}
use Rattle.std.specs.List.{AllByRecursion}
use Rattle.cert_law.specs.Cases.{matter_of}
use Rattle.cert_law.specs.Known.{IsKnown, Tailed, tree_in, ways_of}
use Rattle.cert_text.specs.Lines.{IsClaim}
use Rattle.cert_tree.specs.Walks.{IsWalk}
use Rattle.cert_tree.specs.Writing.{AreTold, claims_to_come, claims_with}
use Rattle.cert_writer.specs.Writing.{by_tables, own_claim, own_in, to_come}
use Rattle.cert_writer.proofs.Fits.{own_fits}
use Rattle.cert_file.proofs.Fits.{next-fits, to_come-fit}
use Rattle.cert_writer.proofs.next.next_claim.Goals as goal

pub next_claim-requires-clause-walk : goal.next_claim-requires-clause-walk
next_claim-requires-clause-walk c =
    subst (λ (x : Tailed). IsWalk (tree_in x) (IsKnown x) (ways_of x.case.exercise) c.args.walk.now) (sym c.new.ensures)
    c.requires.writing.is

pub next_claim-requires-clause-told : goal.next_claim-requires-clause-told
next_claim-requires-clause-told c =
    subst (λ (x : Tailed). AreTold (tree_in x) (own_in x) (ways_of x.case.exercise) c.args.walk.now) (sym c.new.ensures)
    c.requires.writing.told

pub returns-clause-writing : goal.returns-clause-writing
returns-clause-writing c =
    let walk = c.next_claim.new.walk in
    record {
      is = subst (λ (x : Tailed). IsWalk (tree_in x) (IsKnown x) (ways_of x.case.exercise) walk) c.new.ensures
          c.next_claim.ensures.walk;
      told = subst (λ (x : Tailed). AreTold (tree_in x) (own_in x) (ways_of x.case.exercise) walk) c.new.ensures
          c.next_claim.ensures.told;
    }

pub returns-clause-claims : goal.returns-clause-claims
returns-clause-claims c =
    subst
    (λ (x : Tailed). claims_to_come (tree_in x) (own_in x) (ways_of x.case.exercise) c.args.walk.now
    ≡ claims_with c.next_claim.result
    (claims_to_come (tree_in x) (own_in x) (ways_of x.case.exercise) c.next_claim.new.walk))
    c.new.ensures c.next_claim.ensures.claims

pub returns-clause-claim : goal.returns-clause-claim
returns-clause-claim c =
    let t = matter_of c.args.case.now in
    let claims : to_come t c.args.walk.now ≡ claims_with c.next_claim.result (to_come t c.next_claim.new.walk) =
    subst
    (λ (x : Tailed). claims_to_come (tree_in x) (own_in x) (ways_of x.case.exercise) c.args.walk.now
    ≡ claims_with c.next_claim.result
    (claims_to_come (tree_in x) (own_in x) (ways_of x.case.exercise) c.next_claim.new.walk))
    c.new.ensures c.next_claim.ensures.claims
    in
    next-fits c.next_claim.result (to_come t c.next_claim.new.walk)
    (subst (AllByRecursion IsClaim) claims
    (to_come-fit (tree_in (by_tables t)) (own_claim t) (own_fits t c.requires.task.unmixed) (ways_of t.exercise)
    c.args.walk.now))
