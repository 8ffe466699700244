use Rattle.std.proofs.Common.{◌≡◌, [], None, refl, sym, subst}
use Rattle.cert_law.specs.Cases.{matter_of}
use Rattle.cert_law.specs.Known.{IsKnown, Tailed, tree_in, ways_of}
use Rattle.cert_law.specs.Writer.{claims_of}
use Rattle.cert_law.proofs.FloorFacts.{floors_hold}
use Rattle.cert_law.proofs.WrittenClaims.{all_true}
use Rattle.cert_tree.specs.Trees.{AreTrueFrom, claims_from}
use Rattle.cert_tree.specs.Walks.{IsWalk}
use Rattle.cert_tree.specs.Writing.{AreTold, claims_to_come}
use Rattle.fux_grid.specs.Exercises.{columns_in}
use Rattle.cert_writer.specs.Writing.{own_in, to_come}
use Rattle.cert_writer.proofs.Beginnings.{stage_there, text_begun}
use Rattle.cert_writer.proofs.begin.begin.Goals as goal

pub begin_again-requires-clause-told : goal.begin_again-requires-clause-told
begin_again-requires-clause-told c =
    let t = matter_of c.args.case.now in
    let valid = c.requires.task.case.valid in
    subst (λ (x : Tailed). AreTrueFrom (tree_in x) (own_in x) (columns_in x.case.exercise) []) (sym c.new.ensures)
    (all_true t.exercise t.sheet valid.most_voices (floors_hold t.exercise valid t.sheet) t.head c.requires.task.holds None
    (λ q whole. refl))

pub returns : goal.returns
returns c =
    let t = matter_of c.args.case.now in
    let walk = c.begin_again.new.walk in
    let claims : to_come t walk ≡ claims_of t.exercise t.sheet t.head =
    subst
    (λ (x : Tailed). claims_to_come (tree_in x) (own_in x) (ways_of x.case.exercise) walk
    ≡ claims_from (tree_in x) (own_in x) (columns_in x.case.exercise) [])
    c.new.ensures c.begin_again.ensures.claims
    in
    record {
      lines = record {
        stage = stage_there t c.args.form c.first_stage-lines.result c.first_stage-lines.ensures;
        walk = record {
          is =
              subst (λ (x : Tailed). IsWalk (tree_in x) (IsKnown x) (ways_of x.case.exercise) walk) c.new.ensures
              c.begin_again.ensures.walk;
          told =
              subst (λ (x : Tailed). AreTold (tree_in x) (own_in x) (ways_of x.case.exercise) walk) c.new.ensures
              c.begin_again.ensures.told;
        };
      };
      text = text_begun t c.args.form c.first_stage-lines.result (to_come t walk) (claims_of t.exercise t.sheet t.head)
          c.first_stage-lines.ensures claims;
    }
