use Rattle.std.proofs.Common.{◌≡◌, ◌+◌, Some, None, sym, ◌∙◌, subst}
use Rattle.fux_judge.specs.Links.{column_of, link_of}
use Rattle.fux_judge.proofs.LinkLemmas.{link_from_parts}
use Rattle.floor_tables.specs.Tables.{Task}
use Rattle.floor_tables.proofs.links.ColumnLinksLinks.cost_from.Goals as goal

pub returns-in_err-pair-clause-value : goal.returns-in_err-pair-clause-value
returns-in_err-pair-clause-value c =
    c.from_residual.ensures
    ∙ subst (λ (t : Task). column_of t.exercise t.sheet c.args.i c.args.next.now.items ≡ Some c.args.known → None
    ≡ link_of t.exercise t.sheet c.args.i (Some c.args.prev.now.items) c.args.next.now.items)
    c.self.view_is
    (λ known. link_from_parts _ c.args.i (Some c.args.prev.now.items) c.args.next.now.items _ (Some c.args.known) None
    (sym known) (sym c.in_err-pair.was ∙ c.pair_cost_from.ensures.value))
    c.requires.known.0

pub returns-clause-value : goal.returns-clause-value
returns-clause-value c =
    subst (λ (t : Task). column_of t.exercise t.sheet c.args.i c.args.next.now.items ≡ Some c.args.known
    → Some (c.args.known + c.in_ok-pair.pair)
    ≡ link_of t.exercise t.sheet c.args.i (Some c.args.prev.now.items) c.args.next.now.items)
    c.self.view_is
    (λ known. link_from_parts _ c.args.i (Some c.args.prev.now.items) c.args.next.now.items _ (Some c.args.known)
    (Some c.in_ok-pair.pair) (sym known) (sym c.in_ok-pair.was ∙ c.pair_cost_from.ensures.value))
    c.requires.known.0
