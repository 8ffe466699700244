use Rattle.std.proofs.Common.{ap, ◌∙◌, List, Option, ℕ, subst, sym}
use Rattle.std.specs.Prelude.{◌↔◌, IsTrue, map}
use Rattle.cert_law.specs.Cases.{matter_of}
use Rattle.cert_law.specs.Truths.{TellsTruth}
use Rattle.cert_tree.specs.Walks.{IsOfSome}
use Rattle.fux_grid.specs.declared.cell.Cell.{Cell}
use Rattle.price_check.specs.Floors.{list_of}
use Rattle.price_check.specs.Sharps.{IsSharpKnown, Sharp, tree_in, webbed}
use Rattle.price_check.proofs.SharpLemmas.{plain_small, same_lists, stated_truth}
use Rattle.price_check.proofs.TailTruths.{tails_tell_truth}
use Rattle.price_check.proofs.SameFloors.{stated_floors_are_one}
use Rattle.price_check.specs.PriceLists.{PriceList, sharp_tail}
use Rattle.price_check.specs.PriceLines.{line_of}
use Rattle.price_check.proofs.sharp_case.SharpCaseClaimTree.is_true.Goals as goal

pub is_true-requires-clause-small : goal.is_true-requires-clause-small
is_true-requires-clause-small c =
    let it = c.self.inside in
    plain_small (record { case = matter_of it.case; lines = map line_of it.lines.now; floors = map webbed it.floors.now }) c.args.known.now
    c.self.invariant.case
    (subst (λ (s : Sharp). IsOfSome (IsSharpKnown s) c.args.known.now) (sym c.self.view_is) c.requires)

pub returns : goal.returns
returns c =
    let it = c.self.inside in
    let t = matter_of it.case in
    let lists = map list_of it.floors.now in
    subst (λ (s : Sharp). (p : List (List Cell)) → IsSharpKnown s c.args.known.now p
    → IsTrue c.is_true.result ↔ (tree_in s).IsTrueOf p c.args.claim) c.self.view_is
    (λ p is.
    let same_tail = ap (λ (ls : List PriceList). sharp_tail t.exercise t.sheet ls p) (same_lists it.floors.now) in
    stated_truth t.exercise t.sheet t.head stated_floors_are_one (map line_of it.lines.now) lists
    c.self.invariant.stated p c.args.claim c.is_true.result
    (tails_tell_truth t lists c.args.known.now.own.judged c.args.claim c.is_true.result p is.own.judged
    (subst (λ (o : Option ℕ). TellsTruth t c.args.known.now.own.judged o c.args.claim c.is_true.result) (is.tail ∙ same_tail) c.is_true.ensures)))
