use Rattle.std.proofs.Common.{ap, ◌∙◌, ◌≡◌, List, Option, ℕ, subst, sym}
use Rattle.std.specs.Prelude.{map}
use Rattle.cert_law.specs.Cases.{matter_of}
use Rattle.cert_law.specs.Truths.{IsFirstClaim}
use Rattle.cert_tree.specs.Walks.{IsOfSome}
use Rattle.fux_grid.specs.declared.cell.Cell.{Cell}
use Rattle.price_check.specs.Floors.{list_of}
use Rattle.price_check.specs.Sharps.{IsSharpKnown, Sharp, own_in, webbed}
use Rattle.price_check.proofs.SharpLemmas.{plain_small, same_lists}
use Rattle.price_check.specs.Truths.{sharp_first_claim}
use Rattle.price_check.proofs.TailTruths.{tails_tell_first}
use Rattle.price_check.specs.PriceLists.{PriceList, sharp_tail}
use Rattle.price_check.specs.PriceLines.{line_of}
use Rattle.price_check.proofs.sharp_case.SharpCaseClaimTree.own_claim.Goals as goal

pub first_claim-requires : goal.first_claim-requires
first_claim-requires c =
    let it = c.self.inside in
    plain_small (record { case = matter_of it.case; lines = map line_of it.lines.now; floors = map webbed it.floors.now }) c.args.known.now
    c.self.invariant.case
    (subst (λ (s : Sharp). IsOfSome (IsSharpKnown s) c.args.known.now) (sym c.self.view_is) c.requires)

pub returns : goal.returns
returns c =
    let it = c.self.inside in
    let t = matter_of it.case in
    let lists = map list_of it.floors.now in
    subst (λ (s : Sharp). (p : List (List Cell)) → IsSharpKnown s c.args.known.now p
    → c.first_claim.result ≡ own_in s p) c.self.view_is
    (λ p is.
    let same_tail = ap (λ (ls : List PriceList). sharp_tail t.exercise t.sheet ls p) (same_lists it.floors.now) in
    let same_own = ap (λ (ls : List PriceList). sharp_first_claim t.exercise t.sheet t.head ls p) (sym (same_lists it.floors.now)) in
    tails_tell_first t lists c.args.known.now.own.judged c.first_claim.result p is.own.judged
    (subst (λ (o : Option ℕ). IsFirstClaim t c.args.known.now.own.judged o c.first_claim.result) (is.tail ∙ same_tail) c.first_claim.ensures)
    ∙ same_own)
