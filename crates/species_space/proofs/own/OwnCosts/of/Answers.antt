use Rattle.std.proofs.Common.{sym, ◌∙◌, arith}
use Rattle.std.proofs.lemmas.List.{get_or_past, get_or_read_under}
use Rattle.species_space.proofs.own.OwnCosts.of.Goals as goal

pub returns-then-k-len : goal.returns-then-k-len
returns-then-k-len c =
    let own = c.args.self.now in
    sym (get_or_past own.costs.items c.args.k 0 (omega (arith, c.if-k-len.true, c.len.ensures, own.costs.ok.0)))

pub returns : goal.returns
returns c =
    let own = c.args.self.now in
    c.from.ensures
    ∙ get_or_read_under own.costs.items c.args.k c.len.result c.index.result.now 0 c.index.ensures c.if-k-len.false
    (c.len.ensures ∙ own.costs.ok.0)
