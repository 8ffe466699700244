use Rattle.std.proofs.Common.{◌++◌, ap, sym, ◌∙◌}
use Rattle.cert_file.specs.Writing.{claim_lines, lines_left}
use Rattle.cert_file.proofs.next.ClaimLinesLineSource.next_line.Goals as goal

pub returns-in_default-clause-text : goal.returns-in_default-clause-text
returns-in_default-clause-text g c = ap claim_lines c.in_default.ensures.claims

pub returns-clause-text : goal.returns-clause-text
returns-clause-text g c =
    let it = c.args.self.now.it.now in
    let later = lines_left (g.T.ClaimTree.tree it) (g.T.ClaimTree.ways it) (g.T.ClaimTree.own it)
    c.next_claim.new.walk in
    ap claim_lines c.in-Some.ensures.claims
    ∙ ap (λ bs. bs ++ later) (sym (c.line_from.ensures ∙ c.as_str.ensures.value ∙ c.write_claim.ensures))
