use Rattle.std.proofs.Common.{ap, ◌∙◌, arith}
use Rattle.std.proofs.lemmas.Bool.{OnTrue_at}
use Rattle.cert_file.specs.Writing.{claim_lines}
use Rattle.cert_file.proofs.Wholes.{whole_too_long, whole_within}
use Rattle.fux_port.proofs.Stands.{not_ok}
use Rattle.cert_file.proofs.whole.write_with_claims.Goals as goal

pub returns-then-not-is_within-clause-too_long : goal.returns-then-not-is_within-clause-too_long
returns-then-not-is_within-clause-too_long g c = λ _.
    let it = c.args.it.now in
    whole_too_long (g.T.ClaimTree.tree it) (g.T.ClaimTree.ways it) (g.T.ClaimTree.own it) (g.T.ClaimTree.root it)
    c.args.text.now c.begin_again.new.walk c.begin_again.ensures.claims c.is_within.result
    c.is_within.ensures.fits c.if-not-is_within.true

pub is_within-requires-clause-stands : goal.is_within-requires-clause-stands
is_within-requires-clause-stands g c =
    (c.requires.lines, record { is = c.begin_again.ensures.walk; told = c.begin_again.ensures.told })

pub write_counted-requires-clause-room : goal.write_counted-requires-clause-room
write_counted-requires-clause-room g c = c.is_within.ensures.stands.1.is.room

pub write_counted-requires-clause-kept : goal.write_counted-requires-clause-kept
write_counted-requires-clause-kept g c = λ all.
    OnTrue_at c.if-not-is_within.false c.is_within.ensures.kept all ∙ ap claim_lines c.begin_again.ensures.claims

pub returns-in-Ok-write_counted-clause-fits : goal.returns-in-Ok-write_counted-clause-fits
returns-in-Ok-write_counted-clause-fits g c = λ more.
    let it = c.args.it.now in
    let few = whole_within (g.T.ClaimTree.tree it) (g.T.ClaimTree.ways it) (g.T.ClaimTree.own it)
    (g.T.ClaimTree.root it) c.args.text.now c.begin_again.new.walk c.begin_again.ensures.claims
    c.is_within.result c.is_within.ensures.fits c.if-not-is_within.false in
    absurd (omega (arith, more, few))

pub returns-clause-fits : goal.returns-clause-fits
returns-clause-fits g c = λ more.
    let it = c.args.it.now in
    let few = whole_within (g.T.ClaimTree.tree it) (g.T.ClaimTree.ways it) (g.T.ClaimTree.own it)
    (g.T.ClaimTree.root it) c.args.text.now c.begin_again.new.walk c.begin_again.ensures.claims
    c.is_within.result c.is_within.ensures.fits c.if-not-is_within.false in
    absurd (omega (arith, more, few))

pub returns-clause-taken : goal.returns-clause-taken
returns-clause-taken g c = λ promised fault. not_ok _ _ c.in-Err.is (c.write_counted.ensures.taken promised)
