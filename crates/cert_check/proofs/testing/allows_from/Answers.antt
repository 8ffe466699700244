use Rattle.std.proofs.lemmas.Bool.{OnTrue_from, leb-true}
use Rattle.std.proofs.Math.Dec.{leb}
use Rattle.cert_check.specs.Boards.{AllowsFrom}
use Rattle.cert_check.proofs.BoundLemmas.{allows_more, allows_none}
use Rattle.cert_check.proofs.testing.allows_from.Goals as goal

pub returns-in-None-default : goal.returns-in-None-default
returns-in-None-default c = allows_none c.args.entry c.args.least c.in-None-default.is-0

pub returns-in-Some-Least : goal.returns-in-Some-Least
returns-in-Some-Least c =
    let n = c.in-Some-Least.number in
    let bound = c.in-Some-Least.least in
    OnTrue_from (leb n bound) (AllowsFrom c.args.entry c.args.least)
    (λ h. allows_more c.args.entry c.args.least n bound c.in-Some-Least.is-1 c.in-Some-Least.is-0 (leb-true n bound h))
