use Rattle.std.proofs.Common.{◌-◌, inr, refl, sym, length, subst, take, ◌∙◌, arith}
use Rattle.std.specs.Prelude.{None, Some}
use Rattle.cert_text.specs.HeadRows.{IsUpTo}
use Rattle.cert_text.proofs.HeadLaws.{if_ok, unless-map}
use Rattle.cert_text.proofs.HeadStops.{head-reads, head-stops, same-head, says-is}
use Rattle.cert_text.proofs.heads.head_up_to.Goals as goal

pub returns-in-Err-clause-fault : goal.returns-in-Err-clause-fault
returns-in-Err-clause-fault c =
    inr (
      length c.args.bytes.now - c.in-Err.left,
      refl,
      (head-stops c.args.ex.now c.requires c.args.last c.args.bytes.now c.in-Err.left c.in-Err.ensures.err).1,
    )

pub returns-in-Err-clause-texts : goal.returns-in-Err-clause-texts
returns-in-Err-clause-texts c = λ form among n penalty within text.
    absurd ((head-stops c.args.ex.now c.requires c.args.last c.args.bytes.now c.in-Err.left c.in-Err.ensures.err).1.unfinished
    form among n penalty within text)

pub returns-in-None-clause-ok : goal.returns-in-None-clause-ok
returns-in-None-clause-ok c =
    let scan = c.in-Ok.scan in
    let read = head-reads c.args.ex.now c.requires c.args.last c.args.bytes.now scan.rest.now scan.form scan.penalty None
    scan.lines.now c.in-None.is c.in-Ok.ensures.ok in
    (read.0, record { within = omega arith; text = read.1.1; setting = tt })

pub returns-in-None-clause-texts : goal.returns-in-None-clause-texts
returns-in-None-clause-texts c = λ form among n penalty within text.
    let scan = c.in-Ok.scan in
    let read = head-reads c.args.ex.now c.requires c.args.last c.args.bytes.now scan.rest.now scan.form scan.penalty None
    scan.lines.now c.in-None.is c.in-Ok.ensures.ok in
    let same = same-head c.args.ex.now c.requires c.args.bytes.now scan.form form
    (length c.args.bytes.now - length scan.rest.now) n None penalty (omega arith) within read.1.1 text in
    (same.0, same.2, same.1)

pub best_head-requires-clause-lines : goal.best_head-requires-clause-lines
best_head-requires-clause-lines c =
    let scan = c.in-Ok.scan in
    (head-reads c.args.ex.now c.requires c.args.last c.args.bytes.now scan.rest.now scan.form scan.penalty
    (Some c.in-Some.penalty) scan.lines.now c.in-Some.is c.in-Ok.ensures.ok).1.1

pub best_head-requires-clause-text : goal.best_head-requires-clause-text
best_head-requires-clause-text c =
    let scan = c.in-Ok.scan in
    (head-reads c.args.ex.now c.requires c.args.last c.args.bytes.now scan.rest.now scan.form scan.penalty
    (Some c.in-Some.penalty) scan.lines.now c.in-Some.is c.in-Ok.ensures.ok).1.2

pub returns-in-Some-clause-ok : goal.returns-in-Some-clause-ok
returns-in-Some-clause-ok c =
    let scan = c.in-Ok.scan in
    let read = head-reads c.args.ex.now c.requires c.args.last c.args.bytes.now scan.rest.now scan.form scan.penalty
    (Some c.in-Some.penalty) scan.lines.now c.in-Some.is c.in-Ok.ensures.ok in
    if_ok c.best_head.result _ _ (λ found is. (subst (IsUpTo c.args.last) (sym is.0) read.0, is.1)) c.best_head.ensures.ok

pub returns-in-Some-clause-texts : goal.returns-in-Some-clause-texts
returns-in-Some-clause-texts c = λ form among n penalty within text.
    let scan = c.in-Ok.scan in
    let total = Some c.in-Some.penalty in
    let read = head-reads c.args.ex.now c.requires c.args.last c.args.bytes.now scan.rest.now scan.form scan.penalty total
    scan.lines.now c.in-Some.is c.in-Ok.ensures.ok in
    let used = length c.args.bytes.now - length scan.rest.now in
    let same = same-head c.args.ex.now c.requires c.args.bytes.now scan.form form used n total penalty (omega arith) within
    (says-is c.args.ex.now scan.form total scan.lines.now (take used c.args.bytes.now) read.1) text in
    unless-map c.best_head.result _ _ (λ found is. (is.0 ∙ same.0, is.1 ∙ same.2, is.2 ∙ same.1)) c.best_head.ensures.same
