use Rattle.std.proofs.Common.{◌-◌, inr, length, refl, subst, sym}
use Rattle.cert_text.specs.Pieces.{Stands}
use Rattle.cantus_check.specs.Heads.{IsHeadText, Said}
use Rattle.cantus_check.specs.Rows.{said_of}
use Rattle.cert_text.proofs.Fronts.{reads-stand, stands-one}
use Rattle.cantus_check.proofs.HeadRows.{head-goes_to, head-reads, heads-alone}
use Rattle.cantus_check.proofs.head.cantus_head.Goals as goal

pub returns-in-Ok-scan_head-clause-ok : goal.returns-in-Ok-scan_head-clause-ok
returns-in-Ok-scan_head-clause-ok c =
    let bytes = c.args.bytes.now in
    let rest = c.in-Ok-scan_head.rest.now in
    let said = said_of c.in-Ok-scan_head.penalty c.scan_head.new.pitches.items in
    subst (λ (s : Said). Stands IsHeadText bytes s (length bytes - length rest)) (sym c.head_of.ensures)
    (reads-stand IsHeadText bytes rest said (head-reads bytes rest said c.in-Ok-scan_head.ensures.ok))

pub returns-in-Ok-scan_head-clause-only : goal.returns-in-Ok-scan_head-clause-only
returns-in-Ok-scan_head-clause-only c = λ said n stands.
    stands-one IsHeadText heads-alone c.args.bytes.now c.head_of.result.best said _ n
    (returns-in-Ok-scan_head-clause-ok c) stands

pub returns-in-Err-clause-fault : goal.returns-in-Err-clause-fault
returns-in-Err-clause-fault c =
    let bytes = c.args.bytes.now in
    let goes = head-goes_to bytes c.in-Err.left c.in-Err.ensures.err in
    inr (length bytes - c.in-Err.left, refl, goes.1)

pub returns-in-Err-clause-only : goal.returns-in-Err-clause-only
returns-in-Err-clause-only c = λ said n stands.
    let goes = head-goes_to c.args.bytes.now c.in-Err.left c.in-Err.ensures.err in
    absurd (goes.1.unfinished said n stands)
