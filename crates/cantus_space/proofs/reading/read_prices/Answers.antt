use Rattle.std.proofs.Common.{◌≡◌, IfOk, IfErr, ◌≢◌, Ok, Err, subst, sym, ap, ◌∙◌, arith}
use Rattle.std.proofs.lemmas.Grind.{common_steps}
use Rattle.toml.specs.View.{table_view}
use Rattle.penalty_sheet.specs.declared.fault.SheetFault.TheVariants.{Memory}
use Rattle.penalty_sheet.specs.Sheets.{document_of}
use Rattle.cantus_space.specs.PricedSheets.{priced_by, priced_of, priced_said}
use Rattle.cantus_space.proofs.PricedLemmas.{long_sheet, only_memory, short_sheet}
use Rattle.cantus_space.proofs.reading.read_prices.Goals as goal

pub returns-then-bytes-gt-MOST_BYTES-clause-fault : goal.returns-then-bytes-gt-MOST_BYTES-clause-fault
returns-then-bytes-gt-MOST_BYTES-clause-fault c = λ other. long_sheet c.args.bytes.now c.if-bytes-gt-MOST_BYTES.true

pub returns-in_err-document-clause-fault : goal.returns-in_err-document-clause-fault
returns-in_err-document-clause-fault c =
    let short : priced_of c.args.bytes.now ≡ priced_by
    (document_of c.args.bytes.now) = short_sheet c.args.bytes.now (omega arith) in
    grind (arith, common_steps)

pub returns-clause-ok : goal.returns-clause-ok
returns-clause-ok c =
    let said : priced_of c.args.bytes.now ≡ priced_said (table_view c.in_ok-document.document) =
    short_sheet c.args.bytes.now (omega arith) ∙ ap priced_by c.in_ok-document.ensures.ok in
    subst (λ r. IfOk c.priced_document.result (λ priced. r ≡ Ok priced)) (sym said) c.priced_document.ensures.ok

pub returns-clause-fault : goal.returns-clause-fault
returns-clause-fault c =
    let said : priced_of c.args.bytes.now ≡ priced_said (table_view c.in_ok-document.document) =
    short_sheet c.args.bytes.now (omega arith) ∙ ap priced_by c.in_ok-document.ensures.ok in
    subst (λ r. IfErr c.priced_document.result (λ fault. fault ≢ Memory
    → r ≡ Err fault)) (sym said) c.priced_document.ensures.fault

pub returns-then-bytes-gt-MOST_BYTES-clause-only : goal.returns-then-bytes-gt-MOST_BYTES-clause-only
returns-then-bytes-gt-MOST_BYTES-clause-only c =
    λ priced is. let too_long = long_sheet c.args.bytes.now c.if-bytes-gt-MOST_BYTES.true in cc

pub returns-in_err-document-clause-only : goal.returns-in_err-document-clause-only
returns-in_err-document-clause-only c =
    λ priced. only_memory c.args.bytes.now priced c.from_residual.result (returns-in_err-document-clause-fault c)

pub returns-clause-only : goal.returns-clause-only
returns-clause-only c = λ priced. only_memory c.args.bytes.now priced c.priced_document.result (returns-clause-fault c)
