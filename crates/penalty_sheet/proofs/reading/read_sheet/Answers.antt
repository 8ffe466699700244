use Rattle.std.proofs.Common.{◌≡◌, IfOk, IfErr, ◌≢◌, Ok, Err, subst, sym, ap, ◌∙◌, arith}
use Rattle.std.proofs.lemmas.Grind.{common_steps}
use Rattle.toml.specs.View.{table_view}
use Rattle.penalty_sheet.specs.declared.fault.SheetFault.TheVariants.{Memory}
use Rattle.penalty_sheet.specs.Sheets.{document_of, document_said, said_by, sheet_of}
use Rattle.penalty_sheet.proofs.SheetLemmas.{long_sheet, only_memory, short_sheet}
use Rattle.penalty_sheet.proofs.reading.read_sheet.Goals as goal

pub returns-then-bytes-gt-MOST_BYTES-clause-fault : goal.returns-then-bytes-gt-MOST_BYTES-clause-fault
returns-then-bytes-gt-MOST_BYTES-clause-fault c = λ other. long_sheet c.args.bytes.now c.if-bytes-gt-MOST_BYTES.true

pub returns-in_err-document-clause-fault : goal.returns-in_err-document-clause-fault
returns-in_err-document-clause-fault c =
    let short : sheet_of c.args.bytes.now ≡ said_by
    (document_of c.args.bytes.now) = short_sheet c.args.bytes.now (omega arith) in
    grind (arith, common_steps)

pub returns-clause-ok : goal.returns-clause-ok
returns-clause-ok c =
    let said : sheet_of c.args.bytes.now ≡ document_said (table_view c.in_ok-document.document) =
    short_sheet c.args.bytes.now (omega arith) ∙ ap said_by c.in_ok-document.ensures.ok in
    subst (λ r. IfOk c.document_sheet.result (λ sheet. r ≡ Ok sheet)) (sym said) c.document_sheet.ensures.ok

pub returns-clause-fault : goal.returns-clause-fault
returns-clause-fault c =
    let said : sheet_of c.args.bytes.now ≡ document_said (table_view c.in_ok-document.document) =
    short_sheet c.args.bytes.now (omega arith) ∙ ap said_by c.in_ok-document.ensures.ok in
    subst (λ r. IfErr c.document_sheet.result (λ fault. fault ≢ Memory
    → r ≡ Err fault)) (sym said) c.document_sheet.ensures.fault

pub returns-then-bytes-gt-MOST_BYTES-clause-only : goal.returns-then-bytes-gt-MOST_BYTES-clause-only
returns-then-bytes-gt-MOST_BYTES-clause-only c =
    λ sheet is. let too_long = long_sheet c.args.bytes.now c.if-bytes-gt-MOST_BYTES.true in cc

pub returns-in_err-document-clause-only : goal.returns-in_err-document-clause-only
returns-in_err-document-clause-only c =
    λ sheet. only_memory c.args.bytes.now sheet c.from_residual.result (returns-in_err-document-clause-fault c)

pub returns-clause-only : goal.returns-clause-only
returns-clause-only c = λ sheet. only_memory c.args.bytes.now sheet c.document_sheet.result (returns-clause-fault c)
