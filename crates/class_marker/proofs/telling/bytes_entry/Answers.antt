use Rattle.std.proofs.Common.{List, ℕ, Err, IfOk, ap, subst}
use Rattle.std.specs.Option.{option_copied}
use Rattle.fux_text.specs.Texts.{HasFault}
use Rattle.text_faults.specs.declared.found.FoundFault.{FoundFault}
use Rattle.class_marker.specs.Entries.{ExplainsFaults}
use Rattle.class_marker.proofs.EntryLemmas.{answer_entry, fault_entry}
use Rattle.class_marker.proofs.telling.bytes_entry.Goals as goal

pub returns-in-Ok : goal.returns-in-Ok
returns-in-Ok c =
    answer_entry (option_copied c.args.lesson) c.args.name.now c.args.bytes.now c.in-Ok.answer c.exercise_entry.result
    c.in-Ok.ensures.ok.0 c.in-Ok.ensures.only c.exercise_entry.ensures

pub returns-in-Err-At : goal.returns-in-Err-At
returns-in-Err-At c =
    let first : FoundFault = record { kind = c.in-Err-At.kind; line = c.in-Err-At.line; column = c.in-Err-At.column } in
    let has : HasFault c.args.bytes.now c.in-Err-At.kind c.in-Err-At.line c.in-Err-At.column =
    c.in-Err-At.ensures.fault c.in-Err-At.kind c.in-Err-At.line c.in-Err-At.column (ap Err c.in-Err-At.field-0-is) in
    fault_entry (option_copied c.args.lesson) c.args.name.now c.args.bytes.now first c.fault_entry.result has
    (subst (λ (told : List ℕ). IfOk c.fault_entry.result (ExplainsFaults c.args.name.now told first)) c.told_of.ensures
    c.fault_entry.ensures)
