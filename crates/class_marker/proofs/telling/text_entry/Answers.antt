use Rattle.std.proofs.Common.{List, ℕ, IfOk, ◌∙◌, subst}
use Rattle.std.specs.Option.{option_copied}
use Rattle.class_marker.specs.Markings.{IsContent}
use Rattle.fux_text.proofs.ReadTexts.{too_long}
use Rattle.class_marker.specs.Entries.{IsEntryOfText}
use Rattle.class_marker.proofs.EntryLemmas.{long_entry}
use Rattle.class_marker.proofs.telling.text_entry.Goals as goal

pub returns-in-Bytes : goal.returns-in-Bytes
returns-in-Bytes c = λ bytes content.
    subst (λ (read : List ℕ). IfOk c.bytes_entry.result (IsEntryOfText (option_copied c.args.lesson) c.args.name.now read))
    (c.deref.ensures.value ∙ subst (λ text. IsContent 65536 text bytes) c.in-Bytes.is content) c.bytes_entry.ensures

pub returns-in-TooLong : goal.returns-in-TooLong
returns-in-TooLong c = λ bytes content.
    let long = subst (λ text. IsContent 65536 text bytes) c.in-TooLong.is content in
    long_entry (option_copied c.args.lesson) c.args.name.now bytes _ c.fault_entry.result (too_long bytes long) long
    c.fault_entry.ensures
