use Rattle.std.proofs.Common.{◌≡◌, Ok, ap, inl, length, map, arith}
use Rattle.std.specs.Prelude.{string_bytes}
use Rattle.std.proofs.lemmas.List.{length-map}
use Rattle.command_words.specs.Commands.{texts}
use Rattle.works.specs.declared.complaint.Complaint.TheVariants.{Unreadable}
use Rattle.works.specs.declared.complaint.FileName.TheVariants.{Given}
use Rattle.works.proofs.BlameLemmas.{place_blames}
use Rattle.works.proofs.ClassLemmas.{class_in, files_made, name_unread, same_count, word_at}
use Rattle.works.proofs.classing.class_files.Goals as goal

pub report_output-requires-after_bounds : goal.report_output-requires-after_bounds
report_output-requires-after_bounds g c κs within =
    let names = c.args.names.now in
    let count : length (map string_bytes names) ≡ length c.in-Ok.texts.items =
    same_count 65536 (g.F.Shelf.files c.args.shelf.now) (map string_bytes names) c.in-Ok.texts.items c.in-Ok.ensures.reads in
    let named : length (map string_bytes names) ≡ length names = length-map names string_bytes in
    omega (arith, count, named, ap length c.deref.ensures.value)

pub returns-in-Ok-report_output-clause-made : goal.returns-in-Ok-report_output-clause-made
returns-in-Ok-report_output-clause-made g c =
    let files = g.F.Shelf.files c.args.shelf.now in
    let names = texts c.args.names.now in
    files_made names files (Unit {0}) (Ok c.in-Ok-report_output.output)
    (class_in files names c.in-Ok.texts.items c.in-Ok-report_output.output c.in-Ok.ensures.reads
    (rw c.deref.ensures.value at c.in-Ok-report_output.ensures))

pub returns-in-Err-At-clause-made : goal.returns-in-Err-At-clause-made
returns-in-Err-At-clause-made g c =
    let names = texts c.args.names.now in
    let known = rw c.in-Err-At.field-0-is at c.in-Err-At.ensures.reads in
    inl (name_unread (g.F.Shelf.files c.args.shelf.now) _ names c.in-Err-At.place (Unreadable (Given c.as_str.result)) known.0
    known.1 (word_at c.args.names.now c.in-Err-At.place c.index-names-place.result c.as_str.result.now
    (omega (arith, known.0, length-map c.args.names.now string_bytes)) (rw c.in-Err-At.field-0-is at c.index-names-place.is)
    c.as_str.ensures.value))

pub returns-in-Err-At-clause-served : goal.returns-in-Err-At-clause-served
returns-in-Err-At-clause-served g c = λ promised.
    absurd (rw c.in-Err-At.field-0-is at (c.in-Err-At.ensures.served promised.before))

pub returns-in-Err-At-clause-blamed : goal.returns-in-Err-At-clause-blamed
returns-in-Err-At-clause-blamed g c =
    let names = texts c.args.names.now in
    let serves = g.F.Shelf.serves c.args.shelf.now in
    let known = rw c.in-Err-At.field-0-is at c.in-Err-At.ensures.reads in
    inl (place_blames serves names c.in-Err-At.place (Unreadable (Given c.as_str.result)) known.0
    (word_at c.args.names.now c.in-Err-At.place c.index-names-place.result c.as_str.result.now
    (omega (arith, known.0, length-map c.args.names.now string_bytes)) (rw c.in-Err-At.field-0-is at c.index-names-place.is)
    c.as_str.ensures.value)
    (rw c.in-Err-At.field-0-is at c.in-Err-At.ensures.blamed))
