use Rattle.std.proofs.Common.{◌≡◌, ap, length, map, arith}
use Rattle.std.specs.Prelude.{string_bytes}
use Rattle.std.proofs.lemmas.List.{length-map}
use Rattle.works.proofs.BlameLemmas.{place_blames}
use Rattle.works.proofs.ClassLemmas.{class_in, same_count}
use Rattle.works.proofs.classing.report_files.Goals as goal

pub report_output-requires-after_bounds : goal.report_output-requires-after_bounds
report_output-requires-after_bounds g c κs within =
    let names = c.deref.result.now in
    let count : length (map string_bytes names) ≡ length c.in-Ok.texts.items =
    same_count 65536 (g.F.Shelf.files c.args.shelf.now) (map string_bytes names) c.in-Ok.texts.items c.in-Ok.ensures.reads in
    let named : length (map string_bytes names) ≡ length names = length-map names string_bytes in
    omega (
      arith,
      count,
      named,
      ap length c.deref.ensures.value,
      ap length c.deref-in-Ok.ensures.value,
      ap length c.deref-in-Ok-2.ensures.value,
    )

pub returns-in-Ok-report_output-clause-reports : goal.returns-in-Ok-report_output-clause-reports
returns-in-Ok-report_output-clause-reports g c =
    class_in (g.F.Shelf.files c.args.shelf.now) (map string_bytes c.args.names.items) c.in-Ok.texts.items
    c.in-Ok-report_output.output (rw c.deref.ensures.value at c.in-Ok.ensures.reads)
    (rw (c.deref-in-Ok.ensures.value, c.deref-in-Ok-2.ensures.value) at c.in-Ok-report_output.ensures)

pub returns-in-Err-At-clause-served : goal.returns-in-Err-At-clause-served
returns-in-Err-At-clause-served g c = λ promised.
    absurd (rw c.in-Err-At.field-0-is at (c.in-Err-At.ensures.served (rw c.deref.ensures.value promised)))

pub returns-in-Err-At-clause-blamed : goal.returns-in-Err-At-clause-blamed
returns-in-Err-At-clause-blamed g c =
    let names = map string_bytes c.args.names.items in
    let serves = g.F.Shelf.serves c.args.shelf.now in
    let known = rw (c.in-Err-At.field-0-is, c.deref.ensures.value) at c.in-Err-At.ensures.reads in
    place_blames serves names c.in-Err-At.place c.unreadable.result known.0
    (rw c.in-Err-At.field-0-is at c.unreadable.ensures)
    (rw (c.in-Err-At.field-0-is, c.deref.ensures.value) at c.in-Err-At.ensures.blamed)
