use Rattle.std.proofs.Common.{◌+◌, ◌≤◌, length, sym, ap, ◌∙◌, refl, arith}
use Rattle.std.specs.Str.Lossy.{utf8_error_len}
use Rattle.std.proofs.lemmas.List.{length-take-le}
use Rattle.text_lines.specs.Utf8.{begun, fault_of_utf8, begun_text}
use Rattle.text_lines.proofs.Fronts.{begun_bound}
use Rattle.text_lines.proofs.utf8.fault_of_utf8.Goals as goal

pub overflow_add-valid : goal.overflow_add-valid
overflow_add-valid g c =
    let rest = c.split_at.result.1.now in
    let bound : begun rest c.args.error_len ≤ length rest =
    begun_bound rest c.args.error_len (c.requires.error ∙ ap utf8_error_len (sym c.split_at.ensures.back)) in
    omega (arith, bound, c.begun-begun.ensures, c.split_at.ensures.back_len)

pub slice_bounds-fault_behind-end : goal.slice_bounds-fault_behind-end
slice_bounds-fault_behind-end g c =
    let rest = c.split_at.result.1.now in
    let bound : begun rest c.args.error_len ≤ length rest =
    begun_bound rest c.args.error_len (c.requires.error ∙ ap utf8_error_len (sym c.split_at.ensures.back)) in
    sym (length-take-le (c.args.valid + c.begun-begun.result) c.args.bytes.now
    (omega (arith, bound, c.begun-begun.ensures, c.split_at.ensures.back_len)))

pub returns : goal.returns
unfolding fault_of_utf8 begun_text
returns g c =
    rw (c.fault_behind.ensures, c.begun-begun.ensures, c.split_at.ensures.back, c.requires.error, c.requires.front) refl
