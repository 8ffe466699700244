use Rattle.std.proofs.Common.{◌<◌, ◌≤◌, arith, sym, ◌∙◌, subst, length, take, length-append}
use Rattle.std.proofs.lemmas.List.{length-take, length-take-le, take-append-le}
use Rattle.std.proofs.lemmas.Grind.{common_steps}
use Rattle.fux_port.specs.Files.{HasFile}
use Rattle.fux_port.proofs.Pieces.{starts_with_more, whole_front, past_limit}
use Rattle.fux_port.proofs.whole.read_whole.Goals as goal

pub returns-then-count-eq0-clause-ok : goal.returns-then-count-eq0-clause-ok
returns-then-count-eq0-clause-ok g c = λ file told.
    let front = c.loop-bytes.invariant.1 file told in
    let still = subst (λ files. HasFile files c.args.name.now file) (sym c.loop-bytes.invariant.2) told in
    let room : 0 < length (take c.min-wanted.result c.loop-bytes.chunk) = simp length-take (omega arith) in
    let end : length file ≤ c.len-in-loop-bytes.result = c.in_ok-count.ensures.end c.if-count-eq0.true room file still
    in
    whole_front file c.loop-bytes.bytes.items front (omega (arith, end))

pub returns-then-count-left-clause-too_long : goal.returns-then-count-left-clause-too_long
returns-then-count-left-clause-too_long g c = λ _ file told.
    let still = subst (λ files. HasFile files c.args.name.now file) (sym c.loop-bytes.invariant.2) told in
    past_limit file c.read_at.new.buf c.len-in-loop-bytes.result c.in_ok-count.count c.args.limit
    (omega (arith, c.in_ok-count.ensures.fits)) (omega arith) (c.in_ok-count.ensures.placed file still)

pub loop-bytes-preserved : goal.loop-bytes-preserved
loop-bytes-preserved g c =
    let old = c.loop-bytes.invariant in
    let buf = c.read_at.new.buf in
    let fits : c.in_ok-count.count ≤ length buf = omega (arith, c.in_ok-count.ensures.fits) in (
      rw c.in_ok-extend_from_slice.ensures.items
          (simp (length-append, take-append-le) (omega (arith, old.0, length-take-le c.in_ok-count.count buf fits))),
      λ file told.
          let still = subst (λ files. HasFile files c.args.name.now file) (sym old.2) told in
          rw c.in_ok-extend_from_slice.ensures.items
          (starts_with_more file _ buf _ c.len-in-loop-bytes.result _ (omega arith) fits (old.1 file told)
          (c.in_ok-count.ensures.placed file still)),
      c.in_ok-count.ensures.files ∙ old.2,
      omega (arith, old.3, c.in_ok-count.ensures.faults),
      grind (arith, common_steps, old.4, old.2, c.in_ok-count.ensures.missing),
      λ name offset promised. c.in_ok-count.ensures.serving name offset (old.5 name offset promised),
      rw c.in_ok-extend_from_slice.ensures.items
          (simp (length-append, take-append-le) (omega (arith, old.6, c.in_ok-count.ensures.given, length-take-le c.in_ok-count.count buf fits))),
    )
