use Rattle.std.proofs.Common.{◌≡◌, ◌≤◌, ◌<◌, ◌-◌, length, take, drop, sym, ◌∙◌, subst, true≢false, arith, length-drop}
use Rattle.std.proofs.lemmas.List.{length-take-le, take_all}
use borrow.Rule.Slice.PartMut.{mid_of, post_of, put_mid, same_len_mid, take_put}
use Rattle.fux_port.specs.Files.{HasFile, IsMissing}
use Rattle.fux_port.proofs.Pieces.{whole_front}
use Rattle.cert_file.proofs.FileLemmas.{filled}
use Rattle.cert_file.proofs.filling.fill.Goals as goal

pub returns-then-count-eq0-clause-front : goal.returns-then-count-eq0-clause-front
returns-then-count-eq0-clause-front g c = λ file told.
    let old = c.loop-done.invariant in
    let done = c.loop-done.done in
    let buf = c.loop-done.buf in
    let still = subst (λ files. HasFile files c.args.name.now file) (sym old.3) told in
    let left = length-take-le (length buf - done) (drop done buf) (omega (arith, length-drop done buf)) in
    let room : 0 < length (take (length buf - done) (drop done buf)) = omega (arith, left, c.loop-done-test.true) in
    let end : length file ≤ done = c.in_ok-count.ensures.end c.if-count-eq0.true room file still in
    let whole = whole_front file (take done buf) (old.2 file told) (omega (arith, end, length-take-le done buf old.0))
    in
    take_put done (length buf - done) buf c.read_at.new.buf old.0 ∙ whole
    ∙ sym (take_all (length c.args.buf.now) file (omega (arith, end, old.0, old.1)))

pub loop-done-preserved : goal.loop-done-preserved
loop-done-preserved g c =
    let old = c.loop-done.invariant in
    let done = c.loop-done.done in
    let buf = c.loop-done.buf in
    let piece = c.read_at.new.buf in
    let count = c.in_ok-count.count in
    let left = length-take-le (length buf - done) (drop done buf) (omega (arith, length-drop done buf)) in
    let as_long : length piece ≡ length (mid_of done (length buf - done) buf) = omega (arith, c.read_at.auto.buf) in
    let long : length (put_mid done (length buf - done) buf piece)
    ≡ length buf = same_len_mid done (length buf - done) buf piece as_long in
    let fits : count ≤ length piece = omega (arith, c.in_ok-count.ensures.fits, as_long) in (
      omega (arith, long, fits, as_long, left, old.0),
      long ∙ old.1,
      λ file told.
          let still = subst (λ files. HasFile files c.args.name.now file) (sym old.3) told in
          filled file buf piece (post_of done (length buf - done) buf) done count old.0 fits (old.2 file told)
          (c.in_ok-count.ensures.placed file still),
      c.in_ok-count.ensures.files ∙ old.3,
      omega (arith, old.4, c.in_ok-count.ensures.faults),
      λ absent.
          absurd (true≢false (sym (c.in_ok-count.ensures.missing
          (subst (λ files. IsMissing files c.args.name.now) (sym old.3) absent)))),
      λ name offset promised. c.in_ok-count.ensures.serving name offset (old.6 name offset promised),
      omega (arith, old.7, c.in_ok-count.ensures.given),
    )
