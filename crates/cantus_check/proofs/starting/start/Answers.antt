use Rattle.std.proofs.Common.{◌≡◌, ◌⊎◌, ℕ, ◌≤◌, length, take, drop, sym, ap, subst, ◌∙◌, true≢false, arith}
use Rattle.std.proofs.lemmas.List.{length-take-le}
use Rattle.fux_port.specs.Counts.{Rose}
use Rattle.cert_text.specs.declared.answers.CertFault.TheVariants.{CertHead, Memory}
use Rattle.cert_text.specs.Pieces.{GoesTo, Stands}
use Rattle.cantus_check.specs.Heads.{IsHeadText}
use Rattle.cert_file.specs.Readings.{Reading, longest_piece}
use Rattle.cert_file.specs.Subjects.{IsOpened}
use Rattle.cert_file.proofs.FileLemmas.{first_known, front_left, front_written}
use Rattle.cantus_check.proofs.StartLemmas.{head_stops, started}
use Rattle.cantus_check.proofs.starting.start.Goals as goal

pub returns-in-Ok-clause-starts : goal.returns-in-Ok-clause-starts
returns-in-Ok-clause-starts g c =
    let files = g.F.Shelf.files c.args.shelf.now in
    let name = c.args.name.now in
    let buf = c.fill.new.buf in
    let count = c.in_ok-count.count in
    let size : length c.deref_mut.result.now
    ≡ longest_piece = omega (arith, ap length c.deref_mut.ensures.value, c.in_ok-piece.ensures.len) in
    let fits : count ≤ length buf = omega (arith, c.in_ok-count.ensures.fits, c.in_ok-count.ensures.long) in
    let room : count ≤ c.in_ok-piece.piece.len = omega (arith, c.in_ok-count.ensures.fits, c.deref_mut.ensures.len) in
    let long : length (take count buf) ≡ count = length-take-le count buf fits in
    let written = front_written buf (drop (length buf) c.in_ok-piece.piece.items) c.in_ok-piece.piece.len count fits
    room in
    let read : take count c.deref.result.now ≡ take count buf = ap (λ xs. take count xs) c.deref.ensures.value
    ∙ written in
    let known = first_known files name (take count buf) longest_piece
    (omega (arith, long, c.in_ok-count.ensures.fits, size))
    (λ absent. true≢false (sym (c.in_ok-count.ensures.missing (omega (arith, size)) absent)))
    (λ file told. c.in_ok-count.ensures.front file told ∙ ap (λ n. take n file) size) in
    let heads = subst (λ xs. Stands IsHeadText xs c.in-Ok.head.best c.in-Ok.used) read c.in-Ok.ensures.ok in
    subst (λ (r : Reading). IsOpened IsHeadText files name c.in-Ok.head.best r) (sym c.new.ensures)
    (started files name (take count buf) known c.in-Ok.head.best c.in-Ok.used count _ heads (sym long)
    (front_left _ (take count buf) count c.in-Ok.used (omega (arith, heads.within, long)) written))

pub returns-in-Ok-clause-missing : goal.returns-in-Ok-clause-missing
returns-in-Ok-clause-missing g c = λ absent.
    let size : length c.deref_mut.result.now
    ≡ longest_piece = omega (arith, ap length c.deref_mut.ensures.value, c.in_ok-piece.ensures.len) in
    absurd (true≢false (sym (c.in_ok-count.ensures.missing (omega (arith, size)) absent)))

pub returns-in-Err-clause-starts : goal.returns-in-Err-clause-starts
returns-in-Err-clause-starts g c =
    let files = g.F.Shelf.files c.args.shelf.now in
    let name = c.args.name.now in
    let buf = c.fill.new.buf in
    let count = c.in_ok-count.count in
    let size : length c.deref_mut.result.now
    ≡ longest_piece = omega (arith, ap length c.deref_mut.ensures.value, c.in_ok-piece.ensures.len) in
    let fits : count ≤ length buf = omega (arith, c.in_ok-count.ensures.fits, c.in_ok-count.ensures.long) in
    let room : count ≤ c.in_ok-piece.piece.len = omega (arith, c.in_ok-count.ensures.fits, c.deref_mut.ensures.len) in
    let long : length (take count buf) ≡ count = length-take-le count buf fits in
    let written = front_written buf (drop (length buf) c.in_ok-piece.piece.items) c.in_ok-piece.piece.len count fits
    room in
    let read : take count c.deref.result.now ≡ take count buf = ap (λ xs. take count xs) c.deref.ensures.value
    ∙ written in
    let known = first_known files name (take count buf) longest_piece
    (omega (arith, long, c.in_ok-count.ensures.fits, size))
    (λ absent. true≢false (sym (c.in_ok-count.ensures.missing (omega (arith, size)) absent)))
    (λ file told. c.in_ok-count.ensures.front file told ∙ ap (λ n. take n file) size) in
    head_stops files name (take count buf) known
    (Rose (g.F.Shelf.faults c.args.shelf.now) (g.F.Shelf.faults c.fill.new.shelf))
    c.in-Err.fault
    (subst
    (λ xs. (c.in-Err.fault ≡ Memory) ⊎ ((at : ℕ) × (c.in-Err.fault ≡ CertHead at) × GoesTo IsHeadText xs at)) read
    c.in-Err.ensures.fault)

pub returns-in-Err-clause-missing : goal.returns-in-Err-clause-missing
returns-in-Err-clause-missing g c = λ absent.
    let size : length c.deref_mut.result.now
    ≡ longest_piece = omega (arith, ap length c.deref_mut.ensures.value, c.in_ok-piece.ensures.len) in
    absurd (true≢false (sym (c.in_ok-count.ensures.missing (omega (arith, size)) absent)))
