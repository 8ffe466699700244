use Rattle.std.proofs.Common.{◌≡◌, ◌⊎◌, ℕ, ◌≤◌, Err, inr, refl, length, take, drop, sym, ap, subst, ◌∙◌, true≢false, arith}
use Rattle.std.proofs.lemmas.List.{length-take-le}
use Rattle.std.proofs.lemmas.Result.{err_from_is_err_and}
use Rattle.fux_port.specs.Counts.{Rose}
use Rattle.cert_text.specs.declared.answers.CertFault.TheVariants.{CertHead, Memory}
use Rattle.cert_text.specs.declared.answers.Form.TheVariants.{Third}
use Rattle.cert_text.specs.HeadTexts.{Heads, TextStops}
use Rattle.cert_file.specs.Readings.{Piece, longest_piece}
use Rattle.cert_check.specs.Starts.{IsStarted}
use Rattle.cert_file.proofs.FileLemmas.{first_known, front_left, front_written}
use Rattle.cert_check.proofs.StartLemmas.{head_stops, started}
use Rattle.cert_check.proofs.starting.start.Goals as goal

pub returns-in_err-piece : goal.returns-in_err-piece
returns-in_err-piece g c =
    let it = err_from_is_err_and c.from_residual.result c.from_residual.ensures.1 in
    record {
      starts = rw (it.1, it.2) tt;
      missing = λ absent. inr (it.1 ∙ ap Err it.2);
      served = λ all. rw (it.1, it.2) (λ e. cc);
      serving = λ name offset promised. promised;
      little = omega arith;
      told = rw it.1 tt;
      within = rw it.1 tt;
      files = refl;
      faults = omega arith;
    }

pub returns-in-Ok-clause-starts : goal.returns-in-Ok-clause-starts
returns-in-Ok-clause-starts g c =
    let ex = c.args.ex.now in
    let files = g.F.Shelf.files c.args.shelf.now in
    let name = c.args.name.now in
    let buf = c.fill.new.buf in
    let count = c.in_ok-count.count in
    let size : length c.deref_mut.result.now
    ≡ longest_piece = omega (arith, ap length c.deref_mut.ensures.value, c.in_ok-piece.ensures.len) in
    let fits : count ≤ length buf = omega (arith, c.in_ok-count.ensures.fits, c.in_ok-count.ensures.long) in
    let room : count ≤ c.in_ok-piece.piece.len = omega (arith, c.in_ok-count.ensures.fits, c.deref_mut.ensures.len) in
    let long : length (take count buf) ≡ count = length-take-le count buf fits in
    let written = front_written buf (drop (length buf) c.in_ok-piece.piece.items) c.in_ok-piece.piece.len count fits
    room in
    let read : take count c.deref.result.now ≡ take count buf = ap (λ xs. take count xs) c.deref.ensures.value
    ∙ written in
    let known = first_known files name (take count buf) longest_piece
    (omega (arith, long, c.in_ok-count.ensures.fits, size))
    (λ absent. true≢false (sym (c.in_ok-count.ensures.missing (omega (arith, size)) absent)))
    (λ file told. c.in_ok-count.ensures.front file told ∙ ap (λ n. take n file) size) in
    let heads = subst (λ xs. Heads ex c.in-Ok.form xs c.in-Ok.head c.in-Ok.used) read c.in-Ok.ensures.ok in
    subst (λ (p : Piece). IsStarted ex files name c.in-Ok.form c.in-Ok.head p) (sym c.new.ensures)
    (started ex files name (take count buf) known c.in-Ok.form c.in-Ok.head c.in-Ok.used _ heads (sym long)
    (front_left _ (take count buf) count c.in-Ok.used (omega (arith, heads.within, long)) written))

pub returns-in-Ok-clause-missing : goal.returns-in-Ok-clause-missing
returns-in-Ok-clause-missing g c = λ absent.
    let size : length c.deref_mut.result.now
    ≡ longest_piece = omega (arith, ap length c.deref_mut.ensures.value, c.in_ok-piece.ensures.len) in
    absurd (true≢false (sym (c.in_ok-count.ensures.missing (omega (arith, size)) absent)))

pub returns-in-Err-clause-starts : goal.returns-in-Err-clause-starts
returns-in-Err-clause-starts g c =
    let ex = c.args.ex.now in
    let files = g.F.Shelf.files c.args.shelf.now in
    let name = c.args.name.now in
    let buf = c.fill.new.buf in
    let count = c.in_ok-count.count in
    let size : length c.deref_mut.result.now
    ≡ longest_piece = omega (arith, ap length c.deref_mut.ensures.value, c.in_ok-piece.ensures.len) in
    let fits : count ≤ length buf = omega (arith, c.in_ok-count.ensures.fits, c.in_ok-count.ensures.long) in
    let room : count ≤ c.in_ok-piece.piece.len = omega (arith, c.in_ok-count.ensures.fits, c.deref_mut.ensures.len) in
    let long : length (take count buf) ≡ count = length-take-le count buf fits in
    let written = front_written buf (drop (length buf) c.in_ok-piece.piece.items) c.in_ok-piece.piece.len count fits
    room in
    let read : take count c.deref.result.now ≡ take count buf = ap (λ xs. take count xs) c.deref.ensures.value
    ∙ written in
    let known = first_known files name (take count buf) longest_piece
    (omega (arith, long, c.in_ok-count.ensures.fits, size))
    (λ absent. true≢false (sym (c.in_ok-count.ensures.missing (omega (arith, size)) absent)))
    (λ file told. c.in_ok-count.ensures.front file told ∙ ap (λ n. take n file) size) in
    head_stops ex files name (take count buf) known c.requires
    (Rose (g.F.Shelf.faults c.args.shelf.now) (g.F.Shelf.faults c.fill.new.shelf))
    c.in-Err.fault
    (subst
    (λ xs. (c.in-Err.fault ≡ Memory) ⊎ ((at : ℕ) × (c.in-Err.fault ≡ CertHead at) × TextStops ex Third xs at)) read
    c.in-Err.ensures.fault)

pub returns-in-Err-clause-missing : goal.returns-in-Err-clause-missing
returns-in-Err-clause-missing g c = λ absent.
    let size : length c.deref_mut.result.now
    ≡ longest_piece = omega (arith, ap length c.deref_mut.ensures.value, c.in_ok-piece.ensures.len) in
    absurd (true≢false (sym (c.in_ok-count.ensures.missing (omega (arith, size)) absent)))

pub returns-in_err-count-clause-serving : goal.returns-in_err-count-clause-serving
returns-in_err-count-clause-serving g c = c.fill.ensures.serving

pub returns-in_err-count-clause-files : goal.returns-in_err-count-clause-files
returns-in_err-count-clause-files g c = c.fill.ensures.files

pub returns-in_err-count-clause-faults : goal.returns-in_err-count-clause-faults
returns-in_err-count-clause-faults g c = c.fill.ensures.faults

pub returns-in_err-count-clause-little : goal.returns-in_err-count-clause-little
returns-in_err-count-clause-little g c =
    omega (arith, c.fill.ensures.little, ap length c.deref_mut.ensures.value, c.in_ok-piece.ensures.len)

pub returns-in-Ok-clause-serving : goal.returns-in-Ok-clause-serving
returns-in-Ok-clause-serving g c = c.fill.ensures.serving

pub returns-in-Ok-clause-files : goal.returns-in-Ok-clause-files
returns-in-Ok-clause-files g c = c.fill.ensures.files

pub returns-in-Ok-clause-faults : goal.returns-in-Ok-clause-faults
returns-in-Ok-clause-faults g c = c.fill.ensures.faults

pub returns-in-Ok-clause-little : goal.returns-in-Ok-clause-little
returns-in-Ok-clause-little g c =
    omega (arith, c.fill.ensures.little, ap length c.deref_mut.ensures.value, c.in_ok-piece.ensures.len)

pub returns-in-Err-clause-serving : goal.returns-in-Err-clause-serving
returns-in-Err-clause-serving g c = c.fill.ensures.serving

pub returns-in-Err-clause-files : goal.returns-in-Err-clause-files
returns-in-Err-clause-files g c = c.fill.ensures.files

pub returns-in-Err-clause-faults : goal.returns-in-Err-clause-faults
returns-in-Err-clause-faults g c = c.fill.ensures.faults

pub returns-in-Err-clause-little : goal.returns-in-Err-clause-little
returns-in-Err-clause-little g c =
    omega (arith, c.fill.ensures.little, ap length c.deref_mut.ensures.value, c.in_ok-piece.ensures.len)

pub returns-in-Ok-clause-told : goal.returns-in-Ok-clause-told
returns-in-Ok-clause-told g c = omega (arith, c.in_ok-count.ensures.told, ap (λ (p : Piece). p.offset) c.new.ensures)

pub returns-in-Ok-clause-within : goal.returns-in-Ok-clause-within
returns-in-Ok-clause-within g c =
    omega (
      arith,
      c.in_ok-count.ensures.fits,
      ap length c.deref_mut.ensures.value,
      c.in_ok-piece.ensures.len,
      ap (λ (p : Piece). p.offset) c.new.ensures,
    )

pub returns-in-Ok-clause-served : goal.returns-in-Ok-clause-served
returns-in-Ok-clause-served g c = λ all. tt

pub returns-in-Err-clause-served : goal.returns-in-Err-clause-served
returns-in-Err-clause-served g c = λ all e. cc
