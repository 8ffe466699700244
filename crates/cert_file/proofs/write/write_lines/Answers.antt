use Rattle.std.proofs.Common.{◌≡◌, ◌+◌, ◌++◌, ℕ, List, length, ap, sym, ◌∙◌, subst, arith}
use Rattle.std.proofs.lemmas.Result.{on_err_weaker, on_ok_weaker}
use Rattle.fux_port.proofs.Stands.{not_ok, room_put, stands_end, stands_put, stands_stop, with_err}
use Rattle.fux_port.specs.Written.{StopsShort, appended}
use Rattle.cert_file.proofs.write.write_lines.Goals as goal

pub loop-line-preserved : goal.loop-line-preserved
loop-line-preserved g c =
    let source = c.args.source.now in
    let later = g.S.LineSource.left source c.next_line.new.place in
    record {
      stands = c.next_line.ensures.stands;
      written =
          stands_put (g.K.Sink.written c.args.sink.now) (g.K.Sink.written c.loop-line.sink)
          (g.K.Sink.written c.put.new.sink) c.loop-line.waiting.bytes c.put.new.waiting.bytes
          c.as_str.result.now later (g.S.LineSource.left source c.loop-line.place)
          (g.S.LineSource.left source c.args.place.now) c.in_ok-put.ensures.ok (c.in-Some.ensures.text
          ∙ ap (λ bs. bs ++ later) (sym c.as_str.ensures.value)) c.loop-line.invariant.written;
      faults = omega (arith, c.loop-line.invariant.faults, c.put.ensures.faults);
      room = λ promised.
          room_put (g.K.Sink.serves c.loop-line.sink) (g.K.Sink.serves c.put.new.sink) (length c.loop-line.waiting.bytes)
          (length c.put.new.waiting.bytes) c.as_str.result.now later
          (g.S.LineSource.left source c.loop-line.place) c.in_ok-put.ensures.taking
          (c.in-Some.ensures.text ∙ ap (λ bs. bs ++ later) (sym c.as_str.ensures.value))
          (c.loop-line.invariant.room promised);
    }

pub returns-in_err-put-clause-err : goal.returns-in_err-put-clause-err
returns-in_err-put-clause-err g c =
    let source = c.args.source.now in
    with_err c.from_residual.result _
    (stands_stop (g.K.Sink.written c.args.sink.now) (g.K.Sink.written c.loop-line.sink)
    (g.K.Sink.written c.put.new.sink) c.loop-line.waiting.bytes (g.S.LineSource.left source c.loop-line.place)
    (g.S.LineSource.left source c.args.place.now) c.loop-line.invariant.written c.in_err-put.ensures.err)

pub returns-clause-ok : goal.returns-clause-ok
returns-clause-ok g c =
    let source = c.args.source.now in
    let told = g.K.Sink.written c.loop-line.sink in
    let new = g.K.Sink.written c.write_all.new.sink in
    let bytes : c.as_bytes.result.now ≡ c.loop-line.waiting.bytes = c.as_bytes.ensures.value
    ∙ c.as_str-2.ensures.value in
    on_ok_weaker c.write_all.result
    (λ wrote. stands_end (g.K.Sink.written c.args.sink.now) told new c.loop-line.waiting.bytes
    (g.S.LineSource.left source c.loop-line.place) (g.S.LineSource.left source c.args.place.now)
    c.loop-line.invariant.written c.in_default.ensures.text
    (wrote ∙ ap (appended told) bytes))
    c.write_all.ensures.ok

pub returns-clause-err : goal.returns-clause-err
returns-clause-err g c =
    let source = c.args.source.now in
    let told = g.K.Sink.written c.loop-line.sink in
    let new = g.K.Sink.written c.write_all.new.sink in
    let bytes : c.as_bytes.result.now ≡ c.loop-line.waiting.bytes = c.as_bytes.ensures.value
    ∙ c.as_str-2.ensures.value in
    on_err_weaker c.write_all.result
    (λ stop. stands_stop (g.K.Sink.written c.args.sink.now) told new c.loop-line.waiting.bytes
    (g.S.LineSource.left source c.loop-line.place) (g.S.LineSource.left source c.args.place.now)
    c.loop-line.invariant.written (subst (λ (bs : List ℕ). StopsShort told new bs) bytes stop))
    c.write_all.ensures.err

pub returns-in_err-put-clause-taken : goal.returns-in_err-put-clause-taken
returns-in_err-put-clause-taken g c = λ promised.
    absurd (not_ok _ _ c.in_err-put.was
    (c.put.ensures.taken (length (g.S.LineSource.left c.args.source.now c.loop-line.place))
    (c.loop-line.invariant.room promised)))

pub returns-clause-taken : goal.returns-clause-taken
returns-clause-taken g c = λ promised.
    let left = length (g.S.LineSource.left c.args.source.now c.loop-line.place) in
    let bytes : c.as_bytes.result.now ≡ c.loop-line.waiting.bytes = c.as_bytes.ensures.value
    ∙ c.as_str-2.ensures.value in
    c.write_all.ensures.beyond left
    (subst (λ (bs : List ℕ). g.K.Sink.serves c.loop-line.sink (length bs + left)) (sym bytes)
    (c.loop-line.invariant.room promised))
