use Rattle.std.proofs.Common.{◌≡◌, ℕ, List, Option, length, ap, ◌∙◌, subst}
use Rattle.std.proofs.lemmas.Result.{on_err_weaker}
use Rattle.fux_port.specs.Written.{StopsShort, appended}
use Rattle.fux_port.proofs.Pieces.{stops_after}
use Rattle.fux_port.proofs.Stands.{not_ok, room_split}
use Rattle.cert_file.proofs.write.write_parts.Goals as goal

pub returns-clause-err : goal.returns-clause-err
returns-clause-err g c =
    let lines = g.S.LineSource.left c.args.source.now c.args.place.now in
    let start = g.K.Sink.written c.args.sink.now in
    let new = g.K.Sink.written c.write_lines.new.sink in
    let told : g.K.Sink.written c.write_all.new.sink ≡ appended start c.args.text.now = c.in_ok-write_all.ensures.ok
    ∙ ap (appended start) c.as_bytes.ensures.value in
    on_err_weaker c.write_lines.result
    (λ stop. stops_after start new c.args.text.now lines
    (subst (λ (t : Option (List ℕ)). StopsShort t new lines) told stop))
    c.write_lines.ensures.err

pub returns-in_err-write_all-clause-taken : goal.returns-in_err-write_all-clause-taken
returns-in_err-write_all-clause-taken g c = λ promised.
    let lines = g.S.LineSource.left c.args.source.now c.args.place.now in
    absurd (not_ok _ _ c.in_err-write_all.was
    (c.write_all.ensures.beyond (length lines)
    (room_split (g.K.Sink.serves c.args.sink.now) c.args.text.now c.as_bytes.result.now lines c.as_bytes.ensures.value
    promised)))

pub returns-clause-taken : goal.returns-clause-taken
returns-clause-taken g c = λ promised.
    let lines = g.S.LineSource.left c.args.source.now c.args.place.now in
    c.write_lines.ensures.taken
    (c.in_ok-write_all.ensures.serving (length lines)
    (room_split (g.K.Sink.serves c.args.sink.now) c.args.text.now c.as_bytes.result.now lines c.as_bytes.ensures.value
    promised))
