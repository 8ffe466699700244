use Rattle.std.proofs.Common.{◌≡◌, ℕ, List, Option, ap, sym, ◌∙◌, length, string_bytes, subst}
use Rattle.std.proofs.lemmas.Result.{on_err_weaker, on_ok_weaker}
use Rattle.fux_port.specs.Written.{StopsShort, appended}
use Rattle.fux_port.proofs.Pieces.{appended-append, stops_after}
use Rattle.fux_port.proofs.Stands.{not_ok, room_split}
use Rattle.cert_file.proofs.kept.write_kept.Goals as goal

pub returns-clause-ok : goal.returns-clause-ok
returns-clause-ok g c =
    let start = g.K.Sink.written c.args.sink.now in
    let text = c.args.text.now in
    let lines = string_bytes c.args.kept.now.text in
    let told : g.K.Sink.written c.write_all.new.sink ≡ appended start text = c.in_ok-write_all.ensures.ok
    ∙ ap (appended start) c.as_bytes.ensures.value in
    on_ok_weaker c.write_all-2.result
    (λ wrote. wrote ∙ ap (appended (g.K.Sink.written c.write_all.new.sink)) c.as_bytes-2.ensures.value
    ∙ ap (λ (t : Option (List ℕ)). appended t lines) told ∙ appended-append start text lines)
    c.write_all-2.ensures.ok

pub returns-clause-err : goal.returns-clause-err
returns-clause-err g c =
    let start = g.K.Sink.written c.args.sink.now in
    let new = g.K.Sink.written c.write_all-2.new.sink in
    let text = c.args.text.now in
    let lines = string_bytes c.args.kept.now.text in
    let told : g.K.Sink.written c.write_all.new.sink ≡ appended start text = c.in_ok-write_all.ensures.ok
    ∙ ap (appended start) c.as_bytes.ensures.value in
    on_err_weaker c.write_all-2.result
    (λ stop. stops_after start new text lines
    (subst (λ (t : Option (List ℕ)). StopsShort t new lines) told
    (subst (λ (bs : List ℕ). StopsShort (g.K.Sink.written c.write_all.new.sink) new bs) c.as_bytes-2.ensures.value stop)))
    c.write_all-2.ensures.err

pub returns-in_err-write_all-clause-taken : goal.returns-in_err-write_all-clause-taken
returns-in_err-write_all-clause-taken g c = λ promised.
    let lines = string_bytes c.args.kept.now.text in
    absurd (not_ok _ _ c.in_err-write_all.was
    (c.write_all.ensures.beyond (length lines)
    (room_split (g.K.Sink.serves c.args.sink.now) c.args.text.now c.as_bytes.result.now lines c.as_bytes.ensures.value
    promised)))

pub returns-clause-taken : goal.returns-clause-taken
returns-clause-taken g c = λ promised.
    let lines = string_bytes c.args.kept.now.text in
    c.write_all-2.ensures.served
    (subst (λ (bs : List ℕ). g.K.Sink.serves c.write_all.new.sink (length bs)) (sym c.as_bytes-2.ensures.value)
    (c.in_ok-write_all.ensures.serving (length lines)
    (room_split (g.K.Sink.serves c.args.sink.now) c.args.text.now c.as_bytes.result.now lines c.as_bytes.ensures.value
    promised)))
