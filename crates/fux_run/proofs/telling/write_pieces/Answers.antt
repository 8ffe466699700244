use Rattle.std.proofs.Common.{◌≡◌, [], ◌++◌, ◌∷◌, length, append_assoc, codes}
use Rattle.fux_port.specs.Promises.{KeepsRoom}
use Rattle.fux_port.specs.Written.{appended, StopsShort}
use Rattle.fux_run.proofs.SinkLemmas.{gets_more, gets_part, gets_written}
use Rattle.fux_port.proofs.Stands.{not_ok}
use Rattle.fux_run.proofs.telling.write_pieces.Goals as goal

pub returns-in_err-write_all : goal.returns-in_err-write_all
returns-in_err-write_all g c =
    rw (append_assoc c.args.before.now c.args.detail.now (10 ∷ []))
    (gets_part g.E.Sink.written g.E.Sink.faults g.E.Sink.serves c.args.err.now c.write_all.new.sink (codes "fux: ")
    (c.args.before.now ++ (c.args.detail.now ++ 10 ∷ [])) c.in_err-write_all.ensures.cause
    (λ more promised. not_ok _ _ c.in_err-write_all.was (c.write_all.ensures.beyond more promised))
    c.in_err-write_all.ensures.err)

pub returns-in_err-write_all-2 : goal.returns-in_err-write_all-2
returns-in_err-write_all-2 g c =
    let W = g.E.Sink.written in
    let F = g.E.Sink.faults in
    let P = g.E.Sink.serves in
    let before : StopsShort _ _ c.args.before.now = rw c.as_bytes.ensures.value at c.in_err-write_all-2.ensures.err in
    rw (append_assoc c.args.before.now c.args.detail.now (10 ∷ []))
    (gets_more W F P c.args.err.now c.write_all.new.sink c.write_all-2.new.sink (codes "fux: ")
    (c.args.before.now ++ (c.args.detail.now ++ 10 ∷ []))
    c.in_ok-write_all.ensures.ok c.in_ok-write_all.ensures.faults c.in_ok-write_all.ensures.serving
    (gets_part W F P c.write_all.new.sink c.write_all-2.new.sink c.args.before.now (c.args.detail.now ++ 10 ∷ [])
    c.in_err-write_all-2.ensures.cause
    (λ more promised.
    not_ok _ _ c.in_err-write_all-2.was ((rw c.as_bytes.ensures.value at c.write_all-2.ensures.beyond) more promised))
    before))

pub returns-in_err-write_all-3 : goal.returns-in_err-write_all-3
returns-in_err-write_all-3 g c =
    let W = g.E.Sink.written in
    let F = g.E.Sink.faults in
    let P = g.E.Sink.serves in
    let before : W c.write_all-2.new.sink ≡ appended (W c.write_all.new.sink) c.args.before.now
    = rw c.as_bytes.ensures.value at c.in_ok-write_all-2.ensures.ok in
    let kept : KeepsRoom (P c.write_all.new.sink) (P c.write_all-2.new.sink) (length c.args.before.now)
    = rw c.as_bytes.ensures.value at c.in_ok-write_all-2.ensures.serving in
    let detail : StopsShort _ _ c.args.detail.now = rw c.as_bytes-2.ensures.value at c.in_err-write_all-3.ensures.err in
    rw (append_assoc c.args.before.now c.args.detail.now (10 ∷ []))
    (gets_more W F P c.args.err.now c.write_all.new.sink c.write_all-3.new.sink (codes "fux: ")
    (c.args.before.now ++ (c.args.detail.now ++ 10 ∷ []))
    c.in_ok-write_all.ensures.ok c.in_ok-write_all.ensures.faults c.in_ok-write_all.ensures.serving
    (gets_more W F P c.write_all.new.sink c.write_all-2.new.sink c.write_all-3.new.sink c.args.before.now
    (c.args.detail.now ++ 10 ∷ [])
    before c.in_ok-write_all-2.ensures.faults kept
    (gets_part W F P c.write_all-2.new.sink c.write_all-3.new.sink c.args.detail.now (10 ∷ [])
    c.in_err-write_all-3.ensures.cause
    (λ more promised.
    not_ok _ _ c.in_err-write_all-3.was ((rw c.as_bytes-2.ensures.value at c.write_all-3.ensures.beyond) more promised))
    detail)))

pub returns : goal.returns
returns g c =
    let W = g.E.Sink.written in
    let F = g.E.Sink.faults in
    let P = g.E.Sink.serves in
    let before : W c.write_all-2.new.sink ≡ appended (W c.write_all.new.sink) c.args.before.now
    = rw c.as_bytes.ensures.value at c.in_ok-write_all-2.ensures.ok in
    let kept : KeepsRoom (P c.write_all.new.sink) (P c.write_all-2.new.sink) (length c.args.before.now)
    = rw c.as_bytes.ensures.value at c.in_ok-write_all-2.ensures.serving in
    let detail : W c.write_all-3.new.sink ≡ appended (W c.write_all-2.new.sink) c.args.detail.now
    = rw c.as_bytes-2.ensures.value at c.in_ok-write_all-3.ensures.ok in
    let still : KeepsRoom (P c.write_all-2.new.sink) (P c.write_all-3.new.sink) (length c.args.detail.now)
    = rw c.as_bytes-2.ensures.value at c.in_ok-write_all-3.ensures.serving in
    rw (append_assoc c.args.before.now c.args.detail.now (10 ∷ []))
    (gets_more W F P c.args.err.now c.write_all.new.sink c.write_all-4.new.sink (codes "fux: ")
    (c.args.before.now ++ (c.args.detail.now ++ 10 ∷ []))
    c.in_ok-write_all.ensures.ok c.in_ok-write_all.ensures.faults c.in_ok-write_all.ensures.serving
    (gets_more W F P c.write_all.new.sink c.write_all-2.new.sink c.write_all-4.new.sink c.args.before.now
    (c.args.detail.now ++ 10 ∷ [])
    before c.in_ok-write_all-2.ensures.faults kept
    (gets_more W F P c.write_all-2.new.sink c.write_all-3.new.sink c.write_all-4.new.sink c.args.detail.now (10 ∷ [])
    detail c.in_ok-write_all-3.ensures.faults still
    (gets_written W F P c.write_all-3.new.sink c.write_all-4.new.sink (10 ∷ []) c.write_all-4.result
    c.write_all-4.ensures.ok c.write_all-4.ensures.cause c.write_all-4.ensures.served c.write_all-4.ensures.err))))
