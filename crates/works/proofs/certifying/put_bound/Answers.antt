use Rattle.std.proofs.Common.{◌≡◌, ℕ, List, length, sym, subst}
use Rattle.fux_port.specs.Promises.{Fails}
use Rattle.fux_port.specs.Written.{StopsShort, appended}
use Rattle.works.specs.Composed.{bound_line}
use Rattle.works.proofs.CertifyLemmas.{bound_part, bound_written}
use Rattle.fux_port.proofs.Stands.{not_ok}
use Rattle.works.proofs.certifying.put_bound.Goals as goal

pub returns-in-Ok-write_all : goal.returns-in-Ok-write_all
returns-in-Ok-write_all g c =
    let line : c.as_bytes.result.now ≡ bound_line c.args.bound = cc
    (c.as_bytes.ensures.value, c.as_str.ensures.value, c.in-Ok.ensures) in
    bound_written c.args.bound (Fails g.K.Sink.faults g.K.Sink.serves c.args.out.now c.write_all.new.sink) _ _
    (subst (λ bytes. g.K.Sink.written c.write_all.new.sink ≡ appended (g.K.Sink.written c.args.out.now) bytes) line
    c.in-Ok-write_all.ensures.ok)

pub returns : goal.returns
returns g c =
    let line : c.as_bytes.result.now ≡ bound_line c.args.bound = cc
    (c.as_bytes.ensures.value, c.as_str.ensures.value, c.in-Ok.ensures) in
    bound_part c.args.bound (Fails g.K.Sink.faults g.K.Sink.serves c.args.out.now c.write_all.new.sink) _ _ (
      c.in-Err.ensures.cause,
      λ promised.
          not_ok _ _ c.in-Err.is
          (c.write_all.ensures.served
          (subst (λ (bytes : List ℕ). g.K.Sink.serves c.args.out.now (length bytes)) (sym line) promised)),
    )
    (subst (λ bytes. StopsShort (g.K.Sink.written c.args.out.now) (g.K.Sink.written c.write_all.new.sink) bytes) line
    c.in-Err.ensures.err)
