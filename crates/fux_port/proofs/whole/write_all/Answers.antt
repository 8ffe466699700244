use Rattle.std.proofs.Common.{◌≡◌, ℕ, ◌+◌, ◌-◌, ◌<◌, length, arith, length-drop, ◌∙◌, ap, subst, take, drop}
use Rattle.std.proofs.Math.Nat.{add_assoc}
use Rattle.std.proofs.Math.Seq.{take-add}
use Rattle.std.proofs.lemmas.List.{take_rest, length-take-le}
use Rattle.fux_port.specs.Written.{appended}
use Rattle.fux_port.proofs.Pieces.{appended-append}
use Rattle.fux_port.proofs.Stands.{not_ok}
use Rattle.fux_port.proofs.whole.write_all.Goals as goal

pub loop-done-preserved : goal.loop-done-preserved
loop-done-preserved g c =
    let bytes = c.args.bytes.now in
    let done = c.loop-done.done in
    let count = c.in_ok-done.field-0 in
    let old = c.loop-done.invariant in
    let taken = rw take_rest at c.in_ok-done.ensures.ok in (
      omega (arith, c.in_ok-done.ensures.fits, length-take-le {A = ℕ}, length-drop {A = ℕ}),
      rw take-add
          (taken ∙ ap (λ told. appended told (take count (drop done bytes))) old.1
          ∙ appended-append (g.K.Sink.written c.args.sink.now) (take done bytes) (take count (drop done bytes))),
      omega (arith, old.2, c.in_ok-done.ensures.faults),
      λ more promised. c.in_ok-done.ensures.serving more
          (old.3 (count + more) (subst (g.K.Sink.serves c.args.sink.now) (add_assoc done count more) promised)),
    )

pub returns-in_err-done-clause-beyond : goal.returns-in_err-done-clause-beyond
returns-in_err-done-clause-beyond g c = λ more promised.
    let bytes = c.args.bytes.now in
    let done = c.loop-done.done in
    let within : done < length bytes = c.loop-done-test.true in
    let size : length bytes + more ≡ done + (length bytes - done + more) = omega (arith, within) in
    let rest : length (drop done bytes) ≡ length bytes - done = length-drop done bytes in
    absurd (not_ok _ _ c.in_err-done.was
    (c.write.ensures.served (length bytes - done + more)
    (c.loop-done.invariant.3 (length bytes - done + more)
    (subst (g.K.Sink.serves c.args.sink.now) size promised)) (omega (arith, rest)) (omega (arith, rest, within))))
