use Rattle.std.proofs.Common.{◌≡◌, ap, ◌∙◌}
use Rattle.command_words.specs.Commands.{making_task}
use Rattle.fux_port.specs.Written.{appended}
use Rattle.works.proofs.NearLemmas.{near_told}
use Rattle.fux_run.proofs.perform.perform_making.Goals as goal

pub returns-in-Ok-clause-near : goal.returns-in-Ok-clause-near
returns-in-Ok-clause-near g c =
    let old = g.K.Sink.written c.args.out.now in
    near_told (making_task c.args.making) (g.F.Shelf.files c.args.shelf.now) (g.F.Shelf.given c.args.shelf.now)
    (g.F.Shelf.given c.make.new.shelf) (λ line. c.in_ok-output.output.bytes ≡ line)
    (λ line. g.K.Sink.written c.write_all.new.sink ≡ appended old line)
    (λ line is. c.in-Ok.ensures.ok ∙ ap (λ bytes. appended old bytes) (c.as_slice.ensures ∙ is)) c.in_ok-output.ensures.near
