use Rattle.fux_port.specs.Counts.{Rose}
use Rattle.cert_check.proofs.AnswerLemmas.{judged_answer}
use Rattle.cert_check.proofs.checking.judge_claims.Goals as goal

pub returns-in-Ok : goal.returns-in-Ok
returns-in-Ok g c =
    let checker = c.args.checker in
    let judge = c.judge.ensures in
    record {
      answers = judged_answer checker.asked checker.head (g.F.Shelf.files c.args.shelf.now) c.args.name.now
          (Rose (g.F.Shelf.faults c.args.shelf.now) (g.F.Shelf.faults c.judge.new.shelf)) c.in-Ok.verdict
          c.in-Ok.ensures.finds c.in-Ok.ensures.shown;
      served = λ all. tt;
      little = judge.little;
      near = c.in-Ok.ensures.near;
      files = judge.files;
      faults = judge.faults;
    }
