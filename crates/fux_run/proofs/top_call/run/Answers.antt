use Rattle.fux_port.specs.Counts.{Rose}
use Rattle.fux_port.specs.Promises.{Fails}
use Rattle.command_words.specs.Commands.{asked, texts, whole_class, whole_files}
use Rattle.fux_run.specs.Sinks.{Gets}
use Rattle.fux_run.proofs.BlameStatuses.{reads_status}
use Rattle.fux_run.proofs.RunLemmas.{RanAs, of_task, ran_causes, ran_complete, ran_missing, ran_missing_within, ran_named_causes, ran_near, ran_unreadable, ran_works, run_form, run_known, run_memory_line, run_silent, run_unwritable, run_unwritten, run_usage, run_usage_line}
use Rattle.fux_run.proofs.SinkLemmas.{gets_none}
use Rattle.fux_run.proofs.top_call.run.Goals as goal
use Rattle.fux_run.proofs.top_call.run.Goals.{Joined-ended}

-- the run on these words
ran : (g : _) (c : Joined-ended g)
    → RanAs (asked (texts c.args.words.now)) (g.F.Shelf.files c.args.shelf.now)
    (Rose (g.F.Shelf.faults c.args.shelf.now) (g.F.Shelf.faults c.outcome-ended.new.shelf))
    (Fails g.K.Sink.faults g.K.Sink.serves c.args.out.now c.outcome-ended.new.out)
    (g.K.Sink.written c.args.out.now) (g.K.Sink.written c.outcome-ended.new.out) c.outcome-ended.result c.code.result
    (Gets g.E.Sink.written g.E.Sink.faults g.E.Sink.serves c.args.err.now c.conclude.new.err)
ran g c = record {
  ended = c.outcome-ended.ensures.ended;
  status = rw c.conclude.ensures.status at c.code.ensures;
  told = c.conclude.ensures.line;
}

pub returns-clause-known : goal.returns-clause-known
returns-clause-known g c = run_known _ _ _ _ _ _ _ _ _ (ran g c)

pub returns-clause-usage : goal.returns-clause-usage
returns-clause-usage g c = run_usage _ _ _ _ _ _ _ _ _ (ran g c)

pub returns-clause-form : goal.returns-clause-form
returns-clause-form g c = run_form _ _ _ _ _ _ _ _ _ (ran g c)

pub returns-clause-unreadable : goal.returns-clause-unreadable
returns-clause-unreadable g c =
    λ task is four. ran_unreadable task _ _ _ _ _ _ _ _ _ (of_task _ _ _ _ _ _ _ _ task _ is (ran g c))
    (c.outcome-ended.ensures.blamed task is) four

pub returns-clause-missing : goal.returns-clause-missing
returns-clause-missing g c = λ task is name one missing room. ran_missing task _ _ _ _ _ _ _ _
    (of_task _ _ _ _ _ _ _ _ task _ is (ran g c)) name one missing room

pub returns-clause-missing_within : goal.returns-clause-missing_within
returns-clause-missing_within g c = λ task is bytes have name one missing room. ran_missing_within task _ _ _ _ _ _ _ _
    (of_task _ _ _ _ _ _ _ _ task _ is (ran g c)) bytes have name one missing room

pub returns-clause-unwritable : goal.returns-clause-unwritable
returns-clause-unwritable g c = λ five. (run_unwritable _ _ _ _ _ _ _ _ _ (ran g c) five).0.1.0

pub returns-clause-works : goal.returns-clause-works
returns-clause-works g c =
    λ task is read room. ran_works task _ _ _ _ _ _ _ _ (of_task _ _ _ _ _ _ _ _ task _ is (ran g c)) read room

pub returns-clause-complete : goal.returns-clause-complete
returns-clause-complete g c = λ task is bytes have within reads writes. ran_complete task _ _ _ _ _ _ _ _
    (of_task _ _ _ _ _ _ _ _ task _ is (ran g c)) bytes have within reads
    (λ count fails. writes fails.0)

pub returns-clause-unwritten : goal.returns-clause-unwritten
returns-clause-unwritten g c = λ stopped. run_unwritten _ _ _ _ _ _ _ _ _ (ran g c) stopped

pub returns-clause-silent : goal.returns-clause-silent
returns-clause-silent g c = λ done. gets_none g.E.Sink.written g.E.Sink.faults
    g.E.Sink.serves c.args.err.now c.conclude.new.err
    (run_silent _ _ _ _ _ _ _ _ _ (ran g c) done)

pub returns-clause-usage_line : goal.returns-clause-usage_line
returns-clause-usage_line g c = λ two. run_usage_line _ _ _ _ _ _ _ _ _ (ran g c) two

pub returns-clause-unwritable_line : goal.returns-clause-unwritable_line
returns-clause-unwritable_line g c = λ five. (run_unwritable _ _ _ _ _ _ _ _ _ (ran g c) five).1

pub returns-clause-memory_line : goal.returns-clause-memory_line
returns-clause-memory_line g c = λ seven. run_memory_line _ _ _ _ _ _ _ _ _ (ran g c) seven

pub returns-clause-served : goal.returns-clause-served
returns-clause-served g c = λ task is promised. reads_status c.outcome-ended.result c.code.result
    (rw c.conclude.ensures.status at c.code.ensures) (c.outcome-ended.ensures.served task is promised)

pub returns-clause-taken : goal.returns-clause-taken
returns-clause-taken g c = λ all five.
    let cut = (run_unwritable _ _ _ _ _ _ _ _ _ (ran g c) five).0 in cut.1.1 (all cut.0)

pub returns-clause-causes : goal.returns-clause-causes
returns-clause-causes g c = λ list lesson kind is done. ran_causes list lesson kind _ _ _ c.outcome-ended.result
    c.code.result (rw c.conclude.ensures.status at c.code.ensures) done
    (c.outcome-ended.ensures.causes (whole_class list lesson kind) is)

pub returns-clause-near : goal.returns-clause-near
returns-clause-near g c = λ task is done. ran_near c.outcome-ended.result c.code.result
    (rw c.conclude.ensures.status at c.code.ensures) done (c.outcome-ended.ensures.near task is)

pub returns-clause-named_causes : goal.returns-clause-named_causes
returns-clause-named_causes g c = λ names lesson kind is done. ran_named_causes names lesson kind _ _ _
    c.outcome-ended.result c.code.result (rw c.conclude.ensures.status at c.code.ensures) done
    (c.outcome-ended.ensures.causes (whole_files names lesson kind) is)
