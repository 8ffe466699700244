use Rattle.std.proofs.Common.{◌++◌}
use Rattle.written_notes.proofs.Steps.{part-made}
use Rattle.sheet_layout.specs.Notes.{ledger_at, ledgers}
use Rattle.sheet_layout.proofs.written.put_ledgers.Goals as goal

pub loop-spaces-preserved : goal.loop-spaces-preserved
loop-spaces-preserved c =
    part-made (ledger_at c.args.x c.args.middle c.args.degree) c.loop-spaces.spaces 14 c.loop-spaces.shapes.items
    c.put_ledger.new.shapes.items (c.args.shapes.now.items ++ ledgers c.args.x c.args.middle c.args.degree)
    c.loop-spaces-test.true c.in_ok-put_ledger.ensures c.loop-spaces.invariant
