use Rattle.std.proofs.Common.{refl, inl, inr, rules}
use Rattle.fux_port.proofs.mem_sink.MemSinkSink.write.Goals as goal
use Rattle.fux_port.proofs.mem_sink.MemSinkSink.write.Goals.{then-is_due-via-then-is_due, then-is_due-via-else-is_due+then-is_full, then-left-eq0, else-left-eq0}

pub returns-then-is_due-clause-fails : goal.returns-then-is_due-clause-fails
returns-then-is_due-clause-fails c = (
  λ _. elim c.then-is_due.branch [
    | then-is_due-via-then-is_due w ↦ inl (search rules)
    | then-is_due-via-else-is_due+then-is_full w ↦ inr (elim c.if-left-eq0.branch [
      | then-left-eq0 w' ↦ (search rules)
      | else-left-eq0 w' ↦ absurd (search rules)
    ])
  ],
  λ _. refl,
)
