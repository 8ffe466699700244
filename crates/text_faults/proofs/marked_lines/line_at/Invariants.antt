use Rattle.std.proofs.Common.{◌≡◌, ◌-◌}
use Rattle.text_faults.specs.MarkedLines.{behind_feeds}
use Rattle.text_faults.proofs.marked_lines.line_at.Given as goal

-- behind the line feeds that are left stands what stands behind all of them
abbrev pub invariant-loop : goal.invariant-loop
invariant-loop l = behind_feeds (l.number - l.counter) l.rest ≡ behind_feeds (l.number - 1) l.text
