use Rattle.std.proofs.Common.{◌≡◌, ◌++◌, string_bytes, drop}
use Rattle.score_picture.specs.NoteRows.{rule_rows}
use Rattle.score_picture.proofs.notes.put_rules.Given as goal

-- what is written so far, and what is left from this height up, are what is to be written
abbrev pub invariant-loop-rule : goal.invariant-loop-rule
invariant-loop-rule l =
    string_bytes l.out ++ rule_rows l.x l.height (drop l.rule-index l.rules)
    ≡ string_bytes l.fn.out ++ rule_rows l.x l.y l.rules
