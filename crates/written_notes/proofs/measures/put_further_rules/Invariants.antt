use Rattle.std.proofs.Common.{◌≡◌, ◌++◌, string_bytes, drop}
use Rattle.written_notes.specs.Measures.{further_rules}
use Rattle.written_notes.proofs.measures.put_further_rules.Given as goal

-- what is written so far, and what is left, are what is to be written
abbrev pub invariant-loop-rule : goal.invariant-loop-rule
invariant-loop-rule l =
    string_bytes l.out ++ further_rules (drop l.rule-index l.rules) ≡ string_bytes l.fn.out ++ further_rules l.rules
