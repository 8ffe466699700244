use Rattle.std.proofs.Common.{◌≡◌, drop}
use Rattle.std.specs.List.{find}
use Rattle.command_words.specs.Verbs.{has_word}
use Rattle.command_words.proofs.verbs.first_named.Given as goal

-- the first is among those that are left
abbrev pub invariant-loop-verb : goal.invariant-loop-verb
invariant-loop-verb l = find (has_word l.word) l.verbs ≡ find (has_word l.word) (drop l.verb-index l.verbs)
