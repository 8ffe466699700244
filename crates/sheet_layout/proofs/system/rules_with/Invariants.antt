use Rattle.std.proofs.Common.{◌≡◌, drop}
use Rattle.sheet_layout.specs.Pages.{rules_with}
use Rattle.sheet_layout.proofs.system.rules_with.Given as goal

-- the most so far and the notes that are left have the most of all
abbrev pub invariant-loop-note : goal.invariant-loop-note
invariant-loop-note l =
    rules_with l.marks l.voice l.bar l.count (drop l.note-index l.notes)
    ≡ rules_with l.marks l.voice l.bar l.most l.notes
