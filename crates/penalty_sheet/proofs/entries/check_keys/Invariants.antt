use Rattle.std.proofs.Common.{◌≡◌}
use Rattle.toml.specs.View.{members_view}
use Rattle.penalty_sheet.specs.Sheets.{top_fault, first_fault}
use Rattle.penalty_sheet.proofs.entries.check_keys.Given as goal

-- what is wrong first is wrong with the entries that are left
abbrev pub invariant-loop-key : goal.invariant-loop-key
invariant-loop-key l =
    (goal.iterator-loop-key).can_next l.key-iterator
    × (goal.iterator-loop-key).is_finite l.key-iterator
    × (first_fault top_fault (members_view l.key-iterator) ≡ first_fault top_fault (members_view l.document.entries))
