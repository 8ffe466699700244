use Rattle.std.proofs.Common.{◌≡◌, ◌+◌, ◌==◌, drop}
use Rattle.std.specs.List.{prefix_len}
use Rattle.smf_score.specs.declared.played.Played.{Played}
use Rattle.smf_score.proofs.placed.run_of.Given as goal

-- the notes so far have the rank
abbrev pub invariant-loop-i : goal.invariant-loop-i
invariant-loop-i l =
    l.i + prefix_len (λ (note : Played). note.rank == l.rank) (drop l.i l.notes)
    ≡ prefix_len (λ (note : Played). note.rank == l.rank) l.notes
