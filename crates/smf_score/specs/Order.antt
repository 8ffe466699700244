-- Notes by voice and time.
use Rattle.std.specs.Prelude.{Bool, List}
use Rattle.std.specs.Ordering.{is_lt, nat_cmp, ordering_then}
use Rattle.std.specs.List.Sorted.{IsSortedBy, IsStableBy}
use Rattle.smf_score.specs.declared.played.Played.{Played}

-- a note's voice is lower than another's, or it is of the same voice and starts earlier
abbrev pub is_before : Played → Played → Bool
is_before a b = is_lt (ordering_then (nat_cmp a.rank b.rank) (nat_cmp a.start b.start))

-- these are the notes in order: no note is before the one in front of it, and of notes that start
-- in one voice at one tick the first that is struck comes first
pub record IsInOrder (notes ordered : List Played) : Type 0 where
  pub sorted : IsSortedBy is_before ordered
  pub stable : IsStableBy is_before notes ordered
