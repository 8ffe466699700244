-- The tracks of notes.
use Rattle.std.specs.Prelude.{List, All}
use Rattle.smf_score.specs.declared.played.Played.{Played}
use Rattle.smf_score.specs.Played.{IsPlayed}

-- the numbers of the notes of each track are within their bounds
abbrev pub ArePlayed : List (List Played) → Type 0
ArePlayed tracks = All (λ notes. All IsPlayed notes) tracks
