use Rattle.std.proofs.Common.{◌≡◌, All, take}
use Rattle.std.specs.Prelude.{filter, not}
use Rattle.smf_score.specs.Played.{IsPlayed}
use Rattle.smf_score.specs.Staves.{is_upper}
use Rattle.smf_score.proofs.tracks.layers_of.Given as goal

-- those of the notes so far
abbrev pub invariant-loop-note : goal.invariant-loop-note
invariant-loop-note l = record {
  lowest : l.lowest.items ≡ filter (λ note. not (is_upper l.division l.notes note)) (take l.note-index l.notes);
  above : l.above.items ≡ filter (λ note. is_upper l.division l.notes note) (take l.note-index l.notes);
  low : All IsPlayed l.lowest.items;
  high : All IsPlayed l.above.items;
}
