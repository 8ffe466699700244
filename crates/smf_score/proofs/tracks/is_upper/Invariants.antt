use Rattle.std.proofs.Common.{◌≡◌, take, false}
use Rattle.smf_score.specs.Staves.{is_upper}
use Rattle.smf_score.proofs.tracks.is_upper.Given as goal

-- none of the notes so far
abbrev pub invariant-loop-other : goal.invariant-loop-other
invariant-loop-other l = is_upper l.division (take l.other-index l.notes) l.note ≡ false
