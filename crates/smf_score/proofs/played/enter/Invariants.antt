use Rattle.std.proofs.Common.{◌≡◌, ℕ, ◌<◌, get_or}
use Rattle.smf_score.proofs.played.enter.Given as goal

-- the table has the end of the track as far as the loop has come
abbrev pub invariant-loop-i : goal.invariant-loop-i
invariant-loop-i l = (k : ℕ) → k < l.i → get_or l.ends k 0 ≡ l.stroke.tick
