-- Notes that are given: what fits them, and which may stand in a bar.
use Rattle.std.specs.Prelude.{◌≡◌, ◌<◌, ◌⊎◌, Bool, true, false, List, [], ◌∷◌, IsTrue, ⊤}
use Rattle.fux_pitch.specs.Pitch.{same_pitch}
use Rattle.fux_grid.specs.declared.cell.Cell.{Cell}
use Rattle.fux_grid.specs.declared.cell.Cell.TheVariants as cell
use Rattle.fux_grid.specs.declared.given.Given.{Given}
use Rattle.fux_grid.specs.declared.given.Given.TheVariants.{Blank, Rest, Tied, Hold, Start}
use Rattle.fux_grid.specs.declared.given.GivenBar.{GivenBar}
use Rattle.fux_grid.specs.Cells.{is_hold, same_cell}

-- a cell fits what is given: any cell where nothing is, any note that goes on where a tie is, and
-- otherwise the same cell
abbrev pub fits : Given → Cell → Bool
fits Blank c = true
fits Tied c = is_hold c
fits Rest c = same_cell c cell.Rest
fits (Hold p) c = same_cell c (cell.Hold p)
fits (Start p) c = same_cell c (cell.Start p)

-- what may be given behind another cell of a bar: a tie goes on from a tie, a held pitch from the
-- same pitch
abbrev pub given_follows : Given → Given → Bool
given_follows before Blank = true
given_follows before Rest = true
given_follows before (Start p) = true
given_follows Tied Tied = true
given_follows Blank Tied = false
given_follows Rest Tied = false
given_follows (Hold q) Tied = false
given_follows (Start q) Tied = false
given_follows (Hold q) (Hold p) = same_pitch q p
given_follows (Start q) (Hold p) = same_pitch q p
given_follows Blank (Hold p) = false
given_follows Rest (Hold p) = false
given_follows Tied (Hold p) = false

-- each of these cells may be given behind the one before it, the first one behind this
abbrev pub FollowOn : Given → List Given → Type 0
FollowOn before [] = ⊤
FollowOn before (given ∷ later) = IsTrue (given_follows before given) × FollowOn given later

-- a bar that is given comes before another: it is of a lower voice, or of an earlier bar of the
-- same voice
abbrev pub IsEarlier : GivenBar → GivenBar → Type 0
IsEarlier line other = (line.voice < other.voice) ⊎ ((line.voice ≡ other.voice) × (line.bar < other.bar))
