-- What is kept where it is chosen by two words alone, as a certificate states it: turning notes or
-- none, the runs of all pairs of voices or of none, and perfect intervals.
use Rattle.std.specs.Prelude.{Bool, true}
use Rattle.open_ends.specs.declared.keeps.Keeps.{Keeps}
use Rattle.open_ends.specs.declared.keeps.Pairs.{Pairs}

-- all pairs of four voices, or none
abbrev pub all_if : Bool → Pairs
all_if all = record { v01 = all; v02 = all; v03 = all; v12 = all; v13 = all; v23 = all }

-- what is kept by two words
abbrev pub keeps_of : Bool → Bool → Keeps
keeps_of turns runs = record { turns = turns; parallels = true; runs = all_if runs }
