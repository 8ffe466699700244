-- How much a note text may say.
use Rattle.std.specs.Prelude.{ℕ}

-- another version than 1 up to this is `Word` at its number
abbrev pub newest_version : ℕ
newest_version = 2

-- more voices are `Word` at their number
abbrev pub most_voices : ℕ
most_voices = 4

-- so is a greater species
abbrev pub most_species : ℕ
most_species = 5

-- a line more that begins with `relax` is `Head`
abbrev pub most_relax : ℕ
most_relax = 64
