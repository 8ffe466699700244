-- What the notes of a line are charged, given by their pitches, the latest first.
use Rattle.std.specs.Prelude.{ℕ, ◌+◌, ◌*◌, pos, int_le, Bool, true, false, List, Option, Some, None, slice_index, if◌then◌else◌}
use Rattle.std.specs.List.{sum_by}
use Rattle.std.specs.Ordering.{int_eq}
use Rattle.fux_pitch.specs.declared.pitch.Pitch.{Pitch}
use Rattle.fux_pitch.specs.Pitch.{key_of}
use Rattle.melody_rules.specs.GaugeParts.{place_in}
use Rattle.melody_rules.specs.Gauges.{notes_at}
use Rattle.melody_rules.specs.Keys.{greatest_key}
use Rattle.priced_floors.specs.declared.prices.Prices.{Prices}
use Rattle.priced_floors.specs.declared.prices.Summit.{Summit}

-- what a strike of a pitch is charged
abbrev pub strike_price : List ℕ → Pitch → ℕ
strike_price strikes p = slice_index strikes (place_in p)

-- a pitch has this key, where there is one
abbrev pub is_at : Option ℕ → Pitch → Bool
is_at None p = false
is_at (Some key) p = int_eq (key_of p) (pos key)

-- what it is charged for the summit
abbrev pub top_price : Summit → Pitch → ℕ
top_price summit p = if is_at summit.high p then summit.charge else 0

-- what the strikes of a line are charged
abbrev pub strikes_charged : List ℕ → List Pitch → ℕ
strikes_charged strikes ps = sum_by (strike_price strikes) ps

-- how many notes have this key, where there is one
abbrev pub notes_at_top : Option ℕ → List Pitch → ℕ
notes_at_top None ps = 0
notes_at_top (Some key) ps = notes_at (pos key) ps

-- what they are charged together, for the summit too
abbrev pub charged : Prices → Summit → List Pitch → ℕ
charged prices summit ps = strikes_charged prices.strikes ps + summit.charge * notes_at_top summit.high ps

-- no note is above this key, where there is one
abbrev pub is_within : Option ℕ → List Pitch → Bool
is_within None ps = true
is_within (Some key) ps = int_le (greatest_key ps) (pos key)

-- the greatest key is no lower than the summit
abbrev pub is_reached : Summit → List Pitch → Bool
is_reached summit ps = int_le (pos summit.low) (greatest_key ps)
