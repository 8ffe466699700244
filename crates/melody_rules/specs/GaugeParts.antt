-- What the gauges keep of the notes of a line, given by their pitches, the latest first.
use Rattle.std.specs.Prelude.{◌≡◌, ℕ, ◌+◌, ◌-◌, ◌*◌, ◌/◌, ◌%◌, ◌==◌, Bool, true, false, ℤ, pos, negsuc, List, count_by, length, slice_index, if◌then◌else◌}
use Rattle.std.specs.Ordering.{int_eq}
use Rattle.fux_pitch.specs.declared.pitch.Pitch.{Pitch}
use Rattle.fux_pitch.specs.Pitch.{alter_of, degree_of, same_pitch}
use Rattle.melody_rules.specs.declared.gauges.climax.Climax.{Climax}
use Rattle.melody_rules.specs.declared.gauges.compass.Compass.{Compass}
use Rattle.melody_rules.specs.declared.gauges.leaps.Leaps.{Leaps}
use Rattle.melody_rules.specs.declared.gauges.strikes.Strikes.{Strikes}
use Rattle.melody_rules.specs.Gauges.{beyond_fourth, has_notes, leaps_in, climax_notes}
use Rattle.melody_rules.specs.Keys.{greatest_key, least_key}
use Rattle.melody_rules.specs.Rows.{last_of}

pub record IsClimaxOf (ps : List Pitch) (kept : Climax) : Type 0 where
  pub greatest : pos kept.greatest ≡ greatest_key ps
  pub count : kept.count ≡ climax_notes ps

pub record IsCompassOf (ps : List Pitch) (kept : Compass) : Type 0 where
  pub any : kept.any ≡ has_notes ps
  pub greatest : pos kept.greatest ≡ greatest_key ps
  pub least : pos kept.least ≡ least_key ps

pub record IsLeapsOf (ps : List Pitch) (kept : Leaps) : Type 0 where
  pub last : kept.last ≡ last_of ps
  pub notes : kept.notes ≡ length ps
  pub leaps : kept.leaps ≡ leaps_in ps

-- the alterations in order: flat, natural, sharp
abbrev pub alter_place : ℤ → ℕ
alter_place a = if int_eq a (negsuc 0) then 0 else (if int_eq a (pos 0) then 1 else 2)

-- each pitch has a place of its own among all of them
abbrev pub place_in : Pitch → ℕ
place_in p = 3 * (degree_of p - 7) + alter_place (alter_of p)

-- two counts share a number: that of an even place is what 16 leaves of it
abbrev pub half : Bool → ℕ → ℕ
half true number = number % 16
half false number = number / 16

-- by so much the number grows with one more at such a place
abbrev pub unit : Bool → ℕ
unit true = 1
unit false = 16

-- the count at a place
abbrev pub count_at : List ℕ → ℕ → ℕ
count_at counts place = half (place % 2 == 0) (slice_index counts (place / 2))

-- of a count no more is kept than four
abbrev pub up_to_four : ℕ → ℕ
up_to_four n = 4 - (4 - n)

pub record IsStrikesOf (ps : List Pitch) (kept : Strikes) : Type 0 where
  pub counts : (p : Pitch) → count_at kept.counts (place_in p) ≡ up_to_four (count_by (same_pitch p) ps)
  pub beyond : kept.beyond ≡ beyond_fourth ps
