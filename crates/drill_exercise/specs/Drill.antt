-- The exercise of a drill. Its cantus firmus goes from D4 over 21 degrees that numbers choose to E4
-- and D4.
use Rattle.std.specs.Prelude.{◌≡◌, ℕ, zero, suc, ◌+◌, ◌-◌, ◌*◌, ◌/◌, ◌%◌, ◌==◌, nat_le, if◌then◌else◌, List, [], ◌∷◌, ◌++◌, map, All, None, pos}
use Rattle.fux_pitch.specs.declared.mode.Mode.TheVariants.{Dorian}
use Rattle.fux_pitch.specs.declared.pitch.Pitch.{Pitch}
use Rattle.fux_pitch.specs.Pitch.{degree_of, alter_of}
use Rattle.fux_grid.specs.declared.exercise.Exercise.{Exercise}
use Rattle.fux_grid.specs.declared.exercise.RangeLine.{RangeLine}
use Rattle.fux_grid.specs.Exercises.{IsValid}

-- the number behind another one
abbrev pub next_number : ℕ → ℕ
next_number x = (5 * x + 3) % 1024

-- the degree so many steps below another one, or above it where that would be below D4, which has
-- degree 29
abbrev pub falls_by : ℕ → ℕ → ℕ
falls_by size degree = if nat_le (29 + size) degree then degree - size else degree + size

-- the degree so many steps above another one, or below it where that would be above A4, which has
-- degree 33
abbrev pub rises_by : ℕ → ℕ → ℕ
rises_by size degree = if nat_le (degree + size) 33 then degree + size else degree - size

-- the degree behind another one, by a choice from 0 to 3
abbrev pub moved : ℕ → ℕ → ℕ
moved choice degree =
    if choice == 0 then falls_by 2 degree
    else (if choice == 1 then falls_by 1 degree else (if choice == 2 then rises_by 1 degree else rises_by 2 degree))

-- so many degrees behind a number and a degree
unfoldable pub walk : ℕ → ℕ → ℕ → List ℕ
walk zero x degree = []
walk (suc bars) x degree =
    let chosen = moved (next_number x / 256) degree in chosen ∷ walk bars (next_number x) chosen

-- the degrees of the cantus firmus
unfoldable pub drill_degrees : ℕ → List ℕ
drill_degrees n = (29 ∷ walk 21 n 29) ++ 30 ∷ 29 ∷ []

-- the pitches have no alterations
abbrev pub AreNaturals : List Pitch → Type 0
AreNaturals = All (λ p. alter_of p ≡ pos 0)

-- the pitch is the natural on a degree
pub record IsNatural (degree : ℕ) (p : Pitch) : Type 0 where
  pub degree_is : degree_of p ≡ degree
  pub alter_is : alter_of p ≡ pos 0

-- the range of the free voice: F4 to F5, in all bars
pub record IsDrillRange (line : RangeLine) : Type 0 where
  pub voice : line.voice ≡ 1
  pub low : IsNatural 31 line.low
  pub high : IsNatural 38 line.high
  pub bars : line.bars ≡ None

-- the exercise with this number
pub record IsDrill (n : ℕ) (ex : Exercise) : Type 0 where
  pub valid : IsValid ex
  pub mode : ex.mode ≡ Dorian
  pub voices : ex.voices ≡ 2
  pub bars : ex.bars ≡ 24
  pub species : ex.species ≡ 1
  pub species_voice : ex.species_voice ≡ 1
  pub mixed : ex.mixed ≡ None
  pub cantus_voice : ex.cantus_voice ≡ 0
  pub cantus : map degree_of ex.cantus ≡ drill_degrees n
  pub naturals : AreNaturals ex.cantus
  pub range : (line : RangeLine) × (ex.ranges ≡ line ∷ []) × IsDrillRange line
  pub relax : ex.relax ≡ []
  pub given : ex.given ≡ []
  pub setting : ex.setting ≡ None
