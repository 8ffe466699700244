-- The printed score in systems of at most so many columns of a terminal.
use Rattle.std.specs.Prelude.{◌≡◌, ℕ, zero, suc, ◌+◌, ◌-◌, ◌*◌, ◌≤◌, nat_le, nat_lt, Bool, true, false, List, [], ◌∷◌, ◌++◌, ⊤, length, replicate, codes, if◌then◌else◌}
use Rattle.std.specs.Fmt.{decimal}
use Rattle.std.specs.List.{concat, flat_map, range_with_len}
use Rattle.fux_grid.specs.declared.exercise.Exercise.{Exercise}
use Rattle.score_print.specs.Printed.{printed_rows, widest_cell}
use Rattle.score_print.specs.Shown.{slots_shown}

-- how many columns of a terminal so many slots of a bar take: the bar line and a space, and each
-- column with a space behind it
abbrev pub bar_width : Exercise → ℕ → ℕ → ℕ
bar_width ex bar zero = 2
bar_width ex bar (suc slot) =
    bar_width ex bar slot + (widest_cell ex (8 * (bar - 1) + slot) ex.voices + 1)

-- how many columns of a terminal a system of these bars takes: the number of a voice and a space,
-- the bars, and the last bar line
abbrev pub system_width : Exercise → ℕ → List ℕ → ℕ
system_width ex slots [] = 3
system_width ex slots (bar ∷ bars) = bar_width ex bar slots + system_width ex slots bars

-- a system of these bars takes at most so many columns of a terminal
abbrev pub fits : Exercise → ℕ → ℕ → List ℕ → Bool
fits ex columns slots bars = nat_le (system_width ex slots bars) columns

-- a system holds the most bars that fit before those behind it, and at least one
pub record HoldsMost (fits : List ℕ → Bool) (system behind : List ℕ) : Type 0 where
  pub least : 1 ≤ length system
  pub fit : 2 ≤ length system → fits system ≡ true
  pub most : (next : ℕ) (more : List ℕ) → behind ≡ next ∷ more → fits (system ++ next ∷ []) ≡ false

-- so does each of these systems before those behind it
abbrev pub HoldMost : (List ℕ → Bool) → List (List ℕ) → Type 0
HoldMost fits [] = ⊤
HoldMost fits (system ∷ systems) = HoldsMost fits system (concat systems) × HoldMost fits systems

-- how many digits the number of a bar has
abbrev pub digits : ℕ → ℕ
digits bar = if nat_lt bar 10 then 1 else 2

-- the number of a bar, filled with spaces to the bar's width, so that it stands above the bar line
unfoldable pub printed_number : Exercise → ℕ → ℕ → List ℕ
printed_number ex slots bar = decimal bar ++ replicate (bar_width ex bar slots - digits bar) 32

-- the line of the numbers of these bars
unfoldable pub number_row : Exercise → ℕ → List ℕ → List ℕ
number_row ex slots bars = codes "  " ++ flat_map (printed_number ex slots) bars ++ codes "\n"

-- a system: the numbers of its bars, and the printed score of these
unfoldable pub printed_system : Exercise → ℕ → List ℕ → List ℕ
printed_system ex slots bars = number_row ex slots bars ++ printed_rows ex slots bars

-- a text is the printed score in systems: these have all bars in order, each has as many as fit,
-- and they are written one below another
pub record IsWrapped (ex : Exercise) (columns : ℕ) (text : List ℕ) : Type 0 where
  pub systems : List (List ℕ)
  pub whole : concat systems ≡ range_with_len 1 ex.bars
  pub full : HoldMost (fits ex columns (slots_shown ex)) systems
  pub written : text ≡ flat_map (printed_system ex (slots_shown ex)) systems
