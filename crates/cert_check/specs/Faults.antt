-- Why there is no room for entries.
use Rattle.std.specs.Prelude.{◌≡◌, ℕ, ◌<◌, length, ⊤}
use Rattle.cert_check.specs.declared.entries.EntryFault.{EntryFault}
use Rattle.cert_check.specs.declared.entries.EntryFault.TheVariants.{TooWide, Memory}
use Rattle.floor_tables.specs.Tables.{IsTooWide}
use Rattle.fux_grid.specs.declared.exercise.Exercise.{Exercise}
use Rattle.fux_grid.specs.Exercises.{bar_of, slot_of}
use Rattle.fux_grid.specs.Menus.{menu_of}

-- a fault about width tells the first menu that is too wide
abbrev pub TellsWidth : Exercise → EntryFault → Type 0
TellsWidth ex (TooWide place count) = IsTooWide ex place count
TellsWidth ex Memory = ⊤

-- one about the menu of a place tells that it is
abbrev pub TellsMenu : Exercise → ℕ → EntryFault → Type 0
TellsMenu ex i (TooWide place count) =
    (place.bar ≡ bar_of i) × (place.slot ≡ slot_of i) × (count ≡ length (menu_of ex i)) × (8192 < count)
TellsMenu ex i Memory = ⊤
