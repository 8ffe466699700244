-- What is kept behind a column of the voices that may show their cadence.
use Rattle.std.specs.Prelude.{ℕ, List, reverse, if◌then◌else◌}
use Rattle.fux_grid.specs.declared.cell.Cell.{Cell}
use Rattle.fux_grid.specs.declared.exercise.Exercise.{Exercise}
use Rattle.open_ends.specs.declared.cadences.OpenCadences.{OpenCadences}
use Rattle.open_ends.specs.Leads.{is_read, lacks_all, leads_after, leads_in, no_leads}
use Rattle.open_ends.specs.Parts.{Step, Waits, where_read}

-- no voice is marked
abbrev pub nothing : OpenCadences
nothing = record { leads = no_leads }

-- what is kept of some columns, if S22 is asked
abbrev pub open_in : Waits OpenCadences
open_in ex keeps p = if is_read ex then record { leads = leads_in ex (reverse p) } else nothing

-- what is kept with one column more
abbrev pub still_open : Exercise → ℕ → OpenCadences → List Cell → OpenCadences
still_open ex i kept now = record { leads = leads_after ex i kept.leads now }

-- the step; none where after the column no setting shows a cadence
abbrev pub open_after : Step OpenCadences
open_after ex keeps i kept before now =
    where_read (is_read ex) (lacks_all ex i kept.leads now) nothing (still_open ex i kept now)
