-- The voices that may still show their cadence behind a column of the last bar but one.
use Rattle.std.specs.Prelude.{ℕ, ◌+◌, ◌==◌, ◌%◌, Bool, true, false, not, ◌&&◌, ◌||◌, nat_lt, List, [], ◌∷◌, length, if◌then◌else◌, slice_index_or}
use Rattle.std.specs.List.{list_any}
use Rattle.fux_pitch.specs.declared.pitch.Pitch.{Pitch}
use Rattle.fux_pitch.specs.Modes.{final_of}
use Rattle.fux_pitch.specs.Pitch.{degree_of}
use Rattle.fux_grid.specs.declared.cell.Cell.{Cell}
use Rattle.fux_grid.specs.declared.exercise.Exercise.{Exercise}
use Rattle.fux_grid.specs.Cells.{cell_in, is_hold, pitch_of}
use Rattle.fux_grid.specs.Exercises.{bar_of, slot_of, species_in}
use Rattle.rule_law.specs.Bars.{begins_bar}
use Rattle.rule_law.specs.Leading.{is_leading}
use Rattle.rule_law.specs.Terms.{started_pitch}
use Rattle.rhythm_cadence.specs.Cadence.{has_suspension, is_suspended, leading_slot, starts_final}
use Rattle.rhythm_cadence.specs.Rows.{begins_last_bar, holds_of_pitch}
use Rattle.open_ends.specs.Asked.{is_asked}

-- S22, by its number
abbrev pub cadence_rule : ℕ
cadence_rule = 22

-- it is asked: one species is given, and no line relaxes it
abbrev pub is_read : Exercise → Bool
is_read ex = is_asked ex cadence_rule

-- the column is in the last bar but one
abbrev pub is_before_last : Exercise → ℕ → Bool
is_before_last ex i = bar_of i + 1 == ex.bars

-- the pitch has the letter of the mode's final, and so one degree below it is the leading note's:
-- octaves are left out here
abbrev pub has_final_letter : Exercise → Pitch → Bool
has_final_letter ex p = degree_of p % 7 == final_of ex.mode

-- at the beginning of the bar a voice holds a suspension with that letter
abbrev pub is_prepared : Exercise → List Cell → ℕ → Bool
is_prepared ex now v =
    is_hold (cell_in now v)
    && holds_of_pitch (has_final_letter ex) (pitch_of (cell_in now v))
    && is_suspended ex now v

-- from that beginning the voice may come to its cadence: in species 4 and 5 it is prepared
abbrev pub begins_well : Exercise → List Cell → ℕ → Bool
begins_well ex now v =
    nat_lt v ex.voices && (if has_suspension (species_in ex v) then is_prepared ex now v else true)

-- the leading note starts in the cell
abbrev pub starts_lead : Exercise → Cell → Bool
starts_lead ex c = holds_of_pitch (is_leading ex.mode) (started_pitch c)

-- on its slot the leading note of a voice starts, and after that it is held
abbrev pub leads_on : Exercise → ℕ → List Cell → ℕ → Bool
leads_on ex i now v =
    let slot = slot_of i in
    let lead = leading_slot (species_in ex v) in
    if nat_lt slot lead then true
    else (if slot == lead then starts_lead ex (cell_in now v) else is_hold (cell_in now v))

-- for each of four voices, whether it may still show its cadence
abbrev pub Leads : Type 0
Leads = List Bool

abbrev pub is_kept : Leads → ℕ → Bool
is_kept leads v = slice_index_or leads v false

abbrev pub no_leads : Leads
no_leads = false ∷ false ∷ false ∷ false ∷ []

-- a voice may after a column of the last bar but one: its bar began well, and each of its cells
-- since leads on
abbrev pub may_show : Exercise → ℕ → Leads → List Cell → ℕ → Bool
may_show ex i kept now v =
    (if begins_bar i then begins_well ex now v else is_kept kept v) && leads_on ex i now v

-- the voices that may after a column, where these might before it
abbrev pub leads_after : Exercise → ℕ → Leads → List Cell → Leads
leads_after ex i kept now =
    if is_before_last ex i
    then may_show ex i kept now 0 ∷ may_show ex i kept now 1 ∷ may_show ex i kept now 2 ∷ may_show ex i kept now 3 ∷ []
    else no_leads

-- the voices that may after some columns, which go from the newest to the oldest
abbrev pub leads_in : Exercise → List (List Cell) → Leads
leads_in ex [] = no_leads
leads_in ex (col ∷ behind) = leads_after ex (length behind) (leads_in ex behind) col

-- some voice may
abbrev pub has_some : Leads → Bool
has_some leads = list_any (λ may. may) leads

-- a column of that bar leaves none
abbrev pub leaves_none : Exercise → ℕ → Leads → List Cell → Bool
leaves_none ex i kept now = is_before_last ex i && not (has_some (leads_after ex i kept now))

-- a voice that may starts the final
abbrev pub ends_on_final : Exercise → Leads → List Cell → ℕ → Bool
ends_on_final ex kept now v = is_kept kept v && starts_final ex (cell_in now v)

-- some voice does
abbrev pub some_ends : Exercise → Leads → List Cell → Bool
some_ends ex kept now = list_any (ends_on_final ex kept now) (0 ∷ 1 ∷ 2 ∷ 3 ∷ [])

-- after a column no setting shows a cadence: it leaves no voice that may, or begins the last bar,
-- and none ends on the final there
abbrev pub lacks_all : Exercise → ℕ → Leads → List Cell → Bool
lacks_all ex i kept now = leaves_none ex i kept now || (begins_last_bar ex i && not (some_ends ex kept now))
