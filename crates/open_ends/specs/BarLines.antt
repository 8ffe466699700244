-- Perfect intervals of the species voice at the beginning of a bar, which wait for the beginning of
-- the next.
use Rattle.std.specs.Prelude.{ℕ, ◌==◌, Bool, ◌&&◌, ◌||◌, nat_lt, List, [], ◌∷◌, Option, None, length, if◌then◌else◌}
use Rattle.fux_pitch.specs.declared.pitch.Pitch.{Pitch}
use Rattle.fux_grid.specs.declared.cell.Cell.{Cell}
use Rattle.fux_grid.specs.declared.exercise.Exercise.{Exercise}
use Rattle.fux_grid.specs.Cells.{cell_in, pitch_of}
use Rattle.rule_law.specs.Bars.{begins_bar}
use Rattle.rule_law.specs.Nearby.{Pitches, pitch_at}
use Rattle.rule_law.specs.Pairs.{some_pair, sound_perfect}
use Rattle.rule_law.specs.Terms.{differs, equal_perfects, interval_in, interval_of_pitches}
use Rattle.motion_rules.specs.Afterbeats.{goes_within_bars, stays_near}
use Rattle.open_ends.specs.Asked.{is_asked}

-- S18, by its number
abbrev pub parallels_rule : ℕ
parallels_rule = 18

-- it is asked of the species voice: no line relaxes it, and the voice goes on within bars
abbrev pub is_read : Exercise → Bool
is_read ex = is_asked ex parallels_rule && goes_within_bars ex ex.species_voice

-- the exercise has the second of two voices, and one of them is the species voice
abbrev pub has_species_voice : Exercise → ℕ → ℕ → Bool
has_species_voice ex v w = nat_lt w ex.voices && ((v == ex.species_voice) || (w == ex.species_voice))

-- a voice is one of two such voices that sound a perfect interval
abbrev pub takes_part : Exercise → List Cell → ℕ → Bool
takes_part ex col u =
    some_pair (λ v w. ((v == u) || (w == u)) && has_species_voice ex v w && sound_perfect col v w)

-- its pitch, if it is
abbrev pub perfect_pitch : Exercise → List Cell → ℕ → Option Pitch
perfect_pitch ex col u = if takes_part ex col u then pitch_of (cell_in col u) else None

-- the pitches of the voices that are
abbrev pub perfect_pitches : Exercise → List Cell → Pitches
perfect_pitches ex col =
    perfect_pitch ex col 0 ∷ perfect_pitch ex col 1 ∷ perfect_pitch ex col 2 ∷ perfect_pitch ex col 3 ∷ []

-- no pitch of any voice
abbrev pub no_pitches : Pitches
no_pitches = None ∷ None ∷ None ∷ None ∷ []

-- these pitches, while the species voice starts no note more than two degrees from its own
abbrev pub while_near : Exercise → Pitches → List Cell → Pitches
while_near ex kept now =
    if stays_near (pitch_at kept ex.species_voice) (cell_in now ex.species_voice) then kept else no_pitches

-- what is kept after a column, where this was kept before it
abbrev pub bar_line_after : Exercise → ℕ → Pitches → List Cell → Pitches
bar_line_after ex i kept now = if begins_bar i then perfect_pitches ex now else while_near ex kept now

-- what is kept of some columns, which go from the newest to the oldest
abbrev pub bar_line_in : Exercise → List (List Cell) → Pitches
bar_line_in ex [] = no_pitches
bar_line_in ex (col ∷ behind) = bar_line_after ex (length behind) (bar_line_in ex behind) col

-- two voices have gone on from these pitches to others, from a perfect interval to an equal one
abbrev pub arrive_from : Pitches → List Cell → ℕ → ℕ → Bool
arrive_from kept now v w =
    equal_perfects (interval_of_pitches (pitch_at kept v) (pitch_at kept w)) (interval_in now v w)
    && differs (pitch_at kept v) (pitch_of (cell_in now v))
    && differs (pitch_at kept w) (pitch_of (cell_in now w))

-- the species voice and another one have
abbrev pub some_arrive : Exercise → Pitches → List Cell → Bool
some_arrive ex kept now = some_pair (λ v w. has_species_voice ex v w && arrive_from kept now v w)

-- at the beginning of a bar they have
abbrev pub arrives : Exercise → ℕ → Pitches → List Cell → Bool
arrives ex i kept now = begins_bar i && some_arrive ex kept now
