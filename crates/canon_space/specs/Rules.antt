-- The rules of canons, and what canons cost: where a bar begins. Within bars, where notes are held,
-- none of these rules is broken and none of these tolls stands. Both voices are read as free voices
-- of species 1.
use Rattle.std.specs.Prelude.{◌≡◌, ℕ, ◌+◌, ◌==◌, Bool, true, not, ◌&&◌, ◌||◌, nat_le, nat_lt, List, [], ◌∷◌, length, map, replicate, reverse, if◌then◌else◌}
use Rattle.std.specs.List.{flat_map, list_all, list_any, sum_by}
use Rattle.fux_pitch.specs.declared.pitch.Pitch.{Pitch}
use Rattle.fux_grid.specs.declared.cell.Cell.{Cell}
use Rattle.fux_grid.specs.declared.cell.Cell.TheVariants.{Rest, Hold, Start}
use Rattle.fux_grid.specs.Cells.{cell_in, pitch_of}
use Rattle.fux_grid.specs.Columns.{line}
use Rattle.rule_law.specs.Pairs.{move_alike, move_into_perfect, sound_perfect, sound_same_key}
use Rattle.rule_law.specs.Terms.{holds_of, interval_in}
use Rattle.melody_rules.specs.Rows.{last_of, leaves_open, looks_back, pays_move, pitches, voice_rule, window_rule}
use Rattle.motion_rules.specs.Rows.{cross, move_in_parallel}
use Rattle.motion_rules.specs.Runs.{keep_on, sound_imperfect}
use Rattle.dissonance_rules.specs.Rows.{clash_at_start}
use Rattle.rhythm_cadence.specs.Rows.{holds_of_pitch, is_final_in, may_end}
use Rattle.penalty_sheet.specs.declared.sheet.Sheet.{Sheet}
use Rattle.penalty_sheet.specs.Weights.{charge}
use Rattle.canon_space.specs.declared.canon.Canon.{Canon}
use Rattle.canon_space.specs.Canons.{Bars, bar_after, bar_before, is_canon_bar, opens_on_final}

-- the rules of one voice: S4, S6 to S9 and S26
abbrev pub voice_rules : List ℕ
voice_rules = 4 ∷ 6 ∷ 7 ∷ 8 ∷ 9 ∷ 26 ∷ []

-- the rules of both: S10, S11, S13, S14, S16, S17 and S24
abbrev pub pair_rules : List ℕ
pair_rules = 10 ∷ 11 ∷ 13 ∷ 14 ∷ 16 ∷ 17 ∷ 24 ∷ []

-- a rule is broken by what a voice does after notes of these pitches, the latest first
abbrev pub breaks_voice : List Pitch → Cell → ℕ → Bool
breaks_voice ps now rule = if looks_back rule then window_rule rule ps now else voice_rule rule 1 (last_of ps) now

-- the next bar is neither the first nor the last
abbrev pub is_inner : Canon → Bars → Bool
is_inner canon behind = nat_le 2 (bar_after behind) && nat_lt (bar_after behind) canon.bars

-- it is the last
abbrev pub is_last : Canon → Bars → Bool
is_last canon behind = bar_after behind == canon.bars

-- what both voices sounded before it: the notes of the newest bar, held
abbrev pub sounded_before : Bars → List Cell
sounded_before = bar_before 1

-- the two don't sound an interval on which two voices may end
abbrev pub ends_apart : List Cell → Bool
ends_apart now = not (holds_of (may_end 2) (interval_in now 0 1))

-- the lower voice doesn't sound the final
abbrev pub ends_off_final : Canon → List Cell → Bool
ends_off_final canon now = not (holds_of_pitch (is_final_in canon.mode) (pitch_of (cell_in now 0)))

-- a rule is broken by both voices where the next bar begins
abbrev pub breaks_pair : Canon → Bars → List Cell → ℕ → Bool
breaks_pair canon behind now rule =
    if rule == 10 then cross now 0 1
    else (if rule == 11 then is_inner canon behind && sound_same_key now 0 1
    else (if rule == 13 then is_last canon behind && ends_apart now
    else (if rule == 14 then clash_at_start 0 now 0 1
    else (if rule == 16 then move_in_parallel (sounded_before behind) now 0 1
    else (if rule == 17 then move_into_perfect (sounded_before behind) now 0 1
    else is_last canon behind && ends_off_final canon now)))))

-- some rule is broken where the next bar begins
abbrev pub breaks_some_rule : Canon → Bars → List Cell → Bool
breaks_some_rule canon behind now =
    list_any (breaks_voice (pitches (line 0 behind)) (cell_in now 0)) voice_rules
    || list_any (breaks_voice (pitches (line 1 behind)) (cell_in now 1)) voice_rules
    || list_any (breaks_pair canon behind now) pair_rules

-- the next bar is as a canon setting asks, the leader opens on the final, and no rule is broken
abbrev pub may_come : Canon → Bars → List Cell → Bool
may_come canon behind now =
    is_canon_bar canon behind now && opens_on_final canon behind now && not (breaks_some_rule canon behind now)

-- so is each of these bars, from the newest to the oldest, after those behind it
abbrev pub is_live : Canon → Bars → Bool
is_live canon [] = true
is_live canon (now ∷ behind) = is_live canon behind && may_come canon behind now

-- Q7 to Q10: what the move costs by which a voice comes to the next bar after notes of these
-- pitches, the latest first
abbrev pub move_cost : Sheet → List Pitch → Cell → ℕ
move_cost sheet ps now =
    sum_by (λ toll. charge sheet toll (pays_move toll (last_of ps) now)) (7 ∷ 8 ∷ 9 ∷ 10 ∷ [])

-- these and Q13
abbrev pub voice_cost : Sheet → List Pitch → Cell → ℕ
voice_cost sheet ps now = move_cost sheet ps now + charge sheet 13 (leaves_open ps now)

-- the next bar and the three before it, where it is the fourth or later
abbrev pub four_bars : Bars → List Cell → List (List Cell)
four_bars behind now = now ∷ bar_before 1 behind ∷ bar_before 2 behind ∷ bar_before 3 behind ∷ []

abbrev pub keeps_on : Bars → List Cell → Bool
keeps_on behind now = nat_le 4 (bar_after behind) && keep_on (four_bars behind now) 0 1

-- the four begin with imperfect intervals of so many degrees
abbrev pub four_sound : ℕ → Bars → List Cell → Bool
four_sound degrees behind now = list_all (λ col. sound_imperfect degrees col 0 1) (four_bars behind now)

-- Q1, Q11 and Q14, of both
abbrev pub pair_cost : Canon → Sheet → Bars → List Cell → ℕ
pair_cost canon sheet behind now =
    charge sheet 1 (is_inner canon behind && sound_perfect now 0 1)
    + charge sheet 11 (move_alike (sounded_before behind) now 0 1)
    + charge sheet 14 (keeps_on behind now)

-- what the next bar costs
abbrev pub bar_cost : Canon → Sheet → Bars → List Cell → ℕ
bar_cost canon sheet behind now =
    voice_cost sheet (pitches (line 0 behind)) (cell_in now 0)
    + voice_cost sheet (pitches (line 1 behind)) (cell_in now 1)
    + pair_cost canon sheet behind now

-- what bars cost, from the newest to the oldest
abbrev pub paid : Canon → Sheet → Bars → ℕ
paid canon sheet [] = 0
paid canon sheet (now ∷ behind) = paid canon sheet behind + bar_cost canon sheet behind now

-- ---- bars from the oldest to the newest

-- they begin a canon so far as they go: each is as a canon setting asks, and no rule is broken
abbrev pub IsLive : Canon → List (List Cell) → Type 0
IsLive canon bars = is_live canon (reverse bars) ≡ true

-- a lawful canon: all its bars
pub record IsLawful (canon : Canon) (bars : List (List Cell)) : Type 0 where
  pub live : IsLive canon bars
  pub whole : length bars ≡ canon.bars

-- what they cost
abbrev pub penalty_of : Canon → Sheet → List (List Cell) → ℕ
penalty_of canon sheet bars = paid canon sheet (reverse bars)

-- within a bar a note is held and a rest goes on
abbrev pub goes_on : Cell → Cell
goes_on Rest = Rest
goes_on (Hold p) = Hold p
goes_on (Start p) = Hold p

-- the eight columns of a bar, by the cells with which it begins
abbrev pub columns_of_bar : List Cell → List (List Cell)
columns_of_bar now = now ∷ replicate 7 (map goes_on now)

-- the columns of bars
abbrev pub columns_of : List (List Cell) → List (List Cell)
columns_of bars = flat_map columns_of_bar bars
