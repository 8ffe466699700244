-- Rules that a column keeps need not be read.
use Rattle.std.proofs.Common.{◌≡◌, ℕ, ◌==◌, ◌&&◌, ◌||◌, Bool, true, false, not, Some, List, [], ◌∷◌, length, reverse, refl, ap, sym, ◌∙◌, subst}
use Rattle.std.specs.Prelude.{nat_le, nat_lt}
use Rattle.std.specs.List.{filter, list_all, list_any}
use Rattle.std.proofs.lemmas.Bool.{and_right, eqb-true}
use Rattle.std.proofs.lemmas.Map.Views.{any-filter_same}
use Rattle.fux_grid.specs.declared.cell.Cell.{Cell}
use Rattle.fux_grid.specs.Cells.{cell_in, pitch_of}
use Rattle.fux_grid.specs.Columns.{newest_column}
use Rattle.fux_grid.specs.Exercises.{bar_of}
use Rattle.fux_grid.specs.Menus.{IsInMenu}
use Rattle.rule_law.specs.Bars.{begins_bar}
use Rattle.rule_law.specs.Nearby.{previous_pitches}
use Rattle.rule_law.specs.Pairs.{sound_same_key}
use Rattle.rule_law.specs.Quiet.{on_pair-none, on_voice-none}
use Rattle.rule_law.specs.Terms.{clash, holds_of, interval_in, starts}
use Rattle.melody_rules.specs.Rows as melody
use Rattle.melody_rules.specs.Smooth.{some_rough, smooth_near_rows, smooth_window_rows}
use Rattle.motion_rules.specs.Clear.{some_move_badly, clear_rows}
use Rattle.dissonance_rules.specs.Apart.{apart_rows, some_come_close}
use Rattle.rhythm_cadence.specs.InPlace.{in_place_rows, some_out_of_place}
use Rattle.rhythm_cadence.specs.Rows.{begins_last_bar, fits_ending, holds_of_pitch, is_final}
use Rattle.fux_judge.specs.declared.moment.Moment.{Moment}
use Rattle.fux_judge.specs.Crates.{Motion, crate_with}
use Rattle.fux_judge.specs.Rules.{all_sets, is_late, is_of_melody, rule_at, rules_at_once}
use Rattle.fux_judge.specs.Kept.{is_close, is_moving, is_of_ending, is_of_place, rules_at_a_bar, rules_at_the_end, rules_within_bars}
use Rattle.fux_judge.specs.Penalties.{is_strict_at}
use Rattle.fux_judge.specs.Moments.{IsAfter, is_broken_then, is_strictly_broken_then}
use Rattle.fux_judge.proofs.CrateLemmas.{in_melody}
use Rattle.fux_judge.proofs.MenuBreaks.{keeps_gamut, keeps_ranges}
use Rattle.fux_judge.proofs.MomentLemmas.{window_then, melodic_then, motion_then, dissonance_then, rhythm_then}
use Rattle.fux_judge.proofs.PruningLemmas.{one_of}
use Rattle.fux_judge.proofs.QuietLemmas.{none_passes}

-- what holds of two numbers holds of one that is one of them
pub of_two : (P : ℕ → Type 0) (a b rule : ℕ) → P a → P b → ((rule == a) || (rule == b)) ≡ true → P rule
of_two P a b rule pa pb = at (rule == a) refl
  where
    at : (t : Bool) → (rule == a) ≡ t → (t || (rule == b)) ≡ true → P rule
    at true e h = subst P (sym (eqb-true rule a e)) pa
    at false e h = subst P (sym (eqb-true rule b h)) pb

-- rules that are never found broken may be left out
pub left_out : (broken out : ℕ → Bool) (rules : List ℕ) (r : ℕ) → ((rule : ℕ) → out rule ≡ true → broken rule ≡ false)
    → list_any (λ rule. broken rule && r == rule) (filter (λ rule. not (out rule)) rules)
    ≡ list_any (λ rule. broken rule && r == rule) rules
left_out broken out rules r kept = any-filter_same (λ rule. broken rule && r == rule) (λ rule. not (out rule)) true
    (λ rule found. at (out rule) (broken rule) (r == rule) found (kept rule)) rules
  where
    at : (leaves breaks this : Bool) → (breaks && this) ≡ true → (leaves ≡ true → breaks ≡ false) → not leaves ≡ true
    at true true this h k = let e : true ≡ false = k refl in cc
    at true false this h k = cc
    at false breaks this h k = refl

-- what a test of the opposite says
pub not_rough : (rough : Bool) → true ≡ not rough → rough ≡ false
not_rough true h = cc
not_rough false h = refl

-- the rules that tests tell of are settled at once
abbrev pub told_of : List ℕ
told_of = 1 ∷ 2 ∷ 10 ∷ 11 ∷ 12 ∷ 13 ∷ 14 ∷ 16 ∷ 17 ∷ 24 ∷ []

all_of_them : list_all (λ r. not (is_late r)) told_of ≡ true
unfolding rule_at
all_of_them = refl

pub at_once : (rule : ℕ) → list_any (λ other. rule == other) told_of ≡ true → is_late rule ≡ false
at_once rule h = not_rough (is_late rule) (sym (one_of (λ r. not (is_late r)) rule told_of all_of_them h))

-- likewise of three
pub of_three : (P : ℕ → Type 0) (a b c rule : ℕ) → P a → P b → P c → (((rule == a) || (rule == b)) || (rule == c)) ≡ true
    → P rule
of_three P a b c rule pa pb pc = at ((rule == a) || (rule == b)) refl
  where
    at : (t : Bool) → ((rule == a) || (rule == b)) ≡ t → (t || (rule == c)) ≡ true → P rule
    at true e h = of_two P a b rule pa pb e
    at false e h = subst P (sym (eqb-true rule c h)) pc

module _ (p : List (List Cell)) (m : Moment) where
  pub kept_by_all : (rule : ℕ) → ((voices : ℕ) → is_broken_then rule voices p m ≡ false)
      → is_strictly_broken_then all_sets rule p m ≡ false
  kept_by_all rule kept =
      none_passes (λ voices. is_broken_then rule voices p m && is_strict_at rule m.exercise.now voices (length p))
      all_sets
      (λ voices. ap (λ b. b && is_strict_at rule m.exercise.now voices (length p)) (kept voices))

  -- a smooth column keeps the rules of melody
  pub melody_kept : some_rough m.exercise.now (reverse p) m.column.now ≡ false → (rule : ℕ) → is_of_melody rule ≡ true
      → is_strictly_broken_then all_sets rule p m ≡ false
  melody_kept smooth rule melodic = kept_by_all rule (λ voices. at voices (melody.looks_back rule) refl)
    where
      at : (voices : ℕ) (b : Bool) → melody.looks_back rule ≡ b → is_broken_then rule voices p m ≡ false
      at voices true e = sym (window_then rule voices p m (in_melody rule melodic) e)
          ∙ smooth_window_rows m.exercise.now (reverse p) m.column.now smooth rule voices (length p) []
      at voices false e = sym (melodic_then rule voices p m (in_melody rule melodic) e)
          ∙ smooth_near_rows m.exercise.now (reverse p) m.column.now smooth rule voices (length p)
          (newest_column (reverse p))

  -- a column in which no two voices move badly keeps the rules of motion
  motion_kept : some_move_badly m.exercise.now (newest_column (reverse p)) m.column.now ≡ false → (rule : ℕ)
      → is_moving rule ≡ true → is_strictly_broken_then all_sets rule p m ≡ false
  motion_kept clear rule = of_three (λ rule. is_strictly_broken_then all_sets rule p m ≡ false) 10 16 17 rule
      (one 10 refl refl) (one 16 refl refl) (one 17 refl refl)
    where
      one : (rule : ℕ) → list_any (λ other. rule == other) told_of ≡ true → crate_with rule ≡ Some Motion
          → is_strictly_broken_then all_sets rule p m ≡ false
      one rule soon e = kept_by_all rule (λ voices. sym (motion_then rule voices p m (at_once rule soon) e)
          ∙ clear_rows m.exercise.now (newest_column (reverse p)) m.column.now clear rule voices (length p)
          (previous_pitches (reverse p)))

  -- a column in which every voice is in place keeps those of one voice
  place_kept : some_out_of_place m.exercise.now (length p) (previous_pitches (reverse p)) m.column.now ≡ false
      → (rule : ℕ) → is_of_place rule ≡ true → is_strictly_broken_then all_sets rule p m ≡ false
  place_kept within rule = of_three (λ rule. is_strictly_broken_then all_sets rule p m ≡ false) 1 2 12 rule
      (kept_by_all 1 (λ voices. sym (rhythm_then 1 voices p m (at_once 1 refl) refl)
      ∙ in_place_rows m.exercise.now (length p) (previous_pitches (reverse p)) m.column.now within 1 voices))
      (kept_by_all 2 (λ voices. sym (rhythm_then 2 voices p m (at_once 2 refl) refl)
      ∙ in_place_rows m.exercise.now (length p) (previous_pitches (reverse p)) m.column.now within 2 voices))
      (kept_by_all 12 (λ voices. sym (rhythm_then 12 voices p m (at_once 12 refl) refl)
      ∙ in_place_rows m.exercise.now (length p) (previous_pitches (reverse p)) m.column.now within 12 voices))

  -- a column of a menu keeps within ranges and gamut
  pub menu_kept : IsInMenu m.exercise.now (length p) m.column.now
      → (is_strictly_broken_then all_sets 1 p m ≡ false) × (is_strictly_broken_then all_sets 2 p m ≡ false)
  menu_kept menu = (
    kept_by_all 1 (λ voices. sym (rhythm_then 1 voices p m (at_once 1 refl) refl)
        ∙ keeps_ranges m.exercise.now (length p) (previous_pitches (reverse p)) m.column.now menu voices),
    kept_by_all 2 (λ voices. sym (rhythm_then 2 voices p m (at_once 2 refl) refl)
        ∙ keeps_gamut m.exercise.now (length p) (previous_pitches (reverse p)) m.column.now menu voices),
  )

  -- away from the beginning of the last bar there is no ending
  endings_kept : begins_last_bar m.exercise.now (length p) ≡ false → (rule : ℕ) → is_of_ending rule ≡ true
      → is_strictly_broken_then all_sets rule p m ≡ false
  endings_kept before rule = of_two (λ rule. is_strictly_broken_then all_sets rule p m ≡ false) 13 24 rule
      (kept_by_all 13 (λ voices. sym (rhythm_then 13 voices p m (at_once 13 refl) refl)
      ∙ on_pair-none m.exercise.now _ voices
      (λ v w. and_right (v == 0) _ (ap
      (λ b. b && not (holds_of (fits_ending m.exercise.now) (interval_in m.column.now 0 w))) before))))
      (kept_by_all 24 (λ voices. sym (rhythm_then 24 voices p m (at_once 24 refl) refl)
      ∙ on_voice-none m.exercise.now _ voices
      (λ v. and_right (v == 0) _ (ap (λ b. b
      && not (holds_of_pitch (is_final m.exercise.now) (pitch_of (cell_in m.column.now 0)))) before))))

  -- within a bar no rule of dissonance is broken
  dissonance_kept : begins_bar (length p) ≡ false → (rule : ℕ) → is_close rule ≡ true
      → is_strictly_broken_then all_sets rule p m ≡ false
  dissonance_kept within rule = of_two (λ rule. is_strictly_broken_then all_sets rule p m ≡ false) 11 14 rule
      (kept_by_all 11 (λ voices. sym (dissonance_then 11 voices p m (at_once 11 refl) refl)
      ∙ on_pair-none m.exercise.now _ voices
      (λ v w. ap (λ b. (b && nat_le 2 (bar_of (length p)) && nat_lt (bar_of (length p)) m.exercise.now.bars)
      && sound_same_key m.column.now v w) within)))
      (kept_by_all 14 (λ voices. sym (dissonance_then 14 voices p m (at_once 14 refl) refl)
      ∙ on_pair-none m.exercise.now _ voices
      (λ v w. ap (λ b. b && starts (cell_in m.column.now v) && starts (cell_in m.column.now w)
      && clash m.column.now v w) within)))

  -- nor where no two voices come close
  closeness_kept : some_come_close m.exercise.now m.column.now ≡ false → (rule : ℕ) → is_close rule ≡ true
      → is_strictly_broken_then all_sets rule p m ≡ false
  closeness_kept apart rule = of_two (λ rule. is_strictly_broken_then all_sets rule p m ≡ false) 11 14 rule
      (kept_by_all 11 (λ voices. sym (dissonance_then 11 voices p m (at_once 11 refl) refl)
      ∙ apart_rows m.exercise.now m.column.now apart 11 voices (length p) (newest_column (reverse p))
      (previous_pitches (reverse p))))
      (kept_by_all 14 (λ voices. sym (dissonance_then 14 voices p m (at_once 14 refl) refl)
      ∙ apart_rows m.exercise.now m.column.now apart 14 voices (length p) (newest_column (reverse p))
      (previous_pitches (reverse p))))

  -- what a column keeps whose voices are smooth, clear of one another and in place
  pub record IsFair : Type 0 where
    pub smooth : some_rough m.exercise.now (reverse p) m.column.now ≡ false
    pub clear : some_move_badly m.exercise.now (newest_column (reverse p)) m.column.now ≡ false
    pub placed : some_out_of_place m.exercise.now (length p) (previous_pitches (reverse p)) m.column.now ≡ false

  module _ (fair : IsFair) (r : ℕ) where
    abbrev pub found_in : List ℕ → Bool
    found_in = list_any (λ rule. is_strictly_broken_then all_sets rule p m && r == rule)

    abbrev pub strict : ℕ → Bool
    strict rule = is_strictly_broken_then all_sets rule p m

    pub at_the_end : (rules : List ℕ) → rules ≡ rules_at_the_end → found_in rules ≡ found_in rules_at_once
    unfolding rules_at_the_end
    at_the_end rules e =
        ap found_in e
        ∙ left_out strict is_of_place (filter (λ rule. not (is_moving rule))
        (filter (λ rule. not (is_of_melody rule)) rules_at_once)) r (place_kept fair.placed)
        ∙ left_out strict is_moving (filter (λ rule. not (is_of_melody rule)) rules_at_once) r (motion_kept fair.clear)
        ∙ left_out strict is_of_melody rules_at_once r (melody_kept fair.smooth)

    pub at_a_bar : begins_last_bar m.exercise.now (length p) ≡ false → (rules : List ℕ) → rules ≡ rules_at_a_bar
        → found_in rules ≡ found_in rules_at_once
    unfolding rules_at_a_bar
    at_a_bar before rules e =
        ap found_in e ∙ left_out strict is_of_ending rules_at_the_end r (endings_kept before)
        ∙ at_the_end rules_at_the_end refl

    pub within_a_bar : begins_bar (length p) ≡ false → (rules : List ℕ) → rules ≡ rules_within_bars → found_in rules
        ≡ found_in rules_at_once
    unfolding rules_within_bars
    within_a_bar within rules e =
        ap found_in e ∙ left_out strict is_close rules_at_a_bar r (dissonance_kept within)
        ∙ at_a_bar (ap (λ b. b && (bar_of (length p) == m.exercise.now.bars)) within) rules_at_a_bar refl

    pub where_apart : begins_last_bar m.exercise.now (length p) ≡ false → some_come_close m.exercise.now m.column.now
        ≡ false → (rules : List ℕ) → rules ≡ rules_within_bars → found_in rules ≡ found_in rules_at_once
    unfolding rules_within_bars
    where_apart before apart rules e =
        ap found_in e ∙ left_out strict is_close rules_at_a_bar r (closeness_kept apart)
        ∙ at_a_bar before rules_at_a_bar refl

-- by the answers of the three tests
pub fair_by_tests : (p : List (List Cell)) (m : Moment) → IsAfter p m → true
    ≡ not (some_rough m.exercise.now (reverse p) m.column.now) → true
    ≡ not (some_move_badly m.exercise.now m.before.now m.column.now) → true
    ≡ not (some_out_of_place m.exercise.now m.state.now.newest.len m.latest.pitches m.column.now) → IsFair p m
fair_by_tests p m after smooth clear placed = record {
  smooth = not_rough (some_rough m.exercise.now (reverse p) m.column.now) smooth;
  clear = ap (λ b. some_move_badly m.exercise.now b m.column.now) (sym after.before)
      ∙ not_rough (some_move_badly m.exercise.now m.before.now m.column.now) clear;
  placed =
      ap (λ i. some_out_of_place m.exercise.now i (previous_pitches (reverse p)) m.column.now)
      (sym after.state.newest.count)
      ∙ ap (λ l. some_out_of_place m.exercise.now m.state.now.newest.len l m.column.now) (sym after.latest)
      ∙ not_rough (some_out_of_place m.exercise.now m.state.now.newest.len m.latest.pitches m.column.now) placed;
}
