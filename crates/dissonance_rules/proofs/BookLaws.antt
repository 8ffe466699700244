-- The rules and tolls of dissonance keep the laws of a crate's book.
use Rattle.std.specs.Prelude.{◌≡◌, ℕ, ◌+◌, ◌-◌, ◌<◌, ◌≤◌, ◌==◌, ◌&&◌, Bool, true, false, nat_le, nat_lt, List, [], if◌then◌else◌, refl}
use Rattle.std.proofs.Common.{ap, arith}
use Rattle.std.proofs.lemmas.Bool.{cond_both}
use Rattle.fux_grid.specs.declared.cell.Cell.{Cell}
use Rattle.fux_grid.specs.declared.exercise.Exercise.{Exercise}
use Rattle.fux_grid.specs.Cells.{cell_in}
use Rattle.fux_grid.specs.Columns.{newest_column}
use Rattle.fux_grid.specs.Exercises.{bar_of, is_mixed, slot_of}
use Rattle.rule_law.specs.declared.table.Stands.TheVariants.{Anywhere, AtBars}
use Rattle.rule_law.specs.Bars.{begins_bar}
use Rattle.rule_law.specs.Forms.{IsOf, may_stand, pair_form, pair_sets_of}
use Rattle.rule_law.specs.Growth.{EnoughStays}
use Rattle.rule_law.specs.Nearby.{previous_pitches}
use Rattle.rule_law.specs.Pairs.{sound_same_key}
use Rattle.rule_law.specs.Quiet.{either_none, on_pair-none}
use Rattle.rule_law.specs.Rulebooks.{KeepsLaws, KeepsRuleLaws, KeepsTollLaws}
use Rattle.rule_law.specs.Terms.{clash, starts}
use Rattle.dissonance_rules.specs.Book.{at_once_row, book, has_places_in, is_late, late_count, late_first, late_row, may_settle_in, passing_reach, rule_row, toll_row}
use Rattle.dissonance_rules.proofs.ClashLaws.{ahead_enough_stays, by_rule, passing_enough_stays}
use Rattle.dissonance_rules.specs.Clashes.{clash_enough, clash_row, excuse_rule, is_told_later, pair_rule, passing_rule}
use Rattle.rule_law.proofs.AtOnce.{own_within}
use Rattle.dissonance_rules.proofs.Locality.{at_once_is_local, clash_is_local, clash_settles_at_end, cost_is_local, cost_settles_at_end}
use Rattle.dissonance_rules.proofs.Quiet.{quiet_rows, quiet_tolls}
use Rattle.dissonance_rules.specs.Rows.{broken_in}
use Rattle.rule_law.specs.Law.{at_once_settles}
use Rattle.dissonance_rules.proofs.LatePlaces.{clash_places, not_at_bars}

-- ---- S11 and S14

rule_form : (n : ℕ) (ex : Exercise) (i : ℕ) (behind : List (List Cell)) (now : List Cell) (ahead : List (List Cell))
    → IsOf (pair_sets_of ex.voices) (λ voices. broken_in n ex voices i behind now ahead)
rule_form n ex i behind now ahead = at (n == 11) refl
  where
    at : (b : Bool) → (n == 11) ≡ b → IsOf (pair_sets_of ex.voices) (λ voices. broken_in n ex voices i behind now ahead)
    at true e = rw e (pair_form ex _)
    at false e = rw e (pair_form ex _)

-- within a bar neither rule is broken
within_bar : (n : ℕ) (ex : Exercise) (voices i : ℕ) (behind : List (List Cell)) (now : List Cell) → begins_bar i ≡ false
    → broken_in n ex voices i behind now [] ≡ false
within_bar n ex voices i behind now slot =
    either_none (n == 11) _ _ false
    (on_pair-none ex _ voices (λ v w. ap (λ b. (b && nat_le 2 (bar_of i) && nat_lt (bar_of i) ex.bars)
    && sound_same_key now v w) slot))
    (on_pair-none ex _ voices (λ v w. ap (λ b. b && starts (cell_in now v) && starts (cell_in now w) && clash now v w)
    slot))

at_once_keeps : (n : ℕ) → KeepsRuleLaws (at_once_row n)
at_once_keeps n = record {
  local = at_once_is_local n;
  stays = λ ex voices i behind now ahead t h. refl;
  ends = λ ex voices. at_once_settles ex;
  form = rule_form n;
  stands = within_bar n;
  at_once = λ e ex voices i behind now ahead. refl;
  quiet = λ e ex voices i behind now h. quiet_rows ex i now h n voices (newest_column behind) (previous_pitches behind);
  places = λ e. cc;
  within = λ ex i. omega arith;
}

-- ---- the late rules

module _ (ex : Exercise) where
  clash_enough_stays : (n voices : ℕ) → EnoughStays (clash_enough n ex voices)
  clash_enough_stays n voices =
      by_rule (λ r. EnoughStays (clash_enough r ex voices))
      (passing_enough_stays ex voices) (passing_enough_stays ex voices) (ahead_enough_stays 4 ex)
      (ahead_enough_stays 3 ex)
      (λ r soon. rw (soon.no_passing, soon.no_excuse, soon.no_resolution, soon.no_disturbance)
      (λ i behind now ahead t h. refl)) n

  -- within a bar nothing is suspended
  suspended_at_bars : (n voices i : ℕ) (behind : List (List Cell)) (now : List Cell)
      → may_stand (late_row n).stands ex i ≡ false → clash_row n ex voices i behind now [] ≡ false
  suspended_at_bars n voices i behind now = at (is_told_later n) refl
    where
      at : (b : Bool) → is_told_later n ≡ b → may_stand (if b then Anywhere else AtBars) ex i ≡ false
          → clash_row n ex voices i behind now [] ≡ false
      at true e h = cc
      at false e h = not_at_bars n ex voices i behind now [] e h

  pub late_within : (n i : ℕ) → late_first n ex i + late_count n ex i ≤ i + 1
  late_within n i =
      by_rule (λ r. late_first r ex i + late_count r ex i ≤ i + 1)
      (open_within (passing_reach ex) (has_places_in passing_rule ex && may_settle_in ex i))
      (open_within (passing_reach ex) (has_places_in excuse_rule ex && may_settle_in ex i))
      (nth_within 4 (slot_of i == 4)) (nth_within 3 (is_mixed ex && (slot_of i == 3)))
      (λ r soon. rw (soon.no_passing, soon.no_excuse, soon.no_resolution, soon.no_disturbance)
      (own_within (begins_bar i) i)) n
    where
      open_within : (reach : ℕ) (b : Bool) → i - reach + (if b then i + 1 - (i - reach) else 0) ≤ i + 1
      open_within reach true = omega arith
      open_within reach false = omega arith

      nth_within : (m : ℕ) (b : Bool) → i - m + (if b then 1 else 0) ≤ i + 1
      nth_within m true = omega arith
      nth_within m false = omega arith

-- the places of S15 and S27, where there are some, go on to the newest column
pub late_whole : (n : ℕ) (ex : Exercise) (i : ℕ) → is_told_later n ≡ true → 0 < late_count n ex i
    → late_first n ex i + late_count n ex i ≡ i + 1
late_whole n ex i told = rw told (at (has_places_in n ex && may_settle_in ex i))
  where
    at : (b : Bool) → 0 < (if b then i + 1 - (i - passing_reach ex) else 0)
        → i - passing_reach ex + (if b then i + 1 - (i - passing_reach ex) else 0) ≡ i + 1
    at true h = omega (arith, h)
    at false h = absurd (omega (arith, h))

late_keeps : (n : ℕ) → KeepsRuleLaws (late_row n)
late_keeps n = record {
  local = clash_is_local n;
  stays = λ ex voices. clash_enough_stays ex n voices;
  ends = clash_settles_at_end n;
  form = λ ex i behind now ahead. pair_form ex (pair_rule n ex i behind now ahead);
  stands = λ ex. suspended_at_bars ex n;
  at_once = λ e. cc;
  quiet = λ e. cc;
  places = λ e. clash_places n;
  within = λ ex. late_within ex n;
}

pub rules_keep : (n : ℕ) → KeepsRuleLaws (rule_row n)
rules_keep n =
    cond_both (is_late n) (late_row n) (at_once_row n) KeepsRuleLaws (λ _. late_keeps n) (λ _. at_once_keeps n)

pub tolls_keep : (n : ℕ) → KeepsTollLaws (toll_row n)
tolls_keep n = record {
  local = cost_is_local n;
  stays = λ ex i behind now ahead t h. refl;
  ends = cost_settles_at_end n;
  at_once = λ e ex i behind now ahead. refl;
  quiet = λ e ex i behind now h. quiet_tolls ex i now h n (newest_column behind) (previous_pitches behind);
  places = λ e. cc;
  within = λ ex i. omega arith;
}

pub keeps_laws : KeepsLaws book
keeps_laws = record { rules = λ n h. rules_keep n; tolls = λ n h. tolls_keep n }
