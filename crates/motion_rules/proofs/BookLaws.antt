-- The rules and tolls of motion keep the laws of a crate's book.
use Rattle.std.specs.Prelude.{◌≡◌, ℕ, ◌==◌, Bool, true, false, ◌||◌, nat_le, List, length, reverse, if◌then◌else◌, refl}
use Rattle.std.proofs.Common.{ap, arith}
use Rattle.fux_grid.specs.declared.cell.Cell.{Cell}
use Rattle.fux_grid.specs.declared.exercise.Exercise.{Exercise}
use Rattle.fux_grid.specs.Columns.{newest_column}
use Rattle.rule_law.proofs.AtOnce.{breaks_where_it_may, costs_where_it_may, own_within}
use Rattle.rule_law.specs.Forms.{IsOf, pair_form, pair_sets_of}
use Rattle.rule_law.specs.Nearby.{previous_pitches, whole_of}
use Rattle.rule_law.specs.Law.{at_once_settles, local_from_row}
use Rattle.rule_law.specs.Pairs.{count_pairs}
use Rattle.rule_law.specs.Rulebooks.{KeepsLaws, KeepsRuleLaws, KeepsTollLaws}
use Rattle.motion_rules.specs.Afterbeats.{afterbeat_enough, afterbeat_row}
use Rattle.motion_rules.specs.InnerVoices.{inner_move_into_perfect, inner_toll}
use Rattle.motion_rules.proofs.AfterbeatLemmas.{elsewhere, within_a_bar}
use Rattle.motion_rules.proofs.Quiet.{quiet_rows, quiet_tolls}
use Rattle.motion_rules.specs.Rows.{broken_in, enough_after, cost_enough, cost_in}
use Rattle.motion_rules.specs.Runs.{ends_four_bars, four_bar_lines, imperfect_runs, keep_on, run_toll}
use Rattle.motion_rules.specs.Book.{at_once_row, at_once_toll, book, inner_row, is_late, late_row, may_be_bare, rule_row, run_row, toll_row}
use Rattle.rule_law.specs.Places.{at_once}

rule_form : (n : ℕ) (ex : Exercise) (i : ℕ) (behind : List (List Cell)) (now : List Cell) (ahead : List (List Cell))
    → IsOf (pair_sets_of ex.voices) (λ voices. broken_in n ex voices i behind now ahead)
rule_form n ex i behind now ahead = at (n == 10) (n == 16) refl refl
  where
    at : (b c : Bool) → (n == 10) ≡ b → (n == 16) ≡ c
        → IsOf (pair_sets_of ex.voices) (λ voices. broken_in n ex voices i behind now ahead)
    at true c e f = rw e (pair_form ex _)
    at false true e f = rw (e, f) (pair_form ex _)
    at false false e f = rw (e, f) (pair_form ex _)

late_rules_keep : (n : ℕ) → KeepsRuleLaws (late_row n)
late_rules_keep n = record {
  local = λ ex voices. local_from_row ex (afterbeat_row ex voices) (afterbeat_enough ex voices)
      (λ i behind now ahead t h. refl);
  stays = λ ex voices i behind now ahead t h. refl;
  ends = λ ex voices. at_once_settles ex;
  form = λ ex i behind now ahead. pair_form ex _;
  stands = λ ex voices i behind now h. within_a_bar ex voices i behind now h;
  at_once = λ e. cc;
  quiet = λ e. cc;
  places = λ e ex voices p col i on h. breaks_where_it_may (late_row n) ex voices (λ i behind now ahead. refl) p col
      (may_be_bare ex (length p)) (elsewhere ex voices (length p) (reverse p) col) i h;
  within = λ ex i. own_within (may_be_bare ex i) i;
}

rules_at_once_keep : (n : ℕ) → KeepsRuleLaws (at_once_row n)
rules_at_once_keep n = record {
  local = λ ex voices. local_from_row ex (broken_in n ex voices) (enough_after n ex voices)
      (λ i behind now ahead t h. refl);
  stays = λ ex voices i behind now ahead t h. refl;
  ends = λ ex voices. at_once_settles ex;
  form = rule_form n;
  stands = λ ex voices i behind now e. cc;
  at_once = λ e ex voices i behind now ahead. refl;
  quiet = λ e ex voices i behind now h. quiet_rows ex i now h n voices (newest_column behind) (previous_pitches behind);
  places = λ e. cc;
  within = λ ex i. omega arith;
}

pub rules_keep : (n : ℕ) → KeepsRuleLaws (rule_row n)
rules_keep n = at (is_late n)
  where
    at : (b : Bool) → KeepsRuleLaws (if b then late_row n else at_once_row n)
    at true = late_rules_keep n
    at false = rules_at_once_keep n

-- in two voices Q12 costs nothing
two_voices : (ex : Exercise) (before now : List Cell) → nat_le 3 ex.voices ≡ false
    → (if nat_le 3 ex.voices then count_pairs (inner_move_into_perfect ex before now) else 0) ≡ 0
two_voices ex before now h = rw h refl

inner_keeps : KeepsTollLaws inner_row
inner_keeps = record {
  local = λ ex. local_from_row ex (whole_of (inner_toll ex)) at_once (λ i behind now ahead t h. refl);
  stays = λ ex i behind now ahead t h. refl;
  ends = λ ex. at_once_settles ex;
  at_once = λ e. cc;
  quiet = λ e. cc;
  places = λ e ex p col i on h. costs_where_it_may inner_row ex (λ i behind now ahead. refl) p col
      (nat_le 3 ex.voices) (two_voices ex (newest_column (reverse p)) col) i h;
  within = λ ex i. own_within (nat_le 3 ex.voices) i;
}

-- before the fourth bar and within bars Q14 costs nothing
no_runs : (i : ℕ) (behind : List (List Cell)) (now : List Cell) → ends_four_bars i ≡ false
    → imperfect_runs i behind now ≡ 0
no_runs i behind now h = ap (λ b. if b then count_pairs (keep_on (four_bar_lines behind now)) else 0) h

run_keeps : KeepsTollLaws run_row
run_keeps = record {
  local = λ ex. local_from_row ex (run_toll ex) at_once (λ i behind now ahead t h. refl);
  stays = λ ex i behind now ahead t h. refl;
  ends = λ ex. at_once_settles ex;
  at_once = λ e. cc;
  quiet = λ e. cc;
  places = λ e ex p col i on h. costs_where_it_may run_row ex (λ i behind now ahead. refl) p col
      (ends_four_bars (length p)) (no_runs (length p) (reverse p) col) i h;
  within = λ ex i. own_within (ends_four_bars i) i;
}

tolls_at_once_keep : (n : ℕ) → KeepsTollLaws (at_once_toll n)
tolls_at_once_keep n = record {
  local = λ ex. local_from_row ex (cost_in n ex) (cost_enough n ex) (λ i behind now ahead t h. refl);
  stays = λ ex i behind now ahead t h. refl;
  ends = λ ex. at_once_settles ex;
  at_once = λ e ex i behind now ahead. refl;
  quiet = λ e ex i behind now h. quiet_tolls ex i now h n (newest_column behind) (previous_pitches behind);
  places = λ e. cc;
  within = λ ex i. omega arith;
}

pub tolls_keep : (n : ℕ) → KeepsTollLaws (toll_row n)
tolls_keep n = at (n == 12) (n == 14)
  where
    at : (inner run : Bool)
        → KeepsTollLaws (if inner || run then (if inner then inner_row else run_row) else at_once_toll n)
    at true run = inner_keeps
    at false true = run_keeps
    at false false = tolls_at_once_keep n

pub keeps_laws : KeepsLaws book
keeps_laws = record { rules = λ n h. rules_keep n; tolls = λ n h. tolls_keep n }
