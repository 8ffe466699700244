-- The rules and tolls of melody keep the laws of a crate's book.
use Rattle.std.specs.Prelude.{◌≡◌, ℕ, ◌==◌, Bool, true, false, List, [], if◌then◌else◌, refl}
use Rattle.std.proofs.Common.{arith}
use Rattle.fux_grid.specs.declared.cell.Cell.{Cell}
use Rattle.fux_grid.specs.declared.exercise.Exercise.{Exercise}
use Rattle.fux_grid.specs.Columns.{newest_column}
use Rattle.rule_law.specs.Forms.{IsOf, voice_form, voice_sets_of}
use Rattle.rule_law.specs.Nearby.{previous_pitches, whole_of}
use Rattle.rule_law.specs.Quiet.{is_quiet, quiet_cell}
use Rattle.rule_law.specs.Rulebooks.{KeepsLaws, KeepsRuleLaws, KeepsTollLaws}
use Rattle.melody_rules.proofs.Quiet.{still_leaps, still_near_rows, still_tolls, still_window_rows}
use Rattle.melody_rules.specs.Rows.{broken_in, cost_in, looks_back, near_rows, open_leaps, toll_rows, window_rows, cost_enough, enough_after}
use Rattle.melody_rules.specs.Book.{book, rule_row, toll_row}
use Rattle.rule_law.specs.Law.{at_once_settles, local_from_row}
use Rattle.rule_law.specs.Places.{Row, IsLocal, IsUndisturbed, at_once, reading_of, settled_by}

-- both rows of a choice look at nothing ahead
looks_at_nothing_ahead : {R : Type 0} (b : Bool) (x y : Row R) → IsUndisturbed x at_once → IsUndisturbed y at_once
    → IsUndisturbed (if b then x else y) at_once
looks_at_nothing_ahead true x y f g = f
looks_at_nothing_ahead false x y f g = g

rule_local : (n : ℕ) (ex : Exercise) (voices : ℕ)
    → IsLocal ex (reading_of (broken_in n ex voices)) (settled_by (enough_after n ex voices))
rule_local n ex voices =
    local_from_row ex (broken_in n ex voices) at_once
    (looks_at_nothing_ahead (looks_back n) (window_rows n ex voices) (whole_of (near_rows n ex voices))
    (λ i behind now ahead t h. refl) (λ i behind now ahead t h. refl))

open_leaps_undisturbed : (ex : Exercise) → IsUndisturbed (open_leaps ex) at_once
unfolding open_leaps
open_leaps_undisturbed ex i behind now ahead t h = refl

toll_local : (n : ℕ) (ex : Exercise) → IsLocal ex (reading_of (cost_in n ex)) (settled_by (cost_enough n ex))
toll_local n ex =
    local_from_row ex (cost_in n ex) at_once
    (looks_at_nothing_ahead (n == 13) (open_leaps ex) (whole_of (toll_rows n ex)) (open_leaps_undisturbed ex)
    (λ i behind now ahead t h. refl))

rule_form : (n : ℕ) (ex : Exercise) (i : ℕ) (behind : List (List Cell)) (now : List Cell) (ahead : List (List Cell))
    → IsOf (voice_sets_of ex.voices) (λ voices. broken_in n ex voices i behind now ahead)
rule_form n ex i behind now ahead = at (looks_back n)
  where
    at : (b : Bool) → IsOf (voice_sets_of ex.voices)
        (λ voices. (if b then window_rows n ex voices else whole_of (near_rows n ex voices)) i behind now ahead)
    at true = voice_form ex _
    at false = voice_form ex _

rule_quiet : (n : ℕ) (ex : Exercise) (voices i : ℕ) (behind : List (List Cell)) (now : List Cell) → is_quiet i now
    ≡ true → broken_in n ex voices i behind now [] ≡ false
rule_quiet n ex voices i behind now h = at (looks_back n)
  where
    at : (b : Bool) → (if b then window_rows n ex voices else whole_of (near_rows n ex voices)) i behind now [] ≡ false
    at true = still_window_rows ex now (quiet_cell i now h) n voices i behind []
    at false = still_near_rows ex now (quiet_cell i now h) n voices i (newest_column behind) (previous_pitches behind)

toll_quiet : (n : ℕ) (ex : Exercise) (i : ℕ) (behind : List (List Cell)) (now : List Cell) → is_quiet i now ≡ true
    → cost_in n ex i behind now [] ≡ 0
toll_quiet n ex i behind now h = at (n == 13)
  where
    at : (b : Bool) → (if b then open_leaps ex else whole_of (toll_rows n ex)) i behind now [] ≡ 0
    at true = still_leaps ex now (quiet_cell i now h) i behind []
    at false = still_tolls ex now (quiet_cell i now h) n i (newest_column behind) (previous_pitches behind)

pub rules_keep : (n : ℕ) → KeepsRuleLaws (rule_row n)
rules_keep n = record {
  local = rule_local n;
  stays = λ ex voices i behind now ahead t h. refl;
  ends = λ ex voices. at_once_settles ex;
  form = rule_form n;
  stands = λ ex voices i behind now e. cc;
  at_once = λ e ex voices i behind now ahead. refl;
  quiet = λ e. rule_quiet n;
  places = λ e. cc;
  within = λ ex i. omega arith;
}

pub tolls_keep : (n : ℕ) → KeepsTollLaws (toll_row n)
tolls_keep n = record {
  local = toll_local n;
  stays = λ ex i behind now ahead t h. refl;
  ends = λ ex. at_once_settles ex;
  at_once = λ e ex i behind now ahead. refl;
  quiet = λ e. toll_quiet n;
  places = λ e. cc;
  within = λ ex i. omega arith;
}

pub keeps_laws : KeepsLaws book
keeps_laws = record { rules = λ n h. rules_keep n; tolls = λ n h. tolls_keep n }
