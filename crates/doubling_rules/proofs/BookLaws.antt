-- S23 and the tolls Q3 to Q6 keep the laws of a crate's book.
use Rattle.std.specs.Prelude.{◌≡◌, ℕ, ◌==◌, Bool, true, false, ◌&&◌, nat_le, List, length, if◌then◌else◌, refl}
use Rattle.std.specs.Int.{from_bool}
use Rattle.std.proofs.Common.{ap}
use Rattle.fux_grid.specs.declared.cell.Cell.{Cell}
use Rattle.fux_grid.specs.declared.exercise.Exercise.{Exercise}
use Rattle.fux_grid.specs.Cells.{cell_in}
use Rattle.rule_law.proofs.AtOnce.{breaks_where_it_may, costs_where_it_may, own_within}
use Rattle.rule_law.specs.Bars.{begins_bar, begins_inner_bar}
use Rattle.rule_law.specs.Forms.{pair_form}
use Rattle.rule_law.specs.Pairs.{one_starts}
use Rattle.rule_law.specs.Quiet.{on_pair-none}
use Rattle.rule_law.specs.Rulebooks.{KeepsLaws, KeepsRuleLaws, KeepsTollLaws}
use Rattle.rule_law.specs.Terms.{sounds}
use Rattle.rule_law.specs.Voices.{on_pair}
use Rattle.doubling_rules.specs.Book.{book, may_cost, rule_row, toll_row}
use Rattle.doubling_rules.specs.Rows.{cost_of_column, count_thirds, double_leading, doubles_third, is_before_last_bar, lacks_third, sounds_leading, straying_notes, wide_pairs, broken_in, cost_enough, cost_in, enough_after}
use Rattle.rule_law.specs.Law.{at_once_settles, local_from_row}

-- in no bar but the one before the last is S23 broken
elsewhere : (ex : Exercise) (voices i : ℕ) (now : List Cell)
    → is_before_last_bar ex i ≡ false → on_pair ex (double_leading ex i now) voices ≡ false
elsewhere ex voices i now none =
    on_pair-none ex (double_leading ex i now) voices
    (λ v w. ap (λ b. b && sounds_leading ex now v && sounds_leading ex now w && one_starts now v w) none)

-- where a toll can't cost anything, it costs nothing
free : (n : ℕ) (ex : Exercise) (i : ℕ) (now : List Cell) → may_cost n ex i ≡ false
    → cost_of_column n ex i now ≡ 0
free n ex i now = at (n == 3) (n == 4) (n == 5)
  where
    at : (a b c : Bool)
        → (if a then nat_le 3 ex.voices && begins_inner_bar ex i
        else (if b then begins_bar i else (if c then nat_le 3 ex.voices && begins_bar i else true))) ≡ false
        → (if a then from_bool (lacks_third ex i now)
        else (if b then wide_pairs i now
        else (if c then from_bool (doubles_third ex i now) else straying_notes ex i now))) ≡ 0
    at true b c h = ap (λ t. from_bool (t && sounds (cell_in now 0) && (count_thirds now == 0))) h
    at false true c h = rw h refl
    at false false true h = ap (λ t. from_bool (t && nat_le 2 (count_thirds now))) h
    at false false false h = cc

pub rules_keep : (n : ℕ) → KeepsRuleLaws (rule_row n)
rules_keep n = record {
  local = λ ex voices. local_from_row ex (broken_in n ex voices) (enough_after n ex voices)
      (λ i behind now ahead t h. refl);
  stays = λ ex voices i behind now ahead t h. refl;
  ends = λ ex voices. at_once_settles ex;
  form = λ ex i behind now ahead. pair_form ex (double_leading ex i now);
  stands = λ ex voices i behind now e. cc;
  at_once = λ e. cc;
  quiet = λ e. cc;
  places = λ e ex voices p col i on h. breaks_where_it_may (rule_row n) ex voices (λ i behind now ahead. refl) p col
      (is_before_last_bar ex (length p)) (elsewhere ex voices (length p) col) i h;
  within = λ ex i. own_within (is_before_last_bar ex i) i;
}

pub tolls_keep : (n : ℕ) → KeepsTollLaws (toll_row n)
tolls_keep n = record {
  local = λ ex. local_from_row ex (cost_in n ex) (cost_enough n ex) (λ i behind now ahead t h. refl);
  stays = λ ex i behind now ahead t h. refl;
  ends = λ ex. at_once_settles ex;
  at_once = λ e. cc;
  quiet = λ e. cc;
  places = λ e ex p col i on h. costs_where_it_may (toll_row n) ex (λ i behind now ahead. refl) p col
      (may_cost n ex (length p)) (free n ex (length p) col) i h;
  within = λ ex i. own_within (may_cost n ex i) i;
}

pub keeps_laws : KeepsLaws book
keeps_laws = record { rules = λ n h. rules_keep n; tolls = λ n h. tolls_keep n }
