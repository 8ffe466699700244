-- The rules and tolls of rhythm and cadence keep the laws of a crate's book.
use Rattle.std.specs.Prelude.{◌≡◌, ℕ, ◌+◌, ◌-◌, ◌*◌, ◌/◌, ◌%◌, ◌<◌, ◌≤◌, ◌==◌, ◌&&◌, ◌||◌, Bool, true, false, not, nat_le, nat_lt, List, [], ◌∷◌, ◌++◌, drop, length, reverse, slice_index_or, if◌then◌else◌, refl}
use Rattle.std.specs.List.{list_any}
use Rattle.std.proofs.Common.{ap, sym, ◌∙◌, subst, arith}
use Rattle.std.proofs.lemmas.Bool.{and_from, and_parts, and_right, both_ways, eq-eqb, eqb-true, ne_eqb, or_from, or_parts, true_from_ne_false}
use Rattle.std.proofs.lemmas.Bool.Decides.{nat_tests}
use Rattle.std.proofs.lemmas.List.{length-append, length-drop}
use Rattle.fux_grid.specs.declared.cell.Cell.{Cell}
use Rattle.fux_grid.specs.declared.exercise.Exercise.{Exercise}
use Rattle.fux_grid.specs.Cells.{cell_in, pitch_of}
use Rattle.fux_grid.specs.Columns.{earlier, newest_column}
use Rattle.fux_grid.specs.Exercises.{columns_in, slot_of}
use Rattle.rule_law.proofs.AtOnce.{breaks_at_own_place, costs_at_own_place, costs_where_it_may, newly_breaks-at_once, own_within}
use Rattle.rule_law.specs.Bars.{begins_bar, begins_inner_bar}
use Rattle.rule_law.specs.Forms.{IsOf, all_form, may_stand, pair_form, set_of_all, sets_of, voice_form}
use Rattle.rule_law.specs.Growth.{newly}
use Rattle.rule_law.specs.Law.{at_once_settles, first_true, local_from_row}
use Rattle.rule_law.specs.Nearby.{previous_pitches, whole_of}
use Rattle.rule_law.specs.Places.{reading_of, settled_by}
use Rattle.rule_law.specs.Prefixes.{GoesOn}
use Rattle.rule_law.specs.Quiet.{is_quiet, on_free_voice-none, on_pair-none, on_voice-none}
use Rattle.rule_law.specs.Rulebooks.{IsAmong, KeepsLaws, KeepsRuleLaws, KeepsTollLaws, newly_breaks, newly_costs, no_toll, nothing_keeps}
use Rattle.rule_law.specs.Terms.{holds_of, interval_in}
use Rattle.rhythm_cadence.proofs.AllRules.{by_row, ligature_is_local, ligature_settles_at_end}
use Rattle.rhythm_cadence.specs.Book.{at_once_row, book, cadence_rule, inflection_row, is_late, is_late_toll, late_row, late_toll, ligature_row, pattern_row, quaver_rule, quavers_settled, rule_row, shape_rule, toll_row}
use Rattle.rhythm_cadence.specs.Cadence.{cadence_enough, cadence_row, lacks_cadence, shows_cadence}
use Rattle.rhythm_cadence.specs.Inflections.{inflection_toll}
use Rattle.rhythm_cadence.proofs.LateLaws.{pattern_enough_stays, pattern_is_local, pattern_needs, pattern_settles_at_end, quaver_enough_stays, quaver_is_local, quaver_settles_at_end}
use Rattle.rhythm_cadence.proofs.Locality.{rhythm_breaks, rhythm_is_local, rhythm_settles_at_end, rhythm_stays}
use Rattle.rhythm_cadence.specs.Parts.{newest_start}
use Rattle.rhythm_cadence.specs.Patterns.{pattern_enough, settles_pattern}
use Rattle.rhythm_cadence.specs.Quavers.{quaver_enough, quaver_row}
use Rattle.rhythm_cadence.proofs.Quiet.{none_missing, quiet_rows}
use Rattle.rhythm_cadence.specs.Rows.{begins_last_bar, broken_in, enough_after, fits_ending, holds_of_pitch, is_final, may_go_on, near_rows, open_row, shape_row}
use Rattle.rhythm_cadence.proofs.NewestBars.{newest_bar-more}
use Rattle.rhythm_cadence.proofs.OrderlyReadings.{newly_broken}

-- ---- the rules that are read at once

not_three : (n : ℕ) → is_late n ≡ false → (n == 3) ≡ false
not_three n e = (or_parts (n == 3) (n == 22) (or_parts ((n == 3) || (n == 22)) (n == 25) e).0).0

module _ (n : ℕ) (ex : Exercise) (other : (n == 3) ≡ false) where
  early_form : (i : ℕ) (behind : List (List Cell)) (now : List Cell) (ahead : List (List Cell))
      → IsOf (sets_of (at_once_row n).form ex.voices) (λ voices. broken_in n ex voices i behind now ahead)
  early_form i behind now ahead = at (n == 13) (n == 24) refl refl
    where
      at : (b c : Bool) → (n == 13) ≡ b → (n == 24) ≡ c
          → IsOf (sets_of (at_once_row n).form ex.voices) (λ voices. broken_in n ex voices i behind now ahead)
      at true c f g = rw (other, f) (pair_form ex _)
      at false true f g = rw (other, f, g) (voice_form ex _)
      at false false f g = rw (other, f, g) (voice_form ex _)

  settled_at_once : (voices i : ℕ) (behind : List (List Cell)) (now : List Cell) (ahead : List (List Cell))
      → enough_after n ex voices i behind now ahead ≡ true
  settled_at_once voices i behind now ahead = ap (λ b. not (b && open_row ex voices i behind now ahead)) other

  early_quiet : (voices i : ℕ) (behind : List (List Cell)) (now : List Cell) → is_quiet i now ≡ true
      → broken_in n ex voices i behind now [] ≡ false
  early_quiet voices i behind now h =
      ap (λ b. if b then shape_row ex voices i behind now [] else whole_of (near_rows n ex voices) i behind now [])
      other
      ∙ quiet_rows ex i now h n voices (newest_column behind) (previous_pitches behind)

  not_ending : (voices i : ℕ) (behind : List (List Cell)) (now : List Cell) → ((n == 13) || (n == 24)) ≡ true
      → begins_last_bar ex i ≡ false → broken_in n ex voices i behind now [] ≡ false
  not_ending voices i behind now h slot = at (n == 13) (n == 24) refl refl
    where
      at : (b c : Bool) → (n == 13) ≡ b → (n == 24) ≡ c → broken_in n ex voices i behind now [] ≡ false
      at true c f g =
          rw (other, f) (on_pair-none ex _ voices
          (λ v w. and_right (v == 0) _ (ap (λ b. b && not (holds_of (fits_ending ex) (interval_in now 0 w))) slot)))
      at false true f g =
          rw (other, f, g) (on_voice-none ex _ voices
          (λ v. and_right (v == 0) _ (ap (λ b. b && not (holds_of_pitch (is_final ex) (pitch_of (cell_in now 0))))
          slot)))
      at false false f g = absurd (both_ways ((n == 13) || (n == 24)) (or_from (n == 13) (n == 24) f g) h)

  early_stands : (voices i : ℕ) (behind : List (List Cell)) (now : List Cell)
      → may_stand (at_once_row n).stands ex i ≡ false → broken_in n ex voices i behind now [] ≡ false
  early_stands voices i behind now = at ((n == 13) || (n == 24)) refl
    where
      at : (a : Bool) → ((n == 13) || (n == 24)) ≡ a
          → may_stand (at_once_row n).stands ex i ≡ false → broken_in n ex voices i behind now [] ≡ false
      at true e = rw e (λ slot. not_ending voices i behind now e slot)
      at false e = rw e (λ slot. cc)

early_keep : (n : ℕ) → is_late n ≡ false → KeepsRuleLaws (at_once_row n)
early_keep n e = record {
  local = rhythm_is_local n;
  stays = rhythm_stays n;
  ends = rhythm_settles_at_end n;
  form = λ ex. early_form n ex (not_three n e);
  stands = λ ex. early_stands n ex (not_three n e);
  at_once = λ late ex. settled_at_once n ex (not_three n e);
  quiet = λ late ex. early_quiet n ex (not_three n e);
  places = λ late. cc;
  within = λ ex i. omega arith;
}

-- ---- S3

-- within a bar no bar's shape is left
within_bar : (ex : Exercise) (voices i : ℕ) (behind : List (List Cell)) (now : List Cell)
    → begins_bar i ≡ false → shape_row ex voices i behind now [] ≡ false
within_bar ex voices i behind now slot =
    on_free_voice-none ex _ voices (λ v. ap (λ b. b && not (may_go_on ex v i now [])) slot)

bar_start : {b : ℕ} (n : ℕ) → b ≡ n / 8 + 1 → 8 * (b - 1) ≡ 8 * (n / 8)
bar_start n h = omega (arith, h)

shape_places : (ex : Exercise) (voices : ℕ) (p : List (List Cell)) (col : List Cell) (i : ℕ) → GoesOn ex p (col ∷ [])
    → newly_breaks shape_rule ex voices p col i ≡ true → IsAmong (8 * (length p / 8)) 1 i
shape_places ex voices p col i on h =
    let own : (i == newest_start (p ++ col ∷ []))
    ≡ true = (and_parts (i == newest_start (p ++ col ∷ [])) (rhythm_breaks 3 ex voices (p ++ col ∷ []) i)
    (sym (newly_broken ex p col on.orderly voices i) ∙ h)).0 in
    let at : i ≡ 8 * (length p / 8) = eqb-true i (newest_start (p ++ col ∷ [])) own
    ∙ bar_start (length p) (newest_bar-more p col) in
    record { from = omega (arith, at); to = omega (arith, at) }

shape_keeps : KeepsRuleLaws shape_rule
shape_keeps = record {
  local = rhythm_is_local 3;
  stays = rhythm_stays 3;
  ends = rhythm_settles_at_end 3;
  form = λ ex i behind now ahead. voice_form ex _;
  stands = within_bar;
  at_once = λ late. cc;
  quiet = λ late. cc;
  places = λ late. shape_places;
  within = λ ex i. omega arith;
}

-- what a column settles of S3 at its place is the reading at the beginning of its bar
pub late_shapes : (ex : Exercise) (voices : ℕ) (p : List (List Cell)) (col : List Cell) (place : ℕ)
    → GoesOn ex p (col ∷ [])
    → IsAmong (8 * (length p / 8)) 1 place
    → newly_breaks shape_rule ex voices p col place
    ≡ rhythm_breaks 3 ex voices (p ++ col ∷ []) (newest_start (p ++ col ∷ []))
late_shapes ex voices p col place on among =
    let at : place ≡ newest_start (p ++ col ∷ []) = here (newest_bar-more p col) among.from among.to in
    newly_broken ex p col on.orderly voices place
    ∙ ap (λ b. b && rhythm_breaks 3 ex voices (p ++ col ∷ []) place) (eq-eqb place (newest_start (p ++ col ∷ [])) at)
    ∙ ap (rhythm_breaks 3 ex voices (p ++ col ∷ [])) at
  where
    here : {b : ℕ} → b ≡ length p / 8 + 1 → 8 * (length p / 8) ≤ place → place < 8 * (length p / 8) + 1 → place
        ≡ 8 * (b - 1)
    here h from to = omega (arith, h)

pub longer : (p : List (List Cell)) (col : List Cell) → 0 < length (p ++ col ∷ [])
longer p col = omega (arith, length-append p (col ∷ []))

-- ---- S22

-- it is broken where the last bar begins, and nowhere else
only_at_end : (ex : Exercise) (voices i : ℕ) (behind : List (List Cell)) (now : List Cell) (ahead : List (List Cell))
    → begins_last_bar ex i ≡ false → cadence_row ex voices i behind now ahead ≡ false
only_at_end ex voices i behind now ahead e =
    and_right (voices == set_of_all ex.voices) _
    (ap (λ b. b && not (list_any (λ v. nat_lt v ex.voices && shows_cadence ex i behind now v) (0 ∷ 1 ∷ 2 ∷ 3 ∷ []))) e)

at_end_alone : (ex : Exercise) (n i : ℕ) → begins_last_bar ex n ≡ true → IsAmong n 1 i
    → IsAmong n (if begins_last_bar ex n then 1 else 0) i
at_end_alone ex n i e among = rw e among

cadence_places : (ex : Exercise) (voices : ℕ) (p : List (List Cell)) (col : List Cell) (i : ℕ) → GoesOn ex p (col ∷ [])
    → newly_breaks cadence_rule ex voices p col i ≡ true
    → IsAmong (length p) (if begins_last_bar ex (length p) then 1 else 0) i
cadence_places ex voices p col i on h =
    let own : IsAmong (length p) 1 i = breaks_at_own_place cadence_rule ex voices (λ i behind now ahead. refl) p col i h
    in
    let same : i ≡ length p = omega (arith, own.from, own.to) in
    let P : ℕ → Type 0 = λ k. newly_breaks cadence_rule ex voices p col k ≡ true in
    let there : cadence_row ex voices (length p) (reverse p) col [] ≡ true =
    sym (newly_breaks-at_once cadence_rule ex voices (λ i behind now ahead. refl) p col) ∙ subst P same h in
    at_end_alone ex (length p) i (true_from_ne_false (begins_last_bar ex (length p)) (λ e.
    both_ways (cadence_row ex voices (length p) (reverse p) col [])
    (only_at_end ex voices (length p) (reverse p) col [] e) there)) own

cadence_keeps : KeepsRuleLaws cadence_rule
cadence_keeps = record {
  local = λ ex voices. local_from_row ex (cadence_row ex voices) (cadence_enough ex voices)
      (λ i behind now ahead t h. refl);
  stays = λ ex voices i behind now ahead t h. refl;
  ends = λ ex voices. at_once_settles ex;
  form = λ ex i behind now ahead. all_form ex (lacks_cadence ex i behind now);
  stands = λ ex voices i behind now e. only_at_end ex voices i behind now [] e;
  at_once = λ late. cc;
  quiet = λ late. cc;
  places = λ late. cadence_places;
  within = λ ex i. own_within (begins_last_bar ex i) i;
}

-- ---- S25

quavers_within : (columns i : ℕ) → (i - 1) + quavers_settled columns i ≤ i + 1
quavers_within columns i = at (i == 0) (nat_lt (i + 1) columns) refl
  where
    at : (a b : Bool) → (i == 0) ≡ a → (i - 1) + (if a then 0 else (if b then 1 else 2)) ≤ i + 1
    at true b e = omega arith
    at false true e = omega arith
    at false false e =
        let some : 0 < i = grind (arith, nat_tests, e) in
        omega (arith, some)

-- it is settled at a place by the columns after it alone
abbrev settled_among : ℕ → ℕ → ℕ → Bool
settled_among columns n i = nat_lt i n && (nat_lt (i + 1) n || nat_le columns n)

same_tests : (columns n i k : ℕ) → k ≡ n - (i + 1)
    → (nat_lt i n && (nat_lt 0 k || nat_le columns (i + 1 + k))) ≡ settled_among columns n i
same_tests columns n i k e = at (nat_lt i n) refl
  where
    at : (b : Bool) → nat_lt i n ≡ b
        → (b && (nat_lt 0 k || nat_le columns (i + 1 + k))) ≡ (b && (nat_lt (i + 1) n || nat_le columns n))
    at false h = refl
    at true h =
        let here : i < n = grind (arith, nat_tests, h) in
        let whole : i + 1 + k ≡ n = omega (arith, here, e) in
        let next : nat_lt 0 k ≡ nat_lt (i + 1) n = grind (arith, nat_tests, here, e) in
        ap (λ b. b || nat_le columns (i + 1 + k)) next ∙ ap (λ m. nat_lt (i + 1) n || nat_le columns m) whole

quaver_settled : (ex : Exercise) (voices i : ℕ) (s : List (List Cell))
    → settled_by (quaver_enough ex voices) s i ≡ settled_among (columns_in ex) (length s) i
quaver_settled ex voices i s = same_tests (columns_in ex) (length s) i (length (drop (i + 1) s)) (length-drop (i + 1) s)

quaver_newly : (ex : Exercise) (voices : ℕ) (p : List (List Cell)) (col : List Cell) (i : ℕ)
    → newly (settled_by (quaver_enough ex voices)) p col i
    ≡ (settled_among (columns_in ex) (length p + 1) i && not (settled_among (columns_in ex) (length p) i))
quaver_newly ex voices p col i =
    ap (λ b. b && not (settled_by (quaver_enough ex voices) p i))
    (quaver_settled ex voices i (p ++ col ∷ [])
    ∙ ap (λ n. settled_among (columns_in ex) n i) (length-append p (col ∷ [])))
    ∙ ap (λ b. settled_among (columns_in ex) (length p + 1) i && not b) (quaver_settled ex voices i p)

module _ (columns n i : ℕ) (room : n + 1 ≤ columns) (more : columns ≡ 1 → ⊥) where
  newly_among : (settled_among columns (n + 1) i && not (settled_among columns n i)) ≡ true
      → IsAmong (n - 1) (quavers_settled columns n) i
  newly_among h = record { from = grind (arith, nat_tests); to = grind (arith, nat_tests) }

  among_newly : IsAmong (n - 1) (quavers_settled columns n) i
      → (settled_among columns (n + 1) i && not (settled_among columns n i)) ≡ true
  among_newly h = grind (arith, nat_tests, h.from, h.to)

quaver_room : (ex : Exercise) (p : List (List Cell)) (col : List Cell) → GoesOn ex p (col ∷ [])
    → length p + 1 ≤ columns_in ex
quaver_room ex p col on = omega (arith, on.longer.few, length-append p (col ∷ []))

not_one : (bars : ℕ) → 8 * bars ≡ 1 → ⊥
not_one bars e = omega arith

quaver_places : (ex : Exercise) (voices : ℕ) (p : List (List Cell)) (col : List Cell) (i : ℕ) → GoesOn ex p (col ∷ [])
    → newly_breaks quaver_rule ex voices p col i ≡ true
    → IsAmong (length p - 1) (quavers_settled (columns_in ex) (length p)) i
quaver_places ex voices p col i on h =
    newly_among (columns_in ex) (length p) i (quaver_room ex p col on) (not_one ex.bars)
    (sym (quaver_newly ex voices p col i) ∙ first_true (newly (settled_by (quaver_enough ex voices)) p col i) _ h)

-- at its places a column settles it
pub quaver_newly-among : (ex : Exercise) (voices : ℕ) (p : List (List Cell)) (col : List Cell) (i : ℕ)
    → GoesOn ex p (col ∷ [])
    → IsAmong (length p - 1) (quavers_settled (columns_in ex) (length p)) i
    → newly_breaks quaver_rule ex voices p col i ≡ reading_of (quaver_row ex voices) (p ++ col ∷ []) i
quaver_newly-among ex voices p col i on among =
    ap (λ b. b && reading_of (quaver_row ex voices) (p ++ col ∷ []) i)
    (quaver_newly ex voices p col i ∙ among_newly (columns_in ex) (length p) i (quaver_room ex p col on)
    (not_one ex.bars) among)

-- such a place is the newest one or the one before it
pub quavers_bounds : (columns n i : ℕ) → IsAmong (n - 1) (quavers_settled columns n) i → (i ≤ n) × (n ≤ i + 1)
quavers_bounds columns n i among = (grind (arith, nat_tests, among.to), omega (arith, among.from))

quaver_keeps : KeepsRuleLaws quaver_rule
quaver_keeps = record {
  local = quaver_is_local;
  stays = quaver_enough_stays;
  ends = quaver_settles_at_end;
  form = λ ex i behind now ahead. voice_form ex _;
  stands = λ ex voices i behind now e. cc;
  at_once = λ late. cc;
  quiet = λ late. cc;
  places = λ late. quaver_places;
  within = λ ex. quavers_within (columns_in ex);
}

pub rules_keep : (n : ℕ) → KeepsRuleLaws (rule_row n)
rules_keep = by_row KeepsRuleLaws early_keep shape_keeps cadence_keeps quaver_keeps

-- the late rule that is neither S3 nor S22
pub quaver_row_of : (n : ℕ) → is_late n ≡ true → (n ≡ 3 → ⊥) → (n ≡ 22 → ⊥) → rule_row n ≡ quaver_rule
quaver_row_of n late a b = rw (late, ne_eqb n 3 a, ne_eqb n 22 b) refl

-- ---- Q15

ligature_places : (ex : Exercise) (p : List (List Cell)) (col : List Cell) (i : ℕ) → GoesOn ex p (col ∷ [])
    → 0 < newly_costs ligature_row ex p col i → IsAmong (length p) (ligature_row.count ex (length p)) i
ligature_places ex p col i on =
    costs_where_it_may ligature_row ex (λ i behind now ahead. refl) p col (begins_inner_bar ex (length p))
    (none_missing ex (length p) col) i

ligature_keeps : KeepsTollLaws ligature_row
ligature_keeps = record {
  local = ligature_is_local;
  stays = λ ex i behind now ahead t h. refl;
  ends = ligature_settles_at_end;
  at_once = λ late. cc;
  quiet = λ late. cc;
  places = λ late. ligature_places;
  within = λ ex i. own_within (begins_inner_bar ex i) i;
}

-- ---- Q16

pattern_within : (b : Bool) (i : ℕ) → (i - 7) + (if b then 1 else 0) ≤ i + 1
pattern_within true i = omega arith
pattern_within false i = omega arith

-- where a cost isn't 0, a test that it needs passes
due : (b : Bool) (cost : ℕ) → (b ≡ false → cost ≡ 0) → 0 < cost → b ≡ true
due true cost f h = refl
due false cost f h = absurd (omega (arith, f refl, h))

-- where a bar begins, the eighth column from there settles it
pattern_settled : (ex : Exercise) (s : List (List Cell)) (i : ℕ) → begins_bar i ≡ true
    → settled_by (pattern_enough ex) s i ≡ nat_lt (i + 7) (length s)
pattern_settled ex s i slot =
    ap (λ b. nat_lt i (length s) && (not b || nat_le 7 (length (drop (i + 1) s)))) slot
    ∙ ap (λ n. nat_lt i (length s) && nat_le 7 n) (length-drop (i + 1) s)
    ∙ within (length s)
  where
    within : (n : ℕ) → (nat_lt i n && nat_le 7 (n - (i + 1))) ≡ nat_lt (i + 7) n
    within n = grind (arith, nat_tests)

pub pattern_newly : (ex : Exercise) (p : List (List Cell)) (col : List Cell) (i : ℕ) → begins_bar i ≡ true
    → newly (settled_by (pattern_enough ex)) p col i
    ≡ (nat_lt (i + 7) (length p + 1) && not (nat_lt (i + 7) (length p)))
pattern_newly ex p col i slot =
    ap (λ b. b && not (settled_by (pattern_enough ex) p i))
    (pattern_settled ex (p ++ col ∷ []) i slot ∙ ap (nat_lt (i + 7)) (length-append p (col ∷ [])))
    ∙ ap (λ b. nat_lt (i + 7) (length p + 1) && not b) (pattern_settled ex p i slot)

-- a cost that is settled newly
cost_parts : (b : Bool) (cost : ℕ) → 0 < (if b then cost else 0) → (b ≡ true) × (0 < cost)
cost_parts true cost h = (refl, h)
cost_parts false cost h = absurd (omega (arith, h))

-- the last column of a bar settles it at the bar's first
bar_ends : (n i : ℕ) → (nat_lt (i + 7) (n + 1) && not (nat_lt (i + 7) n)) ≡ true → i + 7 ≡ n
bar_ends n i h = grind (arith, nat_tests)

settles_there : (n i : ℕ) → i + 7 ≡ n → begins_bar i ≡ true → nat_le 8 i ≡ true → settles_pattern n ≡ true
settles_there n i e slot later =
    let eight : 8 ≤ i = grind (arith, nat_tests, later) in
    let zero : i % 8 ≡ 0 = eqb-true (i % 8) 0 slot in
    let seven : n % 8 ≡ 7 = omega (arith, e, zero) in
    let fifteen : nat_le 15 n ≡ true = grind (arith, nat_tests, e, eight) in
    and_from (slot_of n == 7) (nat_le 15 n) (eq-eqb (slot_of n) 7 seven) fifteen

pattern_places : (ex : Exercise) (p : List (List Cell)) (col : List Cell) (i : ℕ) → GoesOn ex p (col ∷ [])
    → 0 < newly_costs pattern_row ex p col i → IsAmong (length p - 7) (pattern_row.count ex (length p)) i
pattern_places ex p col i on h =
    let both = cost_parts (newly (settled_by (pattern_enough ex)) p col i)
    (reading_of (pattern_row.cost ex) (p ++ col ∷ []) i) h in
    let needs : (begins_bar i && nat_le 8 i) ≡ true =
    due (begins_bar i && nat_le 8 i) (reading_of (pattern_row.cost ex) (p ++ col ∷ []) i)
    (λ e. pattern_needs ex i (earlier (p ++ col ∷ []) i) (slice_index_or (p ++ col ∷ []) i [])
    (drop (i + 1) (p ++ col ∷ [])) e) both.1 in
    let parts = and_parts (begins_bar i) (nat_le 8 i) needs in
    let at : i + 7 ≡ length p = bar_ends (length p) i (sym (pattern_newly ex p col i parts.0) ∙ both.0) in
    rw (settles_there (length p) i at parts.0 parts.1)
    (record { from = omega (arith, at); to = omega (arith, at) })

pattern_keeps : KeepsTollLaws pattern_row
pattern_keeps = record {
  local = pattern_is_local;
  stays = pattern_enough_stays;
  ends = pattern_settles_at_end;
  at_once = λ late. cc;
  quiet = λ late. cc;
  places = λ late. pattern_places;
  within = λ ex i. pattern_within (settles_pattern i) i;
}

-- ---- Q21

inflection_keeps : KeepsTollLaws inflection_row
unfolding inflection_toll
inflection_keeps = record {
  local = λ ex. local_from_row ex (inflection_toll ex) (λ i behind now ahead. true) (λ i behind now ahead t h. refl);
  stays = λ ex i behind now ahead t h. refl;
  ends = λ ex. at_once_settles ex;
  at_once = λ late. cc;
  quiet = λ late. cc;
  places = λ late ex p col i on. costs_at_own_place inflection_row ex (λ i behind now ahead. refl) p col i;
  within = λ ex i. omega arith;
}

-- the toll that is neither Q15 nor Q21
pub pattern_row_of : (n : ℕ) → is_late_toll n ≡ true → (n ≡ 15 → ⊥) → (n ≡ 21 → ⊥) → toll_row n ≡ pattern_row
pattern_row_of n late a b = rw (late, ne_eqb n 15 a, ne_eqb n 21 b) refl

pub tolls_keep : (n : ℕ) → KeepsTollLaws (toll_row n)
tolls_keep n = at (is_late_toll n) (n == 15) (n == 21)
  where
    at : (a b c : Bool) → KeepsTollLaws (if a
        then (if b then ligature_row else (if c then inflection_row else pattern_row))
        else no_toll)
    at true true c = ligature_keeps
    at true false true = inflection_keeps
    at true false false = pattern_keeps
    at false b c = nothing_keeps.tolls n

pub keeps_laws : KeepsLaws book
keeps_laws = record { rules = λ n h. rules_keep n; tolls = λ n h. tolls_keep n }

-- a rule or a toll whose row is late is one of the late ones
pub late_by_row : (n : ℕ) → (rule_row n).late ≡ true → is_late n ≡ true
late_by_row n = at (is_late n)
  where
    at : (b : Bool) → (if b then late_row n else at_once_row n).late ≡ true → b ≡ true
    at true h = refl
    at false h = h

pub late_toll_by_row : (n : ℕ) → (toll_row n).late ≡ true → is_late_toll n ≡ true
late_toll_by_row n = at (is_late_toll n)
  where
    at : (b : Bool) → (if b then late_toll n else no_toll).late ≡ true → b ≡ true
    at true h = refl
    at false h = h
