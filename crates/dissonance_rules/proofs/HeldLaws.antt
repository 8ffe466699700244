-- S19, S20, S21 and S28 are broken only where a free voice holds a note (`breaks-held`).
use Rattle.std.specs.Prelude.{◌≡◌, ℕ, zero, suc, ◌+◌, ◌-◌, ◌<◌, ◌≤◌, ◌==◌, Bool, true, false, not, ◌&&◌, ◌||◌, List, [], ◌∷◌, ◌++◌, drop, length, slice_index_or, if◌then◌else◌}
use Rattle.std.proofs.Common.{ap, sym, ◌∙◌, inl, inr, arith}
use Rattle.std.proofs.lemmas.Bool.{and_from, and_parts, both_ways, cases_lt, or_left, or_parts, or_right}
use Rattle.std.proofs.lemmas.List.{get_or_past}
use Rattle.fux_grid.specs.declared.cell.Cell.{Cell}
use Rattle.fux_grid.specs.declared.cell.Cell.TheVariants.{Rest}
use Rattle.fux_grid.specs.declared.exercise.Exercise.{Exercise}
use Rattle.fux_grid.specs.Cells.{cell_in, is_hold}
use Rattle.fux_grid.specs.Columns.{earlier, newest_column}
use Rattle.fux_grid.specs.Exercises.{is_mixed}
use Rattle.rule_law.specs.Bars.{begins_bar}
use Rattle.rule_law.specs.Growth.{newly}
use Rattle.rule_law.specs.Places.{reading_of, settled_by}
use Rattle.rule_law.specs.Prefixes.{GoesOn}
use Rattle.rule_law.specs.Rulebooks.{newly_breaks}
use Rattle.rule_law.specs.Sounding.{sounding_note, started_after}
use Rattle.rule_law.specs.Terms.{clash, is_clean}
use Rattle.rule_law.specs.Voices.{is_free, on_pair}
use Rattle.rule_law.specs.Ways.{holds_some_way, on_some_way}
use Rattle.dissonance_rules.specs.Book.{late_row}
use Rattle.dissonance_rules.specs.Clashes.{clash_enough, clash_row, clash_rule, is_told_later}
use Rattle.dissonance_rules.specs.Ligatures.{holds_free, is_bad_above, is_bad_below, is_bad_suspension, is_suspended, lacks_preparation, lacks_resolution, resolves, some_free_hold}
use Rattle.dissonance_rules.specs.Mixed.{clash_unexcused, is_disturbed, starts_in_three}
use Rattle.dissonance_rules.specs.Passing.{clashes_badly}
use Rattle.dissonance_rules.proofs.LatePlaces.{way_of}

-- what each choice but the first has, the choice has
chosen_has : (a b c d A B C D E S : Bool) → a ≡ false → (B ≡ true → S ≡ true) → (C ≡ true → S ≡ true)
    → (D ≡ true → S ≡ true) → (E ≡ true → S ≡ true)
    → (if a then A else (if b then B else (if c then C else (if d then D else E)))) ≡ true → S ≡ true
chosen_has true b c d A B C D E S e f g h k = cc
chosen_has false true c d A B C D E S e f g h k = f
chosen_has false false true d A B C D E S e f g h k = g
chosen_has false false false true A B C D E S e f g h k = h
chosen_has false false false false A B C D E S e f g h k = k

module _ (n : ℕ) (ex : Exercise) (i : ℕ) (behind : List (List Cell)) (now : List Cell) (ahead : List (List Cell)) where
  -- one way to name the voices breaks one of these rules where the first is suspended
  suspended_if : (v w : ℕ) → is_told_later n ≡ false → clash_rule n ex i behind now ahead v w ≡ true
      → is_suspended i now v w ≡ true
  suspended_if v w told =
      chosen_has (n == 15) (n == 19) (n == 20) (n == 28) (clashes_badly ex i behind now ahead v w)
      (lacks_preparation i behind now v w) (lacks_resolution i now ahead v w) (is_disturbed ex i now ahead v w)
      (is_bad_suspension i now v w) (is_suspended i now v w) (or_parts (n == 15) (n == 27) told).0
      (λ h. (and_parts (is_suspended i now v w)
      (started_after (i - 4) (sounding_note v (now ∷ behind)) || not (is_clean (newest_column behind) v)) h).0)
      (λ h. (and_parts (is_suspended i now v w)
      (not (resolves now (slice_index_or ahead 0 []) (slice_index_or ahead 3 []) v)) h).0)
      (λ h. (and_parts (is_mixed ex) (is_suspended i now v w) (and_parts (is_mixed ex && is_suspended i now v w)
      (starts_in_three (slice_index_or ahead 0 []) (slice_index_or ahead 1 []) (slice_index_or ahead 2 []) w) h).0).1)
      (λ h. (and_parts (is_suspended i now v w) (is_bad_above now v w || is_bad_below now v w) h).0)

  -- so is one for a set of voices
  some_way : (voices : ℕ) → is_told_later n ≡ false → clash_row n ex voices i behind now ahead ≡ true
      → on_some_way ex (clash_rule n ex i behind now ahead) voices ≡ true
  some_way voices told h =
      sym (ap (λ t. on_pair ex (λ v w. if t then clash_unexcused ex i behind now ahead v w
      else holds_some_way ex (clash_rule n ex i behind now ahead) v w) voices) (or_parts (n == 15) (n == 27) told).1)
      ∙ h

-- a voice that holds a note is one of the four
some_holds : (ex : Exercise) (now : List Cell) (v : ℕ) → v < 4 → is_free ex v ≡ true → is_hold (cell_in now v) ≡ true
    → some_free_hold ex now ≡ true
some_holds ex now = at
  where
    one : ℕ → Bool
    one = holds_free ex now

    at : (v : ℕ) → v < 4 → is_free ex v ≡ true → is_hold (cell_in now v) ≡ true → some_free_hold ex now ≡ true
    at zero small f g =
        or_left (one 0 || one 1 || one 2) (one 3)
        (or_left (one 0 || one 1) (one 2)
        (or_left (one 0) (one 1) (and_from (is_free ex 0) (is_hold (cell_in now 0)) f g)))
    at (suc zero) small f g =
        or_left (one 0 || one 1 || one 2) (one 3)
        (or_left (one 0 || one 1) (one 2)
        (or_right (one 0) (one 1) (and_from (is_free ex 1) (is_hold (cell_in now 1)) f g)))
    at (suc (suc zero)) small f g =
        or_left (one 0 || one 1 || one 2) (one 3)
        (or_right (one 0 || one 1) (one 2) (and_from (is_free ex 2) (is_hold (cell_in now 2)) f g))
    at (suc (suc (suc zero))) small f g =
        or_right (one 0 || one 1 || one 2) (one 3) (and_from (is_free ex 3) (is_hold (cell_in now 3)) f g)
    at (suc (suc (suc (suc v)))) small f g = absurd (omega (arith, small))

pub breaks-held : (n : ℕ) (ex : Exercise) (voices : ℕ) (p : List (List Cell)) (col : List Cell) (i : ℕ)
    → GoesOn ex p (col ∷ []) → ex.voices ≤ 4 → i < length (p ++ col ∷ []) → is_told_later n ≡ false
    → newly_breaks (late_row n) ex voices p col i ≡ true
    → some_free_hold ex (slice_index_or (p ++ col ∷ []) i []) ≡ true
breaks-held n ex voices p col i on few here told h =
    let broken = (and_parts (newly (settled_by (clash_enough n ex voices)) p col i)
    (reading_of (clash_row n ex voices) longer i) h).1 in
    let way = way_of ex (clash_rule n ex i (earlier longer i) now (drop (i + 1) longer)) voices
    (some_way n ex i (earlier longer i) now (drop (i + 1) longer) voices told broken) in
    let suspended = suspended_if n ex i (earlier longer i) now (drop (i + 1) longer) way.v way.w told way.passes in
    let held = (and_parts (begins_bar i) (is_hold (cell_in now way.v))
    (and_parts (begins_bar i && is_hold (cell_in now way.v)) (clash now way.v way.w) suspended).0).1 in
    some_holds ex now way.v (small way.v held) way.free held
  where
    longer : List (List Cell)
    longer = p ++ col ∷ []

    now : List Cell
    now = slice_index_or longer i []

    small : (v : ℕ) → is_hold (cell_in now v) ≡ true → v < 4
    small v held =
        elim (cases_lt v ex.voices) [
          | inl there ↦ omega (arith, there, few)
          | inr past ↦ absurd (both_ways (is_hold (cell_in now v))
              (ap is_hold (get_or_past now v Rest (omega (arith, (on.longer.menus i here).full, past)))) held)
        ]
