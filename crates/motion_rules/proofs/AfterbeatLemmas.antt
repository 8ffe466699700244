-- Where S18 may be broken (`within_a_bar`, `none_bare`, `elsewhere`), and that it is settled at its
-- own column (`newly_bare`).
use Rattle.std.specs.Prelude.{◌≡◌, ℕ, ◌==◌, Bool, true, false, ◌&&◌, ◌||◌, nat_le, List, [], ◌∷◌, ◌++◌, Option, Some, None, IsTrue, is_some, length, slice_index_or, if◌then◌else◌, refl}
use Rattle.std.proofs.Common.{ap, ◌∙◌}
use Rattle.std.specs.Option.{option_map_or}
use Rattle.std.proofs.lemmas.Bool.{and_right, or_parts}
use Rattle.fux_grid.specs.declared.cell.Cell.{Cell}
use Rattle.fux_grid.specs.declared.exercise.Exercise.{Exercise}
use Rattle.fux_grid.specs.Cells.{cell_in, pitch_of}
use Rattle.fux_grid.specs.Exercises.{is_mixed}
use Rattle.rule_law.proofs.AtOnce.{among_own, newly_breaks-there}
use Rattle.rule_law.specs.Bars.{bar_line_before, begins_bar}
use Rattle.rule_law.specs.Places.{reading_of}
use Rattle.rule_law.specs.Quiet.{on_pair-none}
use Rattle.rule_law.specs.Rulebooks.{IsAmong, RuleRow, newly_breaks}
use Rattle.motion_rules.specs.Afterbeats.{afterbeat_row, arrive_at_bar, arrive_in_parallel, goes_within_bars, is_bare_parallel, moves_within_bars, never_leaves, newest_cells, stays_since_bar}
use Rattle.motion_rules.specs.Book.{at_once_row, is_late, late_row, may_be_bare, rule_row}

-- within a bar S18 isn't broken
pub within_a_bar : (ex : Exercise) (voices i : ℕ) (behind : List (List Cell)) (now : List Cell)
    → begins_bar i ≡ false → afterbeat_row ex voices i behind now [] ≡ false
within_a_bar ex voices i behind now within =
    on_pair-none ex _ voices
    (λ v w. ap (λ b. (b && nat_le 8 i && arrive_in_parallel (bar_line_before behind) now v w)
    && (stays_since_bar ex behind v || stays_since_bar ex behind w)) within)

-- where species aren't mixed, no voice goes on within bars but in the species of the exercise
goes_only : (ex : Exercise) (v : ℕ) → (is_mixed ex || moves_within_bars ex.species) ≡ false
    → goes_within_bars ex v ≡ false
goes_only ex v h = at ex.mixed (v == ex.species_voice) h
  where
    at : (o : Option (List ℕ)) (b : Bool) → (is_some o || moves_within_bars ex.species) ≡ false
        → moves_within_bars (option_map_or (λ species. slice_index_or species v 1) o (if b then ex.species else 1)) ≡ false
    at None true none = none
    at None false none = refl
    at (Some species) b none = cc

-- two voices of which none goes on within bars don't break it
pub none_bare : (ex : Exercise) (i : ℕ) (behind : List (List Cell)) (now : List Cell) (v w : ℕ)
    → (goes_within_bars ex v || goes_within_bars ex w) ≡ false → is_bare_parallel ex i behind now v w ≡ false
none_bare ex i behind now v w none =
    let both = or_parts (goes_within_bars ex v) (goes_within_bars ex w) none in
    and_right (arrive_at_bar i (bar_line_before behind) now v w)
    (stays_since_bar ex behind v || stays_since_bar ex behind w)
    (ap (λ b. (b && never_leaves (pitch_of (cell_in (bar_line_before behind) v)) (newest_cells behind v))
    || stays_since_bar ex behind w) both.0
    ∙ ap (λ b. b && never_leaves (pitch_of (cell_in (bar_line_before behind) w)) (newest_cells behind w)) both.1)

-- where it may not be broken, no two voices break it
pub elsewhere : (ex : Exercise) (voices i : ℕ) (behind : List (List Cell)) (now : List Cell)
    → may_be_bare ex i ≡ false → afterbeat_row ex voices i behind now [] ≡ false
elsewhere ex voices i behind now none =
    on_pair-none ex _ voices
    (λ v w. at (is_mixed ex || moves_within_bars ex.species) (begins_bar i) (nat_le 8 i)
    (arrive_in_parallel (bar_line_before behind) now v w) (goes_within_bars ex v) (goes_within_bars ex w)
    (stays v) (stays w) none (goes_only ex v) (goes_only ex w))
  where
    stays : ℕ → Bool
    stays v = never_leaves (pitch_of (cell_in (bar_line_before behind) v)) (newest_cells behind v)

    at : (a b c y g h s t : Bool) → (a && b && c) ≡ false → (a ≡ false → g ≡ false) → (a ≡ false → h ≡ false)
        → ((b && c && y) && ((g && s) || (h && t))) ≡ false
    at false b c y g h s t e f k = rw (f refl, k refl) (and_right (b && c && y) false refl)
    at true true true y g h s t e f k = cc
    at true true false y g h s t e f k = refl
    at true false c y g h s t e f k = refl

-- at a place that the newest column may settle: it is the newest column, and what is newly settled
-- there is S18
module _ (rule : ℕ) (ex : Exercise) (voices : ℕ) (p : List (List Cell)) (col : List Cell) (place : ℕ) where
  abbrev IsBareAt : RuleRow → Type 0
  IsBareAt it =
      (place ≡ length p)
      × (newly_breaks it ex voices p col place ≡ reading_of (afterbeat_row ex voices) (p ++ col ∷ []) place)

  abbrev row : Bool → RuleRow
  row b = if b then late_row rule else at_once_row rule

  pub newly_bare : IsTrue (rule_row rule).late
      → IsAmong ((rule_row rule).first ex (length p)) ((rule_row rule).count ex (length p)) place
      → IsBareAt (rule_row rule)
  newly_bare = at (is_late rule)
    where
      at : (b : Bool) → IsTrue (row b).late → IsAmong ((row b).first ex (length p)) ((row b).count ex (length p)) place
          → IsBareAt (row b)
      at true h among =
          let own : place ≡ length p = among_own (may_be_bare ex (length p)) place (length p) among in
          (own, newly_breaks-there (late_row rule) ex voices (λ i behind now ahead. refl) p col place own)
      at false h among = cc
