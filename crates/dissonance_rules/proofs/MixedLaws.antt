-- S27 waits for the notes that tell whether a start is excused. Once settled it reads the same in
-- each prefix that goes on (`excuse_is_local`).
use Rattle.std.specs.Prelude.{◌≡◌, ℕ, ◌+◌, ◌<◌, Bool, true, false, not, ◌&&◌, ◌||◌, nat_lt, List, [], ◌++◌, Option, Some, None, length, drop, slice_index_or, refl}
use Rattle.std.proofs.Common.{ap, sym, ◌∙◌}
use Rattle.std.proofs.lemmas.Bool.{and_from, not-true, or_parts}
use Rattle.fux_grid.specs.declared.cell.Cell.{Cell}
use Rattle.fux_grid.specs.declared.exercise.Exercise.{Exercise}
use Rattle.fux_grid.specs.Cells.{cell_in}
use Rattle.fux_grid.specs.Columns.{earlier}
use Rattle.fux_grid.specs.Exercises.{is_mixed}
use Rattle.rule_law.specs.Bars.{begins_bar}
use Rattle.rule_law.specs.Pairs.{one_starts}
use Rattle.rule_law.proofs.LateLaw.{StaysAhead, local_from_ahead}
use Rattle.rule_law.specs.Places.{IsLocal, reading_of, settled_by}
use Rattle.rule_law.specs.Prefixes.{GoesOn}
use Rattle.rule_law.specs.Terms.{clash, starts}
use Rattle.rule_law.specs.Voices.{holds_of_pair, is_free, pair_of}
use Rattle.rule_law.specs.Ways.{holds_some_way, on_some_way}
use Rattle.dissonance_rules.proofs.ClashLaws.{good_if_told}
use Rattle.dissonance_rules.specs.Clashes.{clash_row, excuse_rule, passing_enough}
use Rattle.dissonance_rules.proofs.EitherWay.{clash-turned}
use Rattle.dissonance_rules.specs.Mixed.{clash_unexcused, is_excused}
use Rattle.dissonance_rules.specs.Passing.{is_good_in, is_open_clash}

module _ (ex : Exercise) (p t : List (List Cell)) (i : ℕ) (on : GoesOn ex p t) (here : i < length p) where
  abbrev ahead : List (List Cell)
  ahead = drop (i + 1) p

  abbrev now : List Cell
  now = slice_index_or p i []

  -- where S15 isn't open for a way whose first voice is free
  abbrev IsTold : ℕ → ℕ → Type 0
  IsTold v w = is_free ex v ≡ true → is_open_clash ex i now ahead v w ≡ false

  -- a start that clashes is excused in a longer list as it was
  excused_same : (v w : ℕ) → IsTold v w → clash now v w ≡ true → is_excused ex i (earlier p i) now (ahead ++ t) v
      ≡ is_excused ex i (earlier p i) now ahead v
  excused_same v w told clashing = at (starts (cell_in now v)) (is_free ex v) refl refl
    where
      good : List (List Cell) → Bool
      good cols = is_good_in ex i (earlier p i) now cols v

      at : (s f : Bool) → starts (cell_in now v) ≡ s → is_free ex v ≡ f → (s && f && good (ahead ++ t))
          ≡ (s && f && good ahead)
      at false f d e = refl
      at true false d e = refl
      at true true d e =
          good_if_told ex p t i v w on here e (and_from (starts (cell_in now v)) (clash now v w) d clashing) (told e)

  -- so S27 is broken there as it was
  unexcused_same : (v w : ℕ) → IsTold v w → IsTold w v → clash_unexcused ex i (earlier p i) now (ahead ++ t) v w
      ≡ clash_unexcused ex i (earlier p i) now ahead v w
  unexcused_same v w told other = at (clash now v w) refl
    where
      excused : ℕ → List (List Cell) → Bool
      excused u cols = is_excused ex i (earlier p i) now cols u

      quiet : (m b s x y : Bool) → (m && (b && false && s) && x) ≡ (m && (b && false && s) && y)
      quiet true true s x y = refl
      quiet true false s x y = refl
      quiet false b s x y = refl

      at : (c : Bool) → clash now v w ≡ c
          → (is_mixed ex && (not (begins_bar i) && c && one_starts now v w)
          && not (excused v (ahead ++ t) || excused w (ahead ++ t)))
          ≡ (is_mixed ex && (not (begins_bar i) && c && one_starts now v w) && not (excused v ahead || excused w ahead))
      at false e = quiet (is_mixed ex) (not (begins_bar i)) (one_starts now v w) _ _
      at true e =
          ap (λ b. is_mixed ex && (not (begins_bar i) && true && one_starts now v w)
          && not (b || excused w (ahead ++ t))) (excused_same v w told e)
          ∙ ap (λ b. is_mixed ex && (not (begins_bar i) && true && one_starts now v w) && not (excused v ahead || b))
          (excused_same w v other (sym (clash-turned now v w) ∙ e))

  -- of the two voices of a set, where S15 is open for no way to name them
  pair_same : (pair : Option (ℕ × ℕ)) → holds_of_pair ex (holds_some_way ex (is_open_clash ex i now ahead)) pair
      ≡ false
      → holds_of_pair ex (clash_unexcused ex i (earlier p i) now (ahead ++ t)) pair
      ≡ holds_of_pair ex (clash_unexcused ex i (earlier p i) now ahead) pair
  pair_same None k = refl
  pair_same (Some pair) k = at (nat_lt pair.1 ex.voices) k
    where
      second : (a b : Bool) → (a && b) ≡ false → a ≡ true → b ≡ false
      second true b h e = h
      second false b h e = cc

      opens : ℕ → ℕ → Bool
      opens v w = is_open_clash ex i now ahead v w

      at : (there : Bool)
          → (there && ((is_free ex pair.0 && opens pair.0 pair.1) || (is_free ex pair.1 && opens pair.1 pair.0))) ≡ false
          → (there && clash_unexcused ex i (earlier p i) now (ahead ++ t) pair.0 pair.1)
          ≡ (there && clash_unexcused ex i (earlier p i) now ahead pair.0 pair.1)
      at false h = refl
      at true h =
          let parts = or_parts (is_free ex pair.0 && opens pair.0 pair.1) (is_free ex pair.1 && opens pair.1 pair.0) h
          in
          unexcused_same pair.0 pair.1
          (second (is_free ex pair.0) (opens pair.0 pair.1) parts.0)
          (second (is_free ex pair.1) (opens pair.1 pair.0) parts.1)

excuse_stays_ahead : (ex : Exercise) (voices : ℕ) → StaysAhead ex (clash_row excuse_rule ex voices) (passing_enough ex voices)
excuse_stays_ahead ex voices p t i on here h =
    pair_same ex p t i on here (pair_of voices)
    (not-true (on_some_way ex (is_open_clash ex i (slice_index_or p i []) (drop (i + 1) p)) voices) h)

pub excuse_is_local : (ex : Exercise) (voices : ℕ)
    → IsLocal ex (reading_of (clash_row excuse_rule ex voices)) (settled_by (passing_enough ex voices))
excuse_is_local ex voices =
    local_from_ahead ex (clash_row excuse_rule ex voices) (passing_enough ex voices) (excuse_stays_ahead ex voices)
