-- What is told of voices that keep the rules of melody, and S16 and S17 with lower ones.
use Rattle.std.proofs.Common.{◌≡◌, ℕ, ◌+◌, ◌<◌, ◌≤◌, ◌&&◌, ◌||◌, Bool, true, false, ⊎_elim, Option, Some, None, List, [], length, reverse, refl, ap, sym, ◌∙◌, subst, true≢false, arith}
use Rattle.std.specs.Prelude.{nat_lt, pos}
use Rattle.std.proofs.lemmas.Bool.{and_parts, and_right, cases_lt}
use Rattle.std.proofs.lemmas.Bool.Decides.{Decides-int_eq}
use Rattle.std.specs.Ordering.{int_eq}
use Rattle.fux_pitch.specs.declared.interval.Interval.{Interval}
use Rattle.fux_pitch.specs.Size.{is_perfect_size, reduced}
use Rattle.fux_grid.specs.declared.cell.Cell.{Cell}
use Rattle.fux_grid.specs.declared.exercise.Exercise.{Exercise}
use Rattle.fux_grid.specs.Cells.{cell_in}
use Rattle.fux_grid.specs.Columns.{newest_column}
use Rattle.fux_grid.specs.Menus.{IsInMenu}
use Rattle.rule_law.specs.Pairs.{both_move, move_alike, some_pair, sound_perfect}
use Rattle.rule_law.specs.Quiet.{is_quiet, quiet_cell}
use Rattle.rule_law.specs.Terms.{equal_perfects, holds_of, interval_in, moves, same_size, starts}
use Rattle.rule_law.specs.Voices.{holds_of_pair, pair_of, voice_pairs}
use Rattle.motion_rules.specs.Rows.{are_outer, move_in_parallel, outer_move_into_perfect}
use Rattle.fux_judge.specs.declared.moment.Moment.{Moment}
use Rattle.fux_judge.specs.declared.state.State.{State}
use Rattle.fux_judge.specs.Moments.{IsAfter, is_broken_then, is_strict_break_then}
use Rattle.fux_judge.specs.Penalties.{is_strict_at}
use Rattle.fux_judge.specs.Always.{IsSound}
use Rattle.fux_judge.specs.Pruning.{IsFair, IsFairAt, IsFairVoice, IsFairWithin, IsToldAt, IsToldColumn, move_unfairly}
use Rattle.fux_judge.specs.States.{IsStateOf}
use Rattle.fux_judge.proofs.MomentLemmas.{motion_then}
use Rattle.fux_judge.proofs.PruningLemmas.{settled_at_once}
use Rattle.fux_judge.proofs.SmoothLemmas.{absent_smooth, neither, not_below, still_voice}

-- ---- two voices

two_tests : (t a b : Bool) → (t && a) ≡ false → (t && b) ≡ false → (t && (a || b)) ≡ false
two_tests true a b h k = neither a b h k
two_tests false a b h k = refl

module _ (ex : Exercise) (before now : List Cell) (v w : ℕ) where
  fair_by : move_in_parallel before now v w ≡ false → outer_move_into_perfect ex before now v w ≡ false
      → move_unfairly ex before now v w ≡ false
  fair_by h k = and_right (nat_lt w ex.voices) (move_in_parallel before now v w || outer_move_into_perfect ex before now v w)
      (neither (move_in_parallel before now v w) (outer_move_into_perfect ex before now v w) h k)

  -- two voices that don't both move
  unmoved : both_move before now v w ≡ false → move_unfairly ex before now v w ≡ false
  unmoved h = fair_by (first_fails (both_move before now v w) _ h)
      (and_right (are_outer ex v w) _ (first_fails (move_alike before now v w) (sound_perfect now v w)
      (first_fails (both_move before now v w) _ h)))
    where
      first_fails : (a b : Bool) → a ≡ false → (a && b) ≡ false
      first_fails a b e = ap (λ t. t && b) e

  pub lower_still : starts (cell_in now v) ≡ false → move_unfairly ex before now v w ≡ false
  lower_still h = unmoved (rw h refl)

  pub upper_still : starts (cell_in now w) ≡ false → move_unfairly ex before now v w ≡ false
  upper_still h = unmoved (and_right (moves (cell_in before v) (cell_in now v)) (moves (cell_in before w) (cell_in now w))
      (rw h refl))

  -- two voices in no perfect interval
  pub imperfect : sound_perfect now v w ≡ false → move_unfairly ex before now v w ≡ false
  imperfect h = fair_by
      (and_right (both_move before now v w) _ (unequal (interval_in before v w) (interval_in now v w) h))
      (and_right (are_outer ex v w) _ (and_right (move_alike before now v w) (sound_perfect now v w) h))
    where
      sized : (i j : Interval) → is_perfect_size i ≡ true → same_size (reduced i) (reduced j) ≡ true
          → is_perfect_size j ≡ true
      sized i j perfect same =
          let parts = and_parts (int_eq (reduced i).degrees (reduced j).degrees)
          (int_eq (reduced i).semitones (reduced j).semitones) same in
          let degrees = (Decides-int_eq (reduced i).degrees (reduced j).degrees).0 parts.0 in
          let semitones = (Decides-int_eq (reduced i).semitones (reduced j).semitones).0 parts.1 in
          ap (λ d. (int_eq d (pos 0) && int_eq (reduced j).semitones (pos 0))
          || (int_eq d (pos 4) && int_eq (reduced j).semitones (pos 7))) (sym degrees)
          ∙ ap (λ s. (int_eq (reduced i).degrees (pos 0) && int_eq s (pos 0))
          || (int_eq (reduced i).degrees (pos 4) && int_eq s (pos 7))) (sym semitones)
          ∙ perfect

      at : (i j : Interval) (b : Bool) → (is_perfect_size i && same_size (reduced i) (reduced j)) ≡ b
          → is_perfect_size j ≡ false → b ≡ false
      at i j false e k = refl
      at i j true e k =
          let parts = and_parts (is_perfect_size i) (same_size (reduced i) (reduced j)) e in
          absurd (true≢false (sym (sized i j parts.0 parts.1) ∙ k))

      unequal : (i j : Option Interval) → holds_of is_perfect_size j ≡ false → equal_perfects i j ≡ false
      unequal None j k = refl
      unequal (Some i) None k = refl
      unequal (Some i) (Some j) k = at i j (is_perfect_size i && same_size (reduced i) (reduced j)) refl k

  -- a voice that isn't there
  pub upper_absent : nat_lt w ex.voices ≡ false → move_unfairly ex before now v w ≡ false
  upper_absent h = ap (λ b. b && (move_in_parallel before now v w || outer_move_into_perfect ex before now v w)) h

-- two voices that break neither strictly, where nothing is relaxed
module _ (p : List (List Cell)) (m : Moment) (nothing : m.exercise.now.relax ≡ []) (voices v w : ℕ)
    (both : pair_of voices ≡ Some (v, w)) where
  unbroken : (rule : ℕ) → is_strict_at rule m.exercise.now voices (length p) ≡ true
      → is_strict_break_then rule voices p m ≡ false → is_broken_then rule voices p m ≡ false
  unbroken rule strict h = at (is_broken_then rule voices p m) (is_strict_at rule m.exercise.now voices (length p)) strict h
    where
      at : (a b : Bool) → b ≡ true → (a && b) ≡ false → a ≡ false
      at true true e k = k
      at true false e k = cc
      at false b e k = refl

  pub fair_pair : is_strict_break_then 16 voices p m ≡ false → is_strict_break_then 17 voices p m ≡ false
      → move_unfairly m.exercise.now (newest_column (reverse p)) m.column.now v w ≡ false
  fair_pair h k =
      let before : List Cell = newest_column (reverse p) in
      let ex : Exercise = m.exercise.now in
      let parallel : holds_of_pair ex (move_in_parallel before m.column.now) (pair_of voices) ≡ false =
      motion_then 16 voices p m (settled_at_once 16 refl) refl ∙ unbroken 16 (rw nothing refl) h in
      let outer : holds_of_pair ex (outer_move_into_perfect ex before m.column.now) (pair_of voices) ≡ false =
      motion_then 17 voices p m (settled_at_once 17 refl) refl ∙ unbroken 17 (rw nothing refl) k in
      two_tests (nat_lt w ex.voices) (move_in_parallel before m.column.now v w)
      (outer_move_into_perfect ex before m.column.now v w)
      (subst (λ (o : Option (ℕ × ℕ)). holds_of_pair ex (move_in_parallel before m.column.now) o ≡ false) both parallel)
      (subst (λ (o : Option (ℕ × ℕ)). holds_of_pair ex (outer_move_into_perfect ex before m.column.now) o ≡ false) both
      outer)

-- a column none of whose voices moves unfairly with a lower one
pub none_unfair : (ex : Exercise) (before now : List Cell)
    → ((v w : ℕ) → v < w → w < 4 → move_unfairly ex before now v w ≡ false)
    → some_pair (move_unfairly ex before now) ≡ false
unfolding voice_pairs
none_unfair ex before now fair =
    neither _ _ (fair 0 1 (omega arith) (omega arith))
    (neither _ _ (fair 0 2 (omega arith) (omega arith))
    (neither _ _ (fair 0 3 (omega arith) (omega arith))
    (neither _ _ (fair 1 2 (omega arith) (omega arith))
    (neither _ _ (fair 1 3 (omega arith) (omega arith))
    (neither _ false (fair 2 3 (omega arith) (omega arith)) refl)))))

-- ---- voices of a column

-- a voice in which no note starts
pub still_fair : (ex : Exercise) (p : List (List Cell)) (col : List Cell) (v : ℕ) → starts (cell_in col v) ≡ false
    → IsFairVoice ex p col v
still_fair ex p col v h = record {
  melody = still_voice ex (reverse p) col v h;
  motion = λ lower lt. upper_still ex (newest_column (reverse p)) col lower v h;
}

pub absent_fair : (ex : Exercise) (p : List (List Cell)) (col : List Cell) (v : ℕ) → ex.voices ≤ v
    → IsFairVoice ex p col v
absent_fair ex p col v le = record {
  melody = absent_smooth ex (reverse p) col v (not_below v ex.voices le);
  motion = λ lower lt. upper_absent ex (newest_column (reverse p)) col lower v (not_below v ex.voices le);
}

pub quiet_fair : (n i : ℕ) (ex : Exercise) (state : State) (col : List Cell) → is_quiet i col ≡ true
    → IsFairWithin n ex state col
quiet_fair n i ex state col h = λ nothing p is v lt. still_fair ex p col v (quiet_cell i col h v)

-- where all that are there do, four do
pub all_fair : (ex : Exercise) (state : State) (col : List Cell) (n : ℕ) → n ≡ ex.voices
    → IsFairWithin n ex state col → IsFairWithin 4 ex state col
all_fair ex state col n e told = λ nothing p is v lt.
    ⊎_elim (λ less. told nothing p is v less) (λ more. absent_fair ex p col v (omega (arith, more, e))) (cases_lt v n)

module _ (ex : Exercise) (state : State) (col : List Cell) (m : Moment) (of : m.exercise.now ≡ ex)
    (its : m.state.now ≡ state) (same : m.column.now ≡ col) where
  known : (p : List (List Cell)) → IsAfter p m → IsStateOf ex p state
  known p after =
      subst (λ s. IsStateOf ex p s) its (subst (λ e. IsStateOf e p m.state.now) of after.state)

  -- what is told of a state and a column holds at the moment
  pub fair_then : IsFairWithin 4 ex state col → (v : ℕ) → v < 4 → IsFairAt v m
  fair_then told v lt = λ nothing p after.
      subst (λ c. IsFairVoice m.exercise.now p c v) (sym same)
      (subst (λ e. IsFairVoice e p col v) (sym of)
      (told (ap (λ (e : Exercise). e.relax) (sym of) ∙ nothing) p (known p after) v lt))

  pub told_then : IsToldColumn ex state col → IsInMenu ex state.newest.len col → IsToldAt m
  told_then told menu = record {
    fair = fair_then told.fair;
    sound = moved IsSound told.sound;
    menu = moved IsInMenu menu;
  }
    where
      moved : (P : Exercise → ℕ → List Cell → Type 0) → P ex state.newest.len col
          → P m.exercise.now m.state.now.newest.len m.column.now
      moved P h =
          subst (λ e. P e m.state.now.newest.len m.column.now) (sym of)
          (subst (λ (s : State). P ex s.newest.len m.column.now) (sym its)
          (subst (λ c. P ex state.newest.len c) (sym same) h))

-- what two voices of a moment do, they do in its exercise and its column
pub pair_here : (ex : Exercise) (col : List Cell) (m : Moment) → m.exercise.now ≡ ex → m.column.now ≡ col
    → (p : List (List Cell)) (v w : ℕ)
    → move_unfairly m.exercise.now (newest_column (reverse p)) m.column.now v w ≡ false
    → move_unfairly ex (newest_column (reverse p)) col v w ≡ false
pair_here ex col m of same p v w fair =
    subst (λ (d : List Cell). move_unfairly ex (newest_column (reverse p)) d v w ≡ false) same
    (subst (λ (e : Exercise). move_unfairly e (newest_column (reverse p)) m.column.now v w ≡ false) of fair)

-- one voice more, which was tried before or is fair
pub fair_more : (ex : Exercise) (state : State) (col : List Cell) (voice tried : ℕ) → IsFairWithin tried ex state col
    → IsFairWithin voice ex state col → (tried ≤ voice → IsFair voice ex state col)
    → IsFairWithin (voice + 1) ex state col
fair_more ex state col voice tried told old own = λ nothing p is v lt.
    ⊎_elim (λ less. old nothing p is v less)
    (λ more.
    let here : v ≡ voice = omega (arith, lt, more) in
    subst (λ (w : ℕ). IsFairVoice ex p col w) (sym here)
    (⊎_elim (λ less. told nothing p is voice less) (λ le. own le nothing p is) (cases_lt voice tried)))
    (cases_lt v voice)
