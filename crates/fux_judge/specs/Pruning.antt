-- How a few voices make a column dead, or cost too much, whatever cells the others have.
use Rattle.std.specs.Prelude.{◌≡◌, nat_lt, ◌||◌, ◌<◌, ◌≤◌, ◌⊎◌, ℕ, ◌==◌, Bool, true, false, ◌&&◌, List, [], ◌∷◌, IsSomeAnd, IsTrue, Option, length, reverse, take}
use Rattle.std.specs.List.{list_any}
use Rattle.fux_grid.specs.declared.cell.Cell.{Cell}
use Rattle.fux_grid.specs.declared.exercise.Exercise.{Exercise}
use Rattle.fux_grid.specs.Columns.{Columns, newest_column}
use Rattle.fux_grid.specs.Menus.{IsInMenu}
use Rattle.rule_law.specs.Voices.{is_below}
use Rattle.melody_rules.specs.Smooth.{is_rough_at}
use Rattle.motion_rules.specs.Rows.{move_in_parallel, outer_move_into_perfect}
use Rattle.penalty_sheet.specs.declared.sheet.Sheet.{Sheet}
use Rattle.fux_judge.specs.declared.moment.Moment.{Moment}
use Rattle.fux_judge.specs.declared.state.State.{State}
use Rattle.fux_judge.specs.Always.{IsSound}
use Rattle.fux_judge.specs.Penalties.{newly_paid, settles_break}
use Rattle.fux_judge.specs.Moments.{IsAfter}
use Rattle.fux_judge.specs.States.{IsStateOf}

-- the rules that read the cells of their own voices, and whether a lower one sounds: all but S1 to
-- S3, and S12, which reads the cantus
abbrev pub rules_below : List ℕ
rules_below = 4 ∷ 5 ∷ 6 ∷ 7 ∷ 8 ∷ 9 ∷ 10 ∷ 11 ∷ 13 ∷ 14 ∷ 16 ∷ 17 ∷ 24 ∷ 26 ∷ []

abbrev pub reads_below : ℕ → Bool
reads_below rule = list_any (λ other. rule == other) rules_below

-- the sets of one voice or two
abbrev pub sets_below : List ℕ
sets_below = 1 ∷ 2 ∷ 4 ∷ 8 ∷ 3 ∷ 5 ∷ 6 ∷ 9 ∷ 10 ∷ 12 ∷ []

-- the set is one of these, and its voices are among the first ones
abbrev pub is_set_below : ℕ → ℕ → Bool
is_set_below n voices = list_any (λ other. voices == other) sets_below && is_below n voices

-- after the prefix each column with the same cells in the first voices settles a strict break
abbrev pub AllBreak : ℕ → Exercise → List (List Cell) → List Cell → Type 0
AllBreak n ex p col = (other : List Cell) → take n other ≡ take n col → settles_break ex p other ≡ true

-- after whatever prefix the state is of
abbrev pub IsDeadWithin : ℕ → Exercise → State → List Cell → Type 0
IsDeadWithin n ex state col = (p : Columns) → IsStateOf ex p state → AllBreak n ex p col

-- and by a set of voices, among however many first ones it is
abbrev pub IsDeadBy : ℕ → Exercise → State → List Cell → Type 0
IsDeadBy voices ex state col = (n : ℕ) → IsTrue (is_set_below n voices) → IsDeadWithin n ex state col

-- after the prefix the column settles a strict break, or costs no less than a limit, where there is
-- one
abbrev pub IsPruned : Exercise → Sheet → List (List Cell) → Option ℕ → List Cell → Type 0
IsPruned ex sheet p limit col =
    (settles_break ex p col ≡ true) ⊎ IsSomeAnd limit (λ cost. cost ≤ newly_paid ex sheet p col)

-- after whatever prefix the state is of, each full column with the same cells in the first voices
-- does so or costs so much
abbrev pub PrunesWithin : ℕ → Exercise → Sheet → State → Option ℕ → List Cell → Type 0
PrunesWithin n ex sheet state limit col =
    (p : Columns) → IsStateOf ex p state → (other : List Cell) → length other ≡ ex.voices → take n other ≡ take n col
    → IsPruned ex sheet p limit other

-- a voice breaks S16 or S17 with a lower one, if the exercise has it
abbrev pub move_unfairly : Exercise → List Cell → List Cell → ℕ → ℕ → Bool
move_unfairly ex before col lower voice =
    nat_lt voice ex.voices
    && (move_in_parallel before col lower voice || outer_move_into_perfect ex before col lower voice)

-- a voice of a column keeps the rules of melody, and with each lower one S16 and S17
pub record IsFairVoice (ex : Exercise) (p : List (List Cell)) (col : List Cell) (voice : ℕ) : Type 0 where
  pub melody : is_rough_at ex (reverse p) col voice ≡ false
  pub motion : (lower : ℕ) → lower < voice → move_unfairly ex (newest_column (reverse p)) col lower voice ≡ false

-- where nothing is relaxed, it keeps the latter with a lower one, after whatever prefix the state
-- is of
abbrev pub IsFairPair : ℕ → ℕ → Exercise → State → List Cell → Type 0
IsFairPair lower voice ex state col =
    ex.relax ≡ [] → (p : Columns) → IsStateOf ex p state
    → move_unfairly ex (newest_column (reverse p)) col lower voice ≡ false

-- so it keeps the rules of melody
abbrev pub IsSmooth : ℕ → Exercise → State → List Cell → Type 0
IsSmooth v ex state col =
    ex.relax ≡ [] → (p : Columns) → IsStateOf ex p state → is_rough_at ex (reverse p) col v ≡ false

-- and all of them
abbrev pub IsFair : ℕ → Exercise → State → List Cell → Type 0
IsFair v ex state col = ex.relax ≡ [] → (p : Columns) → IsStateOf ex p state → IsFairVoice ex p col v

-- where nothing is relaxed, the first voices of a column do, after whatever prefix the state is of
abbrev pub IsFairWithin : ℕ → Exercise → State → List Cell → Type 0
IsFairWithin n ex state col =
    ex.relax ≡ [] → (p : Columns) → IsStateOf ex p state → (v : ℕ) → v < n → IsFairVoice ex p col v

-- what is told of a column behind a state: where nothing is relaxed its voices are fair, and it is
-- sound
pub record IsToldColumn (ex : Exercise) (state : State) (col : List Cell) : Type 0 where
  pub fair : IsFairWithin 4 ex state col
  pub sound : IsSound ex state.newest.len col

-- where nothing is relaxed, a voice of a moment's column is fair, after each prefix that the moment
-- may come after
abbrev pub IsFairAt : ℕ → Moment → Type 0
IsFairAt v m =
    m.exercise.now.relax ≡ [] → (p : List (List Cell)) → IsAfter p m → IsFairVoice m.exercise.now p m.column.now v

-- the same is told at the moment of a column of the menu
pub record IsToldAt (m : Moment) : Type 0 where
  pub fair : (v : ℕ) → v < 4 → IsFairAt v m
  pub sound : IsSound m.exercise.now m.state.now.newest.len m.column.now
  pub menu : IsInMenu m.exercise.now m.state.now.newest.len m.column.now
