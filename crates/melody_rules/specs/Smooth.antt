-- All rules of melody at once.
use Rattle.std.specs.Prelude.{◌≡◌, ℕ, ◌==◌, Bool, false, ◌&&◌, ◌||◌, nat_lt, List, [], ◌∷◌, map, Option, refl}
use Rattle.std.specs.List.{list_any}
use Rattle.std.proofs.Common.{ap, ◌∙◌}
use Rattle.std.proofs.lemmas.Bool.{or_parts}
use Rattle.fux_pitch.specs.declared.pitch.Pitch.{Pitch}
use Rattle.fux_grid.specs.declared.cell.Cell.{Cell}
use Rattle.fux_grid.specs.declared.cell.Note.{Note}
use Rattle.fux_grid.specs.declared.exercise.Exercise.{Exercise}
use Rattle.fux_grid.specs.Cells.{cell_in, first_of, notes_from}
use Rattle.fux_grid.specs.Columns.{line}
use Rattle.fux_grid.specs.Exercises.{species_in}
use Rattle.rule_law.specs.Nearby.{previous_pitches, pitch_at}
use Rattle.rule_law.specs.Quiet.{either_none, on_free_voice-kept}
use Rattle.rule_law.specs.Terms.{note_pitch}
use Rattle.rule_law.specs.Voices.{is_free}
use Rattle.melody_rules.specs.Rows.{before_last, goes_on_after_leap, last_of, latest_turning, leaves_sharp, moves_unmelodically, near_rows, outlines_badly, pitches, repeats, turns_at_tritone, voice_rule, widens, window_rows, window_rule}

-- S4, S5 or S26 is broken
abbrev pub is_rough_move : ℕ → Option Pitch → Cell → Bool
is_rough_move species previous now =
    moves_unmelodically previous now || (repeats species previous now || leaves_sharp previous now)

-- S6, S7, S8 or S9 is broken, after notes of these pitches
abbrev pub is_rough_line : List Pitch → Cell → Bool
is_rough_line ps now =
    outlines_badly (before_last ps) (last_of ps) now
    || (goes_on_after_leap (before_last ps) (last_of ps) now
    || (turns_at_tritone (latest_turning ps) (before_last ps) (last_of ps) now
    || widens ps now))

-- a rule of melody is broken, after notes of these pitches
abbrev pub is_rough : ℕ → List Pitch → Cell → Bool
is_rough species ps now = is_rough_move species (last_of ps) now || is_rough_line ps now

-- one is, by a cell of this voice after these cells, if it is there and free
abbrev pub is_rough_in : Exercise → ℕ → List Cell → Cell → Bool
is_rough_in ex v cells now =
    nat_lt v ex.voices && (is_free ex v && is_rough (species_in ex v) (pitches cells) now)

-- the same of a column
abbrev pub is_rough_at : Exercise → List (List Cell) → List Cell → ℕ → Bool
is_rough_at ex behind now v = is_rough_in ex v (line v behind) (cell_in now v)

-- or in some voice
abbrev pub some_rough : Exercise → List (List Cell) → List Cell → Bool
some_rough ex behind now = list_any (is_rough_at ex behind now) (0 ∷ 1 ∷ 2 ∷ 3 ∷ [])

-- then each rule of melody is kept
near_kept : (rule species : ℕ) (previous : Option Pitch) (c : Cell) → is_rough_move species previous c ≡ false
    → voice_rule rule species previous c ≡ false
near_kept rule species previous c h =
    let a = or_parts (moves_unmelodically previous c) (repeats species previous c || leaves_sharp previous c) h in
    let b = or_parts (repeats species previous c) (leaves_sharp previous c) a.1 in
    either_none (rule == 4) _ _ false a.0 (either_none (rule == 5) _ _ false b.0 b.1)

back_kept : (rule : ℕ) (ps : List Pitch) (c : Cell) → is_rough_line ps c ≡ false → window_rule rule ps c ≡ false
back_kept rule ps c h =
    let outline : Bool = outlines_badly (before_last ps) (last_of ps) c in
    let leap : Bool = goes_on_after_leap (before_last ps) (last_of ps) c in
    let tritone : Bool = turns_at_tritone (latest_turning ps) (before_last ps) (last_of ps) c in
    let a = or_parts outline (leap || (tritone || widens ps c)) h in
    let b = or_parts leap (tritone || widens ps c) a.1 in
    let d = or_parts tritone (widens ps c) b.1 in
    either_none (rule == 6) _ _ false a.0 (either_none (rule == 7) _ _ false b.0
    (either_none (rule == 8) _ _ false d.0 d.1))

-- the pitch of the latest note, of four voices
first_pitch : (ns : List Note) → note_pitch (first_of ns) ≡ last_of (map (λ n. n.pitch) ns)
first_pitch [] = refl
first_pitch (n ∷ ns) = refl

module _ (ex : Exercise) (behind : List (List Cell)) (now : List Cell) (kept : some_rough ex behind now ≡ false) where
  pub smooth_near_rows : (rule voices i : ℕ) (before : List Cell)
      → near_rows rule ex voices i before (previous_pitches behind) now ≡ false
  smooth_near_rows rule voices i before =
      on_free_voice-kept ex (λ v. is_rough (species_in ex v) (pitches (line v behind)) (cell_in now v))
      (λ v. voice_rule rule (species_in ex v) (pitch_at (previous_pitches behind) v) (cell_in now v)) voices kept
      (moved 0) (moved 1) (moved 2) (moved 3)
    where
      moved : (v : ℕ) → is_rough (species_in ex v) (pitches (line v behind)) (cell_in now v) ≡ false
          → voice_rule rule (species_in ex v) (note_pitch (first_of (notes_from 0 (line v behind)))) (cell_in now v)
          ≡ false
      moved v h =
          let near = (or_parts (is_rough_move (species_in ex v) (last_of (pitches (line v behind))) (cell_in now v))
          (is_rough_line (pitches (line v behind)) (cell_in now v)) h).0 in
          ap (λ q. voice_rule rule (species_in ex v) q (cell_in now v)) (first_pitch (notes_from 0 (line v behind)))
          ∙ near_kept rule (species_in ex v) (last_of (pitches (line v behind))) (cell_in now v) near

  pub smooth_window_rows : (rule voices i : ℕ) (ahead : List (List Cell))
      → window_rows rule ex voices i behind now ahead ≡ false
  smooth_window_rows rule voices i ahead =
      on_free_voice-kept ex (λ v. is_rough (species_in ex v) (pitches (line v behind)) (cell_in now v))
      (λ v. window_rule rule (pitches (line v behind)) (cell_in now v)) voices kept
      (moved 0) (moved 1) (moved 2) (moved 3)
    where
      moved : (v : ℕ) → is_rough (species_in ex v) (pitches (line v behind)) (cell_in now v) ≡ false
          → window_rule rule (pitches (line v behind)) (cell_in now v) ≡ false
      moved v h =
          back_kept rule (pitches (line v behind)) (cell_in now v)
          (or_parts (is_rough_move (species_in ex v) (last_of (pitches (line v behind))) (cell_in now v))
          (is_rough_line (pitches (line v behind)) (cell_in now v)) h).1
