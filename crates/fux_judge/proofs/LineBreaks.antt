-- What a voice breaks of S4 to S9 is read of its cell alone (`line_then`), and a column breaks what
-- some voice of it breaks (`lines_together`).
use Rattle.std.proofs.Common.{◌≡◌, ℕ, zero, suc, ◌^◌, ◌<◌, ◌==◌, ◌&&◌, ◌||◌, Bool, true, false, not, Some, None, Option, List, [], ◌∷◌, ◌++◌, length, reverse, refl, ap, sym, ◌∙◌, arith}
use Rattle.std.specs.Prelude.{if◌then◌else◌, nat_lt}
use Rattle.std.specs.List.{list_all, list_any}
use Rattle.std.proofs.lemmas.Bool.{cond-false, cond-true, not-true, or_parts}
use Rattle.fux_pitch.specs.declared.pitch.Pitch.{Pitch}
use Rattle.fux_grid.specs.declared.cell.Cell.{Cell}
use Rattle.fux_grid.specs.declared.exercise.Exercise.{Exercise}
use Rattle.fux_grid.specs.Cells.{cell_in, notes_from}
use Rattle.fux_grid.specs.Columns.{line}
use Rattle.fux_grid.specs.Exercises.{species_in}
use Rattle.rule_law.specs.Forms as forms
use Rattle.rule_law.specs.Growth.{list_any-same}
use Rattle.rule_law.specs.Law.{reading-at_end}
use Rattle.rule_law.specs.Nearby.{pitch_at, previous_pitches, whole_of}
use Rattle.rule_law.specs.Places.{Row}
use Rattle.rule_law.specs.Quiet.{either_none}
use Rattle.rule_law.specs.Voices.{holds_of_voice, is_free, on_free_voice}
use Rattle.melody_rules.specs.Rows as melody
use Rattle.melody_rules.specs.Rows.{before_last, goes_on_after_leap, last_of, latest_turning, leaves_sharp, looks_back, moves_unmelodically, outlines_badly, pitches, repeats, turns_at_tritone, voice_rule, widens, window_rule}
use Rattle.melody_rules.specs.Smooth.{is_rough, is_rough_in, is_rough_line, is_rough_move}
use Rattle.melody_rules.proofs.VoiceLemmas.{first_pitch}
use Rattle.fux_judge.specs.Crates.{Melody}
use Rattle.fux_judge.specs.Penalties.{is_strict_at, newly_broken}
use Rattle.fux_judge.specs.Rules.{all_sets, breaks, is_broken, is_late, is_of_melody, rule_at}
use Rattle.fux_judge.specs.Told.{breaks_after, breaks_in, breaks_line, is_of_line, line_rules}
use Rattle.fux_judge.proofs.ChargeLemmas.{latest_of_line}
use Rattle.fux_judge.proofs.CrateLemmas.{breaks_by_crate, in_melody}
use Rattle.fux_judge.proofs.PruningLemmas.{one_of}
use Rattle.fux_judge.proofs.StepPlaces.{newly_broken-at_once}

-- ---- the rules

pub of_melody : (rule : ℕ) → is_of_line rule ≡ true → is_of_melody rule ≡ true
of_melody rule h = one_of is_of_melody rule line_rules refl h

lines_soon : list_all (λ rule. not (is_late rule)) line_rules ≡ true
unfolding rule_at
lines_soon = refl

pub lines_at_once : (rule : ℕ) → is_of_line rule ≡ true → is_late rule ≡ false
lines_at_once rule h = not-true (is_late rule) (one_of (λ r. not (is_late r)) rule line_rules lines_soon h)

-- ---- smooth voices

module _ (species : ℕ) (ps : List Pitch) (now : Cell) (rule : ℕ) where
  near_kept : is_rough_move species (last_of ps) now ≡ false → voice_rule rule species (last_of ps) now ≡ false
  near_kept h =
      let a = or_parts (moves_unmelodically (last_of ps) now)
      (repeats species (last_of ps) now || leaves_sharp (last_of ps) now) h in
      let b = or_parts (repeats species (last_of ps) now) (leaves_sharp (last_of ps) now) a.1 in
      either_none (rule == 4) _ _ false a.0 (either_none (rule == 5) _ _ false b.0 b.1)

  back_kept : is_rough_line ps now ≡ false → window_rule rule ps now ≡ false
  back_kept h =
      let outline : Bool = outlines_badly (before_last ps) (last_of ps) now in
      let leap : Bool = goes_on_after_leap (before_last ps) (last_of ps) now in
      let tritone : Bool = turns_at_tritone (latest_turning ps) (before_last ps) (last_of ps) now in
      let a = or_parts outline (leap || (tritone || widens ps now)) h in
      let b = or_parts leap (tritone || widens ps now) a.1 in
      let d = or_parts tritone (widens ps now) b.1 in
      either_none (rule == 6) _ _ false a.0 (either_none (rule == 7) _ _ false b.0
      (either_none (rule == 8) _ _ false d.0 d.1))

  smooth_after : is_rough species ps now ≡ false → breaks_after species ps now rule ≡ false
  smooth_after h =
      let parts = or_parts (is_rough_move species (last_of ps) now) (is_rough_line ps now) h in
      either_none (looks_back rule) (window_rule rule ps now) (voice_rule rule species (last_of ps) now) false
      (back_kept parts.1) (near_kept parts.0)

-- a smooth voice breaks none of them
pub kept_in : (ex : Exercise) (v : ℕ) (cells : List Cell) (now : Cell) (rule : ℕ) → is_rough_in ex v cells now ≡ false
    → breaks_in ex v cells now rule ≡ false
kept_in ex v cells now rule h =
    at (nat_lt v ex.voices) (is_free ex v) (is_rough (species_in ex v) (pitches cells) now) h
    (smooth_after (species_in ex v) (pitches cells) now rule)
  where
    at : (there free rough : Bool) → (there && (free && rough)) ≡ false
        → (rough ≡ false → breaks_after (species_in ex v) (pitches cells) now rule ≡ false)
        → (there && (free && breaks_after (species_in ex v) (pitches cells) now rule)) ≡ false
    at true true rough h k = k h
    at true false rough h k = refl
    at false free rough h k = refl

-- ---- voices

-- tests that agree on four voices agree on a set
voice_same : (ex : Exercise) (f g : ℕ → Bool) (voices : ℕ) → f 0 ≡ g 0 → f 1 ≡ g 1 → f 2 ≡ g 2 → f 3 ≡ g 3
    → on_free_voice ex f voices ≡ on_free_voice ex g voices
voice_same ex f g voices e0 e1 e2 e3 =
    chosen (voices == 1) (Some 0) _ (one 0 e0) (chosen (voices == 2) (Some 1) _ (one 1 e1)
    (chosen (voices == 4) (Some 2) _ (one 2 e2) (chosen (voices == 8) (Some 3) None (one 3 e3) refl)))
  where
    one : (v : ℕ) → f v ≡ g v → holds_of_voice ex (λ w. is_free ex w && f w) (Some v)
        ≡ holds_of_voice ex (λ w. is_free ex w && g w) (Some v)
    one v e = ap (λ b. nat_lt v ex.voices && (is_free ex v && b)) e

    chosen : (b : Bool) (x y : Option ℕ)
        → holds_of_voice ex (λ w. is_free ex w && f w) x ≡ holds_of_voice ex (λ w. is_free ex w && g w) x
        → holds_of_voice ex (λ w. is_free ex w && f w) y ≡ holds_of_voice ex (λ w. is_free ex w && g w) y
        → holds_of_voice ex (λ w. is_free ex w && f w) (if b then x else y)
        ≡ holds_of_voice ex (λ w. is_free ex w && g w) (if b then x else y)
    chosen true x y h k = h
    chosen false x y h k = k

-- the voice of a set of one
alone_voice : (ex : Exercise) (test : ℕ → Bool) (v : ℕ) → v < 4
    → on_free_voice ex test (2 ^ v) ≡ (nat_lt v ex.voices && (is_free ex v && test v))
alone_voice ex test zero low = refl
alone_voice ex test (suc zero) low = refl
alone_voice ex test (suc (suc zero)) low = refl
alone_voice ex test (suc (suc (suc zero))) low = refl
alone_voice ex test (suc (suc (suc (suc v)))) low = absurd (omega (arith, low))

module _ (ex : Exercise) (p : List (List Cell)) (col : List Cell) (rule : ℕ) where
  -- the rule is broken by the cell of a voice
  abbrev by_cell : ℕ → Bool
  by_cell v = breaks_after (species_in ex v) (pitches (line v (reverse p))) (cell_in col v) rule

  abbrev by_window : ℕ → Bool
  by_window v = window_rule rule (pitches (line v (reverse p))) (cell_in col v)

  abbrev by_move : ℕ → Bool
  by_move v = voice_rule rule (species_in ex v) (pitch_at (previous_pitches (reverse p)) v) (cell_in col v)

  abbrev by_last : ℕ → Bool
  by_last v = voice_rule rule (species_in ex v) (last_of (pitches (line v (reverse p)))) (cell_in col v)

  window_cell : looks_back rule ≡ true → (v : ℕ) → by_window v ≡ by_cell v
  window_cell e v = sym (cond-true (looks_back rule) (by_window v) (by_last v) e)

  move_cell : looks_back rule ≡ false → (v : ℕ) → v < 4 → by_move v ≡ by_cell v
  move_cell e v low =
      ap (λ q. voice_rule rule (species_in ex v) q (cell_in col v))
      (latest_of_line (reverse p) v low ∙ sym (first_pitch (notes_from 0 (line v (reverse p)))))
      ∙ sym (cond-false (looks_back rule) (by_window v) (by_last v) e)

  -- the row of melody at the end of the prefix, of a set
  row_by_cells : (voices : ℕ) → melody.broken_in rule ex voices (length p) (reverse p) col []
      ≡ on_free_voice ex by_cell voices
  row_by_cells voices = at (looks_back rule) refl
    where
      at : (b : Bool) → looks_back rule ≡ b → melody.broken_in rule ex voices (length p) (reverse p) col []
          ≡ on_free_voice ex by_cell voices
      at true e =
          ap (λ (row : Row Bool). row (length p) (reverse p) col [])
          (cond-true (looks_back rule) (melody.window_rows rule ex voices) (whole_of (melody.near_rows rule ex voices)) e)
          ∙ voice_same ex by_window by_cell voices (window_cell e 0) (window_cell e 1) (window_cell e 2)
          (window_cell e 3)
      at false e =
          ap (λ (row : Row Bool). row (length p) (reverse p) col [])
          (cond-false (looks_back rule) (melody.window_rows rule ex voices) (whole_of (melody.near_rows rule ex voices)) e)
          ∙ voice_same ex by_move by_cell voices (move_cell e 0 (omega arith)) (move_cell e 1 (omega arith))
          (move_cell e 2 (omega arith)) (move_cell e 3 (omega arith))

  module _ (of_line : is_of_line rule ≡ true) where
    read_by_cells : (voices : ℕ) → is_broken rule ex voices (p ++ col ∷ []) (length p) ≡ on_free_voice ex by_cell voices
    read_by_cells voices =
        reading-at_end (breaks rule ex voices) p col
        ∙ ap (λ (row : Row Bool). row (length p) (reverse p) col [])
        (breaks_by_crate rule (Some Melody) (in_melody rule (of_melody rule of_line)) ex voices)
        ∙ row_by_cells voices

    -- of a set of one voice
    pub line_then : (v : ℕ) → v < 4
        → (is_broken rule ex (2 ^ v) (p ++ col ∷ []) (length p) && is_strict_at rule ex (2 ^ v) (length p))
        ≡ breaks_line ex p v (cell_in col v) rule
    line_then v low =
        ap (λ b. b && is_strict_at rule ex (2 ^ v) (length p)) (read_by_cells (2 ^ v) ∙ alone_voice ex by_cell v low)

    -- and of all sets
    pub lines_together : newly_broken ex p col rule
        ≡ list_any (λ v. breaks_line ex p v (cell_in col v) rule) (0 ∷ 1 ∷ 2 ∷ 3 ∷ [])
    unfolding forms.all_sets
    lines_together =
        newly_broken-at_once ex p col rule (lines_at_once rule of_line)
        ∙ list_any-same
        (λ voices. is_broken rule ex voices (p ++ col ∷ []) (length p) && is_strict_at rule ex voices (length p))
        (λ voices. on_free_voice ex by_cell voices && is_strict_at rule ex voices (length p)) all_sets
        (λ voices. ap (λ b. b && is_strict_at rule ex voices (length p)) (read_by_cells voices))
