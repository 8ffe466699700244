-- A voice that breaks a rule of melody breaks one strictly, where nothing is relaxed.
use Rattle.std.proofs.Common.{◌≡◌, ℕ, ◌<◌, ◌&&◌, ◌||◌, Bool, true, false, List, [], ◌∷◌, ◌++◌, Some, length, reverse, refl, ap, sym, ◌∙◌}
use Rattle.std.specs.Prelude.{nat_lt}
use Rattle.std.proofs.lemmas.Bool.{and_from}
use Rattle.fux_grid.specs.declared.cell.Cell.{Cell}
use Rattle.fux_grid.specs.declared.exercise.Exercise.{Exercise}
use Rattle.fux_grid.specs.Cells.{cell_in, notes_from}
use Rattle.fux_grid.specs.Columns.{line}
use Rattle.fux_grid.specs.Exercises.{species_in}
use Rattle.rule_law.specs.Law.{below_from_test, first_true, reading-at_end, second_true}
use Rattle.rule_law.specs.Nearby.{pitch_at, previous_pitches}
use Rattle.rule_law.specs.Voices.{is_free, on_free_voice, voice_of}
use Rattle.melody_rules.specs.Rows as melody
use Rattle.melody_rules.specs.Smooth.{is_rough, is_rough_at, is_rough_line, is_rough_move}
use Rattle.melody_rules.proofs.VoiceLemmas.{first_pitch, on_free_voice-test}
use Rattle.fux_judge.specs.Penalties.{is_strict_at}
use Rattle.fux_judge.specs.Pruning.{AllBreak, is_set_below, reads_below}
use Rattle.fux_judge.specs.Rules.{breaks, is_broken, rule_at}
use Rattle.fux_judge.proofs.ChargeLemmas.{latest_of_line}
use Rattle.fux_judge.proofs.PruningLemmas.{breaks_in_all}

-- what follows from each of two, follows where one of them holds
one_or_other : {P : Type 0} (a b : Bool) → (a || b) ≡ true → (a ≡ true → P) → (b ≡ true → P) → P
one_or_other true b h f g = f refl
one_or_other false b h f g = g h

module _ (ex : Exercise) (voices v n : ℕ) (p : List (List Cell)) (col : List Cell) (one : voice_of voices ≡ Some v)
    (low : v < 4) (there : v < ex.voices) (free : is_free ex v ≡ true) (nothing : ex.relax ≡ [])
    (below : is_set_below n voices ≡ true) where
  strict : (rule : ℕ) → is_strict_at rule ex voices (length p) ≡ true
  strict rule = at (nat_lt rule 4) refl
    where
      at : (b : Bool) → nat_lt rule 4 ≡ b → is_strict_at rule ex voices (length p) ≡ true
      at true f = rw f refl
      at false f = rw (f, nothing) refl

  strictly : (rule : ℕ) → reads_below rule ≡ true → breaks rule ex voices (length p) (reverse p) col [] ≡ true
      → AllBreak n ex p col
  strictly rule reads broken =
      breaks_in_all rule voices n ex p col reads below
      (and_from (is_broken rule ex voices (p ++ col ∷ []) (length p)) (is_strict_at rule ex voices (length p))
      (reading-at_end (breaks rule ex voices) p col ∙ broken) (strict rule))

  tested : (test : ℕ → Bool) → on_free_voice ex test voices ≡ test v
  tested test = on_free_voice-test ex test voices v (sym one) there free

  -- the voice's latest pitch
  latest : pitch_at (previous_pitches (reverse p)) v ≡ melody.last_of (melody.pitches (line v (reverse p)))
  latest = latest_of_line (reverse p) v low ∙ sym (first_pitch (notes_from 0 (line v (reverse p))))

  moved_unmelodically : melody.moves_unmelodically (melody.last_of (melody.pitches (line v (reverse p))))
      (cell_in col v) ≡ true → AllBreak n ex p col
  unfolding rule_at
  moved_unmelodically h =
      strictly 4 refl
      (tested (λ w. melody.voice_rule 4 (species_in ex w) (pitch_at (previous_pitches (reverse p)) w) (cell_in col w))
      ∙ ap (λ q. melody.moves_unmelodically q (cell_in col v)) latest ∙ h)

  repeated : melody.repeats (species_in ex v) (melody.last_of (melody.pitches (line v (reverse p)))) (cell_in col v)
      ≡ true → AllBreak n ex p col
  unfolding rule_at
  repeated h =
      strictly 5 refl
      (tested (λ w. melody.voice_rule 5 (species_in ex w) (pitch_at (previous_pitches (reverse p)) w) (cell_in col w))
      ∙ ap (λ q. melody.repeats (species_in ex v) q (cell_in col v)) latest ∙ h)

  left_sharp : melody.leaves_sharp (melody.last_of (melody.pitches (line v (reverse p)))) (cell_in col v) ≡ true
      → AllBreak n ex p col
  unfolding rule_at
  left_sharp h =
      strictly 26 refl
      (tested (λ w. melody.voice_rule 26 (species_in ex w) (pitch_at (previous_pitches (reverse p)) w) (cell_in col w))
      ∙ ap (λ q. melody.leaves_sharp q (cell_in col v)) latest ∙ h)

  outlined_badly : melody.window_rule 6 (melody.pitches (line v (reverse p))) (cell_in col v) ≡ true
      → AllBreak n ex p col
  unfolding rule_at
  outlined_badly h =
      strictly 6 refl (tested (λ w. melody.window_rule 6 (melody.pitches (line w (reverse p))) (cell_in col w)) ∙ h)

  went_on : melody.window_rule 7 (melody.pitches (line v (reverse p))) (cell_in col v) ≡ true → AllBreak n ex p col
  unfolding rule_at
  went_on h =
      strictly 7 refl (tested (λ w. melody.window_rule 7 (melody.pitches (line w (reverse p))) (cell_in col w)) ∙ h)

  turned_at_tritone : melody.window_rule 8 (melody.pitches (line v (reverse p))) (cell_in col v) ≡ true
      → AllBreak n ex p col
  unfolding rule_at
  turned_at_tritone h =
      strictly 8 refl (tested (λ w. melody.window_rule 8 (melody.pitches (line w (reverse p))) (cell_in col w)) ∙ h)

  widened : melody.window_rule 9 (melody.pitches (line v (reverse p))) (cell_in col v) ≡ true → AllBreak n ex p col
  unfolding rule_at
  widened h =
      strictly 9 refl (tested (λ w. melody.window_rule 9 (melody.pitches (line w (reverse p))) (cell_in col w)) ∙ h)

  rough_breaks : is_rough (species_in ex v) (melody.pitches (line v (reverse p))) (cell_in col v) ≡ true
      → AllBreak n ex p col
  rough_breaks h =
      one_or_other (is_rough_move (species_in ex v) (melody.last_of (melody.pitches (line v (reverse p))))
      (cell_in col v)) (is_rough_line (melody.pitches (line v (reverse p))) (cell_in col v)) h
      (λ move. one_or_other _ _ move moved_unmelodically (λ rest. one_or_other _ _ rest repeated left_sharp))
      (λ back. one_or_other _ _ back outlined_badly
      (λ rest. one_or_other _ _ rest went_on (λ last. one_or_other _ _ last turned_at_tritone widened)))

-- a rough voice is there and free
pub rough_is_dead : (ex : Exercise) (voices v n : ℕ) (p : List (List Cell)) (col : List Cell) → voice_of voices ≡ Some v
    → v < 4 → ex.relax ≡ [] → is_rough_at ex (reverse p) col v ≡ true → is_set_below n voices ≡ true
    → AllBreak n ex p col
rough_is_dead ex voices v n p col one low nothing rough below =
    let rest = second_true (nat_lt v ex.voices)
    (is_free ex v && is_rough (species_in ex v) (melody.pitches (line v (reverse p))) (cell_in col v)) rough in
    rough_breaks ex voices v n p col one low
    (below_from_test v ex.voices (first_true (nat_lt v ex.voices)
    (is_free ex v && is_rough (species_in ex v) (melody.pitches (line v (reverse p))) (cell_in col v)) rough))
    (first_true (is_free ex v) (is_rough (species_in ex v) (melody.pitches (line v (reverse p))) (cell_in col v)) rest)
    nothing below
    (second_true (is_free ex v) (is_rough (species_in ex v) (melody.pitches (line v (reverse p))) (cell_in col v)) rest)
