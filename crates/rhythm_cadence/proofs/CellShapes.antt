-- Behind an orderly list a column newly breaks S3 for those voices that have no shape left with their
-- cells (`newly_by_cells`).
use Rattle.std.proofs.Common.{◌≡◌, ℕ, ◌*◌, ◌/◌, ◌==◌, List, [], ◌∷◌, ◌++◌, length, ap, sym, ◌∙◌, arith}
use Rattle.std.specs.Prelude.{nat_eq, not}
use Rattle.std.specs.List.{starts_with}
use Rattle.std.proofs.lemmas.List.{length-append}
use Rattle.fux_grid.specs.declared.cell.Cell.{Cell}
use Rattle.fux_grid.specs.declared.exercise.Exercise.{Exercise}
use Rattle.fux_grid.specs.Cells.{cell_in}
use Rattle.fux_grid.specs.Letters.{letters_of}
use Rattle.fux_grid.specs.Orderly.{HasBegun, voice_shapes}
use Rattle.rule_law.specs.Prefixes.{GoesOn}
use Rattle.rule_law.specs.Rulebooks.{IsAmong, newly_breaks}
use Rattle.rule_law.specs.Voices.{on_free_voice, voice_of}
use Rattle.rhythm_cadence.specs.Book.{shape_rule}
use Rattle.rhythm_cadence.specs.Parts.{newest_bar, newest_columns, shapes_after, shapes_begun}
use Rattle.rhythm_cadence.proofs.BarReadings.{holds_of_voice-same, keeps_shapes, reading-bar}
use Rattle.rhythm_cadence.proofs.BookLaws.{late_shapes}
use Rattle.rhythm_cadence.proofs.NewestBars.{shapes_begun-more}
use Rattle.rhythm_cadence.proofs.ShapeSets.{empty_set}

module _ (ex : Exercise) (p : List (List Cell)) (col : List Cell) where
  abbrev grown : List (List Cell)
  grown = p ++ col ∷ []

  voice_left : (v : ℕ) → not (keeps_shapes ex grown (newest_bar grown) v)
      ≡ (shapes_after ex v (length p) (shapes_begun ex v p) (cell_in col v) == 0)
  voice_left v =
      sym (empty_set (λ shape. starts_with nat_eq shape (letters_of v (newest_columns grown)))
      (voice_shapes ex v (newest_bar grown)))
      ∙ ap (λ n. n == 0) (shapes_begun-more ex v p col)

  pub newly_by_cells : (voices place : ℕ) → GoesOn ex p (col ∷ []) → IsAmong (8 * (length p / 8)) 1 place
      → newly_breaks shape_rule ex voices p col place
      ≡ on_free_voice ex (λ v. shapes_after ex v (length p) (shapes_begun ex v p) (cell_in col v) == 0) voices
  newly_by_cells voices place on among =
      let begun : HasBegun grown (newest_bar grown) = (omega arith, omega (arith, length-append p (col ∷ []))) in
      late_shapes ex voices p col place on among
      ∙ reading-bar ex voices grown (newest_bar grown) begun
      ∙ holds_of_voice-same ex (λ v. not (keeps_shapes ex grown (newest_bar grown) v))
      (λ v. shapes_after ex v (length p) (shapes_begun ex v p) (cell_in col v) == 0) (voice_of voices) voice_left
