-- In a lawful setting no step is refused, and each leads to what is open behind its column
-- (`shapes-followed`).
use Rattle.std.specs.Prelude.{◌≡◌, ℕ, ◌+◌, ◌≤◌, ◌==◌, ◌&&◌, Bool, true, false, not, List, [], ◌∷◌, ◌++◌, Some, None, length, nat_eq, bit_and, reverse, if◌then◌else◌, refl}
use Rattle.std.specs.List.{starts_with}
use Rattle.std.proofs.Common.{ap, sym, ◌∙◌, subst, arith}
use Rattle.std.proofs.lemmas.List.{append_assoc, length-append}
use Rattle.fux_grid.specs.declared.cell.Cell.{Cell}
use Rattle.fux_grid.specs.declared.exercise.Exercise.{Exercise}
use Rattle.fux_grid.specs.Cells.{cell_in}
use Rattle.fux_grid.specs.Columns.{Columns, newest_column}
use Rattle.fux_grid.specs.Exercises.{IsFree, bar_of, slot_of}
use Rattle.fux_grid.specs.Letters.{letters_of}
use Rattle.fux_grid.specs.Orderly.{IsOrderly, voice_shapes}
use Rattle.fux_grid.specs.Shapes.{letter_of}
use Rattle.fux_grid.proofs.OrderlyLemmas.{orderly-fewer}
use Rattle.rule_law.specs.Bars.{begins_bar}
use Rattle.rhythm_cadence.specs.Parts.{newest_bar, newest_columns, shapes_begun, shapes_with}
use Rattle.rhythm_cadence.proofs.NewestBars.{shapes_begun-more}
use Rattle.rhythm_cadence.proofs.ShapeSets.{empty_set}
use Rattle.fux_judge.specs.Lawful.{IsLawful}
use Rattle.fux_judge.proofs.Alive.{alive_if_unbroken, alive_orderly}
use Rattle.open_ends.specs.declared.shapes.OpenShapes.{OpenShapes}
use Rattle.open_ends.specs.declared.keeps.Keeps.{Keeps}
use Rattle.open_ends.specs.Parts.{FollowsLawful, HasVoices}
use Rattle.open_ends.specs.Shapes.{is_florid, leaves_all, nothing, open_after, open_in, shapes_left, still_open}

-- before the first column no shape is open
none-open : (ex : Exercise) (keeps : Keeps) → open_in ex keeps [] ≡ nothing
none-open ex keeps =
    let Open : ℕ → OpenShapes = λ n. record { possible = n } in ap Open (no_shape (is_florid ex))
  where
    no_shape : (b : Bool) → (if b && false then shapes_begun ex ex.species_voice [] else 0) ≡ 0
    no_shape true = refl
    no_shape false = refl

module _ (ex : Exercise) (keeps : Keeps) (p : Columns) (col : List Cell) where
  abbrev v : ℕ
  v = ex.species_voice

  abbrev grown : Columns
  grown = p ++ col ∷ []

  -- what was open before the column is all that counts of the shapes of its bar
  left-begun : is_florid ex ≡ true → shapes_left ex (length p) (open_in ex keeps p) col ≡ shapes_begun ex v grown
  left-begun florid =
      let fitting : ℕ = shapes_with (slot_of (length p)) (letter_of (cell_in col v)) (voice_shapes ex v (bar_of (length p))) in
      at (is_florid ex) (begins_bar (length p)) fitting (shapes_begun ex v p) (λ n. bit_and n fitting) florid
      ∙ sym (shapes_begun-more ex v p col)
    where
      at : (f b : Bool) (x n : ℕ) (g : ℕ → ℕ) → f ≡ true
          → (if b then x else g (if f && not b then n else 0)) ≡ (if b then x else g n)
      at true true x n g e = refl
      at true false x n g e = refl
      at false b x n g e = cc

  still-open : still_open ex (length p) (open_in ex keeps p) col ≡ open_in ex keeps grown
  still-open =
      let Open : ℕ → OpenShapes = λ n. record { possible = n } in
      ap Open (at (is_florid ex) (not (begins_bar (length p + 1))) _ _ left-begun)
      ∙ ap (λ n. Open (if is_florid ex && not (begins_bar n) then shapes_begun ex v grown else 0))
      (sym (length-append p (col ∷ [])))
    where
      at : (f b : Bool) (x y : ℕ) → (f ≡ true → x ≡ y) → (if f && b then x else 0) ≡ (if f && b then y else 0)
      at true b x y same = ap (λ n. if b then n else 0) (same refl)
      at false b x y same = refl

  module _ (more : Columns) (few : ex.voices ≤ 4) (free : IsFree ex v) (lawful : IsLawful ex (p ++ col ∷ more)) where
    abbrev s : Columns
    s = p ++ col ∷ more

    orderly : IsOrderly ex grown
    orderly =
        let O : Columns → Type 0 = λ t. IsOrderly ex t in
        orderly-fewer ex grown more
        (subst O (sym (append_assoc p (col ∷ []) more)) (alive_orderly ex few s
        (alive_if_unbroken ex few s lawful.setting lawful.unbroken)))

    -- the letters of the newest bar begin some shape
    some_begun : (shapes_begun ex v grown == 0) ≡ false
    some_begun =
        empty_set (λ shape. starts_with nat_eq shape (letters_of v (newest_columns grown)))
        (voice_shapes ex v (newest_bar grown))
        ∙ ap not (orderly v (newest_bar grown) free (omega arith, omega (arith, length-append p (col ∷ []))))

    pub keeps_shapes : (before : List Cell)
        → open_after ex keeps (length p) (open_in ex keeps p) before col ≡ Some (open_in ex keeps grown)
    keeps_shapes before =
        lead (leaves_all ex (length p) (open_in ex keeps p) col) (none_refused (is_florid ex) left)
        ∙ ap Some still-open
      where
        left : is_florid ex ≡ true → (shapes_left ex (length p) (open_in ex keeps p) col == 0) ≡ false
        left florid = ap (λ n. n == 0) (left-begun florid) ∙ some_begun

        none_refused : (f : Bool) {b : Bool} → (f ≡ true → b ≡ false) → (f && b) ≡ false
        none_refused true h = h refl
        none_refused false h = refl

        lead : (b : Bool) → b ≡ false
            → (if b then None else Some (still_open ex (length p) (open_in ex keeps p) col))
            ≡ Some (still_open ex (length p) (open_in ex keeps p) col)
        lead true h = cc
        lead false h = refl

pub shapes-followed : (ex : Exercise) (keeps : Keeps) → HasVoices ex
    → FollowsLawful ex nothing (open_in ex keeps) (open_after ex keeps)
shapes-followed ex keeps voices = record {
  first = none-open ex keeps;
  next = λ p col more lawful. keeps_shapes ex keeps p col more voices.most_voices
      (record { there = voices.species_there; no_cantus = voices.differ }) lawful (newest_column (reverse p));
}
