use Rattle.std.proofs.Common.{◌≡◌, ◌==◌, ℕ, Bool, true, false, List, refl, ap, ◌∙◌}
use Rattle.std.specs.Prelude.{not, slice_index}
use Rattle.fux_grid.specs.declared.exercise.Exercise.{Exercise}
use Rattle.fux_grid.specs.Exercises.{bar_of, slot_of, species_in}
use Rattle.fux_grid.specs.Shapes.{allows, shapes_in}
use Rattle.rhythm_cadence.proofs.ShapeSets.{empty_set}
use Rattle.fux_judge.proofs.ahead.allows_start.Goals as goal

-- the test, as it is asked
asked : (ex : Exercise) (v i species bar slot : ℕ) → species ≡ species_in ex v → bar ≡ bar_of i → slot ≡ slot_of i
    → allows (shapes_in species bar ex.bars) slot 83
    ≡ allows (shapes_in (species_in ex v) (bar_of i) ex.bars) (slot_of i) 83
asked ex v i species bar slot f g h =
    ap (λ s. allows (shapes_in s bar ex.bars) slot 83) f
    ∙ ap (λ b. allows (shapes_in (species_in ex v) b ex.bars) slot 83) g
    ∙ ap (λ n. allows (shapes_in (species_in ex v) (bar_of i) ex.bars) n 83) h

twice : (b : Bool) → not (not b) ≡ b
twice true = refl
twice false = refl

pub returns : goal.returns
returns c =
    let ex = c.args.ex.now in
    let slot : ℕ = c.slot_of.result in
    let shapes : List (List ℕ) = shapes_in c.species_of.result c.bar_of.result ex.bars in
    ap (λ n. not (n == 0)) c.fitting_shapes.ensures
    ∙ ap not (empty_set (λ shape. slice_index shape slot == 83) shapes)
    ∙ twice (allows shapes slot 83)
    ∙ asked ex c.args.v c.args.i c.species_of.result c.bar_of.result slot c.species_of.ensures.value c.bar_of.ensures
    c.slot_of.ensures.value
