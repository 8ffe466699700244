use Rattle.std.proofs.Common.{◌≡◌, ℕ, length, sym, ap, ◌∙◌, arith}
use Rattle.fux_grid.specs.declared.exercise.Exercise.{Exercise}
use Rattle.fux_grid.specs.Exercises.{columns_in}
use Rattle.fux_grid.specs.Menus.{menu_of}
use Rattle.cert_writer.proofs.StageLemmas.{from_empty, from_place}
use Rattle.cert_writer.proofs.entries.stage_from.Goals as goal

pub returns-then-width-gt0-clause-left : goal.returns-then-width-gt0-clause-left
returns-then-width-gt0-clause-left c =
    let ex = c.args.case.now.exercise.now in
    sym (from_place ex c.args.case.now.sheet.now c.loop-place.place (columns_in ex) (omega (arith, c.loop-place-test.true)))
    ∙ c.loop-place.invariant.left

pub loop-place-preserved : goal.loop-place-preserved
loop-place-preserved c =
    let ex = c.args.case.now.exercise.now in
    let place : ℕ = c.loop-place.place in
    let none : length (menu_of ex place) ≡ 0
    = sym (ap (λ (there : Exercise). length (menu_of there place)) c.requires.task.has.exercise) ∙ sym c.width.ensures
    ∙ omega (arith, c.if-width-gt0.false) in
    record {
      within = omega (arith, c.loop-place-test.true);
      left =
          sym (from_empty ex c.args.case.now.sheet.now place (columns_in ex) (omega (arith, c.loop-place-test.true)) none)
          ∙ c.loop-place.invariant.left;
    }
