use Rattle.std.proofs.Common.{◌≡◌, Option, Some, IfOk, subst}
use Rattle.fux_grid.specs.Grid.{Grid}
use Rattle.class_marker.specs.Differences.{differences}
use Rattle.class_marker.proofs.telling.differing.Goals as goal

one_score : (setting : Option Grid) (a b : Grid) → setting ≡ Some a → setting ≡ Some b → a ≡ b
one_score setting a b h k = cc

pub returns-in-Some : goal.returns-in-Some
returns-in-Some c = λ score given.
    subst (λ (s : Grid). IfOk c.differences.result (λ found. found.items
    ≡ differences c.args.lesson.now c.args.answer.now s.columns))
    (one_score c.args.answer.now.setting c.in-Some.score score c.in-Some.is given) c.differences.ensures
