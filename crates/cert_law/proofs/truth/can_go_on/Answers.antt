use Rattle.std.proofs.Common.{◌<◌, ◌≤◌, length, ap, sym, ◌∙◌, arith, not}
use Rattle.std.proofs.lemmas.Bool.{not-true}
use Rattle.cert_law.proofs.BreakLemmas.{shapes_unbroken, unbroken_shapes}
use Rattle.fux_grid.specs.Exercises.{columns_in}
use Rattle.fux_grid.specs.declared.exercise.Exercise.{Exercise}
use Rattle.cert_law.proofs.truth.can_go_on.Goals as goal

pub returns-then-judged-ex : goal.returns-then-judged-ex
returns-then-judged-ex c = λ t stated p same judged.
    let few : t.exercise.voices ≤ 4 = omega (arith, c.requires.most_voices, ap (λ (ex : Exercise). ex.voices) same) in
    let shorter : length p < columns_in t.exercise = omega
    (arith, c.if-judged-ex.true, judged.state.newest.count, ap (λ (ex : Exercise). ex.bars) same) in (
      λ h. (
        shorter,
        unbroken_shapes t.exercise few p
            (sym (judged.broken 3) ∙ sym c.has.ensures ∙ not-true c.has.result h),
      ),
      λ h. ap not (c.has.ensures ∙ judged.broken 3 ∙ shapes_unbroken t.exercise few p h.1),
    )
