use Rattle.std.proofs.Common.{◌≡◌, List, [], ◌∷◌, None, subst, sym, ◌∙◌}
use Rattle.fux_pitch.specs.declared.mode.Mode.TheVariants.{Dorian}
use Rattle.fux_pitch.specs.declared.pitch.Pitch.{Pitch}
use Rattle.fux_grid.specs.declared.exercise.RangeLine.{RangeLine}
use Rattle.fux_grid.specs.declared.given.GivenBar.{GivenBar}
use Rattle.fux_grid.specs.declared.exercise.Relax.{Relax}
use Rattle.drill_exercise.specs.Drill.{IsDrill}
use Rattle.drill_exercise.proofs.ExerciseLemmas.{drill_line, is_drill}
use Rattle.drill_exercise.proofs.exercise.drill.Goals as goal

pub returns : goal.returns
returns c =
    let n = c.args.n in
    let low = c.natural.result in
    let high = c.natural-2.result in
    let ex = λ (cantus : List Pitch) (ranges : List RangeLine) (relax : List Relax) (given : List GivenBar).
    IsDrill n (record {
      mode = Dorian;
      voices = 2;
      bars = 24;
      species = 1;
      species_voice = 1;
      mixed = None;
      cantus_voice = 0;
      cantus = cantus;
      ranges = ranges;
      relax = relax;
      given = given;
      setting = None;
    }) in
    let line : c.new-2.result ≡ drill_line low high ∷ [] = c.new-2.ensures ∙ c.in_ok-ranges.ensures.items in
    let none : c.new-4.result ≡ [] = c.new-4.ensures ∙ c.new-3.ensures.items in
    let no_bar : c.new-6.result ≡ [] = c.new-6.ensures ∙ c.new-5.ensures.items in
    subst (λ cantus. ex cantus c.new-2.result c.new-4.result c.new-6.result) (sym c.new.ensures)
    (subst (λ ranges. ex c.in_ok-cantus.cantus.items ranges c.new-4.result c.new-6.result) (sym line)
    (subst (λ relax. ex c.in_ok-cantus.cantus.items (drill_line low high ∷ []) relax c.new-6.result) (sym none)
    (subst (λ given. ex c.in_ok-cantus.cantus.items (drill_line low high ∷ []) [] given) (sym no_bar)
    (is_drill n c.in_ok-cantus.cantus.items low high c.in_ok-cantus.ensures.degrees c.in_ok-cantus.ensures.naturals
    (record { degree_is = c.natural.ensures.degree; alter_is = c.natural.ensures.alter })
    (record { degree_is = c.natural-2.ensures.degree; alter_is = c.natural-2.ensures.alter })))))
