use Rattle.std.specs.Prelude.{◌≡◌, ◌+◌, ◌&&◌, Bool, drop, refl}
use Rattle.std.proofs.Common.{ap, ◌∙◌, arith}
use Rattle.fux_grid.specs.Cells.{pitch_of}
use Rattle.fux_grid.specs.Exercises.{species_in}
use Rattle.rule_law.specs.After.{onset_pitch}
use Rattle.dissonance_rules.specs.Passing.{bends_down, is_good, starts_clean}
use Rattle.dissonance_rules.proofs.PassingReadings.{good-clean, good_found}
use Rattle.dissonance_rules.proofs.passing.is_good_by_two.Goals as goal

pub returns : goal.returns
returns g c = λ s first shown from free.
    let ex = c.args.ex.now in
    let i = c.args.i in
    let v = c.args.v in
    let species = species_in ex v in
    let previous = c.pitch_before-previous.result in
    let here = pitch_of c.cell_around-now.result in
    let next = c.next_notes-next.result.first in
    let second = c.next_notes-next.result.second in
    let there : Bool = starts_clean i (drop (i + 1) s) v next in
    let size = g.met.C.ColumnsAround.counted c.args.around.now ex s first shown in
    let bent : c.bends_down-bent.result ≡ bends_down previous here (onset_pitch next) =
    c.bends_down-bent.ensures
    ∙ ap (λ p. bends_down previous p c.onset_pitch-follows.result) c.pitch-here.ensures
    ∙ ap (bends_down previous here) c.onset_pitch-follows.ensures in
    let clean : c.is_clean_where-clean.result ≡ (bends_down previous here (onset_pitch next) && there) =
    c.is_clean_where-clean.ensures s first shown (omega (arith, from)) ∙ ap (λ b. b && there) bent in
    c.is_good.ensures
    ∙ rw (c.species_of.ensures.value, c.pitch-here.ensures, c.onset_pitch-follows.ensures, c.onset_pitch-after.ensures)
    (ap (λ b. is_good species previous here (onset_pitch next) b (onset_pitch second)) clean
    ∙ good-clean species previous here (onset_pitch next) there (onset_pitch second)
    ∙ good_found species s i v c.count.result previous c.cell_around-now.result next second there
    (c.count.ensures ∙ size)
    record {
      previous_is = c.pitch_before-previous.ensures s first shown from free;
      now_is = c.cell_around-now.ensures s first shown (omega (arith, from));
      next_is = c.next_notes-next.ensures.first s first shown (omega (arith, from));
      second_is = c.next_notes-next.ensures.second s first shown (omega (arith, from));
      clean_is = refl;
    })
