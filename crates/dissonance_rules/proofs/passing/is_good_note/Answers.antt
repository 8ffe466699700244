use Rattle.std.specs.Prelude.{◌+◌, Bool, false, Option, None, drop}
use Rattle.std.proofs.Common.{ap, sym, ◌∙◌, arith}
use Rattle.fux_pitch.specs.declared.pitch.Pitch.{Pitch}
use Rattle.fux_grid.specs.Cells.{pitch_of}
use Rattle.fux_grid.specs.Columns.{cell_at, earlier, line}
use Rattle.fux_grid.specs.Exercises.{species_in}
use Rattle.rule_law.specs.After.{onset_pitch, second_next_onset}
use Rattle.rule_law.specs.Terms.{previous_pitch}
use Rattle.dissonance_rules.specs.Passing.{is_good, next_is_clean}
use Rattle.dissonance_rules.proofs.PassingReadings.{good-straight}
use Rattle.dissonance_rules.proofs.passing.is_good_note.Goals as goal

pub returns-then-not-bends_down : goal.returns-then-not-bends_down
returns-then-not-bends_down g c = λ s first shown from free.
    let ex = c.args.ex.now in
    let i = c.args.i in
    let v = c.args.v in
    let species = species_in ex v in
    let before : Option Pitch = previous_pitch (line v (earlier s i)) in
    let now : Option Pitch = pitch_of (cell_at s v i) in
    let clean : Bool = next_is_clean i (drop (i + 1) s) v in
    let after : Option Pitch = onset_pitch (second_next_onset i v (drop (i + 1) s)) in
    c.is_good.ensures
    ∙ good-straight c.species_of.result c.pitch_before-previous.result c.pitch-here.result c.onset_pitch-follows.result
    false None clean after (sym c.bends_down.ensures ∙ c.if-not-bends_down.true)
    ∙ ap (λ n. is_good n c.pitch_before-previous.result c.pitch-here.result c.onset_pitch-follows.result clean after)
    c.species_of.ensures.value
    ∙ ap (λ (p : Option Pitch). is_good species p c.pitch-here.result c.onset_pitch-follows.result clean after)
    (c.pitch_before-previous.ensures s first shown from free)
    ∙ ap (λ (p : Option Pitch). is_good species before p c.onset_pitch-follows.result clean after)
    (c.pitch-here.ensures ∙ ap pitch_of (c.cell_around.ensures s first shown (omega (arith, from))))
    ∙ ap (λ (p : Option Pitch). is_good species before now p clean after)
    (c.onset_pitch-follows.ensures ∙ ap onset_pitch (c.next_onset.ensures s first shown (omega (arith, from))))

pub returns : goal.returns
returns g c = λ s first shown from free. c.is_good_by_two.ensures s first shown from free
