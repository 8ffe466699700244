use Rattle.std.specs.Prelude.{◌&&◌, [], slice_index_or}
use Rattle.std.proofs.Common.{ap, sym, ◌∙◌}
use Rattle.std.proofs.lemmas.Bool.{lt-ltb}
use Rattle.fux_grid.specs.Columns.{earlier}
use Rattle.rhythm_cadence.specs.Cadence.{shows_cadence}
use Rattle.rhythm_cadence.proofs.CadenceReadings.{voice_reading}
use Rattle.rhythm_cadence.proofs.cadence.shows_cadence.Goals as goal

pub returns-then-v-ex : goal.returns-then-v-ex
returns-then-v-ex g c = λ s first shown from here follows.
    let ex = c.args.ex.now in
    let i = c.args.i in
    c.ends_well.ensures s first shown from
    ∙ sym (voice_reading ex s i follows c.requires.place here c.args.v)
    ∙ sym (ap (λ b. b && shows_cadence ex i (earlier s i) (slice_index_or s i []) c.args.v)
    (lt-ltb c.args.v ex.voices c.if-v-ex.true))
