use Rattle.std.proofs.Common.{Bool, sym, ap, ◌∙◌}
use Rattle.std.specs.Prelude.{if◌then◌else◌}
use Rattle.fux_grid.specs.Columns.{line}
use Rattle.melody_rules.proofs.VoiceLemmas.{notes_at}
use Rattle.penalty_sheet.specs.Weights.{weight_of}
use Rattle.fux_judge.proofs.tolls.charge_of_leap.Goals as goal

pub returns-then-leap_open_after-clause-value : goal.returns-then-leap_open_after-clause-value
returns-then-leap_open_after-clause-value c = λ behind are.
    c.from.ensures ∙ c.weight.ensures
    ∙ ap (λ (b : Bool). if b then weight_of c.args.sheet.now 13 else 0)
    (sym c.if-leap_open_after.true ∙ c.leap_open_after.ensures (line c.args.voice behind)
    (notes_at behind c.args.voices.now c.args.voice c.index-voices-voice.result are c.told-voices c.requires))

pub returns-else-leap_open_after-clause-value : goal.returns-else-leap_open_after-clause-value
returns-else-leap_open_after-clause-value c = λ behind are.
    ap (λ (b : Bool). if b then weight_of c.args.sheet.now 13 else 0)
    (sym c.if-leap_open_after.false ∙ c.leap_open_after.ensures (line c.args.voice behind)
    (notes_at behind c.args.voices.now c.args.voice c.index-voices-voice.result are c.told-voices c.requires))
