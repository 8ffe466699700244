use Rattle.std.proofs.Common.{rules, ◌<◌, arith, ap, sym, ◌∙◌}
use Rattle.fux_grid.specs.Cells.{cell_in}
use Rattle.fux_grid.specs.Columns.{line}
use Rattle.melody_rules.specs.Rows.{pitches, window_rule}
use Rattle.melody_rules.proofs.VoiceLemmas.{notes_at, on_free_voice-test}
use Rattle.melody_rules.proofs.voices.breaks_looking_back.Goals as goal

pub returns-else-not-is_free : goal.returns-else-not-is_free
returns-else-not-is_free c = λ i behind ahead are.
    let small : c.in-Some.v < 4 = search rules in
    let mine = c.breaks_after.ensures (line c.in-Some.v behind)
    (notes_at behind c.args.voices.now c.in-Some.v c.index-voices-v.result are c.told-voices small) in
    mine
    ∙ ap (λ cell. window_rule c.args.rule (pitches (line c.in-Some.v behind)) cell) c.cell_of.ensures
    ∙ sym (on_free_voice-test c.args.ex.now
    (λ v. window_rule c.args.rule (pitches (line v behind)) (cell_in c.args.now.now v)) c.args.set.bits c.in-Some.v
    c.in-Some.ensures (omega arith) (sym c.if-not-is_free.ensures))
