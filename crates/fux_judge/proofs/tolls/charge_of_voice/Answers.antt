use Rattle.std.proofs.Common.{◌≡◌, ℕ, ◌+◌, Option, reverse, sym, ap, ◌∙◌}
use Rattle.std.specs.Prelude.{if◌then◌else◌}
use Rattle.fux_grid.specs.declared.cell.Cell.{Cell}
use Rattle.fux_grid.specs.Columns.{line}
use Rattle.fux_pitch.specs.declared.pitch.Pitch.{Pitch}
use Rattle.rule_law.specs.Nearby.{pitch_at}
use Rattle.rule_law.specs.Terms.{holds_of, move_from, previous_pitch}
use Rattle.melody_rules.specs.Rows as melody
use Rattle.penalty_sheet.specs.Weights.{weight_of}
use Rattle.fux_judge.proofs.ChargeLemmas.{latest_of_line, paid_by_voice}
use Rattle.fux_judge.proofs.tolls.charge_of_voice.Goals as goal

pub returns-clause-value : goal.returns-clause-value
returns-clause-value c = λ p after.
    let latest : c.of.result ≡ previous_pitch (line c.args.voice (reverse p)) =
    c.of.ensures ∙ ap (λ pitches. pitch_at pitches c.args.voice) after.latest
    ∙ latest_of_line (reverse p) c.args.voice c.requires in
    let move : Option Pitch → Cell → ℕ = λ previous now.
    (if holds_of (melody.charges_move 7) (move_from previous now) then weight_of c.args.sheet.now 7 else 0) +
    (if holds_of (melody.charges_move 8) (move_from previous now) then weight_of c.args.sheet.now 8 else 0) +
    (if holds_of (melody.charges_move 9) (move_from previous now) then weight_of c.args.sheet.now 9 else 0) +
    (if holds_of (melody.charges_move 10) (move_from previous now) then weight_of c.args.sheet.now 10 else 0) in
    let leap : Cell → ℕ = λ now. if melody.leaves_leap_open
    (melody.before_last (melody.pitches (line c.args.voice (reverse p))))
    (melody.last_of (melody.pitches (line c.args.voice (reverse p)))) now then weight_of c.args.sheet.now 13
    else 0 in
    paid_by_voice c.args.m.now.exercise.now c.args.sheet.now p c.args.m.now.column.now c.args.voice _ _
    (sym c.is_free.ensures ∙ c.if-not-is_free.false)
    (c.charge_of_move.ensures.value ∙ ap (λ previous. move previous c.cell_of-cell.result) latest
    ∙ ap (move (previous_pitch (line c.args.voice (reverse p)))) c.cell_of-cell.ensures)
    (c.charge_of_leap.ensures.value (reverse p) after.state.past.melody ∙ ap leap c.cell_of-cell.ensures)
