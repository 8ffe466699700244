use Rattle.std.proofs.Common.{refl}
use Rattle.std.proofs.lemmas.Bool.{OnTrue_at}
use Rattle.cert_law.proofs.VoiceSets.{told_cell}
use Rattle.fux_grid.specs.Cells.{cell_in}
use Rattle.fux_judge.proofs.VoiceBreaks.{voice_newly}
use Rattle.cert_law.proofs.voices_told.is_told_of_some.Goals as goal

pub returns-then-is_told : goal.returns-then-is_told
returns-then-is_told c = λ ex state told p is on.
    let col = c.args.col.now.items in
    voice_newly ex p col on c.args.rule 0 refl
    (told_cell ex state p 0 c.args.voices.now.first (cell_in col 0) c.args.rule
    (OnTrue_at c.if-is_told.true c.is_told.ensures) told.first is)

pub returns-then-is_told-2 : goal.returns-then-is_told-2
returns-then-is_told-2 c = λ ex state told p is on.
    let col = c.args.col.now.items in
    voice_newly ex p col on c.args.rule 1 refl
    (told_cell ex state p 1 c.args.voices.now.second (cell_in col 1) c.args.rule
    (OnTrue_at c.if-is_told-2.true c.is_told-2.ensures) told.second is)

pub returns-then-is_told-3 : goal.returns-then-is_told-3
returns-then-is_told-3 c = λ ex state told p is on.
    let col = c.args.col.now.items in
    voice_newly ex p col on c.args.rule 2 refl
    (told_cell ex state p 2 c.args.voices.now.third (cell_in col 2) c.args.rule
    (OnTrue_at c.if-is_told-3.true c.is_told-3.ensures) told.third is)

pub returns-then-is_told-4 : goal.returns-then-is_told-4
returns-then-is_told-4 c = λ ex state told p is on.
    let col = c.args.col.now.items in
    voice_newly ex p col on c.args.rule 3 refl
    (told_cell ex state p 3 c.args.voices.now.fourth (cell_in col 3) c.args.rule
    (OnTrue_at c.if-is_told-4.true c.is_told-4.ensures) told.fourth is)
