use Rattle.std.proofs.Common.{arith}
use Rattle.melody_rules.proofs.VoiceLemmas.{notes_at, latest_pitch}
use Rattle.melody_rules.proofs.voices.latest_of_notes.Goals as goal

pub returns : goal.returns
returns c = λ behind are.
    let four = c.told-voices in
    let a = latest_pitch _ _ (notes_at behind c.args.voices.now 0 c.index-voices-0.result are four (omega arith)) in
    let b = latest_pitch _ _ (notes_at behind c.args.voices.now 1 c.index-voices-1.result are four (omega arith)) in
    let d = latest_pitch _ _ (notes_at behind c.args.voices.now 2 c.index-voices-2.result are four (omega arith)) in
    let e = latest_pitch _ _ (notes_at behind c.args.voices.now 3 c.index-voices-3.result are four (omega arith)) in
    cc
