use Rattle.std.proofs.Common.{◌∷◌, [], ℕ, Bool, ◌||◌, refl, ◌∙◌}
use Rattle.std.specs.List.{list_any}
use Rattle.cert_law.proofs.VoiceSets.{least_of_four, regroup}
use Rattle.fux_grid.specs.Cells.{cell_in}
use Rattle.fux_judge.specs.Told.{breaks_by_cell, is_of_voice, voice_rules}
use Rattle.fux_judge.proofs.ToldLemmas.{find_where}
use Rattle.fux_judge.proofs.VoiceBreaks.{found_together}
use Rattle.cert_law.proofs.voices_told.ask_voices.Goals as goal

pub returns-clause-line : goal.returns-clause-line
returns-clause-line c = λ p is on.
    let ex = c.args.ex.now in
    let col = c.args.col.now.items in
    let breaks : ℕ → ℕ → Bool = λ v. breaks_by_cell ex p v (cell_in col v) in
    least_of_four c.ask_voice-first.result c.ask_voice-second.result c.ask_voice-third.result
    c.ask_voice-fourth.result c.lesser-lower.result c.lesser-upper.result c.lesser.result
    (breaks 0) (breaks 1) (breaks 2) (breaks 3) voice_rules refl
    c.lesser.ensures c.lesser-lower.ensures c.lesser-upper.ensures
    (c.ask_voice-first.ensures.least p is) (c.ask_voice-second.ensures.least p is)
    (c.ask_voice-third.ensures.least p is) (c.ask_voice-fourth.ensures.least p is)
    ∙ find_where is_of_voice (λ r. (breaks 0 r || breaks 1 r) || (breaks 2 r || breaks 3 r))
    (λ r. list_any (λ v. breaks v r) (0 ∷ 1 ∷ 2 ∷ 3 ∷ [])) voice_rules refl
    (λ r h. regroup (breaks 0 r) (breaks 1 r) (breaks 2 r) (breaks 3 r))
    ∙ found_together ex p col on
