-- The lines of an answer follow (`lines_follow`), and the score that they are has the lesson's
-- cantus (`has_cantus`); what the answer of voices is whose number is the lesson's (`counted`).
use Rattle.std.proofs.Common.{◌≡◌, ℕ, ◌*◌, ◌<◌, Bool, true, false, List, [], ◌∷◌, length, get_or, Ok, refl, ◌∙◌, ap, arith}
use Rattle.std.specs.Prelude.{map, ◌==◌, if◌then◌else◌}
use Rattle.std.specs.List.{AllByRecursion}
use Rattle.std.proofs.lemmas.Bool.{eq-eqb}
use Rattle.std.proofs.lemmas.List.FromFn.{get_or-map-range_with_len, length-map-range_with_len}
use Rattle.fux_pitch.specs.declared.pitch.Pitch.{Pitch}
use Rattle.fux_grid.specs.declared.cell.Cell.{Cell}
use Rattle.fux_grid.specs.declared.cell.Cell.TheVariants.{Rest, Hold}
use Rattle.fux_grid.specs.declared.exercise.Exercise.{Exercise}
use Rattle.fux_grid.specs.Cells.{cell_in}
use Rattle.fux_grid.specs.Exercises.{IsGiven, IsValid}
use Rattle.fux_grid.proofs.PitchTests.{same_pitch-from_equal}
use Rattle.smf_score.specs.declared.placed.Placed.{Placed}
use Rattle.smf_score.specs.Sounding.{cells_of}
use Rattle.smf_score.proofs.ValidLemmas.{cells_follow}
use Rattle.smf_score.specs.Joined.{joined, line_of, lines_of, score_in, unless, voices_fault}
use Rattle.smf_score.specs.Orders.{voice_of}
use Rattle.voice_lines.specs.Lines.{LineFollows, cantus_cells}
use Rattle.voice_lines.proofs.CantusLines.{score_given}
use Rattle.voice_lines.proofs.Scores.{start_follows}

cantus_follows : (before : Cell) (cantus : List Pitch) → LineFollows before (cantus_cells cantus)
cantus_follows before [] = tt
cantus_follows before (p ∷ ps) =
    let h = same_pitch-from_equal p p refl in
    (start_follows before p, (h, (h, (h, (h, (h, (h, (h, cantus_follows (Hold p) ps))))))))

line_follows : (lesson : Exercise) (voices : List (List Placed)) (v : ℕ) → LineFollows Rest (line_of lesson voices v)
line_follows lesson voices v = by (v == lesson.cantus_voice)
  where
    by : (b : Bool)
        → LineFollows Rest (if b then cantus_cells lesson.cantus else cells_of 0 (8 * lesson.bars) (voice_of lesson voices v))
    by true = cantus_follows Rest lesson.cantus
    by false = cells_follow 0 (8 * lesson.bars) (voice_of lesson voices v) Rest

pub lines_follow : (lesson : Exercise) (voices : List (List Placed)) (vs : List ℕ)
    → AllByRecursion (LineFollows Rest) (map (line_of lesson voices) vs)
lines_follow lesson voices [] = tt
lines_follow lesson voices (v ∷ vs) = (line_follows lesson voices v, lines_follow lesson voices vs)

cantus_line : (lesson : Exercise) (voices : List (List Placed)) → lesson.cantus_voice < lesson.voices
    → get_or (lines_of lesson voices) lesson.cantus_voice [] ≡ cantus_cells lesson.cantus
cantus_line lesson voices there =
    get_or-map-range_with_len (line_of lesson voices) 0 lesson.voices lesson.cantus_voice lesson.cantus_voice [] there
    (omega arith)
    ∙ rw (eq-eqb lesson.cantus_voice lesson.cantus_voice refl) refl

pub has_cantus : (lesson : Exercise) (voices : List (List Placed)) → IsValid lesson
    → IsGiven lesson (score_in lesson voices)
has_cantus lesson voices valid =
    score_given lesson (lines_of lesson voices) valid.whole_cantus
    (length-map-range_with_len (line_of lesson voices) 0 lesson.voices)
    (λ i low. ap (λ (cells : List Cell). cell_in cells i) (cantus_line lesson voices valid.cantus_there))

pub counted : (lesson : Exercise) (voices : List (List Placed)) → length voices ≡ lesson.voices
    → joined lesson voices ≡ unless (voices_fault lesson voices) (Ok (score_in lesson voices))
unfolding joined
counted lesson voices same = rw (eq-eqb (length voices) lesson.voices same) refl
