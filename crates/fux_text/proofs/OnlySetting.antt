-- A setting that is read has the lines of its free voices (`setting-only`, `sung_score-only`).
use Rattle.std.proofs.Common.{◌≡◌, inl, inr, ℕ, zero, suc, ◌+◌, ◌*◌, ◌<◌, Bool, true, false, List, [], ◌∷◌, ◌++◌, get_or, length, length-append, Option, Some, refl, sym, ap, subst, ◌∙◌, arith}
use Rattle.std.specs.Prelude.{◌==◌}
use Rattle.std.specs.List.{AllByRecursion, range_with_len}
use Rattle.std.proofs.lemmas.List.{append-nil, length-map}
use Rattle.std.proofs.lemmas.List.FromFn.{get_or-map-range_with_len, length-map-range_with_len, length-range_with_len}
use Rattle.fux_grid.specs.declared.cell.Cell.{Cell}
use Rattle.fux_grid.specs.declared.cell.Cell.TheVariants.{Rest}
use Rattle.fux_grid.specs.declared.exercise.Exercise.{Exercise}
use Rattle.fux_grid.specs.Cells.{cell_in}
use Rattle.fux_grid.specs.Columns.{line}
use Rattle.fux_grid.specs.Exercises.{IsGiven}
use Rattle.fux_grid.specs.Grid.{Grid}
use Rattle.text_lines.specs.Lines.{TextLines}
use Rattle.text_lines.specs.Tables.{IsTable}
use Rattle.fux_text.specs.Grammar.{AreSung, IsSettingOf, IsSung, Sings}
use Rattle.fux_text.specs.Lines.{free_voices}
use Rattle.fux_text.specs.Sing.{Fit, setting_table, sung_table, voices_table}
use Rattle.fux_text.proofs.Following.{voices-follow, voices-length}
use Rattle.fux_text.proofs.OnlySing.{sung-length}
use Rattle.fux_text.proofs.OnlyWords.{line_texts, no-lines}
use Rattle.fux_text.proofs.OwnSetting.{free-cantus, free-other, free_of}
use Rattle.fux_text.proofs.ValidSetting.{get_or-end, score-given, voice-cantus, voice-line, voices-keep}
use Rattle.voice_lines.specs.Lines.{LineFollows, column_of, score_of}
use Rattle.voice_lines.proofs.Scores.{columns_follow, line_of_score}

-- ---- the voices

-- the lines of the free ones of so many voices
record HaveLines (ex : Exercise) (a n : ℕ) (text : TextLines) (x : List (List Cell)) (rest : TextLines) : Type 0 where
  pub words : List (List (List ℕ))
  pub lines : line_texts text ≡ words ++ line_texts rest
  pub sung : AreSung ex.bars (λ v. get_or x v []) (free_of ex a n) words

voices-only : (fit : Fit) (ex : Exercise) (n a : ℕ) (before : List (List Cell)) (text : TextLines)
    (x : List (List Cell)) (rest : TextLines)
    → length before ≡ a → IsTable (voices_table fit ex (range_with_len a n) before) text x rest → HaveLines ex a n text x rest
voices-only fit ex zero a before text x rest long h = record { words = []; lines = ap line_texts h.1; sung = tt }
voices-only fit ex (suc n) a before text x rest long (cells, b, voice, others) =
    let more = before ++ cells ∷ [] in
    let long_more : length more ≡ a + 1 = length-append before (cells ∷ []) ∙ omega (arith, long) in
    let later = voices-only fit ex n (a + 1) more b x rest long_more others in
    let kept = voices-keep fit ex n (a + 1) more b x rest long_more others in
    let own : get_or x a [] ≡ cells = kept.kept a (omega arith) ∙ ap (λ k. get_or more k []) (sym long)
    ∙ get_or-end before cells in
    by (a == ex.cantus_voice) refl own later
  where
    Sung : List ℕ → List (List (List ℕ)) → Type 0
    Sung vs words = AreSung ex.bars (λ v. get_or x v []) vs words

    by : (c : Bool) → (a == ex.cantus_voice) ≡ c → get_or x a [] ≡ cells → HaveLines ex (a + 1) n b x rest
        → HaveLines ex a (suc n) text x rest
    by true f own later = record {
      words = later.words;
      lines = ap line_texts (voice-cantus fit ex a text cells b f voice).1 ∙ later.lines;
      sung = subst (λ vs. Sung vs later.words) (sym (free-cantus ex a n f)) later.sung;
    }
    by false f own later =
        let l = voice-line fit ex a text cells b f voice in
        record {
          words = l.words ∷ later.words;
          lines = l.line ∙ ap (λ ls. l.words ∷ ls) later.lines;
          sung = subst (λ vs. Sung vs (l.words ∷ later.words)) (sym (free-other ex a n f))
              (subst (λ cs. IsSung ex.bars a l.words cs) (sym own) l.sung, later.sung);
        }

-- ---- the score

sung-columns : (bars : ℕ) (lines : List (List Cell)) (vs : List ℕ) (words : List (List (List ℕ)))
    → AreSung bars (λ v. get_or lines v []) vs words → AreSung bars (λ v. line v (score_of (8 * bars) lines).columns) vs words
sung-columns bars lines [] [] sung = tt
sung-columns bars lines [] (ws ∷ words) sung = absurd sung
sung-columns bars lines (v ∷ vs) [] sung = absurd sung
sung-columns bars lines (v ∷ vs) (ws ∷ words) sung = (
  subst (λ cs. IsSung bars v ws cs)
      (sym (line_of_score (8 * bars) v lines (sung-length bars v ws (get_or lines v []) sung.0))) sung.0,
  sung-columns bars lines vs words sung.1,
)

-- lines with the cantus among them, in each of which the cells follow one another, are a setting
pub score-setting : (ex : Exercise) (lines : List (List Cell)) → length lines ≡ ex.voices
    → AllByRecursion (LineFollows Rest) lines
    → IsGiven ex (score_of (8 * ex.bars) lines) → IsSettingOf ex (score_of (8 * ex.bars) lines)
score-setting ex lines long follow given = record {
  given = given;
  full = λ k d lt.
      let there : k < 8 * ex.bars = omega (arith, lt, length-map-range_with_len (column_of lines) 0 (8 * ex.bars)) in
      ap length (get_or-map-range_with_len (column_of lines) 0 (8 * ex.bars) k k d there (omega arith))
      ∙ length-map lines (λ cells. cell_in cells k) ∙ long;
  follows = columns_follow lines (8 * ex.bars) follow;
}

-- what is read of `sing` lines is a setting with these lines
pub sung_score-only : (fit : Fit) (ex : Exercise) (text : TextLines) (score : Grid) (rest : TextLines) → ex.cantus_voice < ex.voices
    → length ex.cantus ≡ ex.bars
    → IsTable (sung_table fit ex) text score rest → Sings ex (line_texts text) (Some score)
sung_score-only fit ex text score rest there whole (lines, a, voices, (_, b, end, same)) =
    let long : length lines ≡ ex.voices =
    omega (
      arith,
      voices-length fit ex
          (range_with_len 0 ex.voices) [] text lines a voices,
      length-range_with_len 0 ex.voices,
    ) in
    let have = voices-only fit ex ex.voices 0 [] text lines a refl voices in
    let words : line_texts text ≡ have.words =
    have.lines ∙ ap (λ ls. have.words ++ ls) (no-lines a end.0) ∙ append-nil have.words in
    let keeps = voices-keep fit ex ex.voices 0 [] text lines a refl voices in
    let given = score-given ex lines whole long (keeps.cantus (omega arith) (omega (arith, there))) in
    let setting = score-setting ex lines long
    (voices-follow fit ex (range_with_len 0 ex.voices) [] text lines a tt voices) given in
    subst (λ ls. Sings ex ls (Some score)) (sym words)
    (subst (λ s. Sings ex have.words (Some s)) same.0
    (setting, sung-columns ex.bars lines (free_voices ex) have.words have.sung))

pub setting-only : (fit : Fit) (ex : Exercise) (text : TextLines) (o : Option Grid) (rest : TextLines)
    → ex.cantus_voice < ex.voices → length ex.cantus ≡ ex.bars
    → IsTable (setting_table fit ex) text o rest → Sings ex (line_texts text) o
setting-only fit ex text o rest there whole (inl (begins, (score, a, sung, same))) =
    subst (Sings ex (line_texts text)) same.0 (sung_score-only fit ex text score a there whole sung)
setting-only fit ex text o rest there whole (inr (begins, (_, a, end, same))) =
    subst (Sings ex (line_texts text)) same.0 (no-lines text end.0)
