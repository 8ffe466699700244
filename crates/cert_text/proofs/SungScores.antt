-- Lines of items are those that are written of a setting (`items-are_written`), and no others are
-- (`written-are_items`), and they are read as that setting (`written-lines_read`).
use Rattle.std.proofs.Common.{◌≡◌, ℕ, zero, suc, ◌+◌, ◌*◌, ◌<◌, ◌≤◌, Bool, true, false, List, [], ◌∷◌, ◌++◌, get_or, length, map, refl, sym, ap, subst, ◌∙◌, arith}
use Rattle.std.specs.Prelude.{◌==◌, if◌then◌else◌}
use Rattle.std.specs.List.{AllByRecursion, flat_map, range_with_len}
use Rattle.std.proofs.lemmas.Bool.{eq-eqb}
use Rattle.std.proofs.lemmas.List.FromFn.{get_or-map-range_with_len, length-map-range_with_len}
use Rattle.fux_grid.specs.declared.cell.Cell.{Cell}
use Rattle.fux_grid.specs.declared.cell.Cell.TheVariants.{Rest}
use Rattle.fux_grid.specs.declared.exercise.Exercise.{Exercise}
use Rattle.fux_grid.specs.Columns.{line}
use Rattle.fux_grid.specs.Exercises.{IsValid}
use Rattle.fux_grid.specs.Grid.{Grid}
use Rattle.fux_text.specs.Grammar.{IsSettingOf}
use Rattle.fux_text.proofs.Bars.{cells_of}
use Rattle.fux_text.specs.Lines.{free_voices, sing_text}
use Rattle.fux_text.specs.ReadBack.{sing_lines}
use Rattle.fux_text.specs.Texts.{AreSingLinesOf}
use Rattle.fux_text.proofs.Following.{start-follows}
use Rattle.fux_text.proofs.OnlySetting.{score-setting}
use Rattle.fux_text.proofs.OwnSetting.{free-cantus, free-other, free_of}
use Rattle.fux_text.proofs.OwnText.{sing_lines-back}
use Rattle.fux_text.proofs.ValidSetting.{score-given}
use Rattle.cert_text.specs.SingItems.{AreLines, AreWrittenOf}
use Rattle.cert_text.specs.WrittenLines.{WrittenLinesAreRead}
use Rattle.cert_text.proofs.ItemTexts.{AreItemLines, Fits, item_lines-short, line_text, lines_text}
use Rattle.cert_text.proofs.ItemCells.{fits-follow, fits-long, fits-same}
use Rattle.cert_text.proofs.SungItems.{voice-cells, voice-fits, voice-text, voice_items}
use Rattle.voice_lines.specs.Lines.{LineFollows, cantus_cells, score_of}
use Rattle.voice_lines.proofs.Scores.{line_follows, line_of_score}

-- ---- texts of the free voices

-- texts that are the same for each free voice are the same
each-free : (ex : Exercise) (f g : ℕ → List ℕ)
    → ((v : ℕ) → v < ex.voices → (v == ex.cantus_voice) ≡ false → f v ≡ g v)
    → (n a : ℕ) → a + n ≤ ex.voices → flat_map f (free_of ex a n) ≡ flat_map g (free_of ex a n)
each-free ex f g same zero a low = refl
each-free ex f g same (suc n) a low =
    by (a == ex.cantus_voice) refl (each-free ex f g same n (a + 1) (omega (arith, low)))
  where
    Same : List ℕ → Type 0
    Same voices = flat_map f voices ≡ flat_map g voices

    by : (b : Bool) → (a == ex.cantus_voice) ≡ b → Same (free_of ex (a + 1) n) → Same (free_of ex a (suc n))
    by true e rest = subst Same (sym (free-cantus ex a n e)) rest
    by false e rest =
        subst Same (sym (free-other ex a n e))
        (ap (λ t. t ++ flat_map f (free_of ex (a + 1) n)) (same a (omega (arith, low)) e) ∙ ap (λ t. g a ++ t) rest)

-- ---- the lines that are written of a setting are lines of items

-- the cells of a voice of a setting follow one another
own-follows : (ex : Exercise) (score : Grid) (v : ℕ) → IsSettingOf ex score → LineFollows Rest (line v score.columns)
own-follows ex score v setting = line_follows v score.columns setting.follows

own-text : (ex : Exercise) (score : Grid) (v : ℕ) → IsValid ex → IsSettingOf ex score → v < ex.voices
    → sing_text v score.columns ≡ line_text ex v (voice_items v score.columns)
own-text ex score v valid setting there =
    voice-text ex v score.columns (omega (arith, there, valid.most_voices)) (omega (arith, valid.fewest_bars))
    setting.given.complete.whole (own-follows ex score v setting)

pub written-are_items : (ex : Exercise) (score : Grid) (lines : List ℕ) → IsValid ex → AreWrittenOf ex score lines
    → AreItemLines ex lines (free_voices ex)
written-are_items ex score lines valid written =
    let columns = score.columns in
    let long = written.setting.given.complete.whole in
    record {
      sung = λ v. voice_items v columns;
      fits = λ v. voice-fits ex.bars v columns long (own-follows ex score v written.setting);
      text = written.written
          ∙ each-free ex (λ v. sing_text v columns) (λ v. line_text ex v (voice_items v columns))
          (λ v there free. own-text ex score v valid written.setting there) ex.voices 0 (omega arith);
    }

-- ---- the score of items

module _ (ex : Exercise) (sung : ℕ → List (Cell × ℕ)) (fits : (v : ℕ) → Fits ex.bars 0 Rest (sung v)) where
  -- the cells of a voice
  abbrev cells_for : ℕ → List Cell
  cells_for v = if v == ex.cantus_voice then cantus_cells ex.cantus else cells_of (sung v)

  abbrev lines_for : List (List Cell)
  lines_for = map cells_for (range_with_len 0 ex.voices)

  abbrev score_for : Grid
  score_for = score_of (8 * ex.bars) lines_for

  line-at : (v : ℕ) → v < ex.voices → get_or lines_for v [] ≡ cells_for v
  line-at v there = get_or-map-range_with_len cells_for 0 ex.voices v v [] there (omega arith)

  cells-follow : (v : ℕ) → LineFollows Rest (cells_for v)
  cells-follow v = by (v == ex.cantus_voice)
    where
      by : (b : Bool) → LineFollows Rest (if b then cantus_cells ex.cantus else cells_of (sung v))
      by true = start-follows Rest ex.cantus
      by false = fits-follow ex.bars 0 Rest (sung v) (fits v)

  all-follow : (vs : List ℕ) → AllByRecursion (LineFollows Rest) (map cells_for vs)
  all-follow [] = tt
  all-follow (v ∷ vs) = (cells-follow v, all-follow vs)

  free-cells : (v : ℕ) → (v == ex.cantus_voice) ≡ false → cells_for v ≡ cells_of (sung v)
  free-cells v free = rw free refl

  cantus-line : IsValid ex → get_or lines_for ex.cantus_voice [] ≡ cantus_cells ex.cantus
  cantus-line valid = line-at ex.cantus_voice valid.cantus_there ∙ own
    where
      own : cells_for ex.cantus_voice ≡ cantus_cells ex.cantus
      own =
          let same : (ex.cantus_voice == ex.cantus_voice) ≡ true = eq-eqb ex.cantus_voice ex.cantus_voice refl in
          rw same refl

  setting : IsValid ex → IsSettingOf ex score_for
  setting valid =
      let long : length lines_for ≡ ex.voices = length-map-range_with_len cells_for 0 ex.voices in
      score-setting ex lines_for long (all-follow (range_with_len 0 ex.voices))
      (score-given ex lines_for valid.whole_cantus long (cantus-line valid))

  -- a free voice of the score has the cells of its items
  free-line : (v : ℕ) → v < ex.voices → (v == ex.cantus_voice) ≡ false → line v score_for.columns ≡ cells_of (sung v)
  free-line v there free =
      let at : get_or lines_for v [] ≡ cells_of (sung v) = line-at v there ∙ free-cells v free in
      let long : length (get_or lines_for v []) ≡ 8 * ex.bars =
      ap length at ∙ omega (arith, fits-long ex.bars 0 Rest (sung v) (fits v)) in
      line_of_score (8 * ex.bars) v lines_for long ∙ at

  -- and so these are its items
  free-text : (v : ℕ) → IsValid ex → v < ex.voices → (v == ex.cantus_voice) ≡ false
      → sing_text v score_for.columns ≡ line_text ex v (sung v)
  free-text v valid there free =
      let is = setting valid in
      let long = is.given.complete.whole in
      let follows = own-follows ex score_for v is in
      let same : voice_items v score_for.columns ≡ sung v =
      fits-same ex.bars 0 Rest (voice_items v score_for.columns) (sung v)
      (voice-fits ex.bars v score_for.columns long follows) (fits v)
      (voice-cells ex.bars v score_for.columns long follows ∙ free-line v there free) in
      own-text ex score_for v valid is there ∙ ap (line_text ex v) same

  score-written : IsValid ex → sing_lines ex score_for.columns ≡ lines_text ex sung (free_voices ex)
  score-written valid =
      each-free ex (λ v. sing_text v score_for.columns) (λ v. line_text ex v (sung v))
      (λ v there free. free-text v valid there free) ex.voices 0 (omega arith)

pub items-are_written : (ex : Exercise) (lines : List ℕ) → IsValid ex → AreItemLines ex lines (free_voices ex)
    → AreLines ex lines
items-are_written ex lines valid are = (
  score_for ex are.sung are.fits,
  record {
    setting = setting ex are.sung are.fits valid;
    written = are.text ∙ sym (score-written ex are.sung are.fits valid);
  },
)

-- ---- they are read
pub written-lines_read : WrittenLinesAreRead
written-lines_read ex lines score valid written =
    let short : length lines ≤ 65536 =
    omega (arith, item_lines-short ex lines valid (written-are_items ex score lines valid written)) in
    subst (λ xs. AreSingLinesOf ex xs score) (sym written.written)
    (sing_lines-back ex score valid written.setting (subst (λ xs. length xs ≤ 65536) written.written short))
