-- A setting is read back from its `sing` lines (`sung_score-own`, `setting-own`).
use Rattle.std.proofs.Common.{◌≡◌, ℕ, zero, suc, ◌+◌, ◌*◌, ◌<◌, ◌≤◌, Bool, true, false, List, [], ◌∷◌, ◌++◌, length, map, Option, Some, None, Ok, refl, sym, ap, subst, ◌∙◌, append_assoc, arith}
use Rattle.std.specs.Prelude.{◌==◌, not, codes, filter, IfSome, ⊤}
use Rattle.std.specs.List.{range_with_len}
use Rattle.std.proofs.lemmas.Bool.{eqb-true, ne_eqb}
use Rattle.std.proofs.lemmas.List.{append-nil}
use Rattle.fux_grid.specs.declared.cell.Cell.{Cell}
use Rattle.fux_grid.specs.declared.exercise.Exercise.{Exercise}
use Rattle.fux_grid.specs.Columns.{line}
use Rattle.fux_grid.specs.Grid.{Grid}
use Rattle.text_lines.specs.Lines.{TextLines}
use Rattle.text_lines.specs.Reading.{begins, no_line}
use Rattle.text_lines.specs.Tables.{table_in}
use Rattle.text_lines.specs.Words.{LineWords}
use Rattle.std.specs.Fmt.{decimal}
use Rattle.fux_text.specs.Grammar.{AreSung, IsSettingOf, IsSung, Sings}
use Rattle.fux_text.specs.Lines.{free_voices, sing_words}
use Rattle.fux_text.specs.Sing.{Fit, setting_table, sung_table, voice_table, voices_table}
use Rattle.fux_text.proofs.Layouts.{left, lines_at, with_line}
use Rattle.fux_text.proofs.OwnBars.{sing_line-own, sing_words-sung}
use Rattle.voice_lines.specs.Lines.{cantus_cells}
use Rattle.voice_lines.proofs.CantusLines.{cantus_line}
use Rattle.voice_lines.proofs.Scores.{line_follows, score_own}

-- ---- the voices, one after the other

-- what the lines of voices are read into
record HasVoices (fit : Fit) (ex : Exercise) (columns : List (List Cell)) : Type 0 where
  pub few : ex.voices ≤ 9999999
  pub cantus : cantus_cells ex.cantus ≡ line ex.cantus_voice columns
  pub fits : (v : ℕ) → v < ex.voices → fit v (line v columns) ≡ true

voice-cantus_own : (fit : Fit) (ex : Exercise) (columns : List (List Cell)) (v : ℕ) (text : TextLines) → HasVoices fit ex columns
    → (v == ex.cantus_voice) ≡ true → table_in (voice_table fit ex v) text ≡ Ok (line v columns, text)
unfolding table_in
voice-cantus_own fit ex columns v text has e =
    let cells : cantus_cells ex.cantus ≡ line v columns = has.cantus
    ∙ ap (λ w. line w columns) (sym (eqb-true v ex.cantus_voice e)) in
    rw e (ap (λ cs. Ok (cs, text)) cells)

voice-sung_own : (fit : Fit) (ex : Exercise) (columns : List (List Cell)) (v after : ℕ) (l : LineWords) (words : List (List ℕ))
    (others : List LineWords)
    → HasVoices fit ex columns → v < ex.voices → (v == ex.cantus_voice) ≡ false → IsSung ex.bars v words (line v columns)
    → table_in (voice_table fit ex v) (with_line after l words others) ≡ Ok (line v columns, left after others)
unfolding table_in
voice-sung_own fit ex columns v after l words others has there e sung =
    rw e (sing_line-own (fit v) ex.bars v words (line v columns) after l others (omega (arith, there, has.few)) sung
    (has.fits v there))

-- the free ones of so many voices
abbrev pub free_of : Exercise → ℕ → ℕ → List ℕ
free_of ex a n = filter (λ v. not (v == ex.cantus_voice)) (range_with_len a n)

pub free-cantus : (ex : Exercise) (a n : ℕ) → (a == ex.cantus_voice) ≡ true → free_of ex a (suc n)
    ≡ free_of ex (a + 1) n
free-cantus ex a n e = rw e refl

pub free-other : (ex : Exercise) (a n : ℕ) → (a == ex.cantus_voice) ≡ false → free_of ex a (suc n)
    ≡ a ∷ free_of ex (a + 1) n
free-other ex a n e = rw e refl

-- voices are read from such lines
abbrev ReadsVoices : Fit → Exercise → List (List Cell) → ℕ → ℕ → ℕ → List (List Cell) → Type 0
ReadsVoices fit ex columns after n a before =
    (lay : ℕ → LineWords) (lines : List (List (List ℕ))) → AreSung ex.bars (λ w. line w columns) (free_of ex a n) lines
    → table_in (voices_table fit ex (range_with_len a n) before) (left after (lines_at lay lines))
    ≡ Ok (before ++ map (λ v. line v columns) (range_with_len a n), left after [])

voices-own : (fit : Fit) (ex : Exercise) (columns : List (List Cell)) (after : ℕ) → HasVoices fit ex columns
    → (n a : ℕ) (before : List (List Cell))
    → a + n ≤ ex.voices → ReadsVoices fit ex columns after n a before
unfolding table_in
voices-own fit ex columns after has zero a before low lay [] sung = ap (λ found. Ok (found, left after []))
    (sym (append-nil before))
voices-own fit ex columns after has zero a before low lay (words ∷ lines) sung = absurd sung
voices-own fit ex columns after has (suc n) a before low lay lines sung =
    by (a == ex.cantus_voice) refl
    (voices-own fit ex columns after has n (a + 1) (before ++ line a columns ∷ []) (omega (arith, low)))
  where
    vs : List ℕ
    vs = range_with_len (a + 1) n

    whole : (before ++ line a columns ∷ []) ++ map (λ v. line v columns) vs
        ≡ before ++ map (λ v. line v columns) (a ∷ vs)
    whole = append_assoc before (line a columns ∷ []) (map (λ v. line v columns) vs)

    Reads : List (List (List ℕ)) → Type 0
    Reads found =
        table_in (voices_table fit ex (a ∷ vs) before) (left after (lines_at lay found))
        ≡ Ok (before ++ map (λ v. line v columns) (a ∷ vs), left after [])

    first : (found : List (List (List ℕ))) → (a == ex.cantus_voice) ≡ false
        → AreSung ex.bars (λ w. line w columns) (a ∷ free_of ex (a + 1) n) found
        → ReadsVoices fit ex columns after n (a + 1) (before ++ line a columns ∷ []) → Reads found
    first [] e s rest = absurd s
    first (words ∷ others) e s rest =
        rw (voice-sung_own fit ex columns a after (lay 0) words (lines_at (λ k. lay (suc k)) others) has
        (omega (arith, low)) e s.0)
        (rest (λ k. lay (suc k)) others s.1 ∙ ap (λ found. Ok (found, left after [])) whole)

    by : (b : Bool) → (a == ex.cantus_voice) ≡ b → ReadsVoices fit ex columns after n (a + 1)
        (before ++ line a columns ∷ []) → Reads lines
    by true e rest =
        rw (voice-cantus_own fit ex columns a (left after (lines_at lay lines)) has e)
        (rest lay lines (subst (λ free. AreSung ex.bars (λ w. line w columns) free lines) (free-cantus ex a n e) sung)
        ∙ ap (λ found. Ok (found, left after [])) whole)
    by false e rest = first lines e
        (subst (λ free. AreSung ex.bars (λ w. line w columns) free lines) (free-other ex a n e) sung) rest

-- ---- the score

-- an exercise of which settings are read
pub record IsSingable (ex : Exercise) : Type 0 where
  pub fewest_voices : 2 ≤ ex.voices
  pub most_voices : ex.voices ≤ 4
  pub some_bars : 1 ≤ ex.bars
  pub whole_cantus : length ex.cantus ≡ ex.bars

-- a setting is read from the lines of its free voices
pub sung_score-own : (fit : Fit) (ex : Exercise) (score : Grid) (after : ℕ) (lay : ℕ → LineWords) (lines : List (List (List ℕ)))
    → IsSingable ex
    → IsSettingOf ex score → ((v : ℕ) → v < ex.voices → fit v (line v score.columns) ≡ true)
    → AreSung ex.bars (λ w. line w score.columns) (free_voices ex) lines
    → table_in (sung_table fit ex) (left after (lines_at lay lines)) ≡ Ok (score, left after [])
unfolding table_in no_line
sung_score-own fit ex score after lay lines can setting fits sung =
    let columns = score.columns in
    let long : length columns ≡ 8 * ex.bars = setting.given.complete.whole in
    let has : HasVoices fit ex columns =
    record {
      few = omega (arith, can.most_voices);
      cantus = sym (cantus_line ex columns (long ∙ ap (λ n. 8 * n) (sym can.whole_cantus)) setting.given.cantus);
      fits = fits;
    } in
    rw (voices-own fit ex columns after has ex.voices 0 [] (omega arith) lay lines sung)
    (ap (λ found. Ok (found, left after [])) (score_own (8 * ex.bars) ex.voices columns long setting.full
    ∙ ap (λ n. record { voices = n; columns = columns }) (sym setting.given.complete.voices)))

-- ---- a setting, or none

first_free : (cantus voices : ℕ) → 2 ≤ voices
    → (v : ℕ) × (vs : List ℕ) × (filter (λ w. not (w == cantus)) (range_with_len 0 voices) ≡ v ∷ vs)
first_free cantus zero some = absurd (omega (arith, some))
first_free cantus (suc zero) some = absurd (omega (arith, some))
first_free zero (suc (suc n)) some = (1, filter (λ w. not (w == 0)) (range_with_len 2 n), refl)
first_free (suc c) (suc (suc n)) some =
    let p : ℕ → Bool = λ w. not (w == suc c) in
    let no : (0 == suc c) ≡ false = ne_eqb 0 (suc c) (λ e. omega (arith, e)) in
    (0, filter p (range_with_len 1 (suc n)), rw no refl)

-- the first of these lines begins with `sing`
abbrev pub BeginWithSing : List (List (List ℕ)) → Type 0
BeginWithSing [] = ⊤
BeginWithSing (words ∷ lines) = (others : List (List ℕ)) × (words ≡ codes "sing" ∷ others)

sung-begin : (bars : ℕ) (cells : ℕ → List Cell) (vs : List ℕ) (lines : List (List (List ℕ)))
    → AreSung bars cells vs lines
    → BeginWithSing lines
sung-begin bars cells vs [] sung = tt
sung-begin bars cells [] (words ∷ lines) sung = absurd sung
sung-begin bars cells (v ∷ vs) (words ∷ lines) sung =
    (decimal v ∷ sung.0.items, sung.0.written)

pub sings-begin : (ex : Exercise) (lines : List (List (List ℕ))) (o : Option Grid) → Sings ex lines o
    → BeginWithSing lines
sings-begin ex lines None none = subst BeginWithSing (sym none) tt
sings-begin ex lines (Some score) sings = sung-begin ex.bars (λ w. line w score.columns) (free_voices ex) lines sings.1

-- where there is a line for the first voice, it begins so
begins-first : (bars : ℕ) (cells : ℕ → List Cell) (v : ℕ) (vs : List ℕ) (after : ℕ) (lay : ℕ → LineWords)
    (lines : List (List (List ℕ)))
    → AreSung bars cells (v ∷ vs) lines → begins (codes "sing") (left after (lines_at lay lines)) ≡ true
unfolding begins
begins-first bars cells v vs after lay [] sung = absurd sung
begins-first bars cells v vs after lay (words ∷ lines) sung =
    subst (λ ws. begins (codes "sing") (left after (lines_at lay (ws ∷ lines))) ≡ true) (sym sung.0.written) refl

-- the cells of each voice of a setting fit
abbrev pub SettingFits : Fit → Exercise → Option Grid → Type 0
SettingFits fit ex o = IfSome o (λ score. (v : ℕ) → v < ex.voices → fit v (line v score.columns) ≡ true)

pub setting-own : (fit : Fit) (ex : Exercise) (o : Option Grid) (after : ℕ) (lay : ℕ → LineWords)
    (lines : List (List (List ℕ)))
    → IsSingable ex
    → Sings ex lines o → SettingFits fit ex o
    → table_in (setting_table fit ex) (left after (lines_at lay lines)) ≡ Ok (o, left after [])
unfolding table_in begins no_line
setting-own fit ex None after lay lines can none fits =
    subst (λ found. table_in (setting_table fit ex) (left after (lines_at lay found)) ≡ Ok (None, left after []))
    (sym none) refl
setting-own fit ex (Some score) after lay lines can sings fits =
    let first = first_free ex.cantus_voice ex.voices can.fewest_voices in
    rw (
      begins-first ex.bars (λ w. line w score.columns) first.0 first.1 after lay lines
          (subst (λ vs. AreSung ex.bars (λ w. line w score.columns) vs lines) first.2 sings.1),
      sung_score-own fit ex score after lay lines can sings.0 fits sings.1,
    ) refl

-- ---- the lines that are written

-- the `sing` lines of a setting, or none
abbrev pub sung_lines : Exercise → Option Grid → List (List (List ℕ))
sung_lines ex None = []
sung_lines ex (Some score) = map (λ v. sing_words v score.columns) (free_voices ex)

-- the lines that are written of a setting are lines of it
pub sung_lines-sing : (ex : Exercise) (o : Option Grid) → 1 ≤ ex.bars → IfSome o (IsSettingOf ex)
    → Sings ex (sung_lines ex o) o
sung_lines-sing ex None some setting = refl
sung_lines-sing ex (Some score) some setting = (setting, all (free_voices ex))
  where
    all : (vs : List ℕ) → AreSung ex.bars (λ w. line w score.columns) vs (map (λ v. sing_words v score.columns) vs)
    all [] = tt
    all (v ∷ vs) = (
      sing_words-sung ex.bars v score.columns some setting.given.complete.whole
          (line_follows v score.columns setting.follows),
      all vs,
    )
