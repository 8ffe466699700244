-- A setting that is read is complete and has the cantus (`setting-valid`).
use Rattle.std.proofs.Common.{◌≡◌, ◌⊎◌, inl, inr, ℕ, zero, suc, ◌+◌, ◌*◌, ◌<◌, ◌≤◌, true, false, List, [], ◌∷◌, ◌++◌, length, length-append, get_or, Option, refl, sym, ap, subst, ◌∙◌, arith}
use Rattle.std.specs.Prelude.{◌==◌, IfSome}
use Rattle.std.specs.List.{range_with_len}
use Rattle.std.proofs.lemmas.Bool.{eq-eqb}
use Rattle.std.proofs.lemmas.List.FromFn.{length-range_with_len}
use Rattle.fux_grid.specs.declared.cell.Cell.{Cell}
use Rattle.fux_grid.specs.declared.exercise.Exercise.{Exercise}
use Rattle.fux_grid.specs.Cells.{cell_in}
use Rattle.fux_grid.specs.Exercises.{IsGiven}
use Rattle.fux_grid.specs.Grid.{Grid}
use Rattle.text_lines.specs.Lines.{TextLines}
use Rattle.text_lines.specs.Tables.{IsTable}
use Rattle.fux_text.specs.Sing.{Fit, cantus_or_sung, setting_table, sung_table, voice_table, voices_table}
use Rattle.fux_text.proofs.Following.{voices-length}
use Rattle.fux_text.proofs.OnlySing.{IsLineFor, sing_line-only}
use Rattle.voice_lines.specs.Lines.{cantus_cells, score_of}
use Rattle.voice_lines.proofs.CantusLines.{score_given}

-- what is read of voices: those before are kept, the cantus has its cells, and those of the others
-- fit
pub record KeepsLines (fit : Fit) (ex : Exercise) (a n : ℕ) (before lines : List (List Cell)) : Type 0 where
  pub kept : (k : ℕ) → k < a → get_or lines k [] ≡ get_or before k []
  pub cantus : a ≤ ex.cantus_voice → ex.cantus_voice < a + n → get_or lines ex.cantus_voice [] ≡ cantus_cells ex.cantus
  pub fits : (v : ℕ) → a ≤ v → v < a + n → (v == ex.cantus_voice) ≡ false → fit v (get_or lines v []) ≡ true

get_or-left : (xs : List (List Cell)) (y : List Cell) (k : ℕ) → k < length xs → get_or (xs ++ y ∷ []) k []
    ≡ get_or xs k []
get_or-left [] y k lt = absurd (omega arith)
get_or-left (x ∷ xs) y zero lt = refl
get_or-left (x ∷ xs) y (suc k) lt = get_or-left xs y k (omega arith)

pub get_or-end : (xs : List (List Cell)) (y : List Cell) → get_or (xs ++ y ∷ []) (length xs) [] ≡ y
get_or-end [] y = refl
get_or-end (x ∷ xs) y = get_or-end xs y

-- the voice of the cantus has its cells, and no line; each other one has a line
pub voice-cantus : (fit : Fit) (ex : Exercise) (v : ℕ) (text : TextLines) (x : List Cell) (rest : TextLines)
    → (v == ex.cantus_voice) ≡ true → IsTable (voice_table fit ex v) text x rest
    → (cantus_cells ex.cantus ≡ x) × (text ≡ rest)
voice-cantus fit ex v text x rest same h = subst (λ b. IsTable (cantus_or_sung fit ex v b) text x rest) same h

pub voice-line : (fit : Fit) (ex : Exercise) (v : ℕ) (text : TextLines) (x : List Cell) (rest : TextLines)
    → (v == ex.cantus_voice) ≡ false → IsTable (voice_table fit ex v) text x rest
    → IsLineFor (fit v) ex.bars v text x rest
voice-line fit ex v text x rest other h =
    sing_line-only (fit v) ex.bars v text x rest (subst (λ b. IsTable (cantus_or_sung fit ex v b) text x rest) other h)

pub voices-keep : (fit : Fit) (ex : Exercise) (n a : ℕ) (before : List (List Cell)) (text : TextLines)
    (x : List (List Cell)) (rest : TextLines)
    → length before ≡ a → IsTable (voices_table fit ex (range_with_len a n) before) text x rest
    → KeepsLines fit ex a n before x
voices-keep fit ex zero a before text x rest long h = record {
  kept = λ k lt. ap (λ lines. get_or lines k []) (sym h.0);
  cantus = λ low high. absurd (omega (arith, low, high));
  fits = λ v low high other. absurd (omega (arith, low, high));
}
voices-keep fit ex (suc n) a before text x rest long h =
    let more = before ++ h.0 ∷ [] in
    let later = voices-keep fit ex n (a + 1) more h.1 x rest (omega (arith, long, length-append before (h.0 ∷ []))) h.3 in
    let last : get_or x a [] ≡ h.0 =
    later.kept a (omega arith) ∙ ap (λ k. get_or more k []) (sym long) ∙ get_or-end before h.0 in
    record {
      kept = λ k lt. later.kept k (omega (arith, lt)) ∙ get_or-left before h.0 k (omega (arith, lt, long));
      cantus = λ low high. elim (eq_or_more a ex.cantus_voice low) [
        | inl same ↦
            ap (λ v. get_or x v []) (sym same) ∙ last
            ∙ sym (voice-cantus fit ex a text h.0 h.1 (eq-eqb a ex.cantus_voice same) h.2).0
        | inr lt ↦ later.cantus (omega (arith, lt)) (omega (arith, high))
      ];
      fits = λ v low high other. elim (eq_or_more a v low) [
        | inl same ↦
            ap (λ w. fit w (get_or x w [])) (sym same) ∙ ap (fit a) last
            ∙ (voice-line fit ex a text h.0 h.1 (ap (λ w. w == ex.cantus_voice) same ∙ other) h.2).fits
        | inr lt ↦ later.fits v (omega (arith, lt)) (omega (arith, high)) other
      ];
    }
  where
    eq_or_more : (a b : ℕ) → a ≤ b → (a ≡ b) ⊎ (a < b)
    eq_or_more a b h = grind (arith, h)

-- lines of which one has the cells of the cantus are a score with the cantus
pub score-given : (ex : Exercise) (lines : List (List Cell)) → length ex.cantus ≡ ex.bars → length lines ≡ ex.voices
    → get_or lines ex.cantus_voice [] ≡ cantus_cells ex.cantus → IsGiven ex (score_of (8 * ex.bars) lines)
score-given ex lines whole long cantus = score_given ex lines whole long (λ i low. ap (λ cells. cell_in cells i) cantus)

pub sung-valid : (fit : Fit) (ex : Exercise) (text : TextLines) (score : Grid) (rest : TextLines) → ex.cantus_voice < ex.voices
    → length ex.cantus ≡ ex.bars
    → IsTable (sung_table fit ex) text score rest → IsGiven ex score
sung-valid fit ex text score rest there whole (lines, a, voices, (_, b, end, same)) =
    let long : length lines ≡ ex.voices =
    omega (
      arith,
      voices-length fit ex (range_with_len 0 ex.voices) [] text lines a voices,
      length-range_with_len 0 ex.voices,
    ) in
    let keeps = voices-keep fit ex ex.voices 0 [] text lines a refl voices in
    subst (IsGiven ex) same.0 (score-given ex lines whole long (keeps.cantus (omega arith) (omega (arith, there))))

-- what is read fits: the score has the cells of lines of which those of the free voices fit
pub record HasFittingLines (fit : Fit) (ex : Exercise) (score : Grid) : Type 0 where
  pub lines : List (List Cell)
  pub whole : score_of (8 * ex.bars) lines ≡ score
  pub fits : (v : ℕ) → v < ex.voices → (v == ex.cantus_voice) ≡ false → fit v (get_or lines v []) ≡ true

pub setting-fitting : (fit : Fit) (ex : Exercise) (text : TextLines) (o : Option Grid) (rest : TextLines)
    → IsTable (setting_table fit ex) text o rest → IfSome o (HasFittingLines fit ex)
setting-fitting fit ex text o rest (inl (begins, (score, a, (lines, b, voices, (_, c, end, whole)), same))) =
    let keeps = voices-keep fit ex ex.voices 0 [] text lines b refl voices in
    subst (λ p. IfSome p (HasFittingLines fit ex)) same.0
    (record { lines = lines; whole = whole.0; fits = λ v there. keeps.fits v (omega arith) (omega (arith, there)) })
setting-fitting fit ex text o rest (inr (begins, (_, a, end, same))) =
    subst (λ p. IfSome p (HasFittingLines fit ex)) same.0 tt

pub setting-valid : (fit : Fit) (ex : Exercise) (text : TextLines) (o : Option Grid) (rest : TextLines)
    → ex.cantus_voice < ex.voices → length ex.cantus ≡ ex.bars
    → IsTable (setting_table fit ex) text o rest → IfSome o (IsGiven ex)
setting-valid fit ex text o rest there whole (inl (begins, (score, a, sung, same))) =
    subst (λ p. IfSome p (IsGiven ex)) same.0 (sung-valid fit ex text score a there whole sung)
setting-valid fit ex text o rest there whole (inr (begins, (_, a, end, same))) =
    subst (λ p. IfSome p (IsGiven ex)) same.0 tt
