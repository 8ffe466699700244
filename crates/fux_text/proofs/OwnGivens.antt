-- The `given` lines of a valid exercise are read back (`givens-own`), and those that are written
-- are such lines (`given_words-lines`).
use Rattle.std.proofs.Common.{◌≡◌, ◌⊎◌, inl, inr, ℕ, suc, ◌+◌, ◌<◌, ◌≤◌, true, false, List, [], ◌∷◌, ◌++◌, get_or, length, length-append, map, Some, Ok, refl, sym, ap, subst, ◌∙◌, append_assoc, arith}
use Rattle.std.specs.Prelude.{◌==◌, ◌&&◌, ◌||◌, All, AllPairs, codes, nat_lt}
use Rattle.std.specs.Fmt.{decimal}
use Rattle.std.specs.Option.{option_and_then}
use Rattle.std.proofs.lemmas.Bool.{and_from, eq-eqb, lt-ltb, or_left, or_right}
use Rattle.std.proofs.lemmas.List.{get_or_append_left}
use Rattle.std.proofs.lemmas.List.Sums.{list_all-from_AllPass}
use Rattle.std.proofs.Math.Seq.{get_or-append_seam}
use Rattle.fux_grid.specs.declared.exercise.Exercise.{Exercise}
use Rattle.fux_grid.specs.declared.given.GivenBar.{GivenBar}
use Rattle.fux_grid.specs.Exercises.{IsGivenBar}
use Rattle.fux_grid.specs.Givens.{IsEarlier}
use Rattle.fux_text.specs.declared.fault.TextKind.TheVariants as kinds
use Rattle.text_lines.specs.Reading.{begins, headed, literal, next}
use Rattle.text_lines.specs.Rows.{IsRun, row_in}
use Rattle.text_lines.specs.Tables.{Table, line_in, table_in}
use Rattle.text_lines.specs.Words.{LineWords}
use Rattle.text_lines.proofs.RowLemmas.{run-gives}
use Rattle.fux_text.specs.Grammar.{AreGivenLines, IsGivenLine, IsVersionFor}
use Rattle.fux_text.specs.GivenItems.{given_items, given_word}
use Rattle.fux_text.specs.GivenLines.{comes_behind, given_lines_of, given_row, given_run, if_behind, later_bar}
use Rattle.fux_text.specs.Limits.{newest_version}
use Rattle.fux_text.specs.Lines.{given_words}
use Rattle.fux_text.proofs.GivenCells.{bar_given-own}
use Rattle.fux_text.proofs.Layouts.{at_words, left, lines_at, places_of, set_out-texts, with_line}
use Rattle.fux_text.proofs.NumberWords.{within-own}
use Rattle.fux_text.proofs.OwnHead.{other_voice-own}
use Rattle.fux_text.proofs.OwnLines.{AreRead, many-own}
use Rattle.fux_text.proofs.OwnRanges.{IsSmall}

-- ---- a line

-- an earlier bar passes the test
earlier-test : (one other : GivenBar) → IsEarlier one other
    → (nat_lt one.voice other.voice || ((one.voice == other.voice) && nat_lt one.bar other.bar)) ≡ true
earlier-test one other (inl low) = or_left (nat_lt one.voice other.voice) _ (lt-ltb one.voice other.voice low)
earlier-test one other (inr (same, low)) =
    or_right (nat_lt one.voice other.voice) ((one.voice == other.voice) && nat_lt one.bar other.bar)
    (and_from (one.voice == other.voice) (nat_lt one.bar other.bar) (eq-eqb one.voice other.voice same)
    (lt-ltb one.bar other.bar low))

-- in bars that ascend, each comes behind those before it
behind-own : (before : List GivenBar) (line : GivenBar) (more : List GivenBar)
    → AllPairs IsEarlier (before ++ line ∷ more) → comes_behind before line.voice line.bar ≡ true
behind-own before line more ascend =
    list_all-from_AllPass
    (λ other. nat_lt other.voice line.voice || ((other.voice == line.voice) && nat_lt other.bar line.bar)) before
    (λ k d lt.
    let long : length before < length (before ++ line ∷ more) = omega (arith, length-append before (line ∷ more)) in
    earlier-test (get_or before k d) line
    (subst (λ x. IsEarlier x line) (get_or_append_left before (line ∷ more) d k lt)
    (subst (IsEarlier (get_or (before ++ line ∷ more) k d)) (get_or-append_seam before line more d)
    (ascend k (length before) d lt long))))

bar-own : (before : List GivenBar) (bars v bar : ℕ) → bars ≤ 24 → 1 ≤ bar → bar ≤ bars → comes_behind before v bar ≡ true
    → later_bar before bars v (decimal bar) ≡ Some bar
bar-own before bars v bar few low high behind =
    ap (option_and_then (if_behind before v)) (within-own 1 bars bar (omega (arith, few, high)) low high) ∙ rw behind refl

line-own : (ex : Exercise) (before : List GivenBar) (line : GivenBar) (words : List (List ℕ)) (after : ℕ) (l : LineWords)
    (others : List LineWords)
    → IsSmall ex → IsGivenBar ex line → comes_behind before line.voice line.bar ≡ true
    → IsRun (given_run line.voice line.bar) [] words line
    → line_in kinds.Head kinds.Head (codes "given") (given_row ex before)
    (with_line after l (codes "given" ∷ decimal line.voice ∷ decimal line.bar ∷ words) others)
    ≡ Ok (line, left after others)
unfolding line_in row_in headed literal next
line-own ex before line words after l others small fits behind run =
    let place = λ (k : ℕ). places_of l.words (suc (suc (suc k))) in
    let at = at_words l.line ((places_of l.words 2).column + length (decimal line.bar)) l.end place words in
    rw (
      other_voice-own ex.cantus_voice ex.voices line.voice (omega (arith, fits.free.there, small.voices)) fits.free.there
          fits.free.no_cantus,
      bar-own before ex.bars line.voice line.bar small.bars fits.within.0 fits.within.2 behind,
      run-gives (given_run line.voice line.bar) [] at at.words line
          (subst (λ ws. IsRun (given_run line.voice line.bar) [] ws line) (sym (set_out-texts place words)) run),
    ) refl

given_line-own : (ex : Exercise) (before : List GivenBar) (line : GivenBar) (words : List (List ℕ)) (after : ℕ)
    (l : LineWords) (others : List LineWords)
    → IsSmall ex → IsGivenBar ex line → comes_behind before line.voice line.bar ≡ true → IsGivenLine words line
    → line_in kinds.Head kinds.Head (codes "given") (given_row ex before) (with_line after l words others)
    ≡ Ok (line, left after others)
given_line-own ex before line words after l others small fits behind g =
    ap (λ ws. line_in kinds.Head kinds.Head (codes "given") (given_row ex before) (with_line after l ws others)) g.written
    ∙ line-own ex before line g.items after l others small fits behind g.run

begins_given : (line : GivenBar) (words : List (List ℕ)) (after : ℕ) (l : LineWords) (others : List LineWords)
    → IsGivenLine words line → begins (codes "given") (with_line after l words others) ≡ true
unfolding begins
begins_given line words after l others g =
    subst (λ ws. begins (codes "given") (with_line after l ws others) ≡ true) (sym g.written) refl

-- ---- the lines, one behind the other

givens-read : (version : ℕ) (ex : Exercise) (after : ℕ) (lines before : List GivenBar) (fixed : List (List (List ℕ)))
    → IsSmall ex → All (IsGivenBar ex) lines → AllPairs IsEarlier (before ++ lines) → AreGivenLines fixed lines
    → (lines ≡ []) ⊎ (version ≡ newest_version) → AreRead (given_lines_of version ex) after before lines fixed
givens-read version ex after [] before [] small fit ascend are newer = tt
givens-read version ex after [] before (words ∷ fixed) small fit ascend are newer = absurd are
givens-read version ex after (line ∷ lines) before [] small fit ascend are newer = absurd are
givens-read version ex after (line ∷ lines) before (words ∷ fixed) small fit ascend are newer =
    let second : version ≡ newest_version = elim newer [
      | inl none ↦ absurd (omega (arith, ap length none))
      | inr e ↦ e
    ] in (
      (λ l others.
          and_from (version == newest_version) (begins (codes "given") (with_line after l words others))
          (eq-eqb version newest_version second) (begins_given line words after l others are.0)),
      (λ l others.
          given_line-own ex before line words after l others small (fit 0 line (omega arith))
          (behind-own before line lines ascend) are.0),
      givens-read version ex after lines (before ++ line ∷ []) fixed small (λ k d lt. fit (suc k) d (omega arith))
          (subst (AllPairs IsEarlier) (sym (append_assoc before (line ∷ []) lines)) ascend) are.1 (inr second),
    )

pub givens-own : (version : ℕ) (ex : Exercise) (lines : List GivenBar) (fixed : List (List (List ℕ))) (after : ℕ)
    (lay : ℕ → LineWords) (more : List (List (List ℕ)))
    → IsSmall ex → All (IsGivenBar ex) lines → AllPairs IsEarlier lines → AreGivenLines fixed lines
    → IsVersionFor version lines
    → ((other : ℕ → LineWords) → begins (codes "given") (left after (lines_at other more)) ≡ false)
    → (behind : ℕ → LineWords) ×
    (table_in (Table.many (given_lines_of version ex)) (left after (lines_at lay (fixed ++ more)))
    ≡ Ok (lines, left after (lines_at behind more)))
unfolding table_in
givens-own version ex lines fixed after lay more small fit ascend are newer other =
    many-own (given_lines_of version ex) after [] lines fixed lay more
    (givens-read version ex after lines [] fixed small fit ascend are
    (elim newer [ inl (one, none) ↦ inl none | inr second ↦ inr second ])) other

-- ---- the lines that are written

pub given_words-lines : (ex : Exercise) (lines : List GivenBar) → All (IsGivenBar ex) lines
    → AreGivenLines (map given_words lines) lines
given_words-lines ex [] fit = tt
given_words-lines ex (line ∷ lines) fit =
    let one = fit 0 line (omega arith) in (
      record {
        items = map given_word (given_items line.cells);
        written = refl;
        run = bar_given-own line one.whole one.follow;
      },
      given_words-lines ex lines (λ k d lt. fit (suc k) d (omega arith)),
    )
