-- `given` lines that are read have the words of such lines, and are of bars of the exercise, which
-- ascend (`givens-read`); they stand in the newest version alone (`givens-version`).
use Rattle.std.proofs.Common.{◌≡◌, inl, inr, ℕ, ◌≤◌, Bool, true, false, List, [], ◌∷◌, ◌++◌, get_or, Option, Some, None, refl, sym, ap, subst, ◌∙◌, append_assoc, arith}
use Rattle.std.specs.Prelude.{◌==◌, ◌&&◌, ◌||◌, All, AllPairs, codes, nat_lt, if◌then◌else◌}
use Rattle.std.specs.Fmt.{decimal}
use Rattle.std.specs.Option.{option_and_then}
use Rattle.std.proofs.lemmas.Bool.{and_parts, cases_lt, eqb-true, ltb-true, or_cases}
use Rattle.std.proofs.lemmas.List.{append-nil}
use Rattle.std.proofs.lemmas.List.Elements.{All-push}
use Rattle.std.proofs.lemmas.List.Quantifiers.{all_pairs_push}
use Rattle.std.proofs.lemmas.List.Sums.{AllPass-from_list_all}
use Rattle.fux_grid.specs.declared.exercise.Exercise.{Exercise}
use Rattle.fux_grid.specs.declared.given.GivenBar.{GivenBar}
use Rattle.fux_grid.specs.Exercises.{IsGivenBar}
use Rattle.fux_grid.specs.Givens.{IsEarlier}
use Rattle.fux_text.specs.declared.fault.TextKind.TheVariants as kinds
use Rattle.text_lines.specs.Lines.{TextLines}
use Rattle.text_lines.specs.Numbers.{number_of, number_within}
use Rattle.text_lines.specs.Reading.{begins}
use Rattle.text_lines.specs.Rows.{IsRow, IsRun}
use Rattle.text_lines.specs.Tables.{AreAll, AreMany}
use Rattle.text_lines.specs.Words.{LineWords}
use Rattle.fux_text.specs.Grammar.{AreGivenLines, IsGivenLine, IsVersionFor}
use Rattle.fux_text.specs.GivenLines.{comes_behind, given_lines_of, given_row, given_run, if_behind, later_bar}
use Rattle.fux_text.specs.Head.{other_voice}
use Rattle.fux_text.specs.Limits.{newest_version}
use Rattle.fux_text.specs.Words.{texts}
use Rattle.fux_text.proofs.Bounds.{IsWithin, other-bounds, within-bounds}
use Rattle.fux_text.proofs.GivenCells.{given-follow}
use Rattle.fux_text.proofs.OnlyHead.{other_voice-only}
use Rattle.fux_text.proofs.OnlyWords.{line-words, line_texts, name-words, named-stands, within-only}

-- ---- a line

-- a bar that is named comes behind those before
record IsLater (before : List GivenBar) (bars v : ℕ) (text : List ℕ) (bar : ℕ) : Type 0 where
  pub written : text ≡ decimal bar
  pub within : IsWithin 1 bars bar
  pub behind : comes_behind before v bar ≡ true

bar-later : (before : List GivenBar) (bars v : ℕ) (text : List ℕ) (bar : ℕ) → later_bar before bars v text ≡ Some bar
    → IsLater before bars v text bar
bar-later before bars v text bar e = by (number_within 1 bars text) refl e
  where
    found : (n : ℕ) → number_within 1 bars text ≡ Some n → (b : Bool) → comes_behind before v n ≡ b
        → (if b then Some n else None) ≡ Some bar → IsLater before bars v text bar
    found n f true d e =
        let same : n ≡ bar = grind (arith, e) in
        subst (IsLater before bars v text) same
        (record {
          written = within-only 1 bars text n f;
          within = within-bounds 1 bars (number_of text) n f;
          behind = d;
        })
    found n f false d e = absurd (grind (arith, e))

    by : (o : Option ℕ) → number_within 1 bars text ≡ o → option_and_then (if_behind before v) o ≡ Some bar
        → IsLater before bars v text bar
    by None f e = absurd (grind (arith, e))
    by (Some n) f e = found n f (comes_behind before v n) refl e

-- what is read of a line
record IsLineRead (ex : Exercise) (before : List GivenBar) (words : List (List ℕ)) (line : GivenBar) : Type 0 where
  pub written : IsGivenLine words line
  pub fits : IsGivenBar ex line
  pub behind : comes_behind before line.voice line.bar ≡ true

line-read : (ex : Exercise) (before : List GivenBar) (at : LineWords) (line : GivenBar) → 2 ≤ ex.voices
    → IsRow (given_row ex before) at line → IsLineRead ex before (codes "given" ∷ texts at) line
line-read ex before at line some (v, a, s, (bar, b, t, run)) =
    let named = other_voice ex.cantus_voice ex.voices in
    let voice = named-stands kinds.Word kinds.Word named v at a s in
    let other = other-bounds ex.cantus_voice ex.voices s.word.text v voice in
    let later = bar-later before ex.bars v t.word.text bar
    (named-stands kinds.Word kinds.Word (later_bar before ex.bars v) bar a b t) in
    let r = given-follow v bar [] (texts b) line tt run in
    let written : codes "given" ∷ texts at ≡ codes "given" ∷ decimal v ∷ decimal bar ∷ texts b =
    ap (λ ws. codes "given" ∷ ws)
    (name-words kinds.Word kinds.Word named decimal (other_voice-only ex.cantus_voice ex.voices) v at a s
    ∙ ap (λ ws. decimal v ∷ ws)
    (name-words kinds.Word kinds.Word (later_bar before ex.bars v) decimal
    (λ text n e. (bar-later before ex.bars v text n e).written) bar a b t)) in
    record {
      written = record {
        items = texts b;
        written = written ∙ ap (λ n. codes "given" ∷ decimal n ∷ decimal bar ∷ texts b) (sym r.voice)
            ∙ ap (λ n. codes "given" ∷ decimal line.voice ∷ decimal n ∷ texts b) (sym r.number);
        run = subst (λ n. IsRun_at n line.bar (texts b)) (sym r.voice)
            (subst (λ n. IsRun_at v n (texts b)) (sym r.number) run);
      };
      fits = record {
        free = record {
          there = omega (arith, r.voice, other.within, some);
          no_cantus = λ same. other.differs (sym r.voice ∙ same);
        };
        within = (omega (arith, r.number, later.within.above), omega arith, omega (arith, r.number, later.within.below));
        whole = r.whole;
        follow = r.follow;
      };
      behind = ap (λ n. comes_behind before n line.bar) r.voice ∙ ap (comes_behind before v) r.number ∙ later.behind;
    }
  where
    IsRun_at : ℕ → ℕ → List (List ℕ) → Type 0
    IsRun_at v bar words = IsRun (given_run v bar) [] words line

-- ---- the lines, one behind the other

-- bars of an exercise that ascend
pub record AreGivens (ex : Exercise) (lines : List GivenBar) : Type 0 where
  pub fit : All (IsGivenBar ex) lines
  pub ascend : AllPairs IsEarlier lines

-- the test tells which bar is earlier
earlier-tested : (one other : GivenBar)
    → (nat_lt one.voice other.voice || ((one.voice == other.voice) && nat_lt one.bar other.bar)) ≡ true
    → IsEarlier one other
earlier-tested one other e =
    elim (or_cases (nat_lt one.voice other.voice) ((one.voice == other.voice) && nat_lt one.bar other.bar) e) [
      | inl low ↦ inl (ltb-true one.voice other.voice low)
      | inr same ↦
          let p = and_parts (one.voice == other.voice) (nat_lt one.bar other.bar) same in
          inr (eqb-true one.voice other.voice p.0, ltb-true one.bar other.bar p.1)
    ]

givens-push : (ex : Exercise) (before : List GivenBar) (line : GivenBar) → AreGivens ex before → IsGivenBar ex line
    → comes_behind before line.voice line.bar ≡ true → AreGivens ex (before ++ line ∷ [])
givens-push ex before line so_far one behind = record {
  fit = All-push (IsGivenBar ex) before line so_far.fit one;
  ascend = all_pairs_push IsEarlier before line so_far.ascend
      (λ k d lt. earlier-tested (get_or before k d) line
      (AllPass-from_list_all
      (λ other. nat_lt other.voice line.voice || ((other.voice == line.voice) && nat_lt other.bar line.bar)) before
      behind k d lt));
}

-- what is read of lines behind those before
pub record AreGivensRead (ex : Exercise) (before lines : List GivenBar) (text rest : TextLines) : Type 0 where
  pub fixed : List (List (List ℕ))
  pub words : line_texts text ≡ fixed ++ line_texts rest
  pub given : AreGivenLines fixed lines
  pub valid : AreGivens ex (before ++ lines)

givens-go : (version : ℕ) (ex : Exercise) (before xs : List GivenBar) (text rest : TextLines) → 2 ≤ ex.voices
    → AreGivens ex before → AreMany (given_lines_of version ex) before xs text rest
    → AreGivensRead ex before xs text rest
givens-go version ex before [] text rest some so_far h = record {
  fixed = [];
  words = ap line_texts h;
  given = tt;
  valid = subst (AreGivens ex) (sym (append-nil before)) so_far;
}
givens-go version ex before (x ∷ xs) text rest some so_far h =
    let at = h.2.words in
    let r = line-read ex before at x some h.2.right in
    let more = givens-go version ex (before ++ x ∷ []) xs h.1 rest some (givens-push ex before x so_far r.fits r.behind)
    h.3 in
    record {
      fixed = (codes "given" ∷ texts at) ∷ more.fixed;
      words = line-words (codes "given") (given_row ex before) text x h.1 h.2
          ∙ ap (λ ls. (codes "given" ∷ texts at) ∷ ls) more.words;
      given = (r.written, more.given);
      valid = subst (AreGivens ex) (append_assoc before (x ∷ []) xs) more.valid;
    }

pub givens-read : (version : ℕ) (ex : Exercise) (text : TextLines) (lines : List GivenBar) (rest : TextLines)
    → 2 ≤ ex.voices → AreAll (given_lines_of version ex) text lines rest → AreGivensRead ex [] lines text rest
givens-read version ex text lines rest some all =
    givens-go version ex [] lines text rest some
    (record { fit = λ k d lt. absurd (omega arith); ascend = λ i j d lt within. absurd (omega (arith, lt, within)) })
    all.lines

-- only the newest version has such lines
pub givens-version : (version : ℕ) (ex : Exercise) (text : TextLines) (lines : List GivenBar) (rest : TextLines)
    → IsWithin 1 newest_version version → AreAll (given_lines_of version ex) text lines rest → IsVersionFor version lines
givens-version version ex text [] rest bounds all = elim (cases_lt version 2) [
  | inl old ↦ inl (omega (arith, old, bounds.above), refl)
  | inr new ↦ inr (omega (arith, new, bounds.below))
]
givens-version version ex text (x ∷ xs) rest bounds all =
    inr (eqb-true version newest_version
    (and_parts (version == newest_version) (begins (codes "given") text) all.lines.0).0)
