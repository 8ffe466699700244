-- The range lines of a valid exercise are read back (`ranges-own`).
use Rattle.std.proofs.Common.{◌≡◌, ℕ, suc, ◌<◌, ◌≤◌, ◌≤ℤ◌, Bool, true, false, List, [], ◌∷◌, ◌++◌, get_or, map, Option, Some, None, Ok, refl, sym, ap, subst, ◌∙◌, append_assoc, arith}
use Rattle.std.specs.Prelude.{◌==◌, ◌||◌, All, codes, int_lt, IfSome, IsSome, is_some}
use Rattle.std.specs.Fmt.{decimal}
use Rattle.std.specs.List.{range_with_len}
use Rattle.std.proofs.lemmas.Int.{ints}
use Rattle.std.proofs.lemmas.List.Elements.{filter-append}
use Rattle.std.proofs.lemmas.List.FromFn.{get_or-range_with_len, length-range_with_len}
use Rattle.std.proofs.lemmas.List.Sums.{list_all-from_AllPass}
use Rattle.fux_pitch.specs.declared.pitch.Pitch.{Pitch}
use Rattle.fux_pitch.specs.Names.{name_of}
use Rattle.fux_pitch.specs.Pitch.{key_of}
use Rattle.fux_grid.specs.declared.exercise.Exercise.{Exercise}
use Rattle.fux_grid.specs.declared.exercise.RangeLine.{RangeLine}
use Rattle.fux_grid.specs.Exercises.{BeginsWithWhole, IsFree, IsRangeLine, range_lines}
use Rattle.fux_text.specs.declared.fault.TextKind.TheVariants as kinds
use Rattle.text_lines.specs.Reading.{begins, done, headed, literal, next}
use Rattle.text_lines.specs.Rows.{row_in}
use Rattle.text_lines.specs.Tables.{line_in, table_in}
use Rattle.text_lines.specs.Words.{LineWords}
use Rattle.fux_text.specs.Head.{other_voice}
use Rattle.fux_text.specs.Lines.{bars_words, range_words}
use Rattle.fux_text.specs.Ranges.{all_ranged, has_line, misfits, range_lines_of, range_row, ranges_table}
use Rattle.fux_text.proofs.NumberWords.{within-own}
use Rattle.fux_text.proofs.Layouts.{left, lines_at, with_line}
use Rattle.fux_text.proofs.OwnHead.{other_voice-own}
use Rattle.fux_text.proofs.OwnLines.{AreRead, many-own}
use Rattle.fux_text.proofs.OwnWords.{pitch-own}
use Rattle.fux_text.proofs.ValidRanges.{any-own, are_some, of_voice}

-- an exercise has few voices and bars
pub record IsSmall (ex : Exercise) : Type 0 where
  pub voices : ex.voices ≤ 4
  pub bars : ex.bars ≤ 24

not_below : (low high : Pitch) → key_of low ≤ℤ key_of high → int_lt (key_of high) (key_of low) ≡ false
not_below low high rises = by (int_lt (key_of high) (key_of low)) refl
  where
    by : (b : Bool) → int_lt (key_of high) (key_of low) ≡ b → b ≡ false
    by true e = absurd (omega (arith, ints, e, rises))
    by false e = refl

-- a range line is read behind others: a voice's first one has no bars, and a later one has some
range_line-own : (ex : Exercise) (before : List RangeLine) (r : RangeLine) (after : ℕ) (l : LineWords)
    (others : List LineWords) → IsSmall ex → IsRangeLine ex r → has_line before r.voice ≡ is_some r.bars
    → line_in kinds.Head kinds.Head (codes "range") (range_row ex before) (with_line after l (range_words r) others)
    ≡ Ok (r, left after others)
unfolding line_in row_in misfits headed literal next done
range_line-own ex before r after l others small fits lined = by r.bars refl
  where
    Reads : Option (ℕ × ℕ) → Type 0
    Reads bars =
        line_in kinds.Head kinds.Head (codes "range") (range_row ex before)
        (with_line after l (codes "range" ∷ decimal r.voice ∷ name_of r.low ∷ name_of r.high ∷ bars_words bars) others)
        ≡ Ok (record { voice = r.voice; low = r.low; high = r.high; bars = bars }, left after others)

    voice : other_voice ex.cantus_voice ex.voices (decimal r.voice) ≡ Some r.voice
    voice = other_voice-own ex.cantus_voice ex.voices r.voice (omega (arith, fits.free.there, small.voices))
        fits.free.there fits.free.no_cantus

    by : (o : Option (ℕ × ℕ)) → r.bars ≡ o → Reads r.bars
    by None e =
        let first : has_line before r.voice ≡ false = lined ∙ ap is_some e in
        subst Reads (sym e)
        (rw (voice, first, pitch-own r.low, pitch-own r.high, not_below r.low r.high fits.rises, first) refl)
    by (Some (from, to)) e =
        let later : has_line before r.voice ≡ true = lined ∙ ap is_some e in
        let within =
        subst (λ o. IfSome o (λ bars. (1 ≤ bars.0) × (bars.0 ≤ bars.1) × (bars.1 ≤ ex.bars))) e fits.within in
        subst Reads (sym e)
        (rw (
          voice,
          later,
          pitch-own r.low,
          pitch-own r.high,
          not_below r.low r.high fits.rises,
          later,
          within-own 1 ex.bars from (omega (arith, within, small.bars)) within.0 (omega (arith, within)),
          within-own from ex.bars to (omega (arith, within, small.bars)) within.1 within.2,
        ) refl)

begins_range : (r : RangeLine) (after : ℕ) (l : LineWords) (others : List LineWords)
    → begins (codes "range") (with_line after l (range_words r) others) ≡ true
unfolding begins
begins_range r after l others = refl

-- where each of these lines has bars, so has the one between others
some_at_seam : (xs ys : List RangeLine) (r : RangeLine) → All (λ other. IsSome other.bars) (xs ++ r ∷ ys)
    → IsSome r.bars
some_at_seam [] ys r all = all 0 r (omega arith)
some_at_seam (x ∷ xs) ys r all = some_at_seam xs ys r (λ k d lt. all (suc k) d (omega arith))

-- the range lines of a valid exercise are read in their order
ranges-read : (ex : Exercise) (after : ℕ) (rs before : List RangeLine) → IsSmall ex → All (IsRangeLine ex) rs
    → ((v : ℕ) → IsFree ex v → BeginsWithWhole (of_voice v (before ++ rs)))
    → AreRead (range_lines_of ex) after before rs (map range_words rs)
ranges-read ex after [] before small fit whole = tt
ranges-read ex after (r ∷ rs) before small fit whole =
    let one : IsRangeLine ex r = fit 0 r (omega arith) in (
      (λ l others. begins_range r after l others),
      (λ l others. range_line-own ex before r after l others small one (lined (whole r.voice one.free))),
      ranges-read ex after rs (before ++ r ∷ []) small (λ k d lt. fit (suc k) d (omega arith))
          (λ v free. subst (λ lines. BeginsWithWhole (of_voice v lines)) (sym (append_assoc before (r ∷ []) rs))
          (whole v free)),
    )
  where
    own : (b : Bool) → (r.voice == r.voice) ≡ b → of_voice r.voice (r ∷ rs) ≡ r ∷ of_voice r.voice rs
    own true e = rw e refl
    own false e = absurd (grind (arith, e))

    lined : BeginsWithWhole (of_voice r.voice (before ++ r ∷ rs)) → has_line before r.voice ≡ is_some r.bars
    lined begun =
        by (of_voice r.voice before) refl
        (subst BeginsWithWhole (filter-append (λ l. l.voice == r.voice) before (r ∷ rs)
        ∙ ap (λ lines. of_voice r.voice before ++ lines) (own _ refl)) begun)
      where
        by : (mine : List RangeLine) → of_voice r.voice before ≡ mine
            → BeginsWithWhole (mine ++ r ∷ of_voice r.voice rs)
            → has_line before r.voice ≡ is_some r.bars
        by [] e w = any-own r.voice before ∙ ap are_some e ∙ sym (ap is_some w.0)
        by (x ∷ xs) e w =
            any-own r.voice before ∙ ap are_some e ∙ sym (some_at_seam xs (of_voice r.voice rs) r w.1)

-- each free voice of a valid exercise has a range line
all_ranged-own : (ex : Exercise) (lines : List RangeLine) → ((v : ℕ) → IsFree ex v → BeginsWithWhole (of_voice v lines))
    → all_ranged ex lines ≡ true
unfolding all_ranged
all_ranged-own ex lines whole =
    list_all-from_AllPass (λ v. (v == ex.cantus_voice) || has_line lines v) (range_with_len 0 ex.voices)
    (λ k d lt.
    let there : k < ex.voices = omega (arith, lt, length-range_with_len 0 ex.voices) in
    let same : get_or (range_with_len 0 ex.voices) k d ≡ k = get_or-range_with_len 0 ex.voices k d there
    ∙ omega arith in
    subst (λ v. ((v == ex.cantus_voice) || has_line lines v) ≡ true) (sym same)
    (by k there (k == ex.cantus_voice) refl))
  where
    has : (v : ℕ) (mine : List RangeLine) → of_voice v lines ≡ mine → BeginsWithWhole mine → has_line lines v ≡ true
    has v [] e w = absurd w
    has v (x ∷ xs) e w = any-own v lines ∙ ap are_some e

    by : (v : ℕ) → v < ex.voices → (b : Bool) → (v == ex.cantus_voice) ≡ b → (b || has_line lines v) ≡ true
    by v there true e = refl
    by v there false e =
        has v (of_voice v lines) refl (whole v (record { there = there; no_cantus = λ same. grind (arith, e, same) }))

-- the range lines of an exercise, with other lines behind them
pub ranges-own : (ex head : Exercise) (after : ℕ) (lay : ℕ → LineWords) (more : List (List (List ℕ))) → IsSmall head
    → All (IsRangeLine head) ex.ranges
    → ((v : ℕ) → IsFree head v → BeginsWithWhole (range_lines ex v))
    → ((other : ℕ → LineWords) → begins (codes "range") (left after (lines_at other more)) ≡ false)
    → (behind : ℕ → LineWords) ×
    (table_in (ranges_table head) (left after (lines_at lay (map range_words ex.ranges ++ more)))
    ≡ Ok (ex.ranges, left after (lines_at behind more)))
unfolding table_in
ranges-own ex head after lay more small fit whole other =
    let found = many-own (range_lines_of head) after [] ex.ranges (map range_words ex.ranges) lay more
    (ranges-read head after ex.ranges [] small fit whole) other in
    (found.0, rw (found.1, all_ranged-own head ex.ranges whole) refl)
