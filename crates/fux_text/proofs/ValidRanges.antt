-- Range lines that are read fit the exercise, and each voice's first one is for all bars
-- (`ranges-valid`).
use Rattle.std.proofs.Common.{◌≡◌, ℕ, ◌≤◌, ◌≤ℤ◌, Bool, true, false, List, [], ◌∷◌, ◌++◌, get_or, Option, Some, None, refl, sym, ap, subst, ◌∙◌, append_assoc, arith}
use Rattle.std.specs.Prelude.{◌==◌, ◌||◌, All, filter, IfSome, IsSome, is_some, if◌then◌else◌, ⊤}
use Rattle.std.specs.List.{range_with_len}
use Rattle.std.proofs.lemmas.Int.{ints}
use Rattle.std.proofs.lemmas.List.{append-nil}
use Rattle.std.proofs.lemmas.List.Elements.{All-push, filter-append}
use Rattle.std.proofs.lemmas.List.FromFn.{get_or-range_with_len, length-range_with_len}
use Rattle.std.proofs.lemmas.List.Sums.{AllPass-from_list_all}
use Rattle.fux_pitch.specs.Pitch.{key_of}
use Rattle.fux_grid.specs.declared.exercise.Exercise.{Exercise}
use Rattle.fux_grid.specs.declared.exercise.RangeLine.{RangeLine}
use Rattle.fux_grid.specs.Exercises.{BeginsWithWhole, IsFree, IsRangeLine}
use Rattle.fux_text.specs.declared.fault.TextKind.TheVariants as kinds
use Rattle.text_lines.specs.Lines.{TextLines}
use Rattle.text_lines.specs.Rows.{IsRow}
use Rattle.text_lines.specs.Tables.{AreMany, IsTable}
use Rattle.text_lines.specs.Words.{LineWords}
use Rattle.fux_text.specs.Head.{other_voice}
use Rattle.fux_text.specs.Names.{pitch_named}
use Rattle.fux_text.specs.Ranges.{all_ranged, bars_row, has_line, range_lines_of, range_row, ranges_table}
use Rattle.fux_text.proofs.Bounds.{IsOther, number-bounds, other-bounds}
use Rattle.fux_text.proofs.OnlyRanges.{fitting-named, high-named}

-- a first line has no bars, and a later one has some
abbrev AreBarsOf : Bool → ℕ → Option (ℕ × ℕ) → Type 0
AreBarsOf later bars o = (later ≡ is_some o) × IfSome o (λ b. (1 ≤ b.0) × (b.0 ≤ b.1) × (b.1 ≤ bars))

later-bars : (later : Bool) (bars : ℕ) (line : RangeLine) (at : LineWords) (r : RangeLine) → line.bars ≡ None
    → IsRow (bars_row later bars line) at r → AreBarsOf later bars r.bars
later-bars false bars line at r none h =
    subst (AreBarsOf false bars) (sym none ∙ ap (λ (y : RangeLine). y.bars) h.1) (refl, tt)
later-bars true bars line at r none (from, a, s, (to, b, t, end)) =
    let x = number-bounds kinds.Range 1 bars from at a s in
    let y = number-bounds kinds.Range from bars to a b t in
    subst (λ (y : RangeLine). AreBarsOf true bars y.bars) end.1 (refl, (x.above, y.above, y.below))

-- a range line of an exercise behind those before
record IsNext (ex : Exercise) (before : List RangeLine) (line : RangeLine) : Type 0 where
  pub voice : IsOther ex.cantus_voice ex.voices line.voice
  pub rises : key_of line.low ≤ℤ key_of line.high
  pub bars : AreBarsOf (has_line before line.voice) ex.bars line.bars

same_line : (later : Bool) (bars : ℕ) (line : RangeLine) (at : LineWords) (r : RangeLine)
    → IsRow (bars_row later bars line) at r → r ≡ record line { bars = r.bars }
same_line false bars line at r h = subst (λ (y : RangeLine). y ≡ record line { bars = y.bars }) h.1 refl
same_line true bars line at r (from, a, s, (to, b, t, end)) =
    subst (λ (y : RangeLine). y ≡ record line { bars = y.bars }) end.1 refl

range-next : (ex : Exercise) (before : List RangeLine) (at : LineWords) (line : RangeLine)
    → IsRow (range_row ex before) at line → IsNext ex before line
range-next ex before at line (v, a, s, (low, b, t, (high, c, u, h))) =
    let whole : RangeLine = record { voice = v; low = low; high = high; bars = None } in
    let named = fitting-named before a (other_voice ex.cantus_voice ex.voices s.word.text) v s.right in
    let test = (high-named low (pitch_named u.word.text) high u.right).rises in
    let bars = later-bars (has_line before v) ex.bars whole c line refl h in
    subst (IsNext ex before) (sym (same_line (has_line before v) ex.bars whole c line h))
    (record {
      voice = other-bounds ex.cantus_voice ex.voices s.word.text v named;
      rises = omega (arith, ints, test);
      bars = bars;
    })

-- the lines of a voice: none yet, or first one for all bars and then such for some
abbrev Begun : List RangeLine → Type 0
Begun [] = ⊤
Begun (line ∷ lines) = BeginsWithWhole (line ∷ lines)

abbrev pub of_voice : ℕ → List RangeLine → List RangeLine
of_voice v lines = filter (λ line. line.voice == v) lines

-- a voice has a range line just where one of these lines is its own
abbrev pub are_some : List RangeLine → Bool
are_some [] = false
are_some (line ∷ lines) = true

pub any-own : (v : ℕ) (lines : List RangeLine) → has_line lines v ≡ are_some (of_voice v lines)
any-own v [] = refl
any-own v (l ∷ ls) = by (l.voice == v) (any-own v ls)
  where
    by : (b : Bool) → has_line ls v ≡ are_some (of_voice v ls)
        → (b || has_line ls v) ≡ are_some (if b then l ∷ of_voice v ls else of_voice v ls)
    by true rest = refl
    by false rest = rest

none_of : (o : Option (ℕ × ℕ)) → is_some o ≡ false → o ≡ None
none_of None e = refl
none_of (Some bars) e = absurd (grind (arith, e))

begun-push : (lines : List RangeLine) (line : RangeLine) → Begun lines → is_some line.bars ≡ are_some lines
    → Begun (lines ++ line ∷ [])
begun-push [] line begun first = (none_of line.bars first, λ k d lt. absurd (omega arith))
begun-push (l ∷ ls) line begun later =
    (begun.0, All-push (λ other. IsSome other.bars) ls line begun.1 later)

begun-next : (ex : Exercise) (before : List RangeLine) (line : RangeLine) (v : ℕ) → IsNext ex before line
    → Begun (of_voice v before)
    → Begun (of_voice v (before ++ line ∷ []))
begun-next ex before line v next begun =
    subst Begun (sym (filter-append (λ l. l.voice == v) before (line ∷ []))) (by (line.voice == v) refl)
  where
    by : (b : Bool) → (line.voice == v) ≡ b → Begun (of_voice v before ++ (if b then line ∷ [] else []))
    by true e =
        let same : line.voice ≡ v = grind (arith, e) in
        begun-push (of_voice v before) line begun
        (sym next.bars.0 ∙ ap (has_line before) same ∙ any-own v before)
    by false e = subst Begun (sym (append-nil (of_voice v before))) begun

-- range lines that are read
record AreRanges (ex : Exercise) (lines : List RangeLine) : Type 0 where
  pub fit : All (IsRangeLine ex) lines
  pub begun : (v : ℕ) → Begun (of_voice v lines)

next-fits : (ex : Exercise) (before : List RangeLine) (line : RangeLine) → 2 ≤ ex.voices → IsNext ex before line
    → IsRangeLine ex line
next-fits ex before line some next = record {
  free = record { there = omega (arith, next.voice.within); no_cantus = next.voice.differs };
  rises = next.rises;
  within = next.bars.1;
}

ranges-push : (ex : Exercise) (before : List RangeLine) (line : RangeLine) → 2 ≤ ex.voices → IsNext ex before line
    → AreRanges ex before → AreRanges ex (before ++ line ∷ [])
ranges-push ex before line some next so_far = record {
  fit = All-push (IsRangeLine ex) before line so_far.fit (next-fits ex before line some next);
  begun = λ v. begun-next ex before line v next (so_far.begun v);
}

ranges-go : (ex : Exercise) (before xs : List RangeLine) (text rest : TextLines) → 2 ≤ ex.voices → AreRanges ex before
    → AreMany (range_lines_of ex) before xs text rest → AreRanges ex (before ++ xs)
ranges-go ex before [] text rest some so_far h = subst (AreRanges ex) (sym (append-nil before)) so_far
ranges-go ex before (x ∷ xs) text rest some so_far h =
    subst (AreRanges ex) (append_assoc before (x ∷ []) xs)
    (ranges-go ex (before ++ x ∷ []) xs h.1 rest some
    (ranges-push ex before x some (range-next ex before h.2.words x h.2.right) so_far) h.3)

whole-from : (v : ℕ) (lines : List RangeLine) (own : List RangeLine) → of_voice v lines ≡ own → has_line lines v ≡ true
    → Begun own
    → BeginsWithWhole own
whole-from v lines [] e has begun = absurd (grind (arith, sym has ∙ any-own v lines ∙ ap are_some e))
whole-from v lines (l ∷ ls) e has begun = begun

-- the range lines of an exercise
pub record AreValidRanges (ex : Exercise) (lines : List RangeLine) : Type 0 where
  pub fit : All (IsRangeLine ex) lines
  pub each : (v : ℕ) → IsFree ex v → BeginsWithWhole (filter (λ line. line.voice == v) lines)

pub ranges-valid : (ex : Exercise) (text : TextLines) (lines : List RangeLine) (rest : TextLines) → 2 ≤ ex.voices
    → IsTable (ranges_table ex) text lines rest → AreValidRanges ex lines
unfolding all_ranged
ranges-valid ex text lines rest some (xs, a, all, (_, b, whole, same)) =
    let valid = ranges-go ex [] xs text a some
    (record { fit = λ k d lt. absurd (omega arith); begun = λ v. tt }) all.lines in
    subst (AreValidRanges ex) same.0
    (record { fit = valid.fit; each = λ v free. whole-from v xs _ refl (has xs v free whole.0) (valid.begun v) })
  where
    or-right : (a b : Bool) → (a || b) ≡ true → (a ≡ true → ⊥) → b ≡ true
    or-right true b e n = absurd (n refl)
    or-right false b e n = e

    has : (lines : List RangeLine) (v : ℕ) → IsFree ex v → all_ranged ex lines ≡ true → has_line lines v ≡ true
    has lines v free test =
        let all = AllPass-from_list_all (λ w. (w == ex.cantus_voice) || has_line lines w) (range_with_len 0 ex.voices)
        test v 0 (omega (arith, length-range_with_len 0 ex.voices, free.there)) in
        let at : get_or (range_with_len 0 ex.voices) v 0 ≡ v = get_or-range_with_len 0 ex.voices v 0 free.there
        ∙ omega arith in
        or-right (v == ex.cantus_voice) (has_line lines v)
        (subst (λ w. ((w == ex.cantus_voice) || has_line lines w) ≡ true) at all)
        (λ same. free.no_cantus (grind (arith, same)))
