-- Relax lines that are read fit the exercise, and there are at most 64 (`relaxes-valid`).
use Rattle.std.proofs.Common.{◌≡◌, ℕ, zero, suc, ◌+◌, ◌-◌, ◌<◌, ◌≤◌, Bool, true, false, List, [], ◌∷◌, ◌++◌, length, length-append, Option, Some, None, refl, sym, subst, append_assoc, arith}
use Rattle.std.specs.Prelude.{◌^◌, ◌==◌, All, IfSome, codes, find, nat_lt, option_map, if◌then◌else◌}
use Rattle.std.specs.List.{range_with_len}
use Rattle.std.proofs.lemmas.Bool.{and_parts, ltb-true}
use Rattle.std.proofs.lemmas.List.{append-nil}
use Rattle.std.proofs.lemmas.List.Elements.{All-push}
use Rattle.fux_grid.specs.declared.exercise.Exercise.{Exercise}
use Rattle.fux_grid.specs.declared.exercise.Relax.{Relax}
use Rattle.fux_grid.specs.declared.exercise.VoiceSet.{VoiceSet}
use Rattle.fux_grid.specs.Exercises.{IsRelax}
use Rattle.fux_text.specs.declared.fault.TextKind.TheVariants as kinds
use Rattle.text_lines.specs.Lines.{TextLines}
use Rattle.text_lines.specs.Numbers.{number_of, number_within}
use Rattle.text_lines.specs.Reading.{begins, same_text}
use Rattle.text_lines.specs.Rows.{IsRow}
use Rattle.text_lines.specs.Tables.{AreAll, AreMany, goes_on}
use Rattle.text_lines.specs.Words.{LineWords}
use Rattle.fux_text.specs.Lines.{voices_word}
use Rattle.fux_text.specs.Relaxing.{is_set, relax_lines_of, relax_row, rule_named, voices_named}
use Rattle.fux_text.proofs.Bounds.{IsWithin, number-bounds, within-bounds}
use Rattle.fux_text.proofs.OnlyWords.{named-stands}

-- a word that names a rule names one of S4 to S26
rule-bounds : (text : List ℕ) (rule : ℕ) → rule_named text ≡ Some rule → IsWithin 4 26 rule
rule-bounds [] rule e = absurd (grind (arith, e))
rule-bounds (b ∷ bs) rule e = by (b == 83) e
  where
    by : (s : Bool) → (if s then number_within 4 26 bs else None) ≡ Some rule → IsWithin 4 26 rule
    by true e = within-bounds 4 26 (number_of bs) rule e
    by false e = absurd (grind (arith, e))

-- what is found in a range lies in it
find-bounds : (p : ℕ → Bool) (n a b : ℕ) → find p (range_with_len a n) ≡ Some b → (a ≤ b) × (b < a + n)
find-bounds p zero a b e = absurd (grind (arith, e))
find-bounds p (suc n) a b e = by (p a) (find-bounds p n (a + 1) b) e
  where
    by : (t : Bool) → (find p (range_with_len (a + 1) n) ≡ Some b → (a + 1 ≤ b) × (b < a + 1 + n))
        → (if t then Some a else find p (range_with_len (a + 1) n)) ≡ Some b → (a ≤ b) × (b < a + suc n)
    by true rest e = let same : a ≡ b = grind (arith, e) in (omega (arith, same), omega (arith, same))
    by false rest e = let r = rest e in (omega (arith, r.0), omega (arith, r.1))

-- bits of a set of some of so many voices
abbrev IsSet : ℕ → Option VoiceSet → Type 0
IsSet voices o = IfSome o (λ set. (1 ≤ set.bits) × (set.bits < 2 ^ voices))

set-found : (voices : ℕ) (o : Option ℕ) (x : Option VoiceSet)
    → option_map (λ bits. Some (record { bits = bits })) o ≡ Some x
    → ((b : ℕ) → o ≡ Some b → (1 ≤ b) × (b < 1 + (2 ^ voices - 1))) → IsSet voices x
set-found voices None x e bounds = absurd (grind (arith, e))
set-found voices (Some b) x e bounds =
    let same : Some (record { bits = b }) ≡ x = grind (arith, e) in
    let r = bounds b refl in
    subst (IsSet voices) same (r.0, omega (arith, r.0, r.1))

voices-bounds : (voices : ℕ) (text : List ℕ) (x : Option VoiceSet) → voices_named voices text ≡ Some x → IsSet voices x
unfolding voices_named
voices-bounds voices text x e = by (same_text (voices_word None) text) e
  where
    by : (t : Bool)
        → (if t then Some None else option_map (λ bits. Some (record { bits = bits }))
        (find (is_set text) (range_with_len 1 (2 ^ voices - 1)))) ≡ Some x
        → IsSet voices x
    by true e = let same : None ≡ x = grind (arith, e) in subst (IsSet voices) same tt
    by false e =
        set-found voices (find (is_set text) (range_with_len 1 (2 ^ voices - 1))) x e
        (λ b f. find-bounds (is_set text) (2 ^ voices - 1) 1 b f)

relax-valid : (ex : Exercise) (at : LineWords) (line : Relax) → IsRow (relax_row ex) at line → IsRelax ex line
relax-valid ex at line (rule, a, s, (voices, b, t, (from, c, u, (to, d, v, (price, e, w, end))))) =
    let r = rule-bounds s.word.text rule (named-stands kinds.Word kinds.Word rule_named rule at a s) in
    let x = number-bounds kinds.Word 1 ex.bars from b c u in
    let y = number-bounds kinds.Word from ex.bars to c d v in
    let p = number-bounds kinds.Word 0 10000 price d e w in
    subst (IsRelax ex) end.1
    (record {
      least_rule = r.above;
      most_rule = r.below;
      voices = voices-bounds ex.voices t.word.text voices
          (named-stands kinds.Word kinds.Word (voices_named ex.voices) voices a b t);
      within = (x.above, y.above, y.below);
      price = p.below;
    })

-- relax lines of an exercise
pub record AreRelaxes (ex : Exercise) (lines : List Relax) : Type 0 where
  pub fit : All (IsRelax ex) lines
  pub few : length lines ≤ 64

relax-push : (ex : Exercise) (before : List Relax) (text : TextLines) (line : Relax) → IsRelax ex line
    → AreRelaxes ex before
    → goes_on (relax_lines_of ex) before text ≡ true → AreRelaxes ex (before ++ line ∷ [])
relax-push ex before text line one so_far go = record {
  fit = All-push (IsRelax ex) before line so_far.fit one;
  few = omega (
    arith,
    length-append before (line ∷ []),
    ltb-true (length before) 64 (and_parts (nat_lt (length before) 64) (begins (codes "relax") text) go).0,
  );
}

relaxes-go : (ex : Exercise) (before xs : List Relax) (text rest : TextLines) → AreRelaxes ex before
    → AreMany (relax_lines_of ex) before xs text rest → AreRelaxes ex (before ++ xs)
relaxes-go ex before [] text rest so_far h = subst (AreRelaxes ex) (sym (append-nil before)) so_far
relaxes-go ex before (x ∷ xs) text rest so_far h =
    subst (AreRelaxes ex) (append_assoc before (x ∷ []) xs)
    (relaxes-go ex (before ++ x ∷ []) xs h.1 rest
    (relax-push ex before text x (relax-valid ex h.2.words x h.2.right) so_far h.0) h.3)

pub relaxes-valid : (ex : Exercise) (text : TextLines) (lines : List Relax) (rest : TextLines)
    → AreAll (relax_lines_of ex) text lines rest → AreRelaxes ex lines
relaxes-valid ex text lines rest all =
    relaxes-go ex [] lines text rest (record { fit = λ k d lt. absurd (omega arith); few = omega arith }) all.lines
