-- Range and relax lines that are read have the words that are written of them (`ranges-only`,
-- `relaxes-only`).
use Rattle.std.proofs.Common.{◌≡◌, ℕ, Bool, true, false, List, [], ◌∷◌, ◌++◌, map, Option, Some, None, Ok, Err, Result, refl, sym, ap, ◌∙◌, arith}
use Rattle.std.specs.Prelude.{codes, int_lt, if◌then◌else◌}
use Rattle.std.specs.Fmt.{decimal}
use Rattle.fux_pitch.specs.declared.pitch.Pitch.{Pitch}
use Rattle.fux_pitch.specs.Names.{name_of}
use Rattle.fux_pitch.specs.Pitch.{key_of}
use Rattle.fux_grid.specs.declared.exercise.Exercise.{Exercise}
use Rattle.fux_grid.specs.declared.exercise.RangeLine.{RangeLine}
use Rattle.fux_grid.specs.declared.exercise.Relax.{Relax}
use Rattle.fux_text.specs.declared.fault.TextKind.{TextKind}
use Rattle.fux_text.specs.declared.fault.TextKind.TheVariants as kinds
use Rattle.text_lines.specs.Lines.{TextLines}
use Rattle.text_lines.specs.Rows.{IsRow}
use Rattle.text_lines.specs.Tables.{AreAll, IsTable}
use Rattle.text_lines.specs.Words.{LineWords}
use Rattle.fux_text.specs.Head.{other_voice}
use Rattle.fux_text.specs.Lines.{bars_words, range_words, relax_words, voices_word}
use Rattle.fux_text.specs.Names.{pitch_named}
use Rattle.fux_text.specs.Ranges.{bars_row, fitting, has_line, high_place, high_said, misfits, range_lines_of, range_row, ranges_table, voice_place}
use Rattle.fux_text.specs.Relaxing.{relax_lines_of, relax_row, rule_named, voices_named}
use Rattle.fux_text.specs.Words.{texts}
use Rattle.fux_text.proofs.OnlyHead.{other_voice-only}
use Rattle.fux_text.proofs.OnlyWords.{line_texts, many-words, name-words, no-words, number-words, pitch-only, rule-only, set-only, stands-words}

-- a voice that fits is the one that is named
pub fitting-named : (before : List RangeLine) (behind : LineWords) (o : Option ℕ) (v : ℕ) → fitting before behind o ≡ Ok v
    → o ≡ Some v
fitting-named before behind None v e = absurd (grind (arith, e))
fitting-named before behind (Some w) v e = by (misfits (has_line before w) behind) e
  where
    by : (b : Bool) → (if b then Err kinds.Range else Ok w) ≡ Ok v → Some w ≡ Some v
    by true e = absurd (grind (arith, e))
    by false e = grind (arith, e)

-- a high end is the one that is named, and isn't below the low one
pub record IsHigh (low : Pitch) (o : Option Pitch) (high : Pitch) : Type 0 where
  pub named : o ≡ Some high
  pub rises : int_lt (key_of high) (key_of low) ≡ false

pub high-named : (low : Pitch) (o : Option Pitch) (high : Pitch) → high_said low o ≡ Ok high → IsHigh low o high
high-named low None high e = absurd (grind (arith, e))
high-named low (Some p) high e = by (int_lt (key_of p) (key_of low)) refl e
  where
    said : Pitch → Result Pitch TextKind
    said q = Ok q

    same_pitch : said p ≡ Ok high → p ≡ high
    same_pitch e = grind (arith, e)

    by : (b : Bool) → int_lt (key_of p) (key_of low) ≡ b → (if b then Err kinds.Range else Ok p) ≡ Ok high
        → IsHigh low (Some p) high
    by true t e = absurd (grind (arith, e))
    by false t e =
        let same = same_pitch e in
        record { named = ap Some same; rises = ap (λ q. int_lt (key_of q) (key_of low)) (sym same) ∙ t }

bars-words : (later : Bool) (bars : ℕ) (line : RangeLine) (at : LineWords) (r : RangeLine) → line.bars ≡ None
    → IsRow (bars_row later bars line) at r
    → codes "range" ∷ decimal line.voice ∷ name_of line.low ∷ name_of line.high ∷ texts at ≡ range_words r
bars-words false bars line at r none h =
    ap (λ ws. codes "range" ∷ decimal line.voice ∷ name_of line.low ∷ name_of line.high ∷ ws)
    (no-words at h.0 ∙ ap bars_words (sym none))
    ∙ ap range_words h.1
bars-words true bars line at r none (from, a, s, (to, b, t, end)) =
    ap (λ ws. codes "range" ∷ decimal line.voice ∷ name_of line.low ∷ name_of line.high ∷ ws)
    (number-words kinds.Range 1 bars from at a s
    ∙ ap (λ ws. decimal from ∷ ws)
    (number-words kinds.Range from bars to a b t ∙ ap (λ ws. decimal to ∷ ws) (no-words b end.0)))
    ∙ ap range_words end.1

range-words : (ex : Exercise) (before : List RangeLine) (at : LineWords) (r : RangeLine) → IsRow (range_row ex before) at r
    → codes "range" ∷ texts at ≡ range_words r
range-words ex before at r (v, a, s, (low, b, t, (high, c, u, h))) =
    let named = fitting-named before a (other_voice ex.cantus_voice ex.voices s.word.text) v s.right in
    let rises = high-named low (pitch_named u.word.text) high u.right in
    ap (λ ws. codes "range" ∷ ws)
    (stands-words (voice_place ex before) v at a s
    ∙ ap (λ word. word ∷ texts a) (other_voice-only ex.cantus_voice ex.voices s.word.text v named)
    ∙ ap (λ ws. decimal v ∷ ws)
    (name-words kinds.Range kinds.Pitch pitch_named name_of pitch-only low a b t
    ∙ ap (λ ws. name_of low ∷ ws)
    (stands-words (high_place low) high b c u
    ∙ ap (λ word. word ∷ texts c) (pitch-only u.word.text high rises.named))))
    ∙ bars-words (has_line before v) ex.bars (record { voice = v; low = low; high = high; bars = None }) c r refl h

pub ranges-only : (ex : Exercise) (text : TextLines) (lines : List RangeLine) (rest : TextLines)
    → IsTable (ranges_table ex) text lines rest → line_texts text ≡ map range_words lines ++ line_texts rest
ranges-only ex text lines rest (xs, a, all, (_, b, whole, same)) =
    many-words (range_lines_of ex) range_words (λ before at r h. range-words ex before at r h) [] xs text a all.lines
    ∙ ap (λ ls. map range_words ls ++ line_texts a) same.0
    ∙ ap (λ t. map range_words lines ++ line_texts t) (whole.1 ∙ same.1)

-- ---- relax lines

relax-words : (ex : Exercise) (at : LineWords) (r : Relax) → IsRow (relax_row ex) at r
    → codes "relax" ∷ texts at ≡ relax_words r
relax-words ex at r (rule, a, s, (voices, b, t, (from, c, u, (to, d, v, (price, e, w, end))))) =
    ap (λ ws. codes "relax" ∷ ws)
    (name-words kinds.Word kinds.Word rule_named (λ n. codes "S" ++ decimal n) rule-only rule at a s
    ∙ ap (λ ws. (codes "S" ++ decimal rule) ∷ ws)
    (name-words kinds.Word kinds.Word (voices_named ex.voices) voices_word (set-only ex.voices) voices a b t
    ∙ ap (λ ws. voices_word voices ∷ ws)
    (number-words kinds.Word 1 ex.bars from b c u
    ∙ ap (λ ws. decimal from ∷ ws)
    (number-words kinds.Word from ex.bars to c d v
    ∙ ap (λ ws. decimal to ∷ ws)
    (number-words kinds.Word 0 10000 price d e w ∙ ap (λ ws. decimal price ∷ ws) (no-words e end.0))))))
    ∙ ap relax_words end.1

pub relaxes-only : (ex : Exercise) (text : TextLines) (lines : List Relax) (rest : TextLines)
    → AreAll (relax_lines_of ex) text lines rest → line_texts text ≡ map relax_words lines ++ line_texts rest
relaxes-only ex text lines rest all =
    many-words (relax_lines_of ex) relax_words (λ before at r h. relax-words ex at r h) [] lines text rest all.lines
