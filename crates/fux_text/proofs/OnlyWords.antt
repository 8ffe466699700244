-- What is read as a name or a number is what is written of it, and a right line has the words that
-- its row says (`line-words`, `many-words`).
use Rattle.std.proofs.Common.{◌≡◌, ℕ, ◌+◌, ◌-◌, ◌*◌, ◌/◌, ◌%◌, ◌≤◌, ◌^◌, Bool, true, false, List, [], ◌∷◌, ◌++◌, length, map, Option, Some, None, Ok, refl, sym, ap, subst, ◌∙◌, append_assoc, arith}
use Rattle.std.specs.Prelude.{◌==◌, ◌&&◌, not, codes, find, nat_le, option_map, if◌then◌else◌}
use Rattle.std.specs.Fmt.{decimal}
use Rattle.std.specs.List.{range_with_len}
use Rattle.std.specs.Option.{option_and_then}
use Rattle.std.proofs.lemmas.List.{append-nil}
use Rattle.std.proofs.lemmas.Fmt.{decimal_digit, decimal_step}
use Rattle.fux_pitch.specs.Modes.{mode_name}
use Rattle.fux_pitch.specs.declared.mode.Mode.{Mode}
use Rattle.fux_pitch.specs.declared.pitch.Pitch.{Pitch}
use Rattle.fux_pitch.specs.Names.{name_of}
use Rattle.fux_grid.specs.declared.exercise.VoiceSet.{VoiceSet}
use Rattle.fux_text.specs.declared.fault.TextKind.{TextKind}
use Rattle.fux_text.specs.declared.fault.TextKind.TheVariants as kinds
use Rattle.text_lines.specs.Lines.{TextLines, first_line, first_line_of}
use Rattle.text_lines.specs.Numbers.{digits_after, if_within, is_digit, number_of, number_within}
use Rattle.text_lines.specs.Reading.{same_text}
use Rattle.text_lines.specs.Rows.{IsRow, Place, Row, Stands, named_place, number_place, right_word, word_place}
use Rattle.text_lines.specs.Tables.{AreMany, IsLine, Many}
use Rattle.text_lines.specs.Words.{LineWords, PlacedWord, first_of, first_word}
use Rattle.text_lines.proofs.Binds.{ok_or_ok}
use Rattle.fux_text.specs.Lines.{voices_word}
use Rattle.fux_text.specs.Names.{mode_named, modes, pitch_named, pitches}
use Rattle.fux_text.specs.Relaxing.{is_set, rule_named, voices_named}
use Rattle.fux_text.specs.Words.{texts}
use Rattle.fux_text.proofs.Named.{found_name, text_from}

-- ---- numbers

-- a number and the digits that it is written with
pub record IsWritten (ds : List ℕ) (n : ℕ) : Type 0 where
  pub digits : ds ≡ decimal n
  pub few : n ≤ 9999999

digit-bounds : (b : ℕ) → is_digit b ≡ true → (48 ≤ b) × (b ≤ 57)
digit-bounds b e = by (nat_le 48 b) refl (nat_le b 57) refl e
  where
    by : (low : Bool) → nat_le 48 b ≡ low → (high : Bool) → nat_le b 57 ≡ high → (low && high) ≡ true
        → (48 ≤ b) × (b ≤ 57)
    by true d true f e = (grind (arith, d), grind (arith, f))
    by true d false f e = absurd (grind (arith, e))
    by false d high f e = absurd (grind (arith, e))

more-only : (m : ℕ) (ds : List ℕ) (n : ℕ) → 1 ≤ m → m ≤ 9999999 → digits_after m ds ≡ Some n
    → IsWritten (decimal m ++ ds) n
more-only m [] n some few e =
    let same : m ≡ n = grind (arith, e) in
    record { digits = append-nil (decimal m) ∙ ap decimal same; few = omega (arith, few, same) }
more-only m (b ∷ bs) n some few e =
    by (is_digit b) refl (nat_le m 999999) refl
    (λ high. more-only (10 * m + (b - 48)) bs n (omega (arith, some)) high) e
  where
    by : (d : Bool) → is_digit b ≡ d → (s : Bool) → nat_le m 999999 ≡ s
        → (10 * m + (b - 48) ≤ 9999999 → digits_after (10 * m + (b - 48)) bs ≡ Some n
        → IsWritten (decimal (10 * m + (b - 48)) ++ bs) n)
        → (if d && s then digits_after (10 * m + (b - 48)) bs else None) ≡ Some n → IsWritten (decimal m ++ b ∷ bs) n
    by true d true s rest e =
        let digit = digit-bounds b d in
        let low : m ≤ 999999 = grind (arith, s) in
        let k = 10 * m + (b - 48) in
        let over : k / 10 ≡ m = omega (arith, digit) in
        let last : 48 + k % 10 ≡ b = omega (arith, digit) in
        let step : decimal k ≡ decimal m ++ b ∷ [] =
        decimal_step k (omega (arith, some)) (omega (arith, low, digit))
        ∙ ap (λ q. decimal q ++ (48 + k % 10) ∷ []) over ∙ ap (λ c. decimal m ++ c ∷ []) last in
        let r = rest (omega (arith, low, digit)) e in
        record {
          digits = sym (append_assoc (decimal m) (b ∷ []) bs) ∙ ap (λ ds. ds ++ bs) (sym step) ∙ r.digits;
          few = r.few;
        }
    by true d false s rest e = absurd (grind (arith, e))
    by false d s t rest e = absurd (grind (arith, e))

pub number-only : (ds : List ℕ) (n : ℕ) → number_of ds ≡ Some n → IsWritten ds n
unfolding number_of
number-only [] n e = absurd (grind (arith, e))
number-only (b ∷ bs) n e = by (b == 48) refl e
  where
    zero_only : (bs : List ℕ) → (length bs == 0) ≡ true → digits_after 0 (48 ∷ bs) ≡ Some n → IsWritten (48 ∷ bs) n
    zero_only [] z e =
        let same : 0 ≡ n = grind (arith, e) in
        record { digits = sym (decimal_digit 0 (omega arith)) ∙ ap decimal same; few = omega (arith, same) }
    zero_only (c ∷ cs) z e = absurd (grind (arith, z))

    other : (d : Bool) → is_digit b ≡ d → (b == 48) ≡ false →
        (if d && true then digits_after (10 * 0 + (b - 48)) bs else None) ≡ Some n
        → IsWritten (b ∷ bs) n
    other true d f e =
        let digit = digit-bounds b d in
        let some : 1 ≤ b - 48 = grind (arith, f, digit) in
        let same : 10 * 0 + (b - 48) ≡ b - 48 = omega arith in
        let r = more-only (b - 48) bs n some (omega (arith, digit)) (ap (λ m. digits_after m bs) (sym same) ∙ e) in
        let one : decimal (b - 48) ≡ b ∷ [] =
        decimal_digit (b - 48) (omega (arith, digit)) ∙ ap (λ c. c ∷ []) (omega (arith, digit)) in
        record { digits = ap (λ ds. ds ++ bs) (sym one) ∙ r.digits; few = r.few }
    other false d f e = absurd (grind (arith, e))

    at_zero : (t : Bool) → (length bs == 0) ≡ t → b ≡ 48 → (if not t then None else digits_after 0 (b ∷ bs)) ≡ Some n
        → IsWritten (b ∷ bs) n
    at_zero true z f e =
        subst (λ c. IsWritten (c ∷ bs) n) (sym f) (zero_only bs z (ap (λ c. digits_after 0 (c ∷ bs)) (sym f) ∙ e))
    at_zero false z f e = absurd (grind (arith, e))

    by : (t : Bool) → (b == 48) ≡ t → (if t && not (length bs == 0) then None else digits_after 0 (b ∷ bs)) ≡ Some n
        → IsWritten (b ∷ bs) n
    by true f e = at_zero (length bs == 0) refl (grind (arith, f)) e
    by false f e = other (is_digit b) refl f e

pub within-only : (least most : ℕ) (ds : List ℕ) (n : ℕ) → number_within least most ds ≡ Some n → ds ≡ decimal n
within-only least most ds n e = by (number_of ds) refl e
  where
    inside : (m : ℕ) (t : Bool) → (if t then Some m else None) ≡ Some n → m ≡ n
    inside m true e = grind (arith, e)
    inside m false e = absurd (grind (arith, e))

    by : (o : Option ℕ) → number_of ds ≡ o → option_and_then (if_within least most) o ≡ Some n → ds ≡ decimal n
    by None f e = absurd (grind (arith, e))
    by (Some m) f e = (number-only ds m f).digits ∙ ap decimal (inside m (nat_le least m && nat_le m most) e)

-- ---- names

pub mode-only : (text : List ℕ) (m : Mode) → mode_named text ≡ Some m → text ≡ mode_name m
unfolding mode_named
mode-only text m e = sym (found_name mode_name modes text m e)

pub pitch-only : (text : List ℕ) (p : Pitch) → pitch_named text ≡ Some p → text ≡ name_of p
unfolding pitch_named
pitch-only text p e = sym (found_name name_of pitches text p e)

pub rule-only : (text : List ℕ) (rule : ℕ) → rule_named text ≡ Some rule → text ≡ codes "S" ++ decimal rule
rule-only [] rule e = absurd (grind (arith, e))
rule-only (b ∷ bs) rule e = by (b == 83) refl e
  where
    by : (t : Bool) → (b == 83) ≡ t → (if t then number_within 4 26 bs else None) ≡ Some rule → b ∷ bs
        ≡ 83 ∷ decimal rule
    by true f e =
        let same : b ≡ 83 = grind (arith, f) in
        ap (λ c. c ∷ bs) same ∙ ap (λ ds. 83 ∷ ds) (within-only 4 26 bs rule e)
    by false f e = absurd (grind (arith, e))

find-passes : (p : ℕ → Bool) (xs : List ℕ) (x : ℕ) → find p xs ≡ Some x → p x ≡ true
find-passes p [] x e = absurd (grind (arith, e))
find-passes p (y ∷ ys) x e = by (p y) refl (find-passes p ys x) e
  where
    by : (b : Bool) → p y ≡ b → (find p ys ≡ Some x → p x ≡ true) → (if b then Some y else find p ys) ≡ Some x → p x
        ≡ true
    by true f rest e = let same : y ≡ x = grind (arith, e) in ap p (sym same) ∙ f
    by false f rest e = rest e

pub set-only : (voices : ℕ) (text : List ℕ) (o : Option VoiceSet) → voices_named voices text ≡ Some o → text
    ≡ voices_word o
unfolding voices_named
set-only voices text o e = by (same_text (voices_word None) text) refl e
  where
    found : (b : Option ℕ) → find (is_set text) (range_with_len 1 (2 ^ voices - 1)) ≡ b
        → option_map (λ bits. Some (record { bits = bits })) b ≡ Some o → text ≡ voices_word o
    found None f e = absurd (grind (arith, e))
    found (Some bits) f e =
        let same : Some (record { bits = bits }) ≡ o = grind (arith, e) in
        sym (text_from (voices_word (Some (record { bits = bits }))) text
        (find-passes (is_set text) (range_with_len 1 (2 ^ voices - 1)) bits f)) ∙ ap voices_word same

    by : (t : Bool) → same_text (voices_word None) text ≡ t
        → (if t then Some None else option_map (λ bits. Some (record { bits = bits }))
        (find (is_set text) (range_with_len 1 (2 ^ voices - 1)))) ≡ Some o
        → text ≡ voices_word o
    by true f e =
        let same : None ≡ o = grind (arith, e) in
        sym (text_from (voices_word None) text f) ∙ ap voices_word same
    by false f e = found _ refl e

-- ---- words and lines

pub stands-words : {V : Type 0} (p : Place TextKind V) (x : V) (at rest : LineWords) (s : Stands p x at rest)
    → texts at ≡ s.word.text ∷ texts rest
stands-words p x at rest s = by at.words refl s.next
  where
    behind : PlacedWord → List PlacedWord → LineWords
    behind w ws = record at { past = w.column + length w.text; words = ws }

    found : (w : PlacedWord) (ws : List PlacedWord) → first_of at (w ∷ ws) ≡ Some (s.word, rest)
        → (w ≡ s.word) × (behind w ws ≡ rest)
    found w ws e = (grind (arith, e), grind (arith, e))

    by : (ws : List PlacedWord) → at.words ≡ ws → first_of at ws ≡ Some (s.word, rest)
        → texts at ≡ s.word.text ∷ texts rest
    by [] f e = absurd (grind (arith, e))
    by (w ∷ ws) f e =
        let same = found w ws e in
        ap (λ words. map (λ word. word.text) words) f
        ∙ ap (λ (v : PlacedWord). v.text ∷ texts (behind w ws)) same.0 ∙ ap (λ t. s.word.text ∷ texts t) same.1

pub no-words : (at : LineWords) → first_word at ≡ None → texts at ≡ []
no-words at e = by at.words refl e
  where
    by : (ws : List PlacedWord) → at.words ≡ ws → first_of at ws ≡ None → texts at ≡ []
    by [] f e = ap (λ words. map (λ word. word.text) words) f
    by (w ∷ ws) f e = absurd (grind (arith, e))

-- a word that stands at the place of a name names it
pub named-stands : {V : Type 0} (missing wrong : TextKind) (named : List ℕ → Option V) (x : V) (at rest : LineWords)
    (s : Stands (named_place missing wrong named) x at rest) → named s.word.text ≡ Some x
named-stands missing wrong named x at rest s = ok_or_ok (named s.word.text) wrong x s.right

-- so the line's words are that of the name and those behind it
pub name-words : {V : Type 0} (missing wrong : TextKind) (named : List ℕ → Option V) (name : V → List ℕ)
    → ((text : List ℕ) (x : V) → named text ≡ Some x → text ≡ name x)
    → (x : V) (at rest : LineWords) → Stands (named_place missing wrong named) x at rest → texts at ≡ name x ∷ texts rest
name-words missing wrong named name own x at rest s =
    stands-words (named_place missing wrong named) x at rest s
    ∙ ap (λ word. word ∷ texts rest) (own s.word.text x (named-stands missing wrong named x at rest s))

pub number-words : (kind : TextKind) (least most n : ℕ) (at rest : LineWords)
    → Stands (number_place kind least most) n at rest → texts at ≡ decimal n ∷ texts rest
number-words kind least most n at rest s =
    name-words kind kind (number_within least most) decimal (within-only least most) n at rest s

pub word-words : (kind : TextKind) (word : List ℕ) (at rest : LineWords) → Stands (word_place kind word) tt at rest
    → texts at ≡ word ∷ texts rest
word-words kind word at rest s =
    stands-words (word_place kind word) tt at rest s
    ∙ ap (λ first. first ∷ texts rest) (text_from s.word.text word (said (same_text s.word.text word) s.right))
  where
    said : (same : Bool) → right_word kind same ≡ Ok tt → same ≡ true
    said true e = refl
    said false e = absurd (grind (arith, e))

-- the words of the lines that are left
abbrev pub line_texts : TextLines → List (List (List ℕ))
line_texts text = map texts text.lines

pub next-lines : (text rest : TextLines) (line : LineWords) → first_line text ≡ Some (line, rest)
    → line_texts text ≡ texts line ∷ line_texts rest
next-lines text rest line e = by text.lines refl e
  where
    found : (l : LineWords) (lines : List LineWords) → first_line_of text.after (l ∷ lines) ≡ Some (line, rest)
        → (l ≡ line) × (record { after = text.after; lines = lines } ≡ rest)
    found l lines e = (grind (arith, e), grind (arith, e))

    by : (lines : List LineWords) → text.lines ≡ lines → first_line_of text.after lines ≡ Some (line, rest)
        → line_texts text ≡ texts line ∷ line_texts rest
    by [] f e = absurd (grind (arith, e))
    by (l ∷ lines) f e =
        let same = found l lines e in
        ap (λ found. map texts found) f ∙ ap (λ first. texts first ∷ map texts lines) same.0
        ∙ ap (λ t. texts line ∷ line_texts t) same.1

pub no-lines : (text : TextLines) → first_line text ≡ None → line_texts text ≡ []
no-lines text e = by text.lines refl e
  where
    by : (lines : List LineWords) → text.lines ≡ lines → first_line_of text.after lines ≡ None → line_texts text ≡ []
    by [] f e = ap (λ found. map texts found) f
    by (l ∷ lines) f e = absurd (grind (arith, e))

-- a right line of a name has that name, and the words behind it
pub line-words : {V : Type 0} (name : List ℕ) (row : Row TextKind V) (text : TextLines) (x : V) (rest : TextLines)
    (l : IsLine name row text x rest) → line_texts text ≡ (name ∷ texts l.words) ∷ line_texts rest
line-words name row text x rest l =
    next-lines text rest l.begins.line l.begins.next
    ∙ ap (λ ws. ws ∷ line_texts rest) (word-words kinds.Head name l.begins.line l.words
    (record { word = l.begins.word; next = l.begins.first; right = rw l.begins.same refl }))

-- lines of a name, where the words of each are written so
pub many-words : {V : Type 0} (m : Many TextKind V) (write : V → List (List ℕ))
    → ((before : List V) (at : LineWords) (x : V) → IsRow (m.row before) at x → m.name ∷ texts at ≡ write x)
    → (before xs : List V) (text rest : TextLines) → AreMany m before xs text rest
    → line_texts text ≡ map write xs ++ line_texts rest
many-words m write own before [] text rest h = ap line_texts h
many-words m write own before (x ∷ xs) text rest h =
    line-words m.name (m.row before) text x h.1 h.2
    ∙ ap (λ ws. ws ∷ line_texts h.1) (own before h.2.words x h.2.right)
    ∙ ap (λ ls. write x ∷ ls) (many-words m write own (before ++ x ∷ []) xs h.1 rest h.3)
