-- Lists are read line by line (`read_on`, `read_last`, `read_wrong`); those that are written are read
-- (`lists_are_read`), and what is read are lists (`read_lists_fit`).
use Rattle.text_lines.specs.Faults.{◌>>=◌}
use Rattle.std.proofs.Common.{◌≡◌, ℕ, zero, suc, ◌+◌, ◌-◌, ◌<◌, ◌≤◌, Bool, true, false, List, [], ◌∷◌, ◌++◌, length, length-append, Result, Ok, Err, refl, sym, ap, ◌∙◌, append_assoc, append-nil, arith, subst}
use Rattle.std.specs.Prelude.{flat_map}
use Rattle.std.specs.List.{join_with_byte}
use Rattle.fux_grid.specs.declared.exercise.Exercise.{Exercise}
use Rattle.price_check.specs.declared.line.Before.{Before}
use Rattle.price_check.specs.PriceLines.{Keeps, Cases, Price, Claims, AreFalling, Fits, Line, after, line_text, line_words, nothing_before}
use Rattle.price_check.specs.Reading.{line_in}
use Rattle.price_check.specs.Lists.{AreLinesOf, AreReadLists, AreLists, behind_lines, is_last, line_and_more, lines_in, lists_in, lists_text, most_lines}
use Rattle.price_check.proofs.ReadLines.{read_lines_fit}
use Rattle.price_check.proofs.WordLaws.{bound, first_is, second_is, steps}
use Rattle.price_check.proofs.WrittenLines.{lines_are_read}

-- ---- what stands before

falling_few : (high most : ℕ) (keys : List ℕ) → AreFalling high most keys → length keys ≤ most
falling_few high most [] falls = omega arith
falling_few high most (key ∷ keys) falls =
    let others = falling_few key (most - 1) keys falls.2 in
    let some = falls.1 in
    omega (arith, others, some)

-- there are never more than eight lists
pub lists_few : (ex : Exercise) (before : Before) (line : Line) → Fits ex before line → before.lists ≤ 8
    → (after before line).lists ≤ 8
lists_few ex before (Keeps turns runs) fits few = omega (arith, fits)
lists_few ex before (Cases voice keys) fits few = few
lists_few ex before (Price case voice pitch number) fits few = few
lists_few ex before Claims fits few = few

-- nor more than sixteen cases
cases_few : (ex : Exercise) (before : Before) (line : Line) → Fits ex before line → before.cases ≤ 16
    → (after before line).cases ≤ 16
cases_few ex before (Keeps turns runs) fits few = omega arith
cases_few ex before (Cases voice keys) fits few =
    let own = falling_few 127 15 keys fits.2 in omega (arith, own)
cases_few ex before (Price case voice pitch number) fits few = few
cases_few ex before Claims fits few = few

-- ---- one line more

joined : (lines : List Line) (line : Line) (more : Result (List Line × List ℕ) ℕ)
    → behind_lines lines (behind_lines (line ∷ []) more) ≡ behind_lines (lines ++ line ∷ []) more
joined lines line (Ok found) = ap (λ ls. Ok (ls, found.1)) (sym (append_assoc lines (line ∷ []) found.0))
joined lines line (Err left) = refl

pub none_before : (more : Result (List Line × List ℕ) ℕ) → behind_lines [] more ≡ more
none_before (Ok found) = refl
none_before (Err left) = refl

module _ (ex : Exercise) (before : Before) (line : Line) (bytes rest : List ℕ) (most : ℕ)
    (e : line_in ex before bytes ≡ Ok (line, rest)) where
  goes_on : is_last line ≡ false
      → lines_in (suc most) ex before bytes ≡ behind_lines (line ∷ []) (lines_in most ex (after before line) rest)
  unfolding lines_in
  goes_on more =
      bound (line_in ex before bytes) _ (line, rest) e
      ∙ ap (λ b. line_and_more line rest b (lines_in most ex (after before line))) more

  -- a line that isn't the last stands behind those that were read
  pub read_on : (lines : List Line) → is_last line ≡ false
      → behind_lines lines (lines_in (suc most) ex before bytes)
      ≡ behind_lines (lines ++ line ∷ []) (lines_in most ex (after before line) rest)
  read_on lines more = ap (behind_lines lines) (goes_on more) ∙ joined lines line (lines_in most ex (after before line) rest)

  -- the last line ends them
  ends_here : is_last line ≡ true → lines_in (suc most) ex before bytes ≡ Ok ([], rest)
  unfolding lines_in
  ends_here last =
      bound (line_in ex before bytes) _ (line, rest) e
      ∙ ap (λ b. line_and_more line rest b (lines_in most ex (after before line))) last

  pub read_last : (lines : List Line) → is_last line ≡ true
      → behind_lines lines (lines_in (suc most) ex before bytes) ≡ Ok (lines, rest)
  read_last lines last = ap (behind_lines lines) (ends_here last) ∙ ap (λ ls. Ok (ls, rest)) (append-nil lines)

-- a line that is refused refuses them
pub read_wrong : (ex : Exercise) (before : Before) (bytes : List ℕ) (most left : ℕ) (lines : List Line)
    → line_in ex before bytes ≡ Err left → behind_lines lines (lines_in (suc most) ex before bytes) ≡ Err left
unfolding lines_in
read_wrong ex before bytes most left lines e =
    ap (λ q. behind_lines lines (q >>= (λ line. line_and_more line.0 line.1 (is_last line.0) (lines_in most ex (after before line.0))))) e

-- and so does a line too many
pub read_none : (ex : Exercise) (before : Before) (bytes : List ℕ) (lines : List Line)
    → behind_lines lines (lines_in 0 ex before bytes) ≡ Err (length bytes)
unfolding lines_in
read_none ex before bytes lines = refl

-- ---- what is written

line_some : (line : Line) → 1 ≤ length (line_text line)
line_some line =
    let size = length-append (join_with_byte 32 (line_words line)) (10 ∷ []) in omega (arith, size)

lines_short : (lines : List Line) → length lines ≤ length (flat_map line_text lines)
lines_short [] = omega arith
lines_short (line ∷ lines) =
    let own = line_some line in
    let others = lines_short lines in
    let size = length-append (line_text line) (flat_map line_text lines) in
    omega (arith, own, others, size)

own_lines : (ex : Exercise) (lines : List Line) (before : Before) (most : ℕ) (rest : List ℕ) → ex.voices ≤ 4
    → before.cases ≤ 16 → AreLinesOf ex before lines → length lines < most
    → lines_in most ex before (lists_text lines ++ rest) ≡ Ok (lines, rest)
own_lines ex lines before zero rest four few fits room = absurd (omega (arith, room))
own_lines ex [] before (suc most) rest four few fits room =
    ends_here ex before Claims (line_text Claims ++ rest) rest most (lines_are_read ex before Claims rest four few fits) refl
own_lines ex (line ∷ lines) before (suc most) rest four few fits room =
    let more = lists_text lines ++ rest in
    let text : lists_text (line ∷ lines) ++ rest ≡ line_text line ++ more =
    ap (λ bs. bs ++ rest) (append_assoc (line_text line) (flat_map line_text lines) (line_text Claims))
    ∙ append_assoc (line_text line) (lists_text lines) rest in
    ap (lines_in (suc most) ex before) text
    ∙ goes_on ex before line (line_text line ++ more) more most (lines_are_read ex before line more four few fits.0) fits.1
    ∙ ap (behind_lines (line ∷ [])) (own_lines ex lines (after before line) most rest four
    (cases_few ex before line fits.0 few) fits.2 (omega (arith, room)))

pub lists_are_read : (ex : Exercise) (lines : List Line) (rest : List ℕ) → ex.voices ≤ 4 → AreLists ex lines
    → length (lists_text lines) ≤ most_lines → lists_in ex (lists_text lines ++ rest) ≡ Ok (lines, rest)
lists_are_read ex lines rest four lists short =
    let few = lines_short lines in
    let last = line_some Claims in
    let size = length-append (flat_map line_text lines) (line_text Claims) in
    own_lines ex lines nothing_before most_lines rest four (omega arith) lists (omega (arith, few, last, size, short))

-- ---- what is read

last_is : (line : Line) → is_last line ≡ true → line ≡ Claims
last_is (Keeps turns runs) e = cc
last_is (Cases voice keys) e = cc
last_is (Price case voice pitch number) e = cc
last_is Claims e = refl

-- what was read behind a line
record AreMore (line : Line) (more : Result (List Line × List ℕ) ℕ) (lines : List Line) (rest : List ℕ) : Type 0 where
  others : List Line
  read : more ≡ Ok (others, rest)
  all : lines ≡ line ∷ others

parted : (line : Line) (more : Result (List Line × List ℕ) ℕ) (lines : List Line) (rest : List ℕ)
    → behind_lines (line ∷ []) more ≡ Ok (lines, rest) → AreMore line more lines rest
parted line (Err left) lines rest e = cc
parted line (Ok found) lines rest e =
    let same : (line ∷ found.0, found.1) ≡ (lines, rest) = cc in
    record { others = found.0; read = ap (λ r. Ok (found.0, r)) (second_is same); all = sym (first_is same) }

module _ (ex : Exercise) where
  record AreOnly (before : Before) (lines : List Line) (bytes rest : List ℕ) : Type 0 where
    fits : AreLinesOf ex before lines
    text : bytes ≡ lists_text lines ++ rest

  only_last : (before : Before) (line : Line) (bytes mid : List ℕ) (lines : List Line) (rest : List ℕ)
      → line_in ex before bytes ≡ Ok (line, mid) → is_last line ≡ true
      → ◌≡◌ {A = List Line × List ℕ} ([], mid) (lines, rest) → AreOnly before lines bytes rest
  only_last before line bytes mid lines rest e last same =
      let its = read_lines_fit ex before line bytes mid e in
      let claims = last_is line last in
      let P : List Line × List ℕ → Type 0 = λ found. AreOnly before found.0 bytes found.1 in
      subst P same record {
        fits = subst (Fits ex before) claims its.fits;
        text = its.text ∙ ap (λ l. line_text l ++ mid) claims;
      }

  only_more : (before : Before) (line : Line) (bytes mid : List ℕ) (others lines : List Line) (rest : List ℕ)
      → line_in ex before bytes ≡ Ok (line, mid) → is_last line ≡ false → AreOnly (after before line) others mid rest
      → lines ≡ line ∷ others → AreOnly before lines bytes rest
  only_more before line bytes mid others lines rest e more behind all =
      let its = read_lines_fit ex before line bytes mid e in
      let text = its.text ∙ ap (λ bs. line_text line ++ bs) behind.text
      ∙ sym (append_assoc (line_text line) (lists_text others) rest)
      ∙ sym (ap (λ bs. bs ++ rest) (append_assoc (line_text line) (flat_map line_text others) (line_text Claims))) in
      subst (λ (ls : List Line). AreOnly before ls bytes rest) (sym all)
      record { fits = (its.fits, more, behind.fits); text = text }

  only_lines : (most : ℕ) (before : Before) (lines : List Line) (bytes rest : List ℕ)
      → lines_in most ex before bytes ≡ Ok (lines, rest) → AreOnly before lines bytes rest
  unfolding lines_in
  only_lines zero before lines bytes rest e = cc
  only_lines (suc most) before lines bytes rest e =
      let one = steps (line_in ex before bytes) _ (lines, rest) e in
      by one.said.0 one.said.1 one.first (is_last one.said.0) refl one.behind
      (λ others f. only_lines most (after before one.said.0) others one.said.1 rest f)
    where
      by : (line : Line) (mid : List ℕ) → line_in ex before bytes ≡ Ok (line, mid) → (b : Bool) → is_last line ≡ b
          → line_and_more line mid b (lines_in most ex (after before line)) ≡ Ok (lines, rest)
          → ((others : List Line) → lines_in most ex (after before line) mid ≡ Ok (others, rest)
          → AreOnly (after before line) others mid rest) → AreOnly before lines bytes rest
      by line mid f true last g onward =
          let same : ◌≡◌ {A = List Line × List ℕ} ([], mid) (lines, rest) = cc in
          only_last before line bytes mid lines rest f last same
      by line mid f false more g onward =
          let its = parted line (lines_in most ex (after before line) mid) lines rest g in
          only_more before line bytes mid its.others lines rest f more (onward its.others its.read) its.all

  pub read_lists_fit : (lines : List Line) (bytes rest : List ℕ) → lists_in ex bytes ≡ Ok (lines, rest)
      → AreReadLists ex lines bytes rest
  read_lists_fit lines bytes rest e =
      let its = only_lines most_lines nothing_before lines bytes rest e in record { lists = its.fits; text = its.text }
