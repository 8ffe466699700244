-- No line of items begins another one (`lines-alone`), and items go on from each place within a
-- line (`items-live`); so a line stops where one of the pieces of its next item stops (`name-stops`
-- to `rest-stops`), and else it is read (`item-reads`).
use Rattle.std.proofs.Common.{◌≡◌, ◌≢◌, ℕ, zero, suc, ◌+◌, ◌-◌, ◌*◌, ◌%◌, ◌≤◌, ◌<◌, Bool, true, false, List, [], ◌∷◌, refl, sym, ap, subst, ◌∙◌, arith}
use Rattle.std.specs.Prelude.{◌==◌, codes, nat_le}
use Rattle.std.proofs.lemmas.Bool.{and_from, and_parts, eq-eqb, ne_eqb}
use Rattle.std.proofs.lemmas.Bool.Decides.{nat_tests}
use Rattle.fux_pitch.specs.declared.pitch.Pitch.{Pitch}
use Rattle.fux_grid.specs.declared.cell.Cell.{Cell}
use Rattle.fux_grid.specs.declared.cell.Cell.TheVariants.{Rest}
use Rattle.fux_grid.specs.declared.exercise.Exercise.{Exercise}
use Rattle.fux_grid.specs.Exercises.{IsValid}
use Rattle.fux_grid.specs.Cells.{held}
use Rattle.fux_text.specs.Lines.{free_voices}
use Rattle.fux_text.proofs.OwnSetting.{free-cantus, free-other, free_of}
use Rattle.cert_text.specs.HeadRows.{BehindItem, BehindName, IsCount, ItemName, Items, RestOfLine, SingLine, SingLines, behind_text, free_from, is_count, sing_bytes}
use Rattle.cert_text.specs.Pieces.{Literal, OneByte, Reads, Stops, Then}
use Rattle.cert_text.proofs.FourthOctave.{natural-four}
use Rattle.cert_text.proofs.ItemTexts.{items-to, items_text, sample, sample-fits}
use Rattle.cert_text.proofs.NameLemmas.{names-alone}
use Rattle.cert_text.proofs.PieceLemmas.{Alone, Live, byte-alone, fixed-alone, reads-then, stops-behind, stops-first, then-alone, then-live}

-- ---- no line begins another one

rest-alone : (b : Bool) (more : Unit {0} → List ℕ → Type 0) → Alone more → Alone (RestOfLine b more)
rest-alone true more alone = fixed-alone (tt {0}) []
rest-alone false more alone = alone

item-alone : (bars i : ℕ) (more : Unit {0} → List ℕ → Type 0) → Alone more → Alone (BehindItem bars i more)
item-alone bars i more alone =
    then-alone (Literal (behind_text bars i)) (λ _. RestOfLine (i == 8 * bars) more) (fixed-alone (tt {0}) (behind_text bars i))
    (λ _. rest-alone (i == 8 * bars) more alone)

name-alone : (bars i : ℕ) (more : ℕ → Unit {0} → List ℕ → Type 0) → ((next : ℕ) → Alone (more next))
    → Alone (BehindName bars i more)
name-alone bars i more alone =
    then-alone (Literal (codes ":"))
    (λ _. Then (OneByte (IsCount i)) (λ digit. BehindItem bars (i + (digit - 48)) (more (i + (digit - 48)))))
    (fixed-alone (tt {0}) (codes ":"))
    (λ _. then-alone (OneByte (IsCount i)) (λ digit. BehindItem bars (i + (digit - 48)) (more (i + (digit - 48))))
    (byte-alone (IsCount i))
    (λ digit. item-alone bars (i + (digit - 48)) (more (i + (digit - 48))) (alone (i + (digit - 48)))))

pub items-alone : (bars most i : ℕ) (before : Cell) → Alone (Items bars most i before)
items-alone bars zero i before = λ x y f g a b s t e. absurd s
items-alone bars (suc most) i before =
    then-alone (ItemName i before) (λ c. BehindName bars i (λ next. Items bars most next (held c)))
    (names-alone i before)
    (λ c. name-alone bars i (λ next. Items bars most next (held c)) (λ next. items-alone bars most next (held c)))

pub line-alone : (ex : Exercise) (v : ℕ) → Alone (SingLine ex v)
line-alone ex v =
    then-alone (Literal (sing_bytes v)) (λ _. Items ex.bars (8 * ex.bars) 0 Rest) (fixed-alone (tt {0}) (sing_bytes v))
    (λ _. items-alone ex.bars (8 * ex.bars) 0 Rest)

pub lines-alone : (ex : Exercise) (voices : List ℕ) → Alone (SingLines ex voices)
lines-alone ex [] = fixed-alone (tt {0}) []
lines-alone ex (v ∷ vs) =
    then-alone (SingLine ex v) (λ _. SingLines ex vs) (line-alone ex v) (λ _. lines-alone ex vs)

-- ---- items go on

-- the pitch A4
some_pitch : Pitch
some_pitch = (natural-four 65 (omega arith) (omega arith)).0

pub items-live : (bars most i : ℕ) (before : Cell) → i < 8 * bars → 8 * bars ≤ i + most → Live (Items bars most i before)
items-live bars most i before here enough =
    let items = sample some_pitch (8 * bars - i) in (
      tt,
      items_text bars i items,
      items-to bars most i before items (sample-fits bars some_pitch (8 * bars - i) i before (omega (arith, here))) here
          enough,
    )

pub line-live : (ex : Exercise) (v : ℕ) → 1 ≤ ex.bars → Live (SingLine ex v)
line-live ex v some =
    then-live (Literal (sing_bytes v)) (λ _. Items ex.bars (8 * ex.bars) 0 Rest) tt (sing_bytes v) (refl, refl)
    (items-live ex.bars (8 * ex.bars) 0 Rest (omega (arith, some)) (omega arith))

pub lines-live : (ex : Exercise) (voices : List ℕ) → 1 ≤ ex.bars → Live (SingLines ex voices)
lines-live ex [] some = (tt, [], (refl, refl))
lines-live ex (v ∷ vs) some =
    let first = line-live ex v some in
    then-live (SingLine ex v) (λ _. SingLines ex vs) first.0 first.1 first.2 (lines-live ex vs some)

-- ---- the next item

module _ (bars most i : ℕ) (before : Cell) (here : i < 8 * bars) (enough : 8 * bars ≤ i + suc most) where
  abbrev Counts : Cell → Unit {0} → List ℕ → Type 0
  Counts c = Then (OneByte (IsCount i)) (λ digit. BehindItem bars (i + (digit - 48)) (Items bars most (i + (digit - 48)) (held c)))

  abbrev Named : Cell → Unit {0} → List ℕ → Type 0
  Named c = BehindName bars i (λ next. Items bars most next (held c))

  abbrev Rests : Cell → ℕ → Unit {0} → List ℕ → Type 0
  Rests c next = RestOfLine (next == 8 * bars) (Items bars most next (held c))

  pub rest-live : (c : Cell) (next : ℕ) → i < next → next ≤ 8 * bars → Live (Rests c next)
  rest-live c next later within = by (next == 8 * bars) refl
    where
      by : (b : Bool) → (next == 8 * bars) ≡ b → Live (RestOfLine b (Items bars most next (held c)))
      by true e = (tt, [], (refl, refl))
      by false e =
          let other : next ≡ 8 * bars → ⊥ = grind (arith, nat_tests) in
          items-live bars most next (held c) (omega (arith, other, within)) (omega (arith, enough, later))

  pub item-live : (c : Cell) (digit : ℕ) → IsCount i digit
      → Live (BehindItem bars (i + (digit - 48)) (Items bars most (i + (digit - 48)) (held c)))
  item-live c digit count =
      let next = i + (digit - 48) in
      then-live (Literal (behind_text bars next)) (λ _. Rests c next) tt (behind_text bars next) (refl, refl)
      (rest-live c next (omega (arith, count.0)) (omega (arith, count.0, count.1, here)))

  pub count-live : (c : Cell) → Live (Counts c)
  count-live c =
      let one : IsCount i 49 = (omega arith, omega arith) in
      then-live (OneByte (IsCount i))
      (λ digit. BehindItem bars (i + (digit - 48)) (Items bars most (i + (digit - 48)) (held c))) 49 (49 ∷ [])
      (one, refl) (item-live c 49 one)

  pub name-live : (c : Cell) → Live (Named c)
  name-live c = then-live (Literal (codes ":")) (λ _. Counts c) tt (codes ":") (refl, refl) (count-live c)

-- ---- as many items as may be

pub with_one_more : (bars most i : ℕ) → i < 8 * bars → 8 * bars ≤ i + most → 8 * bars ≤ i + suc (most - 1)
with_one_more bars most i here enough = omega (arith, here, enough)

pub one_more : (bars most i : ℕ) (before : Cell) → i < 8 * bars → 8 * bars ≤ i + most → (bytes : List ℕ) (left : ℕ)
    → Stops (Items bars (suc (most - 1)) i before) bytes left → Stops (Items bars most i before) bytes left
one_more bars most i before here enough bytes left =
    let same : suc (most - 1) ≡ most = omega (arith, here, enough) in
    subst (λ k. Stops (Items bars k i before) bytes left) same

pub one_more_read : (bars most i : ℕ) (before : Cell) → i < 8 * bars → 8 * bars ≤ i + most → (bytes rest : List ℕ)
    → Reads (Items bars (suc (most - 1)) i before) bytes tt rest → Reads (Items bars most i before) bytes tt rest
one_more_read bars most i before here enough bytes rest =
    let same : suc (most - 1) ≡ most = omega (arith, here, enough) in
    subst (λ k. Reads (Items bars k i before) bytes tt rest) same

-- the line ends, or goes on
pub if_ends : (bars i : ℕ) (more : Unit {0} → List ℕ → Type 0) (bytes : List ℕ) → i ≡ 8 * bars
    → Reads (RestOfLine (i == 8 * bars) more) bytes tt bytes
if_ends bars i more bytes e =
    subst (λ b. Reads (RestOfLine b more) bytes tt bytes) (sym (eq-eqb i (8 * bars) e)) ([], refl, (refl, refl))

pub if_more : (bars i : ℕ) (more : Unit {0} → List ℕ → Type 0) (bytes rest : List ℕ) → i ≢ 8 * bars
    → Reads more bytes tt rest → Reads (RestOfLine (i == 8 * bars) more) bytes tt rest
if_more bars i more bytes rest e =
    subst (λ b. Reads (RestOfLine b more) bytes tt rest) (sym (ne_eqb i (8 * bars) e))

pub if_stops : (bars i : ℕ) (more : Unit {0} → List ℕ → Type 0) (bytes : List ℕ) (left : ℕ) → i ≢ 8 * bars
    → Stops more bytes left → Stops (RestOfLine (i == 8 * bars) more) bytes left
if_stops bars i more bytes left e =
    subst (λ b. Stops (RestOfLine b more) bytes left) (sym (ne_eqb i (8 * bars) e))

-- ---- the digit of a length

pub count-from : (i byte : ℕ) → is_count i byte ≡ true → IsCount i byte
count-from i byte e =
    let p = and_parts (nat_le 49 byte) (nat_le (byte + i % 8) 56) e in
    (let t = p.0 in grind (arith, nat_tests), let t = p.1 in grind (arith, nat_tests))

pub count-not : (i byte : ℕ) → is_count i byte ≡ false → IsCount i byte → ⊥
count-not i byte e count =
    let low : nat_le 49 byte ≡ true = let t = count.0 in grind (arith, nat_tests) in
    let high : nat_le (byte + i % 8) 56 ≡ true = let t = count.1 in grind (arith, nat_tests) in
    let both : true ≡ false = sym (and_from (nat_le 49 byte) (nat_le (byte + i % 8) 56) low high) ∙ e in
    absurd (grind (arith, both))

-- ---- the lines from a voice on

pub free_from-cantus : (ex : Exercise) (v : ℕ) → v < ex.voices → v ≡ ex.cantus_voice
    → free_from ex (v + 1) ≡ free_from ex v
free_from-cantus ex v here e =
    let count : ex.voices - v ≡ suc (ex.voices - (v + 1)) = omega (arith, here) in
    sym (ap (free_of ex v) count ∙ free-cantus ex v (ex.voices - (v + 1)) (eq-eqb v ex.cantus_voice e))

pub free_from-other : (ex : Exercise) (v : ℕ) → v < ex.voices → v ≢ ex.cantus_voice
    → v ∷ free_from ex (v + 1) ≡ free_from ex v
free_from-other ex v here e =
    let count : ex.voices - v ≡ suc (ex.voices - (v + 1)) = omega (arith, here) in
    sym (ap (free_of ex v) count ∙ free-other ex v (ex.voices - (v + 1)) (ne_eqb v ex.cantus_voice e))

module _ (ex : Exercise) (v : ℕ) (here : v < ex.voices) (other : v ≢ ex.cantus_voice) (valid : IsValid ex) where
  pub line-stops : (bytes : List ℕ) (left : ℕ) → Stops (SingLine ex v) bytes left
      → Stops (SingLines ex (free_from ex v)) bytes left
  line-stops bytes left stop =
      subst (λ vs. Stops (SingLines ex vs) bytes left) (free_from-other ex v here other)
      (stops-first (SingLine ex v) (λ _. SingLines ex (free_from ex (v + 1))) bytes left (line-alone ex v)
      (λ _ t text. lines-live ex (free_from ex (v + 1)) (omega (arith, valid.fewest_bars))) stop)

  module _ (bytes r1 : List ℕ) (line : Reads (SingLine ex v) bytes tt r1) where
    pub later-stops : (left : ℕ) → Stops (SingLines ex (free_from ex (v + 1))) r1 left
        → Stops (SingLines ex (free_from ex v)) bytes left
    later-stops left stop =
        subst (λ vs. Stops (SingLines ex vs) bytes left) (free_from-other ex v here other)
        (stops-behind (SingLine ex v) (λ _. SingLines ex (free_from ex (v + 1))) bytes r1 left tt (line-alone ex v) line
        stop)

    pub later-reads : (rest : List ℕ) → Reads (SingLines ex (free_from ex (v + 1))) r1 tt rest
        → Reads (SingLines ex (free_from ex v)) bytes tt rest
    later-reads rest read =
        subst (λ vs. Reads (SingLines ex vs) bytes tt rest) (free_from-other ex v here other)
        (reads-then (SingLine ex v) (λ _. SingLines ex (free_from ex (v + 1))) bytes r1 rest tt tt line read)

pub free_from-all : (ex : Exercise) → free_from ex 0 ≡ free_voices ex
free_from-all ex = let all : ex.voices - 0 ≡ ex.voices = omega arith in ap (free_of ex 0) all
