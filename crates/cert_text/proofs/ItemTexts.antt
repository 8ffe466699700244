-- The items of a line and their text: a line of them is short (`item_lines-short`), and the lines
-- of a row are those of items (`lines-from`, `lines-to`).
use Rattle.std.proofs.Common.{◌≡◌, ℕ, zero, suc, ◌+◌, ◌-◌, ◌*◌, ◌/◌, ◌%◌, ◌≤◌, ◌<◌, Bool, true, false, List, [], ◌∷◌, ◌++◌, length, length-append, refl, sym, ap, subst, ◌∙◌, append_assoc, arith}
use Rattle.std.specs.Prelude.{◌==◌, IsTrue, not, codes, if◌then◌else◌}
use Rattle.std.specs.List.{flat_map, range_with_len}
use Rattle.std.proofs.lemmas.Bool.{eqb-true}
use Rattle.std.proofs.lemmas.Bool.Decides.{nat_tests}
use Rattle.std.proofs.lemmas.List.FromFn.{length-range_with_len}
use Rattle.std.proofs.lemmas.List.Sums.{count_by-le-length, length-filter}
use Rattle.fux_pitch.specs.declared.pitch.Pitch.{Pitch}
use Rattle.fux_pitch.proofs.NameLemmas.{name_of-length}
use Rattle.fux_grid.specs.declared.cell.Cell.{Cell}
use Rattle.fux_grid.specs.declared.cell.Cell.TheVariants.{Rest, Hold, Start}
use Rattle.fux_grid.specs.declared.exercise.Exercise.{Exercise}
use Rattle.fux_grid.specs.Exercises.{IsValid}
use Rattle.fux_grid.specs.Cells.{held}
use Rattle.fux_text.specs.Items.{item_name}
use Rattle.fux_text.specs.Lines.{free_voices}
use Rattle.fux_text.proofs.OwnSetting.{free-cantus, free-other, free_of}
use Rattle.cert_text.specs.HeadRows.{BehindItem, Items, RestOfLine, SingLines, behind_text, can_stand, sing_bytes}

-- items behind so many columns and a cell are the rest of a line of so many bars, and none goes
-- beyond its bar
abbrev pub Fits : ℕ → ℕ → Cell → List (Cell × ℕ) → Type 0
Fits bars i before [] = i ≡ 8 * bars
Fits bars i before (item ∷ items) =
    IsTrue (can_stand i before item.0) × (1 ≤ item.1) × (i % 8 + item.1 ≤ 8)
    × Fits bars (i + item.1) (held item.0) items

abbrev pub item_text : Cell × ℕ → List ℕ
item_text item = item_name item.0 ++ 58 ∷ (48 + item.1) ∷ []

-- the text of the items, through the line's end
abbrev pub items_text : ℕ → ℕ → List (Cell × ℕ) → List ℕ
items_text bars i [] = []
items_text bars i (item ∷ items) =
    item_text item ++ (behind_text bars (i + item.1) ++ items_text bars (i + item.1) items)

-- the text of a line of items
abbrev pub line_text : Exercise → ℕ → List (Cell × ℕ) → List ℕ
line_text ex v items = sing_bytes v ++ items_text ex.bars 0 items

-- the text of the lines of voices
abbrev pub lines_text : Exercise → (ℕ → List (Cell × ℕ)) → List ℕ → List ℕ
lines_text ex sung voices = flat_map (λ v. line_text ex v (sung v)) voices

-- the bytes are a line of items for each of these voices
pub record AreItemLines (ex : Exercise) (lines voices : List ℕ) : Type 0 where
  pub sung : ℕ → List (Cell × ℕ)
  pub fits : (v : ℕ) → Fits ex.bars 0 Rest (sung v)
  pub text : lines ≡ lines_text ex sung voices

pub fits-within : (bars i : ℕ) (before : Cell) (items : List (Cell × ℕ)) → Fits bars i before items → i ≤ 8 * bars
fits-within bars i before [] f = omega (arith, f)
fits-within bars i before (item ∷ items) f =
    let more : i + item.1 ≤ 8 * bars = fits-within bars (i + item.1) (held item.0) items f.3 in omega (arith, more)

-- ---- a line of quavers

-- so many notes of one column each
abbrev pub sample : Pitch → ℕ → List (Cell × ℕ)
sample p zero = []
sample p (suc n) = (Start p, 1) ∷ sample p n

pub sample-fits : (bars : ℕ) (p : Pitch) (n i : ℕ) (before : Cell) → i + n ≡ 8 * bars → Fits bars i before (sample p n)
sample-fits bars p zero i before e = omega (arith, e)
sample-fits bars p (suc n) i before e =
    (refl, omega arith, omega arith, sample-fits bars p n (i + 1) _ (omega (arith, e)))

-- ---- rows of items

record FromItems (bars i : ℕ) (before : Cell) (text : List ℕ) : Type 0 where
  pub items : List (Cell × ℕ)
  pub fits : Fits bars i before items
  pub text_is : text ≡ items_text bars i items

items-from : (bars most i : ℕ) (before : Cell) (text : List ℕ) → Items bars most i before tt text
    → FromItems bars i before text
items-from bars zero i before text none = absurd none
items-from bars (suc most) i before text row =
    by (i + n == 8 * bars) refl item.behind (λ rest. items-from bars most (i + n) (held c) rest)
  where
    c : Cell
    c = row.said

    digit : ℕ
    digit = row.behind.behind.said

    n : ℕ
    n = digit - 48

    item : BehindItem bars (i + n) (Items bars most (i + n) (held c)) tt row.behind.behind.rest
    item = row.behind.behind.behind

    value : 48 + n ≡ digit
    value = omega (arith, row.behind.behind.first.0.0)

    within : i % 8 + n ≤ 8
    within = omega (arith, row.behind.behind.first.0.0, row.behind.behind.first.0.1)

    whole : text ≡ item_text (c, n) ++ (behind_text bars (i + n) ++ item.rest)
    whole =
        row.parts ∙ ap (λ w. w ++ row.rest) row.first.1
        ∙ ap (λ w. item_name c ++ w) (row.behind.parts ∙ ap (λ w. w ++ row.behind.rest) row.behind.first.1
        ∙ ap (λ w. 58 ∷ w) (row.behind.behind.parts ∙ ap (λ w. w ++ row.behind.behind.rest) row.behind.behind.first.1
        ∙ ap (λ b. b ∷ row.behind.behind.rest) (sym value)
        ∙ ap (λ w. (48 + n) ∷ w) (item.parts ∙ ap (λ w. w ++ item.rest) item.first.1)))
        ∙ sym (append_assoc (item_name c) (58 ∷ (48 + n) ∷ []) (behind_text bars (i + n) ++ item.rest))

    by : (b : Bool) → (i + n == 8 * bars) ≡ b
        → RestOfLine b (Items bars most (i + n) (held c)) tt item.rest
        → ((rest : List ℕ) → Items bars most (i + n) (held c) tt rest → FromItems bars (i + n) (held c) rest)
        → FromItems bars i before text
    by true e rest on = record {
      items = (c, n) ∷ [];
      fits = (row.first.0, omega (arith, row.behind.behind.first.0.0), within, eqb-true (i + n) (8 * bars) e);
      text_is = whole ∙ ap (λ w. item_text (c, n) ++ (behind_text bars (i + n) ++ w)) rest.1;
    }
    by false e rest on =
        let later = on item.rest rest in
        record {
          items = (c, n) ∷ later.items;
          fits = (row.first.0, omega (arith, row.behind.behind.first.0.0), within, later.fits);
          text_is = whole ∙ ap (λ w. item_text (c, n) ++ (behind_text bars (i + n) ++ w)) later.text_is;
        }

pub items-to : (bars most i : ℕ) (before : Cell) (items : List (Cell × ℕ)) → Fits bars i before items → i < 8 * bars
    → 8 * bars ≤ i + most → Items bars most i before tt (items_text bars i items)
items-to bars most i before [] fits here enough = absurd (omega (arith, fits, here))
items-to bars zero i before (item ∷ items) fits here enough = absurd (omega (arith, here, enough))
items-to bars (suc most) i before ((c, n) ∷ items) fits here enough = record {
  said = c;
  front = item_name c;
  rest = 58 ∷ (48 + n) ∷ (behind_text bars (i + n) ++ items_text bars (i + n) items);
  parts = append_assoc (item_name c) (58 ∷ (48 + n) ∷ []) (behind_text bars (i + n) ++ items_text bars (i + n) items);
  first = (fits.0, refl);
  behind = record {
    said = tt;
    front = codes ":";
    rest = (48 + n) ∷ (behind_text bars (i + n) ++ items_text bars (i + n) items);
    parts = refl;
    first = (refl, refl);
    behind = record {
      said = 48 + n;
      front = (48 + n) ∷ [];
      rest = behind_text bars (i + n) ++ items_text bars (i + n) items;
      parts = refl;
      first = ((omega (arith, fits.1), omega (arith, fits.2)), refl);
      behind = subst (λ k. BehindItem bars (i + k) (Items bars most (i + k) (held c)) tt
          (behind_text bars (i + n) ++ items_text bars (i + n) items)) same
          (record {
            said = tt;
            front = behind_text bars (i + n);
            rest = items_text bars (i + n) items;
            parts = refl;
            first = (refl, refl);
            behind = by (i + n == 8 * bars) refl items fits.3
                (λ inside. items-to bars most (i + n) (held c) items fits.3 inside (omega (arith, enough, fits.1)));
          });
    };
  };
}
  where
    same : n ≡ 48 + n - 48
    same = omega arith

    by : (b : Bool) → (i + n == 8 * bars) ≡ b → (xs : List (Cell × ℕ)) → Fits bars (i + n) (held c) xs
        → (i + n < 8 * bars → Items bars most (i + n) (held c) tt (items_text bars (i + n) xs))
        → RestOfLine b (Items bars most (i + n) (held c)) tt (items_text bars (i + n) xs)
    by true e [] f on = (refl, refl)
    by true e (x ∷ xs) f on =
        let full : i + n ≡ 8 * bars = eqb-true (i + n) (8 * bars) e in
        let more = fits-within bars (i + n + x.1) (held x.0) xs f.3 in
        absurd (omega (arith, full, more, f.1))
    by false e xs f on =
        let other : i + n ≡ 8 * bars → ⊥ = grind (arith, nat_tests) in
        on (omega (arith, other, fits-within bars (i + n) (held c) xs f))

-- ---- lines

-- the items of voices, with those of one put in their place
abbrev with_line : ℕ → List (Cell × ℕ) → (ℕ → List (Cell × ℕ)) → ℕ → List (Cell × ℕ)
with_line v items sung w = if w == v then items else sung w

with_line-fits : (bars v : ℕ) (items : List (Cell × ℕ)) (sung : ℕ → List (Cell × ℕ)) → Fits bars 0 Rest items
    → ((w : ℕ) → Fits bars 0 Rest (sung w)) → (w : ℕ) → Fits bars 0 Rest (with_line v items sung w)
with_line-fits bars v items sung fits others w = by (w == v)
  where
    by : (b : Bool) → Fits bars 0 Rest (if b then items else sung w)
    by true = fits
    by false = others w

with_line-own : (v : ℕ) (items : List (Cell × ℕ)) (sung : ℕ → List (Cell × ℕ)) → with_line v items sung v ≡ items
with_line-own v items sung = let same : (v == v) ≡ true = grind (arith, nat_tests) in rw same refl

-- the later lines stay
with_line-later : (ex : Exercise) (v : ℕ) (items : List (Cell × ℕ)) (sung : ℕ → List (Cell × ℕ)) (count a : ℕ) → v < a
    → lines_text ex (with_line v items sung) (free_of ex a count) ≡ lines_text ex sung (free_of ex a count)
with_line-later ex v items sung zero a later = refl
with_line-later ex v items sung (suc count) a later =
    by (a == ex.cantus_voice) (with_line-later ex v items sung count (a + 1) (omega (arith, later)))
  where
    other : with_line v items sung a ≡ sung a
    other = let apart : (a == v) ≡ false = grind (arith, nat_tests) in rw apart refl

    vs : List ℕ
    vs = free_of ex (a + 1) count

    by : (b : Bool) → lines_text ex (with_line v items sung) vs ≡ lines_text ex sung vs
        → lines_text ex (with_line v items sung) (if not b then a ∷ vs else vs)
        ≡ lines_text ex sung (if not b then a ∷ vs else vs)
    by true rest = rest
    by false rest =
        ap (λ own. line_text ex a own ++ lines_text ex (with_line v items sung) vs) other
        ∙ ap (λ more. line_text ex a (sung a) ++ more) rest

pub lines-from : (ex : Exercise) (p : Pitch) (count v : ℕ) (text : List ℕ)
    → SingLines ex (free_of ex v count) tt text → AreItemLines ex text (free_of ex v count)
lines-from ex p zero v text row = record {
  sung = λ w. sample p (8 * ex.bars);
  fits = λ w. sample-fits ex.bars p (8 * ex.bars) 0 Rest (omega arith);
  text = row.1;
}
lines-from ex p (suc count) v text row =
    by (v == ex.cantus_voice) refl (λ rest. lines-from ex p count (v + 1) rest)
  where
    by : (b : Bool) → (v == ex.cantus_voice) ≡ b
        → ((rest : List ℕ) → SingLines ex (free_of ex (v + 1) count) tt rest
        → AreItemLines ex rest (free_of ex (v + 1) count))
        → AreItemLines ex text (free_of ex v (suc count))
    by true e later =
        let skip = free-cantus ex v count e in
        subst (AreItemLines ex text) (sym skip) (later text (subst (λ vs. SingLines ex vs tt text) skip row))
    by false e later =
        let more = free-other ex v count e in
        let line = subst (λ vs. SingLines ex vs tt text) more row in
        let items = items-from ex.bars (8 * ex.bars) 0 Rest line.first.rest line.first.behind in
        let lines = later line.rest line.behind in
        let sung = with_line v items.items lines.sung in
        subst (AreItemLines ex text) (sym more) (record {
          sung = sung;
          fits = with_line-fits ex.bars v items.items lines.sung items.fits lines.fits;
          text =
              line.parts
              ∙ ap (λ w. w ++ line.rest) (line.first.parts ∙ ap (λ w. w ++ line.first.rest) line.first.first.1
              ∙ ap (λ w. sing_bytes v ++ w) (items.text_is
              ∙ ap (items_text ex.bars 0) (sym (with_line-own v items.items lines.sung))))
              ∙ ap (λ w. line_text ex v (sung v) ++ w) (lines.text
              ∙ sym (with_line-later ex v items.items lines.sung count (v + 1) (omega arith)));
        })

pub lines-to : (ex : Exercise) (sung : ℕ → List (Cell × ℕ)) (voices : List ℕ) → 1 ≤ ex.bars
    → ((v : ℕ) → Fits ex.bars 0 Rest (sung v)) → SingLines ex voices tt (lines_text ex sung voices)
lines-to ex sung [] some fits = (refl, refl)
lines-to ex sung (v ∷ vs) some fits = record {
  said = tt;
  front = line_text ex v (sung v);
  rest = lines_text ex sung vs;
  parts = refl;
  first = record {
    said = tt;
    front = sing_bytes v;
    rest = items_text ex.bars 0 (sung v);
    parts = refl;
    first = (refl, refl);
    behind = items-to ex.bars (8 * ex.bars) 0 Rest (sung v) (fits v) (omega (arith, some)) (omega arith);
  };
  behind = lines-to ex sung vs some fits;
}

-- ---- how long they are

name-short : (c : Cell) → length (item_name c) ≤ 3
name-short Rest = omega arith
name-short (Hold p) = omega arith
name-short (Start p) = (name_of-length p).1

item-short : (item : Cell × ℕ) → length (item_text item) ≤ 5
item-short item =
    omega (arith, length-append (item_name item.0) (58 ∷ (48 + item.1) ∷ []), name-short item.0)

-- an item has at most five bytes, with a space or a feed behind it, or a bar line at the end of its
-- bar
items-short : (bars i : ℕ) (before : Cell) (items : List (Cell × ℕ)) → Fits bars i before items
    → length (items_text bars i items) + 6 * i + 2 * (i / 8) ≤ 50 * bars
items-short bars i before [] fits = omega (arith, fits)
items-short bars i before (item ∷ items) fits =
    by (i + item.1 == 8 * bars) refl ((i + item.1) % 8 == 0) refl
    (items-short bars (i + item.1) (held item.0) items fits.3)
  where
    j : ℕ
    j = i + item.1

    rest : List ℕ
    rest = items_text bars j items

    by : (last : Bool) → (j == 8 * bars) ≡ last → (whole : Bool) → (j % 8 == 0) ≡ whole
        → length rest + 6 * j + 2 * (j / 8) ≤ 50 * bars
        → length (item_text item ++ (behind_text bars j ++ rest)) + 6 * i + 2 * (i / 8) ≤ 50 * bars
    by true e whole f more =
        let long = length-append (item_text item) (10 ∷ rest) in
        rw e (omega (arith, long, item-short item, fits.1, more))
    by false e true f more =
        let end : (i + item.1) % 8 ≡ 0 = grind (arith, nat_tests) in
        let long = length-append (item_text item) (codes " | " ++ rest) in
        rw (e, f) (omega (arith, long, item-short item, fits.1, end, more))
    by false e false f more =
        let long = length-append (item_text item) (codes " " ++ rest) in
        rw (e, f) (omega (arith, long, item-short item, fits.1, more))

sing-short : (v : ℕ) → length (sing_bytes v) ≤ 7
sing-short v = by (v == 0) (v == 1) (v == 2)
  where
    by : (a b c : Bool) → length
        (if a then codes "sing 0 " else
        (if b then codes "sing 1 " else (if c then codes "sing 2 " else codes "sing 3 "))) ≤ 7
    by true b c = omega arith
    by false true c = omega arith
    by false false true = omega arith
    by false false false = omega arith

line-short : (ex : Exercise) (v : ℕ) (items : List (Cell × ℕ)) → ex.bars ≤ 24 → Fits ex.bars 0 Rest items
    → length (line_text ex v items) ≤ 1207
line-short ex v items few fits =
    omega (
      arith,
      length-append (sing_bytes v) (items_text ex.bars 0 items),
      sing-short v,
      items-short ex.bars 0 Rest items fits,
      few,
    )

lines-short : (ex : Exercise) (sung : ℕ → List (Cell × ℕ)) (voices : List ℕ) → ex.bars ≤ 24
    → ((v : ℕ) → Fits ex.bars 0 Rest (sung v)) → length (lines_text ex sung voices) ≤ 1207 * length voices
lines-short ex sung [] few fits = omega arith
lines-short ex sung (v ∷ voices) few fits =
    omega (
      arith,
      length-append (line_text ex v (sung v)) (lines_text ex sung voices),
      line-short ex v (sung v) few (fits v),
      lines-short ex sung voices few fits,
    )

-- the lines of a head have at most 4,828 bytes, four lines of 1,207
pub item_lines-short : (ex : Exercise) (lines : List ℕ) → IsValid ex → AreItemLines ex lines (free_voices ex)
    → length lines ≤ 4828
item_lines-short ex lines valid are =
    omega (
      arith,
      ap length are.text,
      lines-short ex are.sung (free_voices ex) valid.most_bars are.fits,
      length-filter (λ v. not (v == ex.cantus_voice)) (range_with_len 0 ex.voices),
      count_by-le-length (λ v. not (v == ex.cantus_voice)) (range_with_len 0 ex.voices),
      length-range_with_len 0 ex.voices,
      valid.most_voices,
    )
