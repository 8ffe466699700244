-- What is told first by lines: by one of them (`told_here`), or by those behind it (`told_later`);
-- which price is above another (`high_price`, `low_price`); and what keys are (`cases_low`).
use Rattle.std.proofs.Common.{◌≡◌, ℕ, zero, suc, ◌+◌, ◌<◌, ◌≤◌, ◌-◌, ◌&&◌, Bool, false, List, [], ◌∷◌, Option, Some, None, arith, drop, get_or, length, length-drop, take, map, option_map, slice_index, refl, ap, subst, sym, ◌∙◌, if◌then◌else◌}
use Rattle.std.specs.List.{AllByRecursion}
use Rattle.std.proofs.lemmas.Bool.{lt-ltb, le-ltb}
use Rattle.std.proofs.Math.ListN.{drop_of_length-le}
use Rattle.std.proofs.lemmas.List.{drop_more, take_all}
use Rattle.price_check.specs.declared.line.PriceLine.{PriceLine}
use Rattle.price_check.specs.declared.line.PriceLine.TheVariants as own
use Rattle.price_check.specs.PriceLines.{Cases, Claims, Keeps, Line, Price, line_of}
use Rattle.price_check.specs.PriceLists.{PriceList}
use Rattle.penalty_sheet.specs.declared.sheet.Sheet.{Sheet}
use Rattle.price_check.specs.Owned.{AreKeys}
use Rattle.price_check.specs.Stated.{AreEachStated, IsStated, and_more, cases_of, first_told, first_above, has_no_keys, lists_of, or_later, price_in, prices_in}

pub none_seen : {X Y : Type 0} (f : X → Y) (o : Option X) → o ≡ None → option_map f o ≡ None
none_seen f None e = refl
none_seen f (Some x) e = cc

pub some_seen : {X Y : Type 0} (f : X → Y) (o : Option X) (x : X) → o ≡ Some x → option_map f o ≡ Some (f x)
some_seen f o x e = ap (option_map f) e

module _ {A : Type 0} (tells : Line → Option A) (lines : List PriceLine) where
  -- what lines tell from one on
  abbrev pub from : ℕ → Option A
  from i = first_told tells (map line_of (drop i lines))

  parted : (i : ℕ) (line : PriceLine) → i < length lines → line ≡ get_or lines i line
      → from i ≡ or_later (tells (line_of line)) (from (i + 1))
  parted i line within is =
      ap (λ (ls : List PriceLine). first_told tells (map line_of ls)) (drop_more lines i line within)
      ∙ ap (λ (l : PriceLine). or_later (tells (line_of l)) (from (i + 1))) (sym is)

  pub told_here : (i : ℕ) (line : PriceLine) (x : A) → i < length lines → line ≡ get_or lines i line
      → tells (line_of line) ≡ Some x → from i ≡ Some x
  told_here i line x within is told = parted i line within is ∙ ap (λ o. or_later o (from (i + 1))) told

  pub told_later : (i : ℕ) (line : PriceLine) → i < length lines → line ≡ get_or lines i line
      → tells (line_of line) ≡ None → from i ≡ from (i + 1)
  told_later i line within is told = parted i line within is ∙ ap (λ o. or_later o (from (i + 1))) told

  pub told_end : (i : ℕ) → length lines ≤ i → from i ≡ None
  told_end i past = ap (λ (ls : List PriceLine). first_told tells (map line_of ls)) (drop_of_length-le lines past)

-- ---- prices

module _ (most : ℕ) (lines : List PriceLine) where
  abbrev pub above : ℕ → Option ℕ
  above i = first_above most (prices_in (map line_of (drop i lines)))

  abbrev rest_of : ℕ → List ℕ
  rest_of i = prices_in (map line_of (drop (i + 1) lines))

  price_parted : (i : ℕ) (line : PriceLine) (price : Option ℕ) → i < length lines → line ≡ get_or lines i line
      → price_in (line_of line) ≡ price → above i ≡ first_above most (and_more price (rest_of i))
  price_parted i line price within is e =
      ap (λ (ls : List PriceLine). first_above most (prices_in (map line_of ls))) (drop_more lines i line within)
      ∙ ap (λ (l : PriceLine). first_above most (and_more (price_in (line_of l)) (rest_of i))) (sym is)
      ∙ ap (λ o. first_above most (and_more o (rest_of i))) e

  pub no_price : (i : ℕ) (line : PriceLine) → i < length lines → line ≡ get_or lines i line
      → price_in (line_of line) ≡ None → above i ≡ above (i + 1)
  no_price i line within is e = price_parted i line None within is e

  pub high_price : (i price : ℕ) (line : PriceLine) → i < length lines → line ≡ get_or lines i line
      → price_in (line_of line) ≡ Some price → most < price → above i ≡ Some 0
  high_price i price line within is e high =
      price_parted i line (Some price) within is e
      ∙ ap (λ (b : Bool). if b then Some 0 else option_map (λ n. n + 1) (first_above most (rest_of i))) (lt-ltb most price high)

  pub low_price : (i price : ℕ) (line : PriceLine) → i < length lines → line ≡ get_or lines i line
      → price_in (line_of line) ≡ Some price → price ≤ most → above i ≡ option_map (λ n. n + 1) (above (i + 1))
  low_price i price line within is e low =
      price_parted i line (Some price) within is e
      ∙ ap (λ (b : Bool). if b then Some 0 else option_map (λ n. n + 1) (first_above most (rest_of i))) (le-ltb most price low)

  pub no_prices : (i : ℕ) → length lines ≤ i → above i ≡ None
  no_prices i past = ap (λ (ls : List PriceLine). first_above most (prices_in (map line_of ls))) (drop_of_length-le lines past)

pub counted : (k : ℕ) (o : Option ℕ)
    → option_map (λ n. n + k) (option_map (λ n. n + 1) o) ≡ option_map (λ n. n + (k + 1)) o
counted k None = refl
counted k (Some n) = ap (λ (m : ℕ). Some m) (omega arith)

-- ---- keys

low-each : (keys : List ℕ) (k : ℕ) → AllByRecursion (λ key. key < 127) keys → slice_index keys k < 127
low-each [] k all = omega arith
low-each (key ∷ keys) zero all = all.0
low-each (key ∷ keys) (suc k) all = low-each keys k all.1

pub cases_low : (lines : List Line) → AllByRecursion AreKeys lines → (k : ℕ) → slice_index (cases_of lines).1 k < 127
cases_low [] all k = omega arith
cases_low (Keeps turns runs ∷ lines) all k = omega arith
cases_low (Cases voice keys ∷ lines) all k = low-each keys k all.0.0
cases_low (Price case voice pitch number ∷ lines) all k = cases_low lines all.1 k
cases_low (Claims ∷ lines) all k = cases_low lines all.1 k

pub cases_few : (lines : List Line) → AllByRecursion AreKeys lines → length (cases_of lines).1 ≤ 15
cases_few [] all = omega arith
cases_few (Keeps turns runs ∷ lines) all = omega arith
cases_few (Cases voice keys ∷ lines) all = all.0.1
cases_few (Price case voice pitch number ∷ lines) all = cases_few lines all.1
cases_few (Claims ∷ lines) all = cases_few lines all.1

pub keys_behind : (lines : List PriceLine) (i : ℕ) → AllByRecursion AreKeys (map line_of lines)
    → AllByRecursion AreKeys (map line_of (drop i lines))
keys_behind [] zero all = tt
keys_behind [] (suc i) all = tt
keys_behind (line ∷ lines) zero all = all
keys_behind (line ∷ lines) (suc i) all = keys_behind lines i all.1

pub plain_is : (keys : List ℕ) (b : Bool) → length keys ≡ 0 → b ≡ (has_no_keys keys && b)
plain_is [] b none = refl
plain_is (key ∷ keys) b none = absurd (omega (arith, none))

pub not_plain : (keys : List ℕ) (b : Bool) → (length keys ≡ 0 → ⊥) → false ≡ (has_no_keys keys && b)
not_plain [] b some = absurd (some refl)
not_plain (key ∷ keys) b some = refl

-- ---- lists

left_all : {X : Type 0} (xs : List X) (k : ℕ) → take (length xs - k) (drop k xs) ≡ drop k xs
left_all xs k = take_all (length xs - k) (drop k xs) (omega (arith, length-drop k xs))

pub keys_from : (lines : List PriceLine) (k : ℕ) → AllByRecursion AreKeys (map line_of lines)
    → AllByRecursion AreKeys (map line_of (take (length lines - k) (drop k lines)))
keys_from lines k all =
    subst (λ (ls : List PriceLine). AllByRecursion AreKeys (map line_of ls)) (sym (left_all lines k)) (keys_behind lines k all)

abbrev AreFor : Sheet → List PriceLine → List PriceList → Type 0
AreFor sheet lines lists = AreEachStated sheet (lists_of (map line_of lines)) lists

pub list_next : (sheet : Sheet) (lines : List PriceLine) (k : ℕ) (line : PriceLine) (turns runs : Bool) (list : PriceList)
    (more : List PriceList) → k < length lines → line ≡ get_or lines k line → line ≡ own.Keeps turns runs
    → IsStated sheet (record {
      turns = turns;
      runs = runs;
      lines = map line_of (take (length lines - (k + 1)) (drop (k + 1) lines));
    }) list
    → AreFor sheet (drop (k + 1) lines) more → AreFor sheet (drop k lines) (list ∷ more)
list_next sheet lines k line turns runs list more within is keeps stated are =
    let rest = drop (k + 1) lines in
    let parted : drop k lines ≡ own.Keeps turns runs ∷ rest =
    drop_more lines k line within ∙ ap (λ (l : PriceLine). l ∷ rest) (sym is ∙ keeps) in
    let whole = subst (λ (ls : List PriceLine). IsStated sheet (record { turns = turns; runs = runs; lines = map line_of ls }) list)
    (left_all lines (k + 1)) stated in
    subst (λ (ls : List PriceLine). AreFor sheet ls (list ∷ more)) (sym parted) (whole, are)

other_line : (sheet : Sheet) (line : PriceLine) (rest : List PriceLine) (more : List PriceList)
    → ((turns runs : Bool) → line ≡ own.Keeps turns runs → ⊥) → AreFor sheet rest more → AreFor sheet (line ∷ rest) more
other_line sheet (own.Keeps turns runs) rest more unlike are = absurd (unlike turns runs refl)
other_line sheet (own.Cases voice keys) rest more unlike are = are
other_line sheet (own.Price case voice pitch number) rest more unlike are = are
other_line sheet own.Claims rest more unlike are = are

pub list_later : (sheet : Sheet) (lines : List PriceLine) (k : ℕ) (line : PriceLine) (more : List PriceList)
    → k < length lines → line ≡ get_or lines k line → ((turns runs : Bool) → line ≡ own.Keeps turns runs → ⊥)
    → AreFor sheet (drop (k + 1) lines) more → AreFor sheet (drop k lines) more
list_later sheet lines k line more within is unlike are =
    let rest = drop (k + 1) lines in
    let parted : drop k lines ≡ line ∷ rest =
    drop_more lines k line within ∙ ap (λ (l : PriceLine). l ∷ rest) (sym is) in
    subst (λ (ls : List PriceLine). AreFor sheet ls more) (sym parted) (other_line sheet line rest more unlike are)

pub none_left : (sheet : Sheet) (lines : List PriceLine) (k : ℕ) → length lines ≤ k → AreFor sheet (drop k lines) []
none_left sheet lines k past =
    subst (λ (ls : List PriceLine). AreFor sheet ls []) (sym (drop_of_length-le lines past)) tt
