-- What the lines of lists state, and which lists of prices that are.
use Rattle.std.specs.Prelude.{◌≡◌, ℕ, ◌+◌, ◌*◌, ◌/◌, ◌%◌, ◌==◌, ◌&&◌, nat_lt, not, Bool, true, false, ⊤, List, [], ◌∷◌, Option, Some, None, length, map, option_map, if◌then◌else◌}
use Rattle.std.specs.List.{range_with_len}
use Rattle.fux_pitch.specs.declared.pitch.Pitch.{Pitch}
use Rattle.melody_rules.specs.GaugeParts.{place_in}
use Rattle.open_ends.specs.Choices.{keeps_of}
use Rattle.penalty_sheet.specs.declared.sheet.Sheet.{Sheet}
use Rattle.penalty_sheet.specs.Weights.{weight_of}
use Rattle.price_check.specs.PriceLists.{PriceList}
use Rattle.price_check.specs.PriceLines.{Cases, Claims, Keeps, Line, Price}
use Rattle.priced_floors.specs.declared.charges.TheConstants.{SCALE}
use Rattle.priced_floors.specs.declared.prices.Prices.{Prices}
use Rattle.priced_floors.specs.declared.prices.TheConstants.{PITCHES}
use Rattle.priced_floors.specs.declared.prices.Summit.{Summit}

-- what a list states: what it keeps, and the lines behind the one that says so
pub record StatedList : Type 0 where
  pub turns : Bool
  pub runs : Bool
  pub lines : List Line

-- the lists that lines state
abbrev pub lists_of : List Line → List StatedList
lists_of [] = []
lists_of (Keeps turns runs ∷ lines) = record { turns = turns; runs = runs; lines = lines } ∷ lists_of lines
lists_of (Cases voice keys ∷ lines) = lists_of lines
lists_of (Price case voice pitch number ∷ lines) = lists_of lines
lists_of (Claims ∷ lines) = lists_of lines

-- ---- what lines tell, up to those of another list

abbrev pub or_later : {A : Type 0} → Option A → Option A → Option A
or_later None later = later
or_later (Some told) later = Some told

-- the first thing that is told by lines
abbrev pub first_told : {A : Type 0} → (Line → Option A) → List Line → Option A
first_told tells [] = None
first_told tells (line ∷ lines) = or_later (tells line) (first_told tells lines)

abbrev pub told_or : {A : Type 0} → A → Option A → A
told_or otherwise None = otherwise
told_or otherwise (Some told) = told

-- the voice and the keys of cases; no keys where another list begins
abbrev pub cases_told : Line → Option (ℕ × List ℕ)
cases_told (Keeps turns runs) = Some (0, [])
cases_told (Cases voice keys) = Some (voice, keys)
cases_told (Price case voice pitch number) = None
cases_told Claims = None

abbrev pub cases_of : List Line → ℕ × List ℕ
cases_of lines = told_or (0, []) (first_told cases_told lines)

-- the price of a case, counted from 0, a voice and a pitch's place; nothing where another list begins
abbrev pub is_price_of : ℕ → ℕ → ℕ → ℕ → ℕ → Pitch → Bool
is_price_of case voice place c v pitch = (c == case + 1) && ((v == voice) && (place_in pitch == place))

abbrev pub price_told : ℕ → ℕ → ℕ → Line → Option ℕ
price_told case voice place (Keeps turns runs) = Some 0
price_told case voice place (Cases v keys) = None
price_told case voice place (Price c v pitch number) = if is_price_of case voice place c v pitch then Some number else None
price_told case voice place Claims = None

abbrev pub price_at : List Line → ℕ → ℕ → ℕ → ℕ
price_at lines case voice place = told_or 0 (first_told (price_told case voice place) lines)

-- whether a price is stated; none where another list begins
abbrev pub some_told : Line → Option Bool
some_told (Keeps turns runs) = Some false
some_told (Cases voice keys) = None
some_told (Price case voice pitch number) = Some true
some_told Claims = None

abbrev pub has_price : List Line → Bool
has_price lines = told_or false (first_told some_told lines)

-- ---- what is charged

-- what the strikes of a voice are charged in a case
abbrev pub prices_at : List Line → ℕ → ℕ → Prices
prices_at lines case voice = record { scale = SCALE; strikes = map (price_at lines case voice) (range_with_len 0 PITCHES) }

-- the same of each of four voices in each of so many cases
abbrev pub all_prices : List Line → ℕ → List Prices
all_prices lines count = map (λ k. prices_at lines (k / 4) (k % 4)) (range_with_len 0 (4 * count))

-- what a note at the upper end of a case is charged: nothing where it has none
abbrev pub charge_at : ℕ → Option ℕ → ℕ
charge_at charge None = 0
charge_at charge (Some key) = charge

-- the cases between keys, behind one that ends at a key or has no upper end
abbrev pub summits_from : ℕ → Option ℕ → List ℕ → List Summit
summits_from charge high [] = record { low = 0; high = high; charge = charge_at charge high } ∷ []
summits_from charge high (key ∷ keys) =
    record { low = key + 1; high = high; charge = charge_at charge high } ∷ summits_from charge (Some key) keys

-- a list charges nothing: it parts no cases, and states no price
abbrev pub has_no_keys : List ℕ → Bool
has_no_keys [] = true
has_no_keys (key ∷ keys) = false

abbrev pub is_plain : List Line → Bool
is_plain lines = has_no_keys (cases_of lines).1 && not (has_price lines)

-- it is the list of prices that is stated
pub record IsStated (sheet : Sheet) (stated : StatedList) (list : PriceList) : Type 0 where
  pub keeps : list.keeps ≡ keeps_of stated.turns stated.runs
  pub scale : list.charges.scale ≡ SCALE
  pub strikes : list.charges.strikes.items ≡ all_prices stated.lines (length (cases_of stated.lines).1 + 1)
  pub voice : list.charges.voice ≡ (cases_of stated.lines).0
  pub summits : list.charges.summits.items
      ≡ summits_from (SCALE * weight_of sheet 17) None (cases_of stated.lines).1
  pub plain : list.plain ≡ is_plain stated.lines

-- each is the one that is stated in its place
abbrev pub AreEachStated : Sheet → List StatedList → List PriceList → Type 0
AreEachStated sheet [] [] = ⊤
AreEachStated sheet [] (list ∷ lists) = ⊥
AreEachStated sheet (stated ∷ more) [] = ⊥
AreEachStated sheet (stated ∷ more) (list ∷ lists) = IsStated sheet stated list × AreEachStated sheet more lists

-- they are the lists that lines state
abbrev pub AreStated : Sheet → List Line → List PriceList → Type 0
AreStated sheet lines lists = AreEachStated sheet (lists_of lines) lists

-- ---- what is due

-- the price that a line states, and those that lines do
abbrev pub price_in : Line → Option ℕ
price_in (Keeps turns runs) = None
price_in (Cases voice keys) = None
price_in (Price case voice pitch number) = Some number
price_in Claims = None

abbrev pub and_more : Option ℕ → List ℕ → List ℕ
and_more None numbers = numbers
and_more (Some number) numbers = number ∷ numbers

abbrev pub prices_in : List Line → List ℕ
prices_in [] = []
prices_in (line ∷ lines) = and_more (price_in line) (prices_in lines)

-- the number, from 0, of the first one that is above another
abbrev pub first_above : ℕ → List ℕ → Option ℕ
first_above most [] = None
first_above most (number ∷ numbers) =
    if nat_lt most number then Some 0 else option_map (λ n. n + 1) (first_above most numbers)

-- that of the first price above what the fifth strike of a pitch costs
abbrev pub first_high : Sheet → List Line → Option ℕ
first_high sheet lines = first_above (SCALE * weight_of sheet 20) (prices_in lines)

-- none is
abbrev pub AreDue : Sheet → List Line → Type 0
AreDue sheet lines = first_high sheet lines ≡ None
