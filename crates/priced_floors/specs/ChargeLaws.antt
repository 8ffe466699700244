-- What the columns of a setting are charged is due: at most a debt and what its lines cost by the
-- gauges (`charged_in_case`). Each setting is of some case (`case_of_line`): no note of it is above
-- the case (`none_above`), and one comes to it (`one_comes`).
use Rattle.std.specs.Prelude.{◌≡◌, ℕ, zero, suc, ◌+◌, ◌*◌, ◌<◌, ◌≤◌, ◌==◌, ℤ, pos, negsuc, ◌≤ℤ◌, ◌⊎◌, ◌||◌, int_le, nat_le, Bool, true, false, cond, List, [], ◌∷◌, Option, Some, None, length, reverse, sum, if◌then◌else◌, refl}
use Rattle.std.specs.List.{filter_map, list_all, list_any, sum_by}
use Rattle.std.specs.Ordering.{int_eq}
use Rattle.std.proofs.Common.{ap, inl, inr, sym, ◌∙◌, subst, arith}
use Rattle.std.proofs.Math.Nat.{mul-add, mul-le-mul_left, mul-suc}
use Rattle.std.proofs.lemmas.Bool.{and_from, and_parts}
use Rattle.std.proofs.lemmas.Bool.Decides.{nat_tests}
use Rattle.std.proofs.lemmas.List.Folds.{list_all-append, list_all-map, list_any-append, Any-from_list_any}
use Rattle.std.proofs.lemmas.Grind.{reverse_onto}
use Rattle.std.proofs.lemmas.Int.{ints, clamps}
use Rattle.std.proofs.lemmas.List.{get_or_default}
use Rattle.std.proofs.lemmas.List.Sums.{sum_by-append, sum_by-cons, sum_by-le-sum_by}
use Rattle.fux_pitch.specs.declared.pitch.Pitch.{Pitch}
use Rattle.fux_pitch.specs.Pitch.{key_of}
use Rattle.fux_grid.specs.declared.cell.Cell.{Cell}
use Rattle.fux_grid.specs.declared.cell.Cell.TheVariants.{Rest, Hold, Start}
use Rattle.fux_grid.specs.declared.exercise.Exercise.{Exercise}
use Rattle.fux_grid.specs.Cells.{cell_in}
use Rattle.fux_grid.specs.Columns.{line}
use Rattle.rule_law.specs.Growth.{sum_by-none, sum_by-plus, sum_by-same}
use Rattle.rule_law.specs.Terms.{started_pitch}
use Rattle.melody_rules.specs.Gauges.{beyond_fourth, climax_repeats, notes_at}
use Rattle.melody_rules.specs.Held.{pitches_are}
use Rattle.melody_rules.specs.Keys.{greatest_key}
use Rattle.melody_rules.specs.Rows.{pitches}
use Rattle.penalty_sheet.specs.declared.sheet.Sheet.{Sheet}
use Rattle.penalty_sheet.specs.Weights.{weight_of}
use Rattle.fux_judge.specs.Gauges.{cells_of_voice, cost_of_line, free_voices, gauges_of}
use Rattle.priced_floors.specs.declared.prices.Prices.{Prices}
use Rattle.priced_floors.specs.declared.prices.Summit.{Summit}
use Rattle.priced_floors.specs.Strikes.{charged, is_at, is_within, notes_at_top, strike_price, strikes_charged, top_price}
use Rattle.priced_floors.specs.Fairness.{AreFair, charged_is_due, debt_of}
use Rattle.priced_floors.specs.declared.charges.Charges.{Charges}
use Rattle.priced_floors.specs.Charges.{AreFairCharges, any_summit, column_charge, comes_to, debt_in, has_key, is_below, keeps_within, note_charge, prices_of, summit_at, summit_of}

-- ---- what one line is charged

-- the notes at the top are charged one by one
abbrev top_price_at : ℕ → ℕ → Pitch → ℕ
top_price_at charge key p = if int_eq (key_of p) (pos key) then charge else 0

notes_charged : (charge key : ℕ) (ps : List Pitch)
    → charge * notes_at (pos key) ps ≡ sum_by (top_price_at charge key) ps
notes_charged charge key [] = omega arith
notes_charged charge key (q ∷ qs) =
    by (int_eq (key_of q) (pos key)) refl (notes_charged charge key qs)
    (sum_by-cons (λ p. cond (int_eq (key_of p) (pos key)) 1 0) q qs) (sum_by-cons (top_price_at charge key) q qs)
  where
    by : (b : Bool) → int_eq (key_of q) (pos key) ≡ b
        → charge * notes_at (pos key) qs ≡ sum_by (top_price_at charge key) qs
        → notes_at (pos key) (q ∷ qs) ≡ cond (int_eq (key_of q) (pos key)) 1 0 + notes_at (pos key) qs
        → sum_by (top_price_at charge key) (q ∷ qs) ≡ top_price_at charge key q + sum_by (top_price_at charge key) qs
        → charge * notes_at (pos key) (q ∷ qs) ≡ sum_by (top_price_at charge key) (q ∷ qs)
    by true e before counted summed =
        let more : notes_at (pos key) (q ∷ qs) ≡ suc (notes_at (pos key) qs) = omega (
          arith,
          counted,
          ap {B = ℕ} (λ b. cond b 1 0) e,
        ) in
        let price : top_price_at charge key q ≡ charge = ap {B = ℕ} (λ b. if b then charge else 0) e in
        rw more (omega (arith, mul-suc charge (notes_at (pos key) qs), before, summed, price))
    by false e before counted summed =
        let same : notes_at (pos key) (q ∷ qs) ≡ notes_at (pos key) qs = omega (
          arith,
          counted,
          ap {B = ℕ} (λ b. cond b 1 0) e,
        ) in
        let price : top_price_at charge key q ≡ 0 = ap {B = ℕ} (λ b. if b then charge else 0) e in
        rw same (omega (arith, before, summed, price))

top_charged : (summit : Summit) (ps : List Pitch)
    → summit.charge * notes_at_top summit.high ps ≡ sum_by (top_price summit) ps
top_charged summit ps = at summit.high
  where
    at : (high : Option ℕ)
        → summit.charge * notes_at_top high ps ≡ sum_by (λ p. if is_at high p then summit.charge else 0) ps
    at None = let none : sum_by (λ (p : Pitch). 0) ps ≡ 0 = sum_by-none (λ p. 0) ps (λ p. refl) in omega (arith, none)
    at (Some key) = notes_charged summit.charge key ps

-- a line is charged for each cell that starts a note
abbrev pitch_price : Prices → Summit → Pitch → ℕ
pitch_price prices summit p = strike_price prices.strikes p + top_price summit p

abbrev cell_price : Prices → Summit → Cell → ℕ
cell_price prices summit c = note_charge prices summit (started_pitch c)

starts_charged : (prices : Prices) (summit : Summit) (cells : List Cell)
    → sum_by (pitch_price prices summit) (filter_map started_pitch cells) ≡ sum_by (cell_price prices summit) cells
starts_charged prices summit [] = refl
starts_charged prices summit (Rest ∷ cs) =
    let e : sum_by (cell_price prices summit) (Rest ∷ cs) ≡ 0 + sum_by (cell_price prices summit) cs = sum_by-cons
    (cell_price prices summit) Rest cs in
    omega (arith, starts_charged prices summit cs, e)
starts_charged prices summit (Hold p ∷ cs) =
    let e : sum_by (cell_price prices summit) (Hold p ∷ cs) ≡ 0 + sum_by (cell_price prices summit) cs = sum_by-cons
    (cell_price prices summit) (Hold p) cs in
    omega (arith, starts_charged prices summit cs, e)
starts_charged prices summit (Start p ∷ cs) =
    sum_by-cons (pitch_price prices summit) p (filter_map started_pitch cs)
    ∙ ap (λ n. pitch_price prices summit p + n) (starts_charged prices summit cs)
    ∙ sym (sum_by-cons (cell_price prices summit) (Start p) cs)

line_charged : (prices : Prices) (summit : Summit) (cells : List Cell)
    → charged prices summit (pitches cells) ≡ sum_by (cell_price prices summit) cells
line_charged prices summit cells =
    ap (λ n. strikes_charged prices.strikes (pitches cells) + n) (top_charged summit (pitches cells))
    ∙ sym (sum_by-plus (strike_price prices.strikes) (top_price summit) (pitches cells))
    ∙ ap (sum_by (pitch_price prices summit)) (pitches_are cells) ∙ starts_charged prices summit cells

-- the cells of a voice, summed over the columns
over_line : (f : Cell → ℕ) (v : ℕ) (cols : List (List Cell))
    → sum_by f (line v cols) ≡ sum_by (λ col. f (cell_in col v)) cols
over_line f v [] = refl
over_line f v (col ∷ cols) =
    sum_by-cons f (cell_in col v) (line v cols) ∙ ap (λ n. f (cell_in col v) + n) (over_line f v cols)
    ∙ sym (sum_by-cons (λ c. f (cell_in c v)) col cols)

-- a sum is the same in the other order
over_reverse : {X : Type 0} (f : X → ℕ) (xs : List X) → sum_by f (reverse xs) ≡ sum_by f xs
over_reverse f [] = refl
over_reverse f (x ∷ xs) =
    ap (sum_by f) (reverse_onto xs x [])
    ∙ sum_by-append f (reverse xs) (x ∷ [])
    ∙ (let one : sum_by f (x ∷ []) ≡ f x + 0 = sum_by-cons f x [] in
    omega (arith, one, over_reverse f xs, sum_by-cons f x xs))

-- the order of two sums changes nothing
two_sums : {X Y : Type 0} (f : X → Y → ℕ) (xs : List X) (ys : List Y)
    → sum_by (λ x. sum_by (f x) ys) xs ≡ sum_by (λ y. sum_by (λ x. f x y) xs) ys
two_sums f [] ys = sym (sum_by-none (λ y. 0) ys (λ y. refl))
two_sums f (x ∷ xs) ys =
    sum_by-cons (λ z. sum_by (f z) ys) x xs ∙ ap (λ n. sum_by (f x) ys + n) (two_sums f xs ys)
    ∙ sym (sum_by-plus (f x) (λ y. sum_by (λ z. f z y) xs) ys)
    ∙ sum_by-same (λ y. f x y + sum_by (λ z. f z y) xs) (λ y. sum_by (λ z. f z y) (x ∷ xs)) ys
    (λ y. sym (sum_by-cons (λ z. f z y) x xs))

times : (n : ℕ) (f : ℕ → ℕ) (xs : List ℕ) → sum_by (λ x. n * f x) xs ≡ n * sum_by f xs
times n f [] = omega arith
times n f (x ∷ xs) =
    omega (
      arith,
      sum_by-cons (λ y. n * f y) x xs,
      times n f xs,
      ap (λ m. n * m) (sum_by-cons f x xs),
      mul-add n (f x) (sum_by f xs),
    )

eqb-eq : (a b : ℕ) → (a == b) ≡ true → a ≡ b
eqb-eq a b h = grind (arith, nat_tests)

-- ---- what a setting is charged

module _ (ex : Exercise) (charges : Charges) (sheet : Sheet) (fair : AreFairCharges charges sheet) (case : ℕ) where
  -- what all columns are charged is what the lines of the free voices are
  columns_charged : (s : List (List Cell)) → sum_by (column_charge ex charges case) s
      ≡ sum_by (λ v. charged (prices_of charges case v) (summit_of charges case v) (pitches (cells_of_voice s v)))
      (free_voices ex)
  columns_charged s =
      two_sums (λ col v. of_cell v (cell_in col v)) s (free_voices ex)
      ∙ sum_by-same (λ v. sum_by (λ col. of_cell v (cell_in col v)) s)
      (λ v. charged (prices_of charges case v) (summit_of charges case v) (pitches (cells_of_voice s v))) (free_voices ex)
      (λ v.
      sym (over_reverse (λ col. of_cell v (cell_in col v)) s) ∙ sym (over_line (of_cell v) v (reverse s))
      ∙ sym (line_charged (prices_of charges case v) (summit_of charges case v) (cells_of_voice s v)))
    where
      of_cell : ℕ → Cell → ℕ
      of_cell v c = note_charge (prices_of charges case v) (summit_of charges case v) (started_pitch c)

  -- of a line within the case, at most a debt and what the gauges of its climax and of its strikes
  -- cost
  line_due : (v : ℕ) (cells : List Cell) → is_within (summit_of charges case v).high (pitches cells) ≡ true
      → charged (prices_of charges case v) (summit_of charges case v) (pitches cells)
      ≤ debt_of (prices_of charges case v) (summit_of charges case v) + charges.scale * cost_of_line sheet cells
  line_due v cells within =
      let due = charged_is_due (prices_of charges case v) (summit_of charges case v) (weight_of sheet 17)
      (weight_of sheet 20) fair_voice (pitches cells) within in
      let climax = climax_repeats (pitches cells) * weight_of sheet 17 in
      let strikes = beyond_fourth (pitches cells) * weight_of sheet 20 in
      let some : climax + strikes ≤ cost_of_line sheet cells = two_of_four _ _ _ _ in
      let scaled = mul-le-mul_left charges.scale some in
      let scale : (prices_of charges case v).scale * (climax + strikes) ≡ charges.scale * (climax + strikes) = ap
      (λ n. n * (climax + strikes)) (fair.same case v) in
      omega (arith, due, scaled, scale)
    where
      two_of_four : (a b c d : ℕ) → a + d ≤ sum (a ∷ b ∷ c ∷ d ∷ [])
      two_of_four a b c d = omega (
        arith,
        sum_by-cons (λ (n : ℕ). n) a (b ∷ c ∷ d ∷ []),
        sum_by-cons (λ (n : ℕ). n) b
            (c ∷ d ∷ []),
        sum_by-cons (λ (n : ℕ). n) c (d ∷ []),
        sum_by-cons (λ (n : ℕ). n) d [],
      )

      top : (b : Bool) → (if b then summit_at charges case else any_summit).charge
          ≤ (prices_of charges case v).scale * weight_of sheet 17
      top true = omega (arith, fair.tops case, ap (λ n. n * weight_of sheet 17) (fair.same case v))
      top false = omega arith

      fair_voice : AreFair (prices_of charges case v) (summit_of charges case v) (weight_of sheet 17) (weight_of sheet 20)
      fair_voice = record {
        some = omega (arith, fair.some, fair.same case v);
        strikes_low = λ place. omega (
          arith,
          fair.strikes case v place,
          ap (λ n. n * weight_of sheet 20) (fair.same case v),
        );
        top_low = top (v == charges.voice);
      }

  -- and of a setting within the case
  pub charged_in_case : (s : List (List Cell)) → is_within (summit_at charges case).high (pitches (cells_of_voice s charges.voice)) ≡ true
      → sum_by (column_charge ex charges case) s ≤ debt_in ex charges case + charges.scale * gauges_of ex sheet s
  charged_in_case s within =
      let lines : sum_by charge (free_voices ex) ≤ sum_by (λ v. debt v + charges.scale * cost v) (free_voices ex) = sum_by-le-sum_by
      charge (λ v. debt v + charges.scale * cost v) (free_voices ex)
      (λ v. line_due v (cells_of_voice s v) (within_of v)) in
      omega (
        arith,
        columns_charged s,
        lines,
        sum_by-plus debt (λ v. charges.scale * cost v) (free_voices ex),
        times charges.scale cost (free_voices ex),
      )
    where
      charge : ℕ → ℕ
      charge v = charged (prices_of charges case v) (summit_of charges case v) (pitches (cells_of_voice s v))

      debt : ℕ → ℕ
      debt v = debt_of (prices_of charges case v) (summit_of charges case v)

      cost : ℕ → ℕ
      cost v = cost_of_line sheet (cells_of_voice s v)

      within_of : (v : ℕ) → is_within (summit_of charges case v).high (pitches (cells_of_voice s v)) ≡ true
      within_of v = by (v == charges.voice) refl
        where
          by : (b : Bool) → (v == charges.voice) ≡ b
              → is_within (if b then summit_at charges case else any_summit).high (pitches (cells_of_voice s v)) ≡ true
          by false e = refl
          by true e =
              let P : ℕ → Type 0 = λ w. is_within (summit_at charges case).high (pitches (cells_of_voice s w)) ≡ true in
              subst P (sym (eqb-eq v charges.voice e)) within

-- ---- of which case a setting is

-- a greatest key is a number
natural : (z : ℤ) → pos 0 ≤ℤ z → (n : ℕ) × (z ≡ pos n)
natural (pos n) h = (n, refl)
natural (negsuc n) h = absurd (omega (arith, ints, h))

key_there : (ps : List Pitch) → pos 0 ≤ℤ greatest_key ps
key_there [] = omega (arith, ints)
key_there (p ∷ ps) = let rest = key_there ps in omega (arith, ints, clamps, rest)

-- where none of its notes is above a key, no cell starts one that is
all_within : (high : Option ℕ) (cells : List Cell) → is_within high (filter_map started_pitch cells) ≡ true
    → list_all (λ c. keeps_within high (started_pitch c)) cells ≡ true
all_within None [] h = refl
all_within None (c ∷ cs) h = all_within None cs refl
all_within (Some key) [] h = refl
all_within (Some key) (Rest ∷ cs) h = all_within (Some key) cs h
all_within (Some key) (Hold p ∷ cs) h = all_within (Some key) cs h
all_within (Some key) (Start p ∷ cs) h =
    let here : int_le (key_of p) (pos key) ≡ true = grind (arith, ints, clamps, h) in
    let rest : int_le (greatest_key (filter_map started_pitch cs)) (pos key) ≡ true = grind (arith, ints, clamps, h) in
    and_from (int_le (key_of p) (pos key)) (list_all (λ c. keeps_within (Some key) (started_pitch c)) cs) here
    (all_within (Some key) cs rest)

-- where the greatest key of its notes is no lower than a key, a cell starts one that isn't
some_comes : (low : ℕ) (cells : List Cell) → pos (suc low) ≤ℤ greatest_key (filter_map started_pitch cells)
    → list_any (λ c. comes_to (suc low) (started_pitch c)) cells ≡ true
some_comes low [] h = absurd (omega (arith, ints, h))
some_comes low (Rest ∷ cs) h = some_comes low cs h
some_comes low (Hold p ∷ cs) h = some_comes low cs h
some_comes low (Start p ∷ cs) h = at (int_le (pos (suc low)) (key_of p)) refl (some_comes low cs)
  where
    at : (b : Bool) → int_le (pos (suc low)) (key_of p) ≡ b
        → (pos (suc low) ≤ℤ greatest_key (filter_map started_pitch cs)
        → list_any (λ c. comes_to (suc low) (started_pitch c)) cs ≡ true)
        → (int_le (pos (suc low)) (key_of p) || list_any (λ c. comes_to (suc low) (started_pitch c)) cs) ≡ true
    at true e later = ap (λ b. b || list_any (λ c. comes_to (suc low) (started_pitch c)) cs) e
    at false e later =
        let rest : pos (suc low) ≤ℤ greatest_key (filter_map started_pitch cs) = grind (arith, ints, clamps, h, e) in
        ap (λ b. b || list_any (λ c. comes_to (suc low) (started_pitch c)) cs) e ∙ later rest

all_reversed : {X : Type 0} (f : X → Bool) (xs : List X) → list_all f (reverse xs) ≡ true → list_all f xs ≡ true
all_reversed f [] h = refl
all_reversed f (x ∷ xs) h =
    let parts = and_parts (list_all f (reverse xs)) (list_all f (x ∷ []))
    (sym (ap (list_all f) (reverse_onto xs x []) ∙ list_all-append f (reverse xs) (x ∷ [])) ∙ h) in
    let first = and_parts (f x) true parts.1 in
    and_from (f x) (list_all f xs) first.0 (all_reversed f xs parts.0)

any_reversed : {X : Type 0} (f : X → Bool) (xs : List X) → list_any f (reverse xs) ≡ true → list_any f xs ≡ true
any_reversed f [] h = h
any_reversed f (x ∷ xs) h =
    at (list_any f (reverse xs)) (f x) refl refl
    (sym (ap (list_any f) (reverse_onto xs x []) ∙ list_any-append f (reverse xs) (x ∷ [])) ∙ h) (any_reversed f xs)
  where
    at : (later own : Bool) → list_any f (reverse xs) ≡ later → f x ≡ own
        → (list_any f (reverse xs) || (f x || false)) ≡ true
        → (list_any f (reverse xs) ≡ true → list_any f xs ≡ true) → (f x || list_any f xs) ≡ true
    at later true e o k rest = ap (λ b. b || list_any f xs) o
    at true false e o k rest = ap (λ b. b || list_any f xs) o ∙ rest e
    at false false e o k rest =
        let none : (false || (false || false)) ≡ true = sym (ap (λ b. b || (f x || false)) e
        ∙ ap (λ b. false || (b || false)) o) ∙ k in cc

-- a line whose greatest key is of a case is within it
within_case : (high : Option ℕ) (ps : List Pitch) (key : ℕ) → greatest_key ps ≡ pos key → is_below high key ≡ true
    → is_within high ps ≡ true
within_case None ps key e h = refl
within_case (Some high) ps key e h = ap (λ g. int_le g (pos high)) e ∙ grind (arith, ints, nat_tests, h)

any_on_line : (f : Cell → Bool) (v : ℕ) (cols : List (List Cell))
    → list_any f (line v cols) ≡ list_any (λ col. f (cell_in col v)) cols
any_on_line f v [] = refl
any_on_line f v (col ∷ cols) = ap (λ b. f (cell_in col v) || b) (any_on_line f v cols)

comes_in_case : (low v : ℕ) (s : List (List Cell)) (key : ℕ) → greatest_key (pitches (cells_of_voice s v)) ≡ pos key
    → low ≤ key
    → (low ≡ 0) ⊎ (list_any (λ col. comes_to low (started_pitch (cell_in col v))) s ≡ true)
comes_in_case zero v s key e h = inl refl
comes_in_case (suc low) v s key e h =
    let cells = cells_of_voice s v in
    let reached : pos (suc low) ≤ℤ greatest_key (filter_map started_pitch cells) = omega (
      arith,
      ints,
      h,
      e,
      ap greatest_key (pitches_are cells),
    ) in
    inr (any_reversed (λ col. comes_to (suc low) (started_pitch (cell_in col v))) s
    (sym (any_on_line (λ c. comes_to (suc low) (started_pitch c)) v (reverse s)) ∙ some_comes low cells reached))

from_le : (a b : ℕ) → nat_le a b ≡ true → a ≤ b
from_le a b h = grind (arith, nat_tests)

-- the case of a setting: none of its notes is above it, and one comes to it
pub record IsInCase (charges : Charges) (s : List (List Cell)) (case : ℕ) : Type 0 where
  pub there : case < length charges.summits.items
  pub within : is_within (summit_at charges case).high (pitches (cells_of_voice s charges.voice)) ≡ true
  pub none_above :
      list_all (λ col. keeps_within (summit_at charges case).high (started_pitch (cell_in col charges.voice))) s ≡ true
  pub one_comes : ((summit_at charges case).low ≡ 0)
      ⊎ (list_any (λ col. comes_to (summit_at charges case).low (started_pitch (cell_in col charges.voice))) s ≡ true)

pub case_of_setting : (charges : Charges) (sheet : Sheet) → AreFairCharges charges sheet → (s : List (List Cell))
    → (case : ℕ) × IsInCase charges s case
case_of_setting charges sheet fair s =
    let key = natural (greatest_key ps) (key_there ps) in
    let found = Any-from_list_any (has_key key.0) charges.summits.items (fair.cases key.0) in
    let summit = summit_at charges found.0 in
    let P : Summit → Type 0 = λ summit. has_key key.0 summit ≡ true in
    let its : has_key key.0 summit ≡ true = subst P
    (sym found.3 ∙ get_or_default charges.summits.items found.0 found.1 any_summit found.2) found.4 in
    let both = and_parts (nat_le summit.low key.0) (is_below summit.high key.0) its in
    let within = within_case summit.high ps key.0 key.1 both.1 in (
      found.0,
      record {
        there = found.2;
        within = within;
        none_above = all_reversed (λ col. keeps_within summit.high (started_pitch (cell_in col charges.voice))) s
            (sym (list_all-map (λ c. keeps_within summit.high (started_pitch c)) (λ col. cell_in col charges.voice)
            (reverse s))
            ∙ all_within summit.high cells (sym (ap (is_within summit.high) (pitches_are cells)) ∙ within));
        one_comes = comes_in_case summit.low charges.voice s key.0 key.1 (from_le summit.low key.0 both.0);
      },
    )
  where
    cells : List Cell
    cells = cells_of_voice s charges.voice

    ps : List Pitch
    ps = pitches cells
