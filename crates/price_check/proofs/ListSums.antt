-- The sums of lists are floors (`list_floors`), and so is the greatest of them (`sharp_floors`).
use Rattle.std.proofs.Common.{◌≡◌, ℕ, ◌+◌, ◌-◌, ◌*◌, ◌<◌, ◌≤◌, ◌==◌, ◌||◌, Bool, true, false, List, [], ◌∷◌, ◌++◌, Option, Some, None, length, option_map, refl, sym, ap, ap₂, ◌∙◌, subst, arith, append-nil, slice_index_or, if◌then◌else◌}
use Rattle.std.specs.Prelude.{IfSome, IsSomeAnd, max}
use Rattle.std.specs.List.{AllByRecursion, sum_by}
use Rattle.std.proofs.Math.Nat.{mul-add, mul-le-mul_left}
use Rattle.std.proofs.lemmas.List.Sums.{sum_by-cons}
use Rattle.cert_law.proofs.FloorFacts.{floors_hold}
use Rattle.cert_law.proofs.Prefixes.{append-middle}
use Rattle.floor_graphs.specs.Graphs.{AreFloors}
use Rattle.floor_tables.specs.Floors.{floor_of, rest_of}
use Rattle.floor_graphs.specs.Sharper.{greater}
use Rattle.fux_grid.specs.declared.cell.Cell.{Cell}
use Rattle.fux_grid.specs.declared.exercise.Exercise.{Exercise}
use Rattle.fux_grid.specs.Cells.{cell_in}
use Rattle.fux_grid.specs.Exercises.{IsValid, columns_in}
use Rattle.fux_grid.specs.Menus.{menu_of}
use Rattle.fux_judge.specs.Gauges.{free_voices, least_of}
use Rattle.fux_judge.specs.Lawful.{IsLawful}
use Rattle.fux_judge.specs.Penalties.{paid, penalty_of}
use Rattle.fux_judge.proofs.Alive.{alive_if_unbroken}
use Rattle.fux_judge.proofs.LeastLaws.{least_grows, paid_and_least_at_end}
use Rattle.fux_pitch.specs.declared.pitch.Pitch.{Pitch}
use Rattle.melody_rules.specs.GaugeParts.{place_in}
use Rattle.rule_law.specs.Terms.{started_pitch}
use Rattle.open_ends.specs.declared.keeps.Keeps.{Keeps}
use Rattle.open_ends.proofs.Followed.{voices_of_valid}
use Rattle.open_ends.proofs.GoesOn.{leads_on}
use Rattle.penalty_sheet.specs.declared.sheet.Sheet.{Sheet}
use Rattle.priced_floors.specs.declared.charges.Charges.{Charges}
use Rattle.priced_floors.specs.Charges.{AreFairCharges, any_summit, column_charge, comes_to, debt_in, keeps_within, note_charge, prices_of, reaches_in, summit_at, summit_of, toll_in}
use Rattle.priced_floors.specs.Strikes.{top_price}
use Rattle.priced_floors.specs.Kept.{kept_of, step_of}
use Rattle.priced_floors.specs.PathLaws.{columns_parted, leaf_lawful, live_step}
use Rattle.priced_floors.specs.PricedLaws.{breadth_of, settings_are_priced}
use Rattle.priced_paths.specs.Pricings.{IsPricedStep}
use Rattle.priced_paths.specs.Tolls.{charged_from, has_reached, has_reached_from, sum_of}
use Rattle.species_space.specs.Grows.{live_value, paths_grow}
use Rattle.species_space.specs.Paths.{column_at, columns_on, live_at, prefix_at}
use Rattle.tree_search.specs.Answer.{IsLeaf}
use Rattle.tree_search.proofs.Floors.{live_above}
use Rattle.price_check.specs.Certificates.{ChargesNothing, IsFairList, IsFloorOf}
use Rattle.priced_paths.specs.LeastRests.{sum_in_case}
use Rattle.priced_paths.proofs.RestLaws.{case_sums_are_floors, least_low, sum_is_low}
use Rattle.price_check.specs.PriceLists.{PriceList, case_in, charged_sum, greatest_sum, least_on, list_sum, numbers_from, paid_on, path_of, sharp_floor, sharp_tail, spent_by, spent_of}
use Rattle.price_check.proofs.Ways.{lawful_leaf, numbers_from-append, way_back}

-- ---- a list that charges

module _ (ex : Exercise) (valid : IsValid ex) (sheet : Sheet) (keeps : Keeps) where
  charged_floors : (charges : Charges) → AreFairCharges charges sheet
      → AreFloors (live_at ex sheet) (columns_in ex) (λ path. charged_sum ex sheet keeps charges (paid_on ex sheet path) path)
  unfolding charged_sum
  charged_floors charges fair =
      case_sums_are_floors (settings_are_priced ex sheet keeps charges (voices_of_valid ex valid) fair) (λ k. fair.some)

  -- ---- a plain list

  -- each step on the way to a leaf is one from what is kept
  plain_steps : (path rest : List ℕ) (child value : ℕ)
      → IsLeaf (live_at ex sheet) (columns_in ex) ((path ++ child ∷ []) ++ rest) value
      → IsPricedStep (kept_of ex keeps) (paid_on ex sheet) (breadth_of ex) (step_of ex sheet keeps) path child
  plain_steps path rest child value leaf =
      let own = live_above (paths_grow ex sheet) rest (path ++ child ∷ []) value leaf.1 in
      let alive = (live_value ex sheet (path ++ child ∷ []) own.0 own.1).0 in
      let L : List (List Cell) → Type 0 = λ s. IsLawful ex s in
      let lawful = subst L (columns_parted ex path rest child)
      (leaf_lawful ex sheet valid.most_voices ((path ++ child ∷ []) ++ rest) value leaf) in
      let step = live_step ex sheet path child keeps
      (leads_on ex sheet keeps (voices_of_valid ex valid) valid.cantus_there (prefix_at ex path)
      (column_at ex path child) (columns_on ex (0 + length (path ++ child ∷ [])) rest) lawful)
      alive in
      record {
        within = (paths_grow ex sheet path child own.0 own.1).within;
        cost = step.cost;
        is_step = step.is;
        paid = step.settles;
      }

  module _ (charges : Charges) (nothing : ChargesNothing charges) where
    whole_case : summit_at charges 0 ≡ any_summit
    whole_case = ap (λ s. slice_index_or s 0 any_summit) nothing.cases

    of_voice : (v : ℕ) → summit_of charges 0 v ≡ any_summit
    of_voice v = by (v == charges.voice)
      where
        by : (b : Bool) → (if b then summit_at charges 0 else any_summit) ≡ any_summit
        by true = whole_case
        by false = refl

    no_note : (v : ℕ) (o : Option Pitch) → note_charge (prices_of charges 0 v) (summit_of charges 0 v) o ≡ 0
    no_note v None = refl
    no_note v (Some p) =
        let strike = nothing.strikes 0 v (place_in p) in
        let top : top_price (summit_of charges 0 v) p ≡ 0 = ap (λ s. top_price s p) (of_voice v) in
        omega (arith, strike, top)

    no_sum : (f : ℕ → ℕ) (vs : List ℕ) → ((v : ℕ) → f v ≡ 0) → sum_by f vs ≡ 0
    no_sum f [] none = refl
    no_sum f (v ∷ vs) none = omega (arith, sum_by-cons f v vs, none v, no_sum f vs none)

    no_toll : (i k : ℕ) → toll_in ex charges 0 i k ≡ Some 0
    no_toll i k =
        let col = slice_index_or (menu_of ex i) k [] in
        ap (λ s. if keeps_within s.high (started_pitch (cell_in col charges.voice))
        then Some (column_charge ex charges 0 col) else None) whole_case
        ∙ ap (λ n. Some n) (no_sum (λ v. note_charge (prices_of charges 0 v) (summit_of charges 0 v)
        (started_pitch (cell_in col v))) (free_voices ex) (λ v. no_note v (started_pitch (cell_in col v))))

    no_charge : (i : ℕ) (path : List ℕ) → charged_from (toll_in ex charges 0) i path ≡ Some 0
    no_charge i [] = refl
    no_charge i (k ∷ path) = ap₂ sum_of (no_toll i k) (no_charge (i + 1) path)

    reach_at_once : (path : List ℕ) → 0 < length path → has_reached (reaches_in ex charges 0) path ≡ true
    reach_at_once [] some = absurd (omega (arith, some))
    reach_at_once (k ∷ path) some =
        ap (λ s. comes_to s.low (started_pitch (cell_in (slice_index_or (menu_of ex 0) k []) charges.voice))
        || has_reached_from (reaches_in ex charges 0) (0 + 1) path) whole_case

  -- what the lines cost at least never falls
  least_before : (p rest : List (List Cell)) → IsLawful ex (p ++ rest)
      → least_of ex sheet p ≤ least_of ex sheet (p ++ rest)
  least_before p [] lawful =
      let e : least_of ex sheet (p ++ []) ≡ least_of ex sheet p = ap (least_of ex sheet) (append-nil p) in
      omega (arith, e)
  least_before p (col ∷ rest) lawful =
      let one : (p ++ col ∷ []) ++ rest ≡ p ++ col ∷ rest = append-middle p col rest in
      let onward = subst (λ (s : List (List Cell)). IsLawful ex s) (sym one) lawful in
      let more = least_before (p ++ col ∷ []) rest onward in
      let here = least_grows ex sheet p col ((floors_hold ex valid sheet).prefix (p ++ col ∷ []) rest onward) in
      let same : least_of ex sheet ((p ++ col ∷ []) ++ rest) ≡ least_of ex sheet (p ++ col ∷ rest) =
      ap (least_of ex sheet) one in
      omega (arith, more, here, same)

  spent_at_end : (s : List (List Cell)) → IsLawful ex s → paid ex sheet s + least_of ex sheet s ≡ penalty_of ex sheet s
  spent_at_end s lawful =
      paid_and_least_at_end ex valid.most_voices sheet s lawful.setting
      (alive_if_unbroken ex valid.most_voices s lawful.setting lawful.unbroken)

  -- the path of what begins a lawful setting leads to it, and goes on to the setting's
  record IsOnWay (p rest : List (List Cell)) : Type 0 where
    more : List ℕ
    goes_on : path_of ex p ++ more ≡ path_of ex (p ++ rest)
    back : prefix_at ex (path_of ex p) ≡ p
    whole : prefix_at ex (path_of ex (p ++ rest)) ≡ p ++ rest
    leaf : IsLeaf (live_at ex sheet) (columns_in ex) (path_of ex p ++ more) (penalty_of ex sheet (p ++ rest))

  on_way : (p rest : List (List Cell)) → IsLawful ex (p ++ rest) → IsOnWay p rest
  on_way p rest lawful =
      let parted = numbers_from-append ex 0 p rest in
      record {
        more = numbers_from ex (0 + length p) rest;
        goes_on = sym parted;
        back = way_back ex p ((floors_hold ex valid sheet).prefix p rest lawful);
        whole = way_back ex (p ++ rest) lawful.setting.prefix;
        leaf = subst (λ (path : List ℕ). IsLeaf (live_at ex sheet) (columns_in ex) path (penalty_of ex sheet (p ++ rest)))
            parted (lawful_leaf ex valid sheet (p ++ rest) lawful);
      }

  -- floors of paths are floors of what begins lawful settings
  from_paths : (sum : List ℕ → Option ℕ) → AreFloors (live_at ex sheet) (columns_in ex) sum
      → IsFloorOf ex sheet (λ p. sum (path_of ex p))
  from_paths sum floors p rest lawful =
      let way = on_way p rest lawful in floors (path_of ex p) way.more (penalty_of ex sheet (p ++ rest)) way.leaf

  -- what is spent before is no more than what is in the end
  spent_low : (scale debt a l b m w : ℕ) → l ≤ m → b + m ≡ w → scale * (a + l) + (scale * b + 0) ≤ scale * w + scale * a + debt
  spent_low scale debt a l b m w less all =
      let more : scale * l ≤ scale * m = mul-le-mul_left scale less in
      let one = mul-add scale a l in
      let two = mul-add scale b m in
      let same : scale * (b + m) ≡ scale * w = ap (λ n. scale * n) all in
      omega (arith, more, one, two, same)

  plain_floors : (charges : Charges) → AreFairCharges charges sheet → ChargesNothing charges
      → IsFloorOf ex sheet (λ p. charged_sum ex sheet keeps charges (paid_on ex sheet (path_of ex p)
      + least_on ex sheet (path_of ex p)) (path_of ex p))
  unfolding charged_sum
  plain_floors charges fair nothing p rest lawful =
      let way = on_way p rest lawful in
      let path = path_of ex p in
      let s = p ++ rest in
      let whole = path ++ way.more in
      let some : 0 < length whole = omega (arith, way.leaf.0, valid.fewest_bars) in
      let own = paid_on ex sheet path + least_on ex sheet path in
      let most = penalty_of ex sheet s in
      let sums : ℕ → Option ℕ = λ k. sum_in_case (columns_in ex) (kept_of ex keeps []) (breadth_of ex)
      (step_of ex sheet keeps) (case_in ex charges k) own path in
      let there : paid_on ex sheet whole ≡ paid ex sheet s = ap (paid_on ex sheet) way.goes_on ∙ ap (paid ex sheet) way.whole in
      let lines : least_of ex sheet (prefix_at ex path) ≡ least_of ex sheet p = ap (least_of ex sheet) way.back in
      let before : least_on ex sheet path ≤ least_of ex sheet s = let less = least_before p rest lawful in omega (arith, lines, less) in
      let all : paid_on ex sheet whole + least_of ex sheet s ≡ most =
      ap (λ n. n + least_of ex sheet s) there ∙ spent_at_end s lawful in
      let due = spent_low charges.scale (debt_in ex charges 0) (paid_on ex sheet path) (least_on ex sheet path)
      (paid_on ex sheet whole) (least_of ex sheet s) most before all in
      let low = sum_is_low (live_at ex sheet) (columns_in ex) plain_steps (case_in ex charges 0) fair.some path way.more
      most own most 0 way.leaf (no_charge charges nothing 0 whole) (reach_at_once charges nothing whole some) due in
      let one : length charges.summits.items ≡ 1 = ap length nothing.cases in
      least_low sums (length charges.summits.items) 0 (omega (arith, one)) most low

  floors_with : (charges : Charges) (plain : Bool) → AreFairCharges charges sheet
      → (plain ≡ true → ChargesNothing charges)
      → IsFloorOf ex sheet (λ p. charged_sum ex sheet keeps charges (spent_by plain (paid_on ex sheet (path_of ex p))
      (least_on ex sheet (path_of ex p))) (path_of ex p))
  floors_with charges true fair nothing = plain_floors charges fair (nothing refl)
  floors_with charges false fair nothing =
      from_paths (λ path. charged_sum ex sheet keeps charges (paid_on ex sheet path) path) (charged_floors charges fair)

-- ---- all lists

pub list_floors : (ex : Exercise) (sheet : Sheet) (list : PriceList) → IsValid ex → IsFairList sheet list
    → IsFloorOf ex sheet (list_sum ex sheet list)
list_floors ex sheet list valid fair = floors_with ex valid sheet list.keeps list.charges list.plain fair.fair fair.nothing

greater_low : (one other : Option ℕ) (most : ℕ) → IsSomeAnd one (λ x. x ≤ most) → IsSomeAnd other (λ x. x ≤ most)
    → IsSomeAnd (greater one other) (λ x. x ≤ most)
greater_low None other most low h = absurd low
greater_low (Some x) None most low h = absurd h
greater_low (Some x) (Some y) most low h = omega (arith, low, h)

module _ (ex : Exercise) (valid : IsValid ex) (sheet : Sheet) where
  -- what is paid, with what the lines cost at least, is no more than a lawful setting's penalty
  spent_before : (p rest : List (List Cell)) → IsLawful ex (p ++ rest)
      → spent_of ex sheet p ≤ penalty_of ex sheet (p ++ rest)
  unfolding floor_of
  spent_before p rest lawful =
      at (spent_of ex sheet p) (penalty_of ex sheet (p ++ rest)) (rest_of ex sheet p)
      ((floors_hold ex valid sheet).below p rest lawful)
    where
      at : (spent most : ℕ) (left : Option ℕ) → IsSomeAnd (option_map (λ n. spent + n) left) (λ floor. floor ≤ most)
          → spent ≤ most
      at spent most None low = absurd low
      at spent most (Some n) low = omega (arith, low)

  greatest_floors : (lists : List PriceList) → AllByRecursion (IsFairList sheet) lists → (p rest : List (List Cell))
      → IsLawful ex (p ++ rest)
      → IsSomeAnd (greatest_sum ex sheet (spent_of ex sheet p) lists p) (λ floor. floor ≤ penalty_of ex sheet (p ++ rest))
  greatest_floors [] fair p rest lawful = spent_before p rest lawful
  greatest_floors (list ∷ lists) fair p rest lawful =
      greater_low (list_sum ex sheet list p) (greatest_sum ex sheet (spent_of ex sheet p) lists p)
      (penalty_of ex sheet (p ++ rest))
      (list_floors ex sheet list valid fair.0 p rest lawful) (greatest_floors lists fair.1 p rest lawful)

pub sharp_floors : (ex : Exercise) (sheet : Sheet) (lists : List PriceList) → IsValid ex
    → AllByRecursion (IsFairList sheet) lists → IsFloorOf ex sheet (sharp_floor ex sheet lists)
unfolding sharp_floor
sharp_floors ex sheet lists valid fair p rest lawful = greatest_floors ex valid sheet lists fair p rest lawful

-- ---- tails

-- the greatest is no less than what it is compared with
greatest_more : (ex : Exercise) (sheet : Sheet) (least : ℕ) (lists : List PriceList) (p : List (List Cell))
    → IfSome (greatest_sum ex sheet least lists p) (λ floor. least ≤ floor)
greatest_more ex sheet least [] p = let e : least ≤ least = omega arith in e
greatest_more ex sheet least (list ∷ lists) p =
    at (list_sum ex sheet list p) (greatest_sum ex sheet least lists p) (greatest_more ex sheet least lists p)
  where
    at : (one other : Option ℕ) → IfSome other (λ floor. least ≤ floor) → IfSome (greater one other) (λ floor. least ≤ floor)
    at None other h = tt
    at (Some x) None h = tt
    at (Some x) (Some y) h = let e : least ≤ max x y = omega (arith, h) in e

tail_and_floor : (spent : ℕ) (floor : Option ℕ) → IfSome floor (λ f. spent ≤ f)
    → option_map (λ tail. spent + tail) (option_map (λ f. f - spent) floor) ≡ floor
tail_and_floor spent None h = refl
tail_and_floor spent (Some f) h = let e : spent + (f - spent) ≡ f = omega (arith, h) in ap (λ n. Some n) e

pub tails_give_floors : (ex : Exercise) (sheet : Sheet) (lists : List PriceList) (p : List (List Cell))
    → option_map (λ tail. spent_of ex sheet p + tail) (sharp_tail ex sheet lists p) ≡ sharp_floor ex sheet lists p
unfolding sharp_floor
tails_give_floors ex sheet lists p =
    tail_and_floor (spent_of ex sheet p) (greatest_sum ex sheet (spent_of ex sheet p) lists p)
    (greatest_more ex sheet (spent_of ex sheet p) lists p)
