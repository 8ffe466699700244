-- What is ahead of a cantus, and what it lets the gauges say.
use Rattle.std.specs.Prelude.{◌≡◌, ℕ, suc, ◌+◌, ◌-◌, ◌*◌, ◌<◌, ◌≤◌, ℤ, pos, ◌≤ℤ◌, int_le, int_lt, Bool, true, false, cond, ◌==◌, ◌||◌, [], ◌∷◌, List, count_by, length, nat_le, if◌then◌else◌, refl}
use Rattle.std.specs.Int.{from_bool, int_max}
use Rattle.std.specs.List.{list_any, range_with_len}
use Rattle.std.specs.Ordering.{int_eq}
use Rattle.std.proofs.Common.{arith, sym, ap, ◌∙◌}
use Rattle.std.proofs.Math.Nat.{mul-le-mul_left}
use Rattle.std.proofs.lemmas.Bool.{ne_eqb, or_right}
use Rattle.std.proofs.lemmas.Bool.Decides.{nat_tests}
use Rattle.std.proofs.lemmas.Int.{ints}
use Rattle.std.proofs.lemmas.List.FromFn.{get_or-range_with_len, length-range_with_len}
use Rattle.std.proofs.lemmas.List.Sums.{sum_by-cons}
use Rattle.fux_pitch.specs.declared.pitch.Pitch.{Pitch}
use Rattle.fux_pitch.specs.Modes.{is_in_gamut}
use Rattle.fux_pitch.specs.Pitch.{key_of}
use Rattle.rule_law.specs.Law.{second_true}
use Rattle.rule_law.proofs.MenuStarts.{any_from}
use Rattle.melody_rules.specs.ClimaxKeys.{climax_is}
use Rattle.melody_rules.specs.Gauges.{beyond_fourth, climax_repeats, is_narrow, notes_at}
use Rattle.melody_rules.specs.GaugeLaws.{max_keeps}
use Rattle.melody_rules.specs.Keys.{greatest_key}
use Rattle.penalty_sheet.specs.Weights.{weight_of}
use Rattle.cantus_space.specs.declared.plan.CantusPlan.{CantusPlan}
use Rattle.cantus_space.specs.Cantus.{is_in_pool, is_in_range, may_sound}
use Rattle.cantus_space.specs.Melody.{charged, ends_cost, least_ends}
use Rattle.cantus_space.specs.Numbers.{WIDTH, numbered_pitch}
use Rattle.cantus_space.specs.Order.{has_number, pool_sounds}
use Rattle.cantus_space.specs.Rules.{can_start, gauge_cost, floor_of, is_last_climax, leap_excess, least_climax, least_compass, least_gauges, least_leaps, paid, starts_ahead, whole_cost}

-- where a pool has a pitch, a note may start
pub starts_if_pool : (plan : CantusPlan) (bar : ℕ) (p : Pitch) → is_in_pool plan bar p ≡ true → can_start plan bar ≡ true
starts_if_pool plan bar p h =
    let own = has_number plan bar p h in
    any_from (λ k. may_sound plan bar (numbered_pitch plan k)) (range_with_len 0 WIDTH) own.number (
      own.number,
      omega (arith, length-range_with_len 0 WIDTH, own.small),
      get_or-range_with_len 0 WIDTH own.number own.number own.small ∙ omega arith,
    )
    (ap (may_sound plan bar) own.is ∙ pool_sounds plan bar p h)

pub starts_ahead-more : (plan : CantusPlan) (count : ℕ) → count < plan.bars → starts_ahead plan count
    ≡ cond (can_start plan (count + 1)) 1 0 + starts_ahead plan (count + 1)
starts_ahead-more plan count h =
    let e : plan.bars - count ≡ suc (plan.bars - (count + 1)) = omega (arith, h) in
    ap (λ n. count_by (can_start plan) (range_with_len (count + 1) n)) e
    ∙ sum_by-cons (λ k. cond (can_start plan k) 1 0) (count + 1)
    (range_with_len (count + 1 + 1) (plan.bars - (count + 1)))

pub starts_ahead-none : (plan : CantusPlan) (count : ℕ) → plan.bars ≤ count → starts_ahead plan count ≡ 0
starts_ahead-none plan count h =
    let e : plan.bars - count ≡ 0 = omega (arith, h) in
    ap (λ n. count_by (can_start plan) (range_with_len (count + 1) n)) e

one_first : (n : ℕ) → 1 + n ≡ suc n
one_first n = omega arith

-- a pitch of the next pool leaves one start less ahead
pub fewer_ahead : (plan : CantusPlan) (ps : List Pitch) (p : Pitch) → length ps < plan.bars
    → is_in_pool plan (length ps + 1) p ≡ true → starts_ahead plan (length ps)
    ≡ suc (starts_ahead plan (length (p ∷ ps)))
fewer_ahead plan ps p room pool =
    let next : length ps + 1 ≡ length (p ∷ ps) = omega arith in
    starts_ahead-more plan (length ps) room
    ∙ ap (λ b. cond b 1 0 + starts_ahead plan (length ps + 1)) (starts_if_pool plan (length ps + 1) p pool)
    ∙ ap (λ n. 1 + starts_ahead plan n) next
    ∙ one_first (starts_ahead plan (length (p ∷ ps)))

-- ---- the climax

either_reaches : (h a b : ℤ) → (int_le h a || int_le h b) ≡ int_le h (int_max a b)
either_reaches h a b = at (int_lt b a) refl
  where
    at : (t : Bool) → int_lt b a ≡ t → (int_le h a || int_le h b) ≡ int_le h (cond t a b)
    at true e = grind (arith, ints, e)
    at false e = grind (arith, ints, e)

-- one of the pitches is so high where the greatest key is
pub reaches_is : (ps : List Pitch) (h : ℤ) → pos 1 ≤ℤ h → list_any (λ p. int_le h (key_of p)) ps
    ≡ int_le h (greatest_key ps)
reaches_is [] h low = grind (arith, ints, low)
reaches_is (p ∷ ps) h low =
    ap (λ b. int_le h (key_of p) || b) (reaches_is ps h low) ∙ either_reaches h (key_of p) (greatest_key ps)

repeats_more : (key : ℤ) (p : Pitch) (ps : List Pitch) → notes_at key ps ≤ notes_at key (p ∷ ps)
repeats_more key p ps = omega (arith, sum_by-cons (λ q. cond (int_eq (key_of q) key) 1 0) p ps)

within_range : (plan : CantusPlan) (p : Pitch) → is_in_range plan p ≡ true → key_of p ≤ℤ key_of plan.high
within_range plan p h =
    grind (arith, ints, second_true (int_le (key_of plan.low) (key_of p)) (int_le (key_of p) (key_of plan.high)) h)

pub high_sounds : (p : Pitch) → pos 1 ≤ℤ key_of p
high_sounds p = let low : pos 24 ≤ℤ key_of p = p.is_pitch.low in omega (arith, ints, low)

if_less : (b : Bool) (x y : ℕ) → (b ≡ true → x ≤ y) → (if b then x else 0) ≤ y
if_less true x y f = f refl
if_less false x y f = omega arith

if_true : (b : Bool) (x : ℕ) → b ≡ true → x ≤ (if b then x else 0)
if_true true x e = omega arith
if_true false x e = cc

-- four products are no less where no factor is
weighed : (v w x y a b c d a' b' c' d' : ℕ) → a ≤ a' → b ≤ b' → c ≤ c' → d ≤ d'
    → v * a + w * b + x * c + y * d ≤ v * a' + w * b' + x * c' + y * d'
weighed v w x y a b c d a' b' c' d' f g h k =
    let first : v * a ≤ v * a' = mul-le-mul_left v f in
    let second : w * b ≤ w * b' = mul-le-mul_left w g in
    let third : x * c ≤ x * c' = mul-le-mul_left x h in
    let fourth : y * d ≤ y * d' = mul-le-mul_left y k in
    omega (arith, first, second, third, fourth)

module _ (plan : CantusPlan) (ps : List Pitch) (p : Pitch) (room : length ps < plan.bars)
    (pool : is_in_pool plan (length ps + 1) p ≡ true) where
  some_ahead : (starts_ahead plan (length ps) == 0) ≡ false
  some_ahead = ne_eqb (starts_ahead plan (length ps)) 0 (λ none. omega (arith, none, fewer_ahead plan ps p room pool))

  high_end : ℤ
  high_end = key_of plan.high

  reached : is_last_climax plan ps ≡ true → list_any (λ q. int_le (key_of plan.high) (key_of q)) ps ≡ true
  reached h = sym (ap (λ b. b || list_any (λ q. int_le (key_of plan.high) (key_of q)) ps) some_ahead) ∙ h

  same_top : is_last_climax plan ps ≡ true → greatest_key (p ∷ ps) ≡ greatest_key ps
  same_top h =
      let top : int_le (key_of plan.high) (greatest_key ps) ≡ true =
      sym (reaches_is ps (key_of plan.high) (high_sounds plan.high)) ∙ reached h in
      let high : key_of plan.high ≤ℤ greatest_key ps = grind (arith, ints, top) in
      let own : key_of p ≤ℤ key_of plan.high = within_range plan p
      (second_true (is_in_gamut plan.mode (length ps + 1) plan.bars p) (is_in_range plan p)
      (pool_sounds plan (length ps + 1) p pool)) in
      max_keeps (key_of p) (greatest_key ps) (omega (arith, ints, own, high))

  climax_more : is_last_climax plan ps ≡ true → climax_repeats ps ≤ climax_repeats (p ∷ ps)
  climax_more h =
      let before = climax_is ps in
      let after = climax_is (p ∷ ps) ∙ ap (λ k. notes_at k (p ∷ ps)) (same_top h) in
      omega (arith, before, after, repeats_more (greatest_key ps) p ps)

  climax_grows : least_climax plan ps ≤ least_climax plan (p ∷ ps)
  climax_grows = if_less (is_last_climax plan ps) (climax_repeats ps) (least_climax plan (p ∷ ps)) (λ h.
      let last : is_last_climax plan (p ∷ ps) ≡ true =
      or_right (starts_ahead plan (length (p ∷ ps)) == 0) (list_any (λ q. int_le (key_of plan.high) (key_of q)) (p ∷ ps))
      (or_right (int_le (key_of plan.high) (key_of p)) (list_any (λ q. int_le (key_of plan.high) (key_of q)) ps)
      (reached h)) in
      omega (arith, climax_more h, if_true (is_last_climax plan (p ∷ ps)) (climax_repeats (p ∷ ps)) last))

  compass_grows : least_compass plan ps ≤ least_compass plan (p ∷ ps)
  compass_grows =
      let none : least_compass plan ps ≡ 0 = ap (λ b. if b then from_bool (is_narrow ps) else 0) some_ahead in
      omega (arith, none)

  leaps_grow : least_leaps plan ps ≤ least_leaps plan (p ∷ ps)
  leaps_grow =
      let fewer = fewer_ahead plan ps p room pool in
      omega (arith, fewer)

  strikes_grow : beyond_fourth ps ≤ beyond_fourth (p ∷ ps)
  strikes_grow = omega arith

  pub gauges_grow : least_gauges plan ps ≤ least_gauges plan (p ∷ ps)
  gauges_grow =
      weighed (weight_of plan.sheet 17) (weight_of plan.sheet 18) (weight_of plan.sheet 19) (weight_of plan.sheet 20)
      (least_climax plan ps) (least_compass plan ps) (least_leaps plan ps) (beyond_fourth ps)
      (least_climax plan (p ∷ ps)) (least_compass plan (p ∷ ps)) (least_leaps plan (p ∷ ps)) (beyond_fourth (p ∷ ps))
      climax_grows compass_grows leaps_grow strikes_grow

-- ---- of all pitches the gauges say their values

pub gauges_end : (plan : CantusPlan) (ps : List Pitch) → plan.bars ≤ length ps → least_gauges plan ps
    ≡ gauge_cost plan.sheet (climax_repeats ps) (from_bool (is_narrow ps)) (leap_excess ps) (beyond_fourth ps)
gauges_end plan ps whole =
    let none = starts_ahead-none plan (length ps) whole in
    let less : leap_excess ps - 0 ≡ leap_excess ps = omega arith in
    ap (λ n. gauge_cost plan.sheet
    (if (n == 0) || list_any (λ p. int_le (key_of plan.high) (key_of p)) ps then climax_repeats ps else 0)
    (if n == 0 then from_bool (is_narrow ps) else 0) (leap_excess ps - n) (beyond_fourth ps)) none
    ∙ ap (λ n. gauge_cost plan.sheet (climax_repeats ps) (from_bool (is_narrow ps)) n (beyond_fourth ps)) less

-- ---- the prices

-- where one more pitch comes, nothing is paid yet that is paid at the end
pub no_ends : (plan : CantusPlan) (ps : List Pitch) → length ps < plan.bars → least_ends plan.prices plan.bars ps ≡ 0
no_ends plan ps room =
    let before : nat_le plan.bars (length ps) ≡ false = grind (arith, nat_tests) in
    ap (λ b. if b then ends_cost plan.prices plan.bars ps else 0) before

ends_there : (plan : CantusPlan) (ps : List Pitch) → plan.bars ≤ length ps
    → least_ends plan.prices plan.bars ps ≡ ends_cost plan.prices plan.bars ps
ends_there plan ps whole =
    let there : nat_le plan.bars (length ps) ≡ true = grind (arith, nat_tests) in
    ap (λ b. if b then ends_cost plan.prices plan.bars ps else 0) there

-- of all pitches the floor is what they cost
pub floor_ends : (plan : CantusPlan) (ps : List Pitch) → plan.bars ≤ length ps → floor_of plan ps
    ≡ whole_cost plan.sheet ps + (charged plan.prices ps + ends_cost plan.prices plan.bars ps)
floor_ends plan ps whole =
    ap (λ n. paid plan.sheet ps + n + (charged plan.prices ps + least_ends plan.prices plan.bars ps))
    (gauges_end plan ps whole)
    ∙ ap (λ n. whole_cost plan.sheet ps + (charged plan.prices ps + n)) (ends_there plan ps whole)
