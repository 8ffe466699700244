-- Charges that no line pays in vain: what a line is charged is at most a debt and what the gauges
-- Q17 and Q20 cost it (`charged_is_due`).
use Rattle.std.specs.Prelude.{◌≡◌, ℕ, zero, suc, ◌+◌, ◌-◌, ◌*◌, ◌<◌, ◌≤◌, ◌==◌, ℤ, pos, negsuc, ◌≤ℤ◌, ◌<ℤ◌, ◌⊎◌, int_le, Bool, true, false, cond, min, List, [], ◌∷◌, sum, count_by, Option, Some, None, slice_index, nat_le}
use Rattle.std.specs.Int.{from_bool}
use Rattle.std.specs.List.{sum_by}
use Rattle.std.specs.Ordering.{int_eq}
use Rattle.std.proofs.Common.{⊎_elim, inl, inr, refl, ap, sym, ◌∙◌, arith, subst}
use Rattle.std.proofs.Math.Nat.{mul-le-mul_left, mul-le-mul_right, mul-suc}
use Rattle.std.proofs.lemmas.Bool.{and_from, eq-eqb}
use Rattle.std.proofs.lemmas.Bool.Decides.{nat_tests, Decides-int_eq}
use Rattle.std.proofs.lemmas.Int.{ints, clamps}
use Rattle.std.proofs.lemmas.List.Sums.{sum_by-cons}
use Rattle.fux_pitch.specs.declared.pitch.Pitch.{Pitch}
use Rattle.fux_pitch.specs.Pitch.{alter_of, degree_of, key_of, same_pitch}
use Rattle.fux_pitch.proofs.PitchLemmas.{pitch_ext}
use Rattle.melody_rules.specs.ClimaxKeys.{climax_is}
use Rattle.melody_rules.specs.GaugeParts.{alter_place, place_in}
use Rattle.melody_rules.specs.Gauges.{beyond_fourth, climax_notes, climax_repeats, notes_at}
use Rattle.melody_rules.specs.Keys.{greatest_key}
use Rattle.priced_floors.specs.declared.prices.Prices.{Prices}
use Rattle.priced_floors.specs.declared.prices.Summit.{Summit}
use Rattle.priced_floors.specs.Strikes.{strike_price, strikes_charged, notes_at_top, charged, is_within}

-- each charge is at most what the gauge costs for one note more
pub record AreFair (prices : Prices) (summit : Summit) (climax strikes : ℕ) : Type 0 where
  pub some : 0 < prices.scale
  pub strikes_low : (place : ℕ) → slice_index prices.strikes place ≤ prices.scale * strikes
  pub top_low : summit.charge ≤ prices.scale * climax

-- what may be charged that isn't due: four strikes of each pitch, and one note at the summit
abbrev pub debt_of : Prices → Summit → ℕ
debt_of prices summit = 4 * sum prices.strikes + summit.charge

-- how often the pitch of a place is struck
abbrev pub struck : ℕ → List Pitch → ℕ
struck place ps = count_by (λ p. place_in p == place) ps

-- what the first four strikes of each pitch are charged, from a place on
abbrev pub first_strikes : ℕ → List ℕ → List Pitch → ℕ
first_strikes place [] ps = 0
first_strikes place (price ∷ prices) ps = price * min 4 (struck place ps) + first_strikes (suc place) prices ps

-- ---- what holds of them

-- each pitch has a place of its own

from_test : (a b : ℕ) → (a == b) ≡ true → a ≡ b
from_test a b h = grind (arith, nat_tests)

alter_at : ℕ → ℤ
alter_at zero = negsuc 0
alter_at (suc zero) = pos 0
alter_at (suc (suc n)) = pos 1

alter_at-place : (a : ℤ) → negsuc 0 ≤ℤ a → a ≤ℤ pos 1 → alter_at (alter_place a) ≡ a
unfolding alter_at
alter_at-place (pos zero) low high = refl
alter_at-place (pos (suc zero)) low high = refl
alter_at-place (pos (suc (suc n))) low high = absurd (omega (arith, ints, high))
alter_at-place (negsuc zero) low high = refl
alter_at-place (negsuc (suc n)) low high = absurd (omega (arith, ints, low))

alter_place-bound : (a : ℤ) → alter_place a < 3
alter_place-bound a = grind arith

place-one : (p q : Pitch) → place_in q ≡ place_in p → p ≡ q
place-one p q e =
    let least : 7 ≤ degree_of p = p.is_pitch.least_degree in
    let other : 7 ≤ degree_of q = q.is_pitch.least_degree in
    let a = alter_place-bound (alter_of p) in
    let b = alter_place-bound (alter_of q) in
    let degrees : degree_of p ≡ degree_of q = omega (arith, e, a, b, least, other) in
    let places : alter_place (alter_of p) ≡ alter_place (alter_of q) = omega (arith, e, a, b, least, other) in
    pitch_ext p q degrees
    (sym (alter_at-place (alter_of p) p.is_pitch.flat p.is_pitch.sharp) ∙ ap alter_at places
    ∙ alter_at-place (alter_of q) q.is_pitch.flat q.is_pitch.sharp)

same-self : (p : Pitch) → same_pitch p p ≡ true
same-self p =
    and_from (p.degree == p.degree) (p.key == p.key) (eq-eqb p.degree p.degree refl) (eq-eqb p.key p.key refl)

-- so a place is struck no more often than its pitch
struck-same : (p : Pitch) (ps : List Pitch) → struck (place_in p) ps ≤ count_by (same_pitch p) ps
struck-same p [] = omega arith
struck-same p (q ∷ ps) =
    omega (
      arith,
      sum_by-cons (λ x. cond (place_in x == place_in p) 1 0) q ps,
      sum_by-cons (λ x. cond (same_pitch p x) 1 0) q ps,
      struck-same p ps,
      at (place_in q == place_in p) refl,
    )
  where
    at : (b : Bool) → (place_in q == place_in p) ≡ b → cond b 1 0 ≤ cond (same_pitch p q) 1 0
    at false e = omega arith
    at true e =
        let same : p ≡ q = place-one p q (from_test (place_in q) (place_in p) e) in
        let P : Pitch → Type 0 = λ x. same_pitch p x ≡ true in
        rw (subst P same (same-self p)) (omega arith)

-- ---- the first four strikes of each pitch

by_four : (price n : ℕ) → price * min 4 n ≤ 4 * price
by_four price n =
    let few : min 4 n ≤ 4 = omega arith in omega (arith, mul-le-mul_left price few)

first_strikes_low : (place : ℕ) (prices : List ℕ) (ps : List Pitch) → first_strikes place prices ps ≤ 4 * sum prices
first_strikes_low place [] ps = omega arith
first_strikes_low place (price ∷ prices) ps =
    omega (
      arith,
      by_four price (struck place ps),
      first_strikes_low (suc place) prices ps,
      sum_by-cons (λ (x : ℕ). x) price prices,
    )

struck-cons : (place : ℕ) (p : Pitch) (ps : List Pitch)
    → struck place (p ∷ ps) ≡ cond (place_in p == place) 1 0 + struck place ps
struck-cons place p ps = sum_by-cons (λ x. cond (place_in x == place) 1 0) p ps

-- they are charged no less with a strike more
no_less : (price n m : ℕ) → n ≤ m → price * min 4 n ≤ price * min 4 m
no_less price n m h = let k : min 4 n ≤ min 4 m = omega (arith, h) in mul-le-mul_left price k

more_first : (place : ℕ) (prices : List ℕ) (p : Pitch) (ps : List Pitch)
    → first_strikes place prices ps ≤ first_strikes place prices (p ∷ ps)
more_first place [] p ps = omega arith
more_first place (price ∷ prices) p ps =
    omega (
      arith,
      no_less price (struck place ps) (struck place (p ∷ ps)) (omega (arith, struck-cons place p ps)),
      more_first (suc place) prices p ps,
    )

-- and by the pitch's charge more where it was struck fewer than four times
one_first : (price n : ℕ) → n < 4 → price + price * min 4 n ≤ price * min 4 (suc n)
one_first price n few =
    let here : min 4 n ≡ n = omega (arith, few) in
    let next : min 4 (suc n) ≡ suc n = omega (arith, few) in
    rw (here, next) (omega (arith, mul-suc price n))

first_more : (k place : ℕ) (prices : List ℕ) (p : Pitch) (ps : List Pitch) → place_in p ≡ place + k
    → struck (place_in p) ps < 4
    → slice_index prices k + first_strikes place prices ps ≤ first_strikes place prices (p ∷ ps)
first_more k place [] p ps at few = omega arith
first_more zero place (price ∷ prices) p ps at few =
    let here : place_in p ≡ place = omega (arith, at) in
    let fewer : struck place ps < 4 = subst (λ (k : ℕ). struck k ps < 4) here few in
    let grown : struck place (p ∷ ps) ≡ suc (struck place ps) = omega (
      arith,
      struck-cons place p ps,
      ap {B = ℕ} (λ b. cond b 1 0) (eq-eqb (place_in p) place here),
    ) in
    rw grown (omega (arith, one_first price (struck place ps) fewer, more_first (suc place) prices p ps))
first_more (suc k) place (price ∷ prices) p ps at few =
    omega (
      arith,
      no_less price (struck place ps) (struck place (p ∷ ps)) (omega (arith, struck-cons place p ps)),
      first_more k (suc place) prices p ps (omega (arith, at)) few,
    )

-- Q20: the strikes of a line are charged at most what the first four of each pitch are, and what
-- the others cost
strikes_due : (prices : List ℕ) (most : ℕ) → ((place : ℕ) → slice_index prices place ≤ most) → (ps : List Pitch)
    → strikes_charged prices ps ≤ first_strikes 0 prices ps + most * beyond_fourth ps
strikes_due prices most fair [] = omega arith
strikes_due prices most fair (p ∷ ps) =
    at (nat_le 4 (count_by (same_pitch p) ps)) refl (strikes_due prices most fair ps)
  where
    all : strikes_charged prices (p ∷ ps) ≡ strike_price prices p + strikes_charged prices ps
    all = sum_by-cons (strike_price prices) p ps

    fewer : (n m : ℕ) → nat_le 4 n ≡ false → m ≤ n → m < 4
    fewer n m h low = grind (arith, nat_tests)

    at : (b : Bool) → nat_le 4 (count_by (same_pitch p) ps) ≡ b
        → strikes_charged prices ps ≤ first_strikes 0 prices ps + most * beyond_fourth ps
        → strikes_charged prices (p ∷ ps)
        ≤ first_strikes 0 prices (p ∷ ps) + most * (from_bool b + beyond_fourth ps)
    at true e before = omega (arith, all, before, fair (place_in p), more_first 0 prices p ps)
    at false e before =
        omega (
          arith,
          all,
          before,
          first_more (place_in p) 0 prices p ps (omega arith)
              (fewer (count_by (same_pitch p) ps) (struck (place_in p) ps) e (struck-same p ps)),
        )

-- ---- the climax

none_at : (key : ℕ) (ps : List Pitch) → greatest_key ps <ℤ pos key → notes_at (pos key) ps ≡ 0
none_at key [] h = refl
none_at key (p ∷ ps) h =
    let apart : int_eq (key_of p) (pos key) ≡ false = grind (arith, ints, clamps, Decides-int_eq, h) in
    let rest = none_at key ps (omega (arith, ints, clamps, h)) in
    omega (arith, sum_by-cons (λ q. cond (int_eq (key_of q) (pos key)) 1 0) p ps, ap {B = ℕ} (λ b. cond b 1 0) apart, rest)

-- each of some notes but the first is due
due : (charge most n : ℕ) → charge ≤ most → charge * n ≤ charge + most * (n - 1)
due charge most zero fair = omega arith
due charge most (suc n) fair =
    let e : suc n - 1 ≡ n = omega arith in rw e (omega (arith, mul-suc charge n, mul-le-mul_right n fair))

level_or_below : (g : ℤ) (key : ℕ) → int_le g (pos key) ≡ true → (b : Bool) → int_eq g (pos key) ≡ b
    → (g ≡ pos key) ⊎ (g <ℤ pos key)
level_or_below g key h true e = inl (grind (arith, ints, Decides-int_eq, e))
level_or_below g key h false e = inr (grind (arith, ints, Decides-int_eq, h, e))

top_due : (charge most : ℕ) → charge ≤ most → (high : Option ℕ) (ps : List Pitch) → is_within high ps ≡ true
    → charge * notes_at_top high ps ≤ charge + most * climax_repeats ps
top_due charge most fair None ps within = omega arith
top_due charge most fair (Some key) ps within =
    ⊎_elim
    (λ level.
    let same : notes_at (pos key) ps ≡ climax_notes ps = ap (λ k. notes_at k ps) (sym level) ∙ sym (climax_is ps) in
    rw same (due charge most (climax_notes ps) fair))
    (λ below. rw (none_at key ps below) (omega arith))
    (level_or_below (greatest_key ps) key within (int_eq (greatest_key ps) (pos key)) refl)

pub charged_is_due : (prices : Prices) (summit : Summit) (climax strikes : ℕ)
    → AreFair prices summit climax strikes → (ps : List Pitch) → is_within summit.high ps ≡ true
    → charged prices summit ps
    ≤ debt_of prices summit + prices.scale * (climax_repeats ps * climax + beyond_fourth ps * strikes)
charged_is_due prices summit climax strikes fair ps within =
    omega (
      arith,
      first_strikes_low 0 prices.strikes ps,
      strikes_due prices.strikes (prices.scale * strikes) fair.strikes_low ps,
      top_due summit.charge (prices.scale * climax) fair.top_low summit.high ps within,
    )
