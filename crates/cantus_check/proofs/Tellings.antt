-- What is known of pitches tells whether a claim of them is true.
use Rattle.std.specs.Prelude.{◌≡◌, ◌≢◌, ◌↔◌, ◌⊎◌, ℕ, ◌<◌, ◌≤◌, Bool, IsTrue, List, Option, None, Some, length, nat_eq, nat_lt, reverse}
use Rattle.std.specs.declared.cmp.Ordering.{Ordering}
use Rattle.std.specs.declared.cmp.Ordering.TheVariants.{Equal}
use Rattle.std.proofs.Common.{arith, inl, inr, ap, sym, ◌∙◌, subst, refl, true≢false}
use Rattle.std.proofs.lemmas.Bool.{eq-eqb, lt-ltb, ne_eqb}
use Rattle.std.specs.List.{find}
use Rattle.std.specs.Option.{option_map_or}
use Rattle.std.specs.Prelude.{if◌then◌else◌, [], ◌∷◌, ◌&&◌, true, false}
use Rattle.std.specs.Ordering.{is_lt, is_eq}
use Rattle.fux_pitch.specs.declared.pitch.Pitch.{Pitch}
use Rattle.cantus_space.specs.declared.plan.CantusPlan.{CantusPlan}
use Rattle.cantus_space.specs.Lawful.{IsEarlier}
use Rattle.cantus_space.specs.Rules.{floor_of}
use Rattle.cert_text.specs.declared.claim.Claim.TheVariants.{Open, Broken, Floor, TheScore}
use Rattle.cantus_check.specs.Claims.{IsCantusOf, IsNoBetter, Said}
use Rattle.cantus_check.specs.Known.{order_with}
use Rattle.cantus_check.specs.Writer.{first_claim, is_cantus_of, is_no_better, least_break, pitches_order}
use Rattle.cantus_check.proofs.WrittenCantus.{cantus_from_test, less-order, less_from_test, no_better_from_test, order-less, test_from_cantus, test_from_no_better}

-- of no pitches and a cantus nothing differs
pub order-start : (said : Said) → Equal ≡ order_with said []
order-start None = refl
order-start (Some best) = none best.1
  where
    none : (s : List Pitch) → Equal ≡ pitches_order s []
    none [] = refl
    none (p ∷ s) = refl

module _ (said : Said) (best : ℕ × List Pitch) (is : said ≡ Some best) (ps : List Pitch) (order : Ordering)
    (goes : order ≡ order_with said ps) where
  goes_so : order ≡ pitches_order best.1 ps
  goes_so = goes ∙ ap (λ s. order_with s ps) is

  -- a floor that is above the penalty is no better
  pub higher_truth : (floor value : ℕ) → floor ≡ value → best.0 < floor → IsTrue (nat_lt best.0 floor) ↔ IsNoBetter said ps value
  higher_truth floor value here high =
      subst (λ s. IsTrue (nat_lt best.0 floor) ↔ IsNoBetter s ps value) (sym is) (
        (λ h. inl (omega (arith, here, high))),
        (λ h. lt-ltb best.0 floor high),
      )

  -- a floor that is the penalty is no better where the pitches are later
  pub tied_truth : (floor value : ℕ) (b : Bool) → floor ≡ value → floor ≡ best.0 → b ≡ is_lt order
      → IsTrue b ↔ IsNoBetter said ps value
  tied_truth floor value b here same test =
      subst (λ s. IsTrue b ↔ IsNoBetter s ps value) (sym is) (there, back)
    where
      there : IsTrue b → (best.0 < value) ⊎ ((value ≡ best.0) × IsEarlier best.1 ps)
      there h = inr (sym here ∙ same, order-less best.1 ps (sym goes_so ∙ less_from_test order (sym test ∙ h)))

      back : (best.0 < value) ⊎ ((value ≡ best.0) × IsEarlier best.1 ps) → IsTrue b
      back (inl h) = absurd (omega (arith, h, here, same))
      back (inr h) = test ∙ ap is_lt (goes_so ∙ less-order best.1 ps h.1)

  -- one that is lower isn't
  pub lower_truth : (floor value : ℕ) (b : Bool) → floor ≡ value → floor ≤ best.0 → floor ≢ best.0 → b ≡ nat_eq floor best.0
      → IsTrue b ↔ IsNoBetter said ps value
  lower_truth floor value b here low differ test =
      subst (λ s. IsTrue b ↔ IsNoBetter s ps value) (sym is) (there, back)
    where
      there : IsTrue b → (best.0 < value) ⊎ ((value ≡ best.0) × IsEarlier best.1 ps)
      there h = absurd (true≢false (sym h ∙ test ∙ ne_eqb floor best.0 differ))

      back : (best.0 < value) ⊎ ((value ≡ best.0) × IsEarlier best.1 ps) → IsTrue b
      back (inl h) = absurd (omega (arith, h, here, low))
      back (inr h) = absurd (differ (here ∙ h.0))

  -- as many pitches as the cantus has are it where none differs
  pub cantus_truth : (len : ℕ) (b : Bool) → len ≡ length ps → len ≡ length best.1 → b ≡ is_eq order
      → IsTrue b ↔ IsCantusOf said ps
  cantus_truth len b size whole test =
      subst (λ s. IsTrue b ↔ IsCantusOf s ps) (sym is) (
        (λ h. cantus_from_test (Some best) ps
            (ap (λ t. t && is_eq (pitches_order best.1 ps)) (eq-eqb (length ps) (length best.1) (sym size ∙ whole))
            ∙ sym (ap is_eq goes_so) ∙ sym test ∙ h)),
        (λ h. test ∙ ap is_eq goes_so
            ∙ sym (ap (λ t. t && is_eq (pitches_order best.1 ps)) (eq-eqb (length ps) (length best.1) (sym size ∙ whole)))
            ∙ test_from_cantus (Some best) ps h),
      )

-- what is true of pitches is so by its test
pub test_same : (b t : Bool) (P : Type 0) → IsTrue b ↔ P → (t ≡ true → P) → (P → t ≡ true) → b ≡ t
test_same true t P told from to = sym (to (told.0 refl))
test_same false true P told from to = told.1 (from refl)
test_same false false P told from to = refl

pub cantus_test : (said : Said) (ps : List Pitch) (b : Bool) → IsTrue b ↔ IsCantusOf said ps → b ≡ is_cantus_of said ps
cantus_test said ps b told =
    test_same b (is_cantus_of said ps) (IsCantusOf said ps) told (cantus_from_test said ps) (test_from_cantus said ps)

pub no_better_test : (said : Said) (ps : List Pitch) (floor : ℕ) (b : Bool) → IsTrue b ↔ IsNoBetter said ps floor
    → b ≡ is_no_better said ps floor
no_better_test said ps floor b told =
    test_same b (is_no_better said ps floor) (IsNoBetter said ps floor) told (no_better_from_test said ps floor)
    (test_from_no_better said ps floor)

-- tests that agree find the same
pub find-same : (f g : ℕ → Bool) → ((n : ℕ) → f n ≡ g n) → (ns : List ℕ) → find f ns ≡ find g ns
find-same f g same [] = refl
find-same f g same (n ∷ ns) =
    ap (λ b. if b then Some n else find f ns) (same n) ∙ ap (λ o. if g n then Some n else o) (find-same f g same ns)

-- the own claim of pitches, by what is found of them
pub first_is : (plan : CantusPlan) (said : Said) (ps : List Pitch) (cantus better : Bool) (rule : Option ℕ)
    → cantus ≡ is_cantus_of said ps → rule ≡ least_break plan ps
    → better ≡ is_no_better said ps (floor_of plan (reverse ps))
    → (if cantus then TheScore else option_map_or Broken rule (if better then Floor else Open)) ≡ first_claim plan said ps
first_is plan said ps cantus better rule is found low =
    ap (λ b. if b then TheScore else option_map_or Broken rule (if better then Floor else Open)) is
    ∙ ap (λ o. if is_cantus_of said ps then TheScore else option_map_or Broken o (if better then Floor else Open)) found
    ∙ ap (λ b. if is_cantus_of said ps then TheScore
    else option_map_or Broken (least_break plan ps) (if b then Floor else Open)) low
