-- What is written for a head that holds is a valid certificate (`written_is_valid`): the first
-- claim of each list of pitches is true (`first_claim_true`), since a whole lawful cantus is the
-- head's, or no better.
use Rattle.std.specs.Prelude.{◌≡◌, ◌≢◌, ◌⊎◌, ℕ, zero, suc, ◌+◌, ◌<◌, ◌≤◌, ◌==◌, nat_lt, Bool, true, false, not, ◌&&◌, ◌||◌, List, [], ◌∷◌, ◌++◌, Option, Some, None, length, map, reverse, refl, if◌then◌else◌}
use Rattle.std.specs.List.{AllByRecursion, filter, list_any, range_with_len}
use Rattle.std.specs.Option.{option_map_or}
use Rattle.std.specs.declared.cmp.Ordering.{Ordering}
use Rattle.std.specs.declared.cmp.Ordering.TheVariants.{Less, Equal, Greater}
use Rattle.std.proofs.Common.{arith, inl, inr, ap, sym, ◌∙◌, subst}
use Rattle.std.proofs.lemmas.Bool.{and_from, and_parts, cases_Bool, cases_lt, eq-eqb, eqb-true, lt-ltb, not_from_false, or_parts, true≢false}
use Rattle.std.proofs.lemmas.Bool.Decides.{nat_tests}
use Rattle.std.proofs.lemmas.List.{length-append, length-reverse, reverse-append}
use Rattle.std.proofs.lemmas.List.Elements.{filter_passes, recursion_from_All}
use Rattle.std.specs.Ordering.{is_lt, is_eq}
use Rattle.cert_text.specs.declared.claim.Claim.{Claim}
use Rattle.cert_text.specs.declared.claim.Claim.TheVariants.{Open, Broken, NoChain, Floor, TheScore}
use Rattle.cert_tree.specs.Trees.{AreTrueFrom}
use Rattle.rule_law.specs.Law.{below_from_test}
use Rattle.fux_pitch.specs.declared.pitch.Pitch.{Pitch}
use Rattle.fux_grid.specs.Order.{pitch_order}
use Rattle.fux_grid.proofs.OrderLemmas.{pitch_order-equal}
use Rattle.cantus_space.specs.declared.plan.CantusPlan.{CantusPlan}
use Rattle.cantus_space.specs.Cantus.{is_in_pool}
use Rattle.cantus_space.specs.Broken.{is_broken_by, is_broken_in, rules_claimed}
use Rattle.cantus_space.specs.Known.{pool_from}
use Rattle.cantus_space.specs.Lawful.{IsEarlier, IsLawful, penalty_of}
use Rattle.cantus_space.specs.Numbers.{WIDTH, numbered_pitch}
use Rattle.cantus_space.specs.Rules.{breaks, breaks_some_rule, floor_of, is_live, may_come, rules}
use Rattle.cantus_check.specs.Begun.{floor_at_end}
use Rattle.cert_tree.proofs.Finds.{find_passes, none_found}
use Rattle.cert_tree.proofs.OwnClaims.{true_from, written_from}
use Rattle.cantus_check.specs.Certificates.{Holds, IsCantusCertificate, IsHeadSound, is_open, tree_of}
use Rattle.cantus_check.specs.Claims.{IsCantusOf, IsNoBetter, IsTrueOf, Said, has_break_of, longer_lists}
use Rattle.cantus_check.specs.Orders.{earlier-cases, earlier-itself, pitch-itself}
use Rattle.cantus_check.specs.Writer.{claims_of, first_claim, is_cantus_of, is_no_better, least_break, pitches_order, unbroken_claim}

-- ---- how two lists go

order-itself : (s : List Pitch) → pitches_order s s ≡ Equal
order-itself [] = refl
order-itself (p ∷ s) = rw (pitch-itself p) (order-itself s)

order-equal : (s t : List Pitch) → length s ≡ length t → pitches_order s t ≡ Equal → s ≡ t
order-equal [] [] e h = refl
order-equal [] (q ∷ t) e h = absurd (omega arith)
order-equal (p ∷ s) [] e h = absurd (omega arith)
order-equal (p ∷ s) (q ∷ t) e h = at (pitch_order p q) refl h (order-equal s t (omega arith))
  where
    at : (o : Ordering) → pitch_order p q ≡ o → pitches_order (p ∷ s) (q ∷ t) ≡ Equal
        → (pitches_order s t ≡ Equal → s ≡ t) → p ∷ s ≡ q ∷ t
    at Less d h later = let clash : Less ≡ Equal = rw d at h in cc
    at Greater d h later = let clash : Greater ≡ Equal = rw d at h in cc
    at Equal d h later =
        let rest : pitches_order s t ≡ Equal = rw d at h in
        ap (λ x. x ∷ s) (pitch_order-equal p q d) ∙ ap (λ x. q ∷ x) (later rest)

pub order-less : (s t : List Pitch) → pitches_order s t ≡ Less → IsEarlier s t
order-less [] t h = cc
order-less (p ∷ s) [] h = cc
order-less (p ∷ s) (q ∷ t) h = at (pitch_order p q) refl h (order-less s t)
  where
    at : (o : Ordering) → pitch_order p q ≡ o → pitches_order (p ∷ s) (q ∷ t) ≡ Less
        → (pitches_order s t ≡ Less → IsEarlier s t) → IsEarlier (p ∷ s) (q ∷ t)
    at Less d h later = inl d
    at Greater d h later = let clash : Greater ≡ Less = rw d at h in cc
    at Equal d h later = let rest : pitches_order s t ≡ Less = rw d at h in inr (pitch_order-equal p q d, later rest)

pub less-order : (s t : List Pitch) → IsEarlier s t → pitches_order s t ≡ Less
less-order s [] h = absurd h
less-order [] (q ∷ t) h = absurd h
less-order (p ∷ s) (q ∷ t) (inl h) = rw h refl
less-order (p ∷ s) (q ∷ t) (inr h) =
    let same : pitch_order p q ≡ Equal = ap (pitch_order p) (sym h.0) ∙ pitch-itself p in
    rw same (less-order s t h.1)

pub less_from_test : (o : Ordering) → is_lt o ≡ true → o ≡ Less
less_from_test Less h = refl
less_from_test Equal h = cc
less_from_test Greater h = cc

pub equal_from_test : (o : Ordering) → is_eq o ≡ true → o ≡ Equal
equal_from_test Less h = cc
equal_from_test Equal h = refl
equal_from_test Greater h = cc

pub cantus_from_test : (said : Said) (ps : List Pitch) → is_cantus_of said ps ≡ true → IsCantusOf said ps
cantus_from_test None ps h = cc
cantus_from_test (Some best) ps h =
    let parts = and_parts (length ps == length best.1) (is_eq (pitches_order best.1 ps)) h in
    let size : length ps ≡ length best.1 = eqb-true (length ps) (length best.1) parts.0 in
    sym (order-equal best.1 ps (sym size) (equal_from_test (pitches_order best.1 ps) parts.1))

pub test_from_cantus : (said : Said) (ps : List Pitch) → IsCantusOf said ps → is_cantus_of said ps ≡ true
test_from_cantus None ps h = absurd h
test_from_cantus (Some best) ps h =
    ap (λ q. (length q == length best.1) && is_eq (pitches_order best.1 q)) h
    ∙ ap (λ b. b && is_eq (pitches_order best.1 best.1)) (eq-eqb (length best.1) (length best.1) refl)
    ∙ ap is_eq (order-itself best.1)

pub no_better_from_test : (said : Said) (ps : List Pitch) (floor : ℕ) → is_no_better said ps floor ≡ true
    → IsNoBetter said ps floor
no_better_from_test None ps floor h = cc
no_better_from_test (Some best) ps floor h = at (cases_Bool (nat_lt best.0 floor))
  where
    at : (nat_lt best.0 floor ≡ true) ⊎ (nat_lt best.0 floor ≡ false) → IsNoBetter (Some best) ps floor
    at (inl t) = inl (below_from_test best.0 floor t)
    at (inr f) =
        let rest : ((floor == best.0) && is_lt (pitches_order best.1 ps)) ≡ true = rw f at h in
        let parts = and_parts (floor == best.0) (is_lt (pitches_order best.1 ps)) rest in
        inr (
          eqb-true floor best.0 parts.0,
          order-less best.1 ps (less_from_test (pitches_order best.1 ps) parts.1),
        )

pub test_from_no_better : (said : Said) (ps : List Pitch) (floor : ℕ) → IsNoBetter said ps floor
    → is_no_better said ps floor ≡ true
test_from_no_better None ps floor h = absurd h
test_from_no_better (Some best) ps floor (inl h) =
    ap (λ b. b || ((floor == best.0) && is_lt (pitches_order best.1 ps))) (lt-ltb best.0 floor h)
test_from_no_better (Some best) ps floor (inr h) =
    ap (λ b. nat_lt best.0 floor || (b && is_lt (pitches_order best.1 ps))) (eq-eqb floor best.0 h.0)
    ∙ ap (λ o. nat_lt best.0 floor || is_lt o) (less-order best.1 ps h.1) ∙ or_true (nat_lt best.0 floor)
  where
    or_true : (b : Bool) → (b || true) ≡ true
    or_true true = refl
    or_true false = refl

-- ---- pitches of their pools

-- each pitch is of its bar's pool; they go from the newest to the oldest
abbrev pub are_pooled : CantusPlan → List Pitch → Bool
are_pooled plan [] = true
are_pooled plan (p ∷ behind) = are_pooled plan behind && is_in_pool plan (length behind + 1) p

any-or : (f g : ℕ → Bool) (rs : List ℕ) → list_any (λ r. f r || g r) rs ≡ (list_any f rs || list_any g rs)
any-or f g [] = refl
any-or f g (r ∷ rs) =
    ap (λ b. (f r || g r) || b) (any-or f g rs) ∙ moved (f r) (g r) (list_any f rs) (list_any g rs)
  where
    moved : (a b c d : Bool) → ((a || b) || (c || d)) ≡ ((a || c) || (b || d))
    moved true b c d = refl
    moved false true true d = refl
    moved false true false d = refl
    moved false false c d = refl

-- such pitches begin a cantus where no rule is found broken in them
live_if_unbroken : (plan : CantusPlan) (behind : List Pitch) → are_pooled plan behind ≡ true → length behind ≤ plan.bars
    → list_any (is_broken_in plan behind) rules_claimed ≡ false → is_live plan behind ≡ true
live_if_unbroken plan [] pooled few unbroken = refl
live_if_unbroken plan (p ∷ behind) pooled few unbroken =
    let pools = and_parts (are_pooled plan behind) (is_in_pool plan (length behind + 1) p) pooled in
    let sides = or_parts (list_any (is_broken_in plan behind) rules_claimed)
    (list_any (is_broken_by plan behind p) rules_claimed)
    (sym (any-or (is_broken_in plan behind) (is_broken_by plan behind p) rules_claimed) ∙ unbroken)
    in
    let own : breaks_some_rule behind p ≡ false =
    (or_parts (is_broken_by plan behind p 2) (list_any (breaks behind p) rules) sides.1).1
    in
    let room = nat_lt (length behind) plan.bars in
    let pool = is_in_pool plan (length behind + 1) p in
    and_from (is_live plan behind) (may_come plan behind p)
    (live_if_unbroken plan behind pools.0 (omega (arith, few)) sides.0)
    (and_from (room && pool) (not (breaks_some_rule behind p))
    (and_from room pool (lt-ltb (length behind) plan.bars (omega (arith, few))) pools.1)
    (not_from_false (breaks_some_rule behind p) own))

-- ---- each first claim is true

-- a lawful cantus is the head's, or no better
whole_is_closed : (plan : CantusPlan) (said : Said) → Holds plan said → (t : List Pitch) → IsLawful plan t
    → is_cantus_of said t ≡ false → is_no_better said t (floor_of plan (reverse t)) ≡ false → ⊥
whole_is_closed plan None holds t lawful other better = holds t lawful
whole_is_closed plan (Some best) holds t lawful other better =
    at (earlier-cases best.1 t (holds.0.lawful.whole ∙ sym lawful.whole))
  where
    value : ℕ
    value = penalty_of plan t

    fails : (nat_lt best.0 value || ((value == best.0) && is_lt (pitches_order best.1 t))) ≡ false
    fails = sym (ap (is_no_better (Some best) t) (floor_at_end plan t lawful.whole)) ∙ better

    parts : (nat_lt best.0 value ≡ false) × (((value == best.0) && is_lt (pitches_order best.1 t)) ≡ false)
    parts = or_parts (nat_lt best.0 value) ((value == best.0) && is_lt (pitches_order best.1 t)) fails

    same : value ≡ best.0
    same = exactly best.0 value (penalty_of plan best.1) parts.0 (holds.0.least t lawful) holds.1
      where
        exactly : (a b c : ℕ) → nat_lt a b ≡ false → c ≤ b → c ≡ a → b ≡ a
        exactly a b c h l e = grind (arith, nat_tests)

    not_less : pitches_order best.1 t ≡ Less → ⊥
    not_less h =
        true≢false (sym (ap (λ b. b && is_lt (pitches_order best.1 t)) (eq-eqb value best.0 same)
        ∙ ap is_lt h) ∙ parts.1)

    at : IsEarlier best.1 t ⊎ ((best.1 ≡ t) ⊎ IsEarlier t best.1) → ⊥
    at (inl h) = not_less (less-order best.1 t h)
    at (inr (inl h)) = true≢false (sym (test_from_cantus (Some best) t (sym h)) ∙ other)
    at (inr (inr h)) =
        let differ : best.1 ≢ t = λ e. earlier-itself t (subst (λ (s : List Pitch). IsEarlier t s) e h) in
        not_less (less-order best.1 t (holds.0.first t lawful (same ∙ sym holds.1) differ))

-- pitches of their pools, with so many bars still to come
record IsPooledBefore (plan : CantusPlan) (count : ℕ) (ps : List Pitch) : Type 0 where
  pub pooled : are_pooled plan (reverse ps) ≡ true
  pub size : length ps + count ≡ plan.bars

module _ (plan : CantusPlan) (said : Said) (holds : Holds plan said) where
  first_claim_true : (count : ℕ) (ps : List Pitch) → IsPooledBefore plan count ps
      → IsTrueOf plan said ps (first_claim plan said ps)
  first_claim_true count ps before = cantus (is_cantus_of said ps) refl
    where
      open_claim : list_any (has_break_of plan ps) rules_claimed ≡ false → is_cantus_of said ps ≡ false
          → is_no_better said ps (floor_of plan (reverse ps)) ≡ false → length ps < plan.bars
      open_claim unbroken other better = at (cases_lt (length ps) plan.bars)
        where
          at : (length ps < plan.bars) ⊎ (plan.bars ≤ length ps) → length ps < plan.bars
          at (inl h) = h
          at (inr h) =
              let few : length (reverse ps) ≤ plan.bars = omega (arith, length-reverse ps, before.size) in
              let live = live_if_unbroken plan (reverse ps) before.pooled few unbroken in
              let lawful : IsLawful plan ps = record { live = live; whole = omega (arith, h, before.size) } in
              absurd (whole_is_closed plan said holds ps lawful other better)

      floor : (b : Bool) → is_no_better said ps (floor_of plan (reverse ps)) ≡ b
          → list_any (has_break_of plan ps) rules_claimed ≡ false → is_cantus_of said ps ≡ false
          → IsTrueOf plan said ps (if b then Floor else Open)
      floor true e unbroken other = no_better_from_test said ps (floor_of plan (reverse ps)) e
      floor false e unbroken other = open_claim unbroken other e

      rule : (o : Option ℕ) → least_break plan ps ≡ o → is_cantus_of said ps ≡ false
          → IsTrueOf plan said ps (option_map_or Broken o (unbroken_claim plan said ps))
      rule (Some r) e other = find_passes (has_break_of plan ps) rules_claimed r e
      rule None e other =
          floor (is_no_better said ps (floor_of plan (reverse ps))) refl
          (none_found (has_break_of plan ps) rules_claimed e) other

      cantus : (b : Bool) → is_cantus_of said ps ≡ b
          → IsTrueOf plan said ps (if b then TheScore
          else option_map_or Broken (least_break plan ps) (unbroken_claim plan said ps))
      cantus true e = cantus_from_test said ps e
      cantus false e = rule (least_break plan ps) refl e

  -- ---- and so all are

  longer : (count : ℕ) (ps : List Pitch) (p : Pitch) → IsPooledBefore plan (suc count) ps
      → is_in_pool plan (length ps + 1) p ≡ true → IsPooledBefore plan count (ps ++ p ∷ [])
  longer count ps p before pool =
      let size : length (ps ++ p ∷ []) ≡ length ps + 1 = length-append ps (p ∷ []) in
      let newest : reverse (ps ++ p ∷ []) ≡ p ∷ reverse ps = reverse-append ps (p ∷ []) in
      record {
        pooled = ap (are_pooled plan) newest
            ∙ and_from (are_pooled plan (reverse ps)) (is_in_pool plan (length (reverse ps) + 1) p) before.pooled
            (ap (λ n. is_in_pool plan (n + 1) p) (length-reverse ps) ∙ pool);
        size = omega (arith, size, before.size);
      }

  all_longer : (count : ℕ) (ps : List Pitch) → IsPooledBefore plan (suc count) ps → (pool : List Pitch)
      → AllByRecursion (λ p. is_in_pool plan (length ps + 1) p ≡ true) pool
      → AllByRecursion (IsPooledBefore plan count) (map (λ p. ps ++ p ∷ []) pool)
  all_longer count ps before [] each = tt
  all_longer count ps before (p ∷ pool) each =
      (longer count ps p before each.0, all_longer count ps before pool each.1)

  each_longer : (count : ℕ) (ps : List Pitch) → IsPooledBefore plan (suc count) ps
      → AllByRecursion (IsPooledBefore plan count) (longer_lists plan ps)
  unfolding pool_from
  each_longer count ps before =
      let pitches = map (numbered_pitch plan) (range_with_len 0 WIDTH) in
      all_longer count ps before (filter (is_in_pool plan (length ps + 1)) pitches)
      (recursion_from_All (λ p. is_in_pool plan (length ps + 1) p ≡ true)
      (filter (is_in_pool plan (length ps + 1)) pitches)
      (filter_passes (is_in_pool plan (length ps + 1)) pitches))

  ended : (ps : List Pitch) (claim : Claim) → plan.bars ≤ length ps → IsTrueOf plan said ps claim → is_open claim ≡ false
  ended ps Open whole h = absurd (omega (arith, whole, h))
  ended ps (Broken rule) whole h = refl
  ended ps NoChain whole h = refl
  ended ps Floor whole h = refl
  ended ps TheScore whole h = refl

  pub all_true : AreTrueFrom (tree_of plan said) (first_claim plan said) plan.bars []
  all_true =
      true_from (tree_of plan said) (first_claim plan said) (IsPooledBefore plan) first_claim_true
      (λ ps before. ended ps (first_claim plan said ps) (omega (arith, before.size)) (first_claim_true zero ps before))
      each_longer plan.bars [] record { pooled = refl; size = omega arith }

-- a head that holds is sound
pub sound_if_holds : (plan : CantusPlan) (said : Said) → Holds plan said → IsHeadSound plan said
sound_if_holds plan None holds = tt
sound_if_holds plan (Some best) holds = (holds.0.lawful, holds.1)

pub written_is_valid : (plan : CantusPlan) (said : Said) → Holds plan said → IsCantusCertificate plan said (claims_of plan said)
written_is_valid plan said holds = record {
  sound = sound_if_holds plan said holds;
  certified = written_from (tree_of plan said) (first_claim plan said) plan.bars [] (all_true plan said holds);
}
