-- The tree is that of the cantus.
use Rattle.std.specs.Prelude.{◌≡◌, ℕ, zero, suc, ◌+◌, ◌<◌, ◌≤◌, true, nat_lt, [], ◌∷◌, ◌++◌, List, Option, Some, None, IsSome, length, reverse, slice_index_or, refl}
use Rattle.std.specs.declared.cmp.Ordering.TheVariants.{Less}
use Rattle.std.proofs.Common.{arith, sym, ap, ◌∙◌, subst, inl, inr}
use Rattle.std.proofs.lemmas.Bool.{and_from}
use Rattle.std.proofs.lemmas.List.{length-map, length-reverse, map-append, reverse-reverse}
use Rattle.fux_pitch.specs.declared.pitch.Pitch.{Pitch}
use Rattle.fux_grid.specs.Order.{pitch_order}
use Rattle.fux_grid.proofs.OrderLemmas.{pitch_order-total}
use Rattle.std.specs.Ordering.{ordering_reverse}
use Rattle.rule_law.specs.Law.{below_from_test, first_true, second_true}
use Rattle.tree_search.specs.Answer.{IsBefore, IsLeaf}
use Rattle.tree_search.specs.Quests.{IsTreeOf, LeafAt, LivePath}
use Rattle.tree_search.proofs.Quests.{same_path}
use Rattle.cantus_space.specs.declared.plan.CantusPlan.{CantusPlan}
use Rattle.cantus_space.specs.Ahead.{floor_ends}
use Rattle.cantus_space.specs.Grows.{comes, history-push, live_some, live_value}
use Rattle.cantus_space.specs.Lawful.{IsEarlier, IsLawful, IsLive, penalty_of, quest_of}
use Rattle.cantus_space.specs.Numbers.{WIDTH, numbered_pitch}
use Rattle.cantus_space.specs.Order.{has_number, pitches_in_order}
use Rattle.cantus_space.specs.Paths.{are_numbers, history_at, is_live_path, live_at, pitches_at}
use Rattle.cantus_space.specs.Rules.{floor_of, is_live, may_come}
use Rattle.cantus_space.proofs.Children.{numbers-push}

-- ---- order

module _ (plan : CantusPlan) where
  -- a path that comes before another leads to the earlier pitches
  pub before_is_earlier : (path other : List ℕ) → length path ≡ length other → are_numbers other ≡ true
      → IsBefore path other → IsEarlier (pitches_at plan path) (pitches_at plan other)
  before_is_earlier path [] e m h = absurd h
  before_is_earlier [] (b ∷ other) e m h = absurd (omega arith)
  before_is_earlier (a ∷ path) (b ∷ other) e m (inl h) =
      inl (pitches_in_order plan a b h (below_from_test b WIDTH (first_true (nat_lt b WIDTH) (are_numbers other) m)))
  before_is_earlier (a ∷ path) (b ∷ other) e m (inr h) =
      inr (
        ap (numbered_pitch plan) h.0,
        before_is_earlier path other (omega arith) (second_true (nat_lt b WIDTH) (are_numbers other) m) h.1,
      )

-- of two pitches only one is lower, and of two lists only one comes first
one_lower : (p q : Pitch) → pitch_order p q ≡ Less → pitch_order q p ≡ Less → ⊥
one_lower p q h k = let back = sym h ∙ pitch_order-total.antisymm p q ∙ ap ordering_reverse k in cc

lower_than_one : (p q : Pitch) → pitch_order p q ≡ Less → q ≡ p → ⊥
lower_than_one p q h e =
    let P : Pitch → Type 0 = λ x. pitch_order p x ≡ Less in
    let self : pitch_order p p ≡ Less = subst P e h in
    one_lower p p self self

earlier_one_way : (ps qs : List Pitch) → IsEarlier ps qs → IsEarlier qs ps → ⊥
earlier_one_way [] [] h k = h
earlier_one_way [] (q ∷ qs) h k = h
earlier_one_way (p ∷ ps) [] h k = h
earlier_one_way (p ∷ ps) (q ∷ qs) (inl h) (inl k) = one_lower p q h k
earlier_one_way (p ∷ ps) (q ∷ qs) (inl h) (inr k) = lower_than_one p q h k.0
earlier_one_way (p ∷ ps) (q ∷ qs) (inr h) (inl k) = lower_than_one q p k h.0
earlier_one_way (p ∷ ps) (q ∷ qs) (inr h) (inr k) = earlier_one_way ps qs h.1 k.1

module _ (plan : CantusPlan) where
  -- different paths lead to different pitches
  pub one_path : (path other : List ℕ) → are_numbers path ≡ true → are_numbers other ≡ true
      → pitches_at plan path ≡ pitches_at plan other → path ≡ other
  one_path path other m n e =
      let size : length path ≡ length other = sym (length-map path (numbered_pitch plan)) ∙ ap length e
      ∙ length-map other (numbered_pitch plan) in
      same_path (pitches_at plan) (λ ps qs. IsEarlier ps qs) (λ ps h. earlier_one_way ps ps h h) path other size
      (before_is_earlier plan path other size n) (before_is_earlier plan other path (sym size) m) e

-- ---- the theorem

-- a path to pitches
pub record PathTo (plan : CantusPlan) (behind : List Pitch) : Type 0 where
  pub path : List ℕ
  pub numbers : are_numbers path ≡ true
  pub there : history_at plan path ≡ behind

module _ (plan : CantusPlan) where
  path_to : (behind : List Pitch) → is_live plan behind ≡ true → PathTo plan behind
  path_to [] h = record { path = []; numbers = refl; there = refl }
  path_to (p ∷ behind) h =
      let before = path_to behind (first_true (is_live plan behind) (may_come plan behind p) h) in
      let on = comes plan behind p (second_true (is_live plan behind) (may_come plan behind p) h) in
      let own = has_number plan (length behind + 1) p on.pool in
      record {
        path = before.path ++ own.number ∷ [];
        numbers = numbers-push plan before.path own.number before.numbers own.small;
        there = history-push plan before.path own.number ∙ ap (λ x. x ∷ history_at plan before.path) own.is
            ∙ ap (λ xs. p ∷ xs) before.there;
      }

  pub path_is_live : (path : List ℕ) → IsSome (live_at plan path) → is_live_path plan path ≡ true
  path_is_live path h = at (live_at plan path) refl h
    where
      at : (o : Option ℕ) → live_at plan path ≡ o → IsSome o → is_live_path plan path ≡ true
      at None e s = cc
      at (Some value) e s = (live_value plan path value e).0

  pub numbers_of : (path : List ℕ) → IsSome (live_at plan path) → are_numbers path ≡ true
  numbers_of path h = first_true (are_numbers path) (is_live plan (history_at plan path)) (path_is_live path h)

  pub pitches_are_live : (path : List ℕ) → IsSome (live_at plan path) → IsLive plan (pitches_at plan path)
  pitches_are_live path h =
      second_true (are_numbers path) (is_live plan (history_at plan path)) (path_is_live path h)

  pub is_there : (path : List ℕ) (value : ℕ) → live_at plan path ≡ Some value → IsSome (live_at plan path)
  is_there path value e = subst IsSome (sym e) refl

  pub path_to_pitches : (ps : List Pitch) → IsLive plan ps → LivePath (live_at plan) (pitches_at plan) ps
  path_to_pitches ps h =
      let way = path_to (reverse ps) h in
      let there : pitches_at plan way.path ≡ ps =
      sym (reverse-reverse (pitches_at plan way.path)) ∙ ap reverse way.there ∙ reverse-reverse ps
      in
      record {
        path = way.path;
        leads = there;
        is_live = is_there way.path _ (live_some plan way.path
            (and_from (are_numbers way.path) (is_live plan (history_at plan way.path)) way.numbers
            (ap (is_live plan) way.there ∙ h)));
      }

  -- the floor of all pitches is their penalty
  floor_is_penalty : (cantus : List Pitch) → length cantus ≡ plan.bars → floor_of plan (reverse cantus)
      ≡ penalty_of plan cantus
  floor_is_penalty cantus whole =
      let long : plan.bars ≤ length (reverse cantus) = omega (arith, whole, length-reverse cantus) in
      floor_ends plan (reverse cantus) long

  pub leaf_is_lawful : (path : List ℕ) (value : ℕ) → IsLeaf (live_at plan) plan.bars path value
      → IsLawful plan (pitches_at plan path) × (penalty_of plan (pitches_at plan path) ≡ value)
  leaf_is_lawful path value leaf =
      let whole : length (pitches_at plan path) ≡ plan.bars = length-map path (numbered_pitch plan) ∙ leaf.0 in (
        record { live = pitches_are_live path (is_there path value leaf.1); whole = whole },
        sym (floor_is_penalty (pitches_at plan path) whole) ∙ (live_value plan path value leaf.1).1,
      )

  pub lawful_is_leaf : (cantus : List Pitch) → IsLawful plan cantus
      → LeafAt (live_at plan) plan.bars (pitches_at plan) cantus (penalty_of plan cantus)
  lawful_is_leaf cantus lawful =
      let way = path_to_pitches cantus lawful.live in
      record {
        path = way.path;
        leads = way.leads;
        leaf = (
          sym (length-map way.path (numbered_pitch plan)) ∙ ap length way.leads ∙ lawful.whole,
          live_some plan way.path (path_is_live way.path way.is_live)
              ∙ ap (λ ps. Some (floor_of plan (reverse ps))) way.leads
              ∙ ap Some (floor_is_penalty cantus lawful.whole),
        );
      }

  pub tree_of_cantus : IsTreeOf (quest_of plan) (live_at plan) plan.bars (pitches_at plan)
  tree_of_cantus = record {
    live_only = pitches_are_live;
    each_live = path_to_pitches;
    floors = λ path floor live. ap Some (live_value plan path floor live).1;
    once = λ path other live its_live e. one_path plan path other (numbers_of path live) (numbers_of other its_live) e;
    order = λ path other live size before. before_is_earlier plan path other size (numbers_of other live) before;
    lawful_only = leaf_is_lawful;
    each_lawful = lawful_is_leaf;
    root = refl;
    on = λ path k. record { step = numbered_pitch plan k; is = map-append (numbered_pitch plan) path (k ∷ []) };
    one_way = earlier_one_way;
  }

-- each number of a path is one of a child
pub number-at : (path : List ℕ) → are_numbers path ≡ true → (i : ℕ) → i < length path → slice_index_or path i 0 < WIDTH
number-at [] h i w = absurd (omega arith)
number-at (k ∷ path) h zero w = below_from_test k WIDTH (first_true (nat_lt k WIDTH) (are_numbers path) h)
number-at (k ∷ path) h (suc i) w = number-at path (second_true (nat_lt k WIDTH) (are_numbers path) h) i (omega arith)
