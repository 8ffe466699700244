-- The leaf of a number. What the leaves that are kept tell of it: it is the last of them
-- (`nth_below`), or there are no more than they (`only_kept`), or fewer leaves are lower than the
-- floor that comes next (`few_lower`). When the budget is above its load (`over_nth`), and when it
-- isn't. What of it holds of the first (`first_from`, `over_first`).
use Rattle.std.proofs.Common.{◌≡◌, ◌≢◌, ℕ, ◌+◌, ◌-◌, ◌<◌, ◌≤◌, ◌↔◌, inl, inr, ⊎_elim, List, [], ◌∷◌, length, map, get_or, Option, Some, All, IsPermutation, refl, sym, ap, subst, subst₂, ◌∙◌, arith}
use Rattle.std.specs.List.{AllByRecursion}
use Rattle.std.proofs.lemmas.Bool.{cases_lt}
use Rattle.std.proofs.lemmas.List.{length-map}
use Rattle.std.proofs.lemmas.List.Elements.{All-head, All-tail, All-map, All-contains, Contains-get_or, recursion_from_All}
use Rattle.std.proofs.lemmas.List.Sorted.{Contains-permutation, IsPermutation-sym, length_permutation}
use Rattle.tree_search.specs.Answer.{AreLowerLoadsWithin, AtMost, BoundsLeaves, HasNoLeaf, IsFirstLeast, IsLeaf, IsLiveBelowRoot, IsLoaded, IsOverBudget, Many}
use Rattle.tree_search.specs.Walks.{Exactly, IsAmong}
use Rattle.tree_search.specs.Space.{FloorsGrow}
use Rattle.tree_search.specs.Nth.{AreFewerBelow, HasOnly, IsAnyLeaf, IsEarlierLeaf, IsLeafBelow, IsNthLeaf, IsOverNth, Precedes}
use Rattle.tree_search.specs.Numbered.{IfFound, IfOnly, IfSpent, IsSpent}
use Rattle.tree_search.specs.declared.outcome.Numbered.{Numbered}
use Rattle.tree_search.specs.declared.outcome.Numbered.TheVariants.{Found, Only, Spent}
use Rattle.tree_search.specs.declared.links.Link.{Link}
use Rattle.tree_search.specs.Links.{path_in}
use Rattle.tree_search.specs.Entries.{Entry, numbers}
use Rattle.tree_search.specs.Finds.{AreAllLower, Covers, EndsAs, EndsWith, HasHigh, Leaf, path_of}
use Rattle.tree_search.specs.Fronts.{IsMet, IsSearch, floor_in, times}
use Rattle.tree_search.proofs.Counts.{AtMost-from, each_by, length-le-among, no_more}
use Rattle.tree_search.proofs.Loads.{loaded_higher, loaded_live}
use Rattle.tree_search.proofs.Frontier.{leaf_met}
use Rattle.tree_search.proofs.Kept.{Precedes-low, Precedes-self, Precedes-trans, among_map, before_last, contains_first, in_cons, last_met, last_once, paths_differ, rest_once}
use Rattle.tree_search.proofs.Searches.{few_below, few_last, few_live, low, times_empty}

-- a path has one value
one_value : (live : List ℕ → Option ℕ) (height : ℕ) (p q : List ℕ) (v w : ℕ) → IsLeaf live height p v
    → IsLeaf live height q w → p ≡ q → v ≡ w
one_value live height p q v w own its same =
    let e : Some v ≡ Some w = sym own.1 ∙ ap live same ∙ its.1 in cc

-- what comes before a leaf is another
other_path : (live : List ℕ → Option ℕ) (height : ℕ) (path : List ℕ) (value : ℕ) → IsLeaf live height path value
    → (q : List ℕ) → IsEarlierLeaf live height path value q → path ≢ q
other_path live height path value own q earlier same =
    let level : value ≡ earlier.its_value = one_value live height path q value earlier.its_value own earlier.leaf same in
    Precedes-self value path
    (subst₂ (λ (r : List ℕ) (w : ℕ). Precedes w r value path) (sym same) (sym level) earlier.before)

module _ {live : List ℕ → Option ℕ} {width : List ℕ → ℕ} {height : ℕ} (grows : FloorsGrow live width height)
    {most : ℕ} {links : List Link} {waiting : List Entry} {leaves : List Leaf} {reached : ℕ}
    (search : IsSearch live height most links waiting leaves (λ _. ⊥) reached) where
  abbrev Met : Leaf → Type 0
  Met = IsMet live height (length links + 1) (path_in links) (λ i. times i (numbers waiting)) (λ _. ⊥) reached

  -- a leaf lower than all that waits is covered
  covered : (x : ℕ) → ((i : ℕ) → 0 < times i (numbers waiting) → x < floor_in live links i)
      → (q : List ℕ) (w : ℕ) → IsLeaf live height q w → w ≤ x → Covers most leaves q w
  covered x higher q w leaf le = ⊎_elim
      (λ is. is)
      (λ pending. ⊎_elim
      (λ some. absurd (omega (arith, higher pending.entry some, pending.low, le)))
      (λ never. absurd never)
      pending.open_yet)
      (leaf_met grows search.front q w leaf)

  -- the last of as many as may be kept, where all that waits is higher
  module _ {path : List ℕ} {value : ℕ} (ends : EndsWith most leaves path value)
      (higher : (i : ℕ) → 0 < times i (numbers waiting) → value < floor_in live links i) where
    rest_met : All Met ends.others
    rest_met = All-tail Met ends.last ends.others (last_met search.front.differ ends.is_last search.met search.once)

    own_leaf : IsLeaf live height path value
    own_leaf = subst₂ (λ (p : List ℕ) (v : ℕ). IsLeaf live height p v) ends.path_is ends.value_is
        (All-head Met ends.last ends.others (last_met search.front.differ ends.is_last search.met search.once)).leads

    among_others : (q : List ℕ) → IsEarlierLeaf live height path value q → IsAmong (map path_of ends.others) q
    among_others q earlier = ⊎_elim
        (λ holds. ⊎_elim
        (λ same. absurd (other_path live height path value own_leaf q earlier
        (sym ends.path_is ∙ ap path_of same ∙ holds.path_is)))
        (λ inside. subst (λ (r : List ℕ). IsAmong (map path_of ends.others) r) holds.path_is
        (among_map ends.others holds.leaf inside))
        (in_cons ends.last holds.leaf ends.others
        (Contains-permutation leaves (ends.last ∷ ends.others) holds.leaf ends.is_last.moved holds.here)))
        (λ full. absurd (Precedes-self value path
        (Precedes-trans value earlier.its_value value path q path
        (subst₂ (λ (p : List ℕ) (v : ℕ). Precedes v p earlier.its_value q) ends.path_is ends.value_is
        (All-contains (λ (leaf : Leaf). Precedes leaf.0 (path_of leaf) earlier.its_value q) leaves ends.last full.1
        (Contains-permutation (ends.last ∷ ends.others) leaves ends.last
        (IsPermutation-sym leaves (ends.last ∷ ends.others) ends.is_last.moved)
        (contains_first ends.last ends.others))))
        earlier.before)))
        (covered value higher q earlier.its_value earlier.leaf
        (Precedes-low earlier.its_value value q path earlier.before))

    others_earlier : All (λ other. IsEarlierLeaf live height path value (path_of other)) ends.others
    others_earlier k d inside = record {
      its_value = (get_or ends.others k d).0;
      leaf = (rest_met k d inside).leads;
      before = subst₂ (λ (p : List ℕ) (v : ℕ). Precedes (get_or ends.others k d).0 (path_of (get_or ends.others k d)) v p)
          ends.path_is ends.value_is
          (before_last search.front.differ ends.is_last search.met search.once (get_or ends.others k d)
          (Contains-get_or ends.others k d inside));
    }

    exactly_others : Exactly (IsEarlierLeaf live height path value) (most - 1)
    exactly_others = record {
      many = record {
        paths = map path_of ends.others;
        counted = omega (
          arith,
          length-map ends.others path_of,
          ends.full,
          length_permutation leaves (ends.last ∷ ends.others) ends.is_last.moved,
        );
        differ = paths_differ search.front.differ ends.others rest_met
            (rest_once ends.last ends.others (last_once search.front.differ ends.is_last search.met search.once));
        kind = recursion_from_All (IsEarlierLeaf live height path value) (map path_of ends.others)
            (All-map (IsEarlierLeaf live height path value) path_of ends.others others_earlier);
      };
      all = among_others;
    }

    pub nth_below : IsNthLeaf live height most path value
    nth_below = record {
      leaf = own_leaf;
      before = (
        exactly_others.many,
        AtMost-from (IsEarlierLeaf live height path value) (most - 1) exactly_others,
      );
    }

  -- where nothing waits, and fewer are kept than may be, each leaf is kept
  pub only_kept : waiting ≡ [] → length leaves < most → HasOnly live height most (length leaves)
  only_kept empty fewer = (fewer, (exact.many, AtMost-from (IsAnyLeaf live height) (length leaves) exact))
    where
      among : (q : List ℕ) → IsAnyLeaf live height q → IsAmong (map path_of leaves) q
      among q any = ⊎_elim
          (λ holds. subst (λ (r : List ℕ). IsAmong (map path_of leaves) r) holds.path_is
          (among_map leaves holds.leaf holds.here))
          (λ full. absurd (omega (arith, full.0, fewer)))
          (covered any.value (λ i some. absurd (times_empty waiting empty i some)) q any.value any.leaf (omega arith))

      exact : Exactly (IsAnyLeaf live height) (length leaves)
      exact = record {
        many = record {
          paths = map path_of leaves;
          counted = length-map leaves path_of;
          differ = paths_differ search.front.differ leaves search.met search.once;
          kind = recursion_from_All (IsAnyLeaf live height) (map path_of leaves)
              (All-map (IsAnyLeaf live height) path_of leaves
              (λ k d inside. record {
                value = (get_or leaves k d).0;
                leaf = (search.met k d inside).leads;
              }));
        };
        all = among;
      }

  -- where not all that are kept are lower than a floor, and all that waits is no lower, fewer
  -- leaves are lower than it
  pub few_lower : (f : ℕ) → ((i : ℕ) → 0 < times i (numbers waiting) → f ≤ floor_in live links i)
      → length leaves ≤ most → (length leaves ≡ most → HasHigh f leaves) → AreFewerBelow live height most f
  few_lower f high few unlowered paths differ kind =
      let size : length paths ≤ length leaves =
      omega (arith, length-le-among paths (map path_of leaves) differ (all_among paths kind), length-map leaves path_of) in
      ⊎_elim
      (λ less. omega (arith, less))
      (λ more. absurd (too_many (unlowered (omega (arith, more, size, few))) (omega (arith, more, size, few))))
      (cases_lt (length paths) most)
    where
      among : (q : List ℕ) → IsLeafBelow live height f q → IsAmong (map path_of leaves) q
      among q it = ⊎_elim
          (λ holds. subst (λ (r : List ℕ). IsAmong (map path_of leaves) r) holds.path_is
          (among_map leaves holds.leaf holds.here))
          (λ full.
          let one = unlowered full.0 in
          let low = Precedes-low one.leaf.0 it.value (path_of one.leaf) q
          (All-contains (λ (leaf : Leaf). Precedes leaf.0 (path_of leaf) it.value q) leaves one.leaf full.1 one.here) in
          absurd (omega (arith, low, one.high, it.below)))
          (covered it.value (λ i some. omega (arith, high i some, it.below)) q it.value it.leaf (omega arith))

      all_among : (qs : List (List ℕ)) → AllByRecursion (IsLeafBelow live height f) qs
          → AllByRecursion (IsAmong (map path_of leaves)) qs
      all_among = each_by (IsLeafBelow live height f) (IsAmong (map path_of leaves)) among

      too_many : HasHigh f leaves → length leaves ≤ length paths → ⊥
      too_many one le =
          let own = (All-contains Met leaves one.leaf search.met one.here).leads in
          let size = length-le-among (path_of one.leaf ∷ paths) (map path_of leaves) (
            each_by (IsLeafBelow live height f) (λ q. path_of one.leaf ≢ q)
                (λ q it same. omega
                (arith, one_value live height (path_of one.leaf) q one.leaf.0 it.value own it.leaf same, one.high, it.below))
                paths kind,
            differ,
          )
          (among_map leaves one.leaf one.here, all_among paths kind) in
          omega (arith, size, le, length-map leaves path_of)

-- ---- what is told

-- what a search for the leaf of a number tells of any tree
pub record IsNumbered (live : List ℕ → Option ℕ) (height nth budget : ℕ) (outcome : Numbered) : Type 0 where
  pub found : IfFound outcome (IsNthLeaf live height nth)
  pub only : IfOnly outcome (HasOnly live height nth)
  pub over : IsSpent outcome ↔ IsOverNth live height nth budget
  pub found_load : IfFound outcome (λ path value. AtMost (IsLoaded live value) budget)
  pub only_load : IfOnly outcome (λ count. AtMost (IsLiveBelowRoot live) budget)
  pub spent : IfSpent outcome (λ bound. Many (IsLoaded live bound) (budget + 1))
  pub least : IfSpent outcome (AreLowerLoadsWithin live budget)
  pub bound : IfSpent outcome (AreFewerBelow live height nth)

-- fewer are below a bound, whose load is above the budget
pub over_nth : (live : List ℕ → Option ℕ) (height nth budget bound : ℕ) → 0 < nth
    → AreFewerBelow live height nth bound → Many (IsLoaded live bound) (budget + 1) → IsOverNth live height nth budget
over_nth live height nth budget bound some fewer many = record {
  load = λ path value it. loaded_higher live bound value (budget + 1) (at_least path value it) many;
  whole = λ _. loaded_live live bound (budget + 1) many;
}
  where
    at_least : (path : List ℕ) (value : ℕ) → IsNthLeaf live height nth path value → bound ≤ value
    at_least path value it = ⊎_elim
        (λ less.
        let size = fewer (path ∷ it.before.0.paths) (
          each_by (IsEarlierLeaf live height path value) (λ q. path ≢ q) (other_path live height path value it.leaf)
              it.before.0.paths it.before.0.kind,
          it.before.0.differ,
        ) (
          record { value = value; leaf = it.leaf; below = less },
          each_by (IsEarlierLeaf live height path value) (IsLeafBelow live height bound)
              (λ q earlier. record {
                value = earlier.its_value;
                leaf = earlier.leaf;
                below = omega (arith, less, Precedes-low earlier.its_value value q path earlier.before);
              }) it.before.0.paths it.before.0.kind,
        ) in
        absurd (omega (arith, size, it.before.0.counted, some)))
        (λ high. high)
        (cases_lt value bound)

-- the budget is enough
pub enough_nth : (live : List ℕ → Option ℕ) (height nth budget : ℕ) (path : List ℕ) (value : ℕ)
    → IsNthLeaf live height nth path value → AtMost (IsLoaded live value) budget
    → IsOverNth live height nth budget → ⊥
enough_nth live height nth budget path value it few over =
    no_more (IsLoaded live value) budget (budget + 1) (omega arith) few (over.load path value it)

pub enough_only : (live : List ℕ → Option ℕ) (height nth budget count : ℕ) → HasOnly live height nth count
    → AtMost (IsLiveBelowRoot live) budget → IsOverNth live height nth budget → ⊥
enough_only live height nth budget count only few over =
    no_more (IsLiveBelowRoot live) budget (budget + 1) (omega arith) few
    (over.whole (λ paths differ kind. omega (arith, only.0, only.1.1 paths differ kind)))

-- with no leaf there are only none
pub only_none : (live : List ℕ → Option ℕ) (height nth : ℕ) → 0 < nth → HasNoLeaf live height → HasOnly live height nth 0
only_none live height nth some none =
    (some, (record { paths = []; counted = refl; differ = tt; kind = tt }, λ paths differ kind. by paths kind))
  where
    by : (paths : List (List ℕ)) → AllByRecursion (IsAnyLeaf live height) paths → length paths ≤ 0
    by [] kind = omega arith
    by (x ∷ xs) kind = absurd (none x kind.0.value kind.0.leaf)

-- the leaf was found
numbered_found : (live : List ℕ → Option ℕ) (height nth budget : ℕ) (path : List ℕ) (value : ℕ)
    → IsNthLeaf live height nth path value → AtMost (IsLoaded live value) budget
    → IsNumbered live height nth budget (Found path value)
numbered_found live height nth budget path value it few = record {
  found = it;
  only = tt;
  over = ((λ spent. absurd spent), enough_nth live height nth budget path value it few);
  found_load = few;
  only_load = tt;
  spent = tt;
  least = tt;
  bound = tt;
}

-- there are fewer
pub numbered_only : (live : List ℕ → Option ℕ) (height nth budget count : ℕ) → HasOnly live height nth count
    → AtMost (IsLiveBelowRoot live) budget → IsNumbered live height nth budget (Only count)
numbered_only live height nth budget count only few = record {
  found = tt;
  only = only;
  over = ((λ spent. absurd spent), enough_only live height nth budget count only few);
  found_load = tt;
  only_load = few;
  spent = tt;
  least = tt;
  bound = tt;
}

-- the budget was spent
pub numbered_spent : (live : List ℕ → Option ℕ) (height nth budget bound : ℕ) → 0 < nth
    → AreFewerBelow live height nth bound → Many (IsLoaded live bound) (budget + 1)
    → AreLowerLoadsWithin live budget bound → IsNumbered live height nth budget (Spent bound)
numbered_spent live height nth budget bound some fewer many within = record {
  found = tt;
  only = tt;
  over = ((λ _. over_nth live height nth budget bound some fewer many), (λ _. tt));
  found_load = tt;
  only_load = tt;
  spent = many;
  least = within;
  bound = fewer;
}

module _ {live : List ℕ → Option ℕ} {width : List ℕ → ℕ} {height : ℕ} (grows : FloorsGrow live width height)
    {most : ℕ} {links : List Link} {waiting : List Entry} {leaves : List Leaf} {reached : ℕ}
    (search : IsSearch live height most links waiting leaves (λ _. ⊥) reached) (nth budget : ℕ) (same : most ≡ nth)
    (room : length links ≤ budget) where
  numbered_same : (outcome : Numbered) → IsNumbered live height most budget outcome
      → IsNumbered live height nth budget outcome
  numbered_same outcome = subst (λ (n : ℕ). IsNumbered live height n budget outcome) same

  -- as many are kept as may be, and all of them are lower than the floor of the entry that is taken
  pub settled : {waiting' : List Entry} {f c : ℕ} → IsPermutation waiting ((record { 0 = f }, c) ∷ waiting')
      → All (λ other. f ≤ other.0.0) waiting' → AreAllLower most f leaves
      → (outcome : Numbered) → EndsAs most leaves outcome → IsNumbered live height nth budget outcome
  settled {f} taken least all (Found path value) ends =
      let last = ends.found in
      let below : value < f = subst (λ (v : ℕ). v < f) last.value_is
      (All-contains (λ (leaf : Leaf). leaf.0 < f) leaves last.last all.lower
      (Contains-permutation (last.last ∷ last.others) leaves last.last
      (IsPermutation-sym leaves (last.last ∷ last.others) last.is_last.moved) (contains_first last.last last.others))) in
      numbered_same (Found path value)
      (numbered_found live height most budget path value
      (nth_below grows search last (λ i some. omega (arith, below, low grows search taken least i some)))
      (few_below grows search taken least value budget below room))
  settled taken least all (Only count) ends = absurd (omega (arith, all.full, ends.only.0, ends.only.1))
  settled taken least all (Spent bound) ends = absurd (ends.unspent tt)

  -- nothing waits
  pub at_end : waiting ≡ [] → (outcome : Numbered) → EndsAs most leaves outcome → IsNumbered live height nth budget outcome
  at_end empty (Found path value) ends = numbered_same (Found path value)
      (numbered_found live height most budget path value
      (nth_below grows search ends.found (λ i some. absurd (times_empty waiting empty i some)))
      (few_last grows search empty value budget room))
  at_end empty (Only count) ends = numbered_same (Only count)
      (numbered_only live height most budget count
      (subst (λ (n : ℕ). HasOnly live height most n) ends.only.0
      (only_kept grows search empty (omega (arith, ends.only.0, ends.only.1))))
      (few_live grows search empty budget room))
  at_end empty (Spent bound) ends = absurd (ends.unspent tt)

  -- the entry that is taken has a child more than the budget is enough for
  pub spent_at : {waiting' : List Entry} {f c : ℕ} → 0 < nth → IsPermutation waiting ((record { 0 = f }, c) ∷ waiting')
      → All (λ other. f ≤ other.0.0) waiting' → length leaves ≤ most → (length leaves ≡ most → HasHigh f leaves)
      → Many (IsLoaded live f) (budget + 1) → IsNumbered live height nth budget (Spent f)
  spent_at {f} some taken least few unlowered many =
      numbered_spent live height nth budget f some
      (subst (λ (n : ℕ). AreFewerBelow live height n f) same
      (few_lower grows search f (low grows search taken least) few unlowered))
      many (λ x less. few_below grows search taken least x budget less room)

-- ---- the first

module _ (live : List ℕ → Option ℕ) (height : ℕ) where
  -- none are of a kind of which there are at most none
  none_of : (Kind : List ℕ → Type 0) (n : ℕ) → n ≡ 0 → AtMost Kind n → (q : List ℕ) → Kind q → ⊥
  none_of Kind n zero few q it = let size : 1 ≤ n = few (q ∷ []) (tt, tt) (it, tt) in omega (arith, size, zero)

  at_most_none : (Kind : List ℕ → Type 0) (n : ℕ) → ((q : List ℕ) → Kind q → ⊥) → AtMost Kind n
  at_most_none Kind n none [] differ kind = omega arith
  at_most_none Kind n none (x ∷ xs) differ kind = absurd (none x kind.0)

  pub first_from : (path : List ℕ) (value : ℕ) → IsNthLeaf live height 1 path value → IsFirstLeast live height path value
  first_from path value it = record {
    leaf = it.leaf;
    least = λ other its leaf. ⊎_elim
        (λ less. absurd (never other (record { its_value = its; leaf = leaf; before = inl less })))
        (λ high. high)
        (cases_lt its value);
    first = λ other leaf before.
        never other (record { its_value = value; leaf = leaf; before = inr (refl, before) });
  }
    where
      never : (other : List ℕ) → IsEarlierLeaf live height path value other → ⊥
      never = none_of (IsEarlierLeaf live height path value) (1 - 1) refl it.before.1

  nth_from : (path : List ℕ) (value : ℕ) → IsFirstLeast live height path value → IsNthLeaf live height 1 path value
  nth_from path value first = record {
    leaf = first.leaf;
    before = (
      record { paths = []; counted = refl; differ = tt; kind = tt },
      at_most_none (IsEarlierLeaf live height path value) (1 - 1) (λ other earlier. by other earlier earlier.before),
    );
  }
    where
      by : (other : List ℕ) (earlier : IsEarlierLeaf live height path value other)
          → Precedes earlier.its_value other value path → ⊥
      by other earlier (inl less) = omega (arith, less, first.least other earlier.its_value earlier.leaf)
      by other earlier (inr same) =
          first.first other (subst (λ (v : ℕ). IsLeaf live height other v) same.0 earlier.leaf) same.1

  pub none_from_only : (count : ℕ) → HasOnly live height 1 count → HasNoLeaf live height
  none_from_only count only path value leaf =
      none_of (IsAnyLeaf live height) count (omega (arith, only.0)) only.1.1 path (record { value = value; leaf = leaf })

  pub over_first : (budget : ℕ) → IsOverNth live height 1 budget → IsOverBudget live height budget
  over_first budget over = record {
    load = λ path value first. over.load path value (nth_from path value first);
    whole = λ none. over.whole
        (at_most_none (IsAnyLeaf live height) (1 - 1) (λ path any. none path any.value any.leaf));
  }

  pub first_over : (budget : ℕ) → IsOverBudget live height budget → IsOverNth live height 1 budget
  first_over budget over = record {
    load = λ path value it. over.load path value (first_from path value it);
    whole = λ few. over.whole
        (λ path value leaf. none_of (IsAnyLeaf live height) (1 - 1) refl few path (record { value = value; leaf = leaf }));
  }

  pub first_bound : (bound : ℕ) → AreFewerBelow live height 1 bound → BoundsLeaves live height bound
  first_bound bound fewer path value leaf = ⊎_elim
      (λ less. absurd (none_of (IsLeafBelow live height bound) (1 - 1) refl fewer path
      (record { value = value; leaf = leaf; below = less })))
      (λ high. high)
      (cases_lt value bound)
