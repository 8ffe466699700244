-- What a search of the front tells of a tree is exact of what is sought in it (`answers_exactly`):
-- as many live and loaded paths there are as lists, and the first leaf of least value is the best.
use Rattle.std.specs.Prelude.{◌≡◌, ◌≢◌, ℕ, ◌+◌, ◌<◌, ◌≤◌, ◌⊎◌, ◌↔◌, List, [], ◌∷◌, ◌++◌, Option, Some, None, IsSome, IsSomeAnd, IfOk, Result, Ok, Err, length, map, refl}
use Rattle.std.specs.List.{AllByRecursion}
use Rattle.std.proofs.Common.{ap, ap₂, sym, ◌∙◌, subst, arith, inl, inr}
use Rattle.std.proofs.lemmas.List.{length-map}
use Rattle.tree_search.specs.Answer as tree
use Rattle.tree_search.specs.Outcomes.{IfFound, IfSpent, IsSpent, OnNothing}
use Rattle.tree_search.specs.Quests.{AllDiffer, BoundsLawful, HasAtMost, HasMany, HasNoLawful, IsBest, IsExact, IsLiveBegun, IsLoaded, IsOverBudget, IsTreeOf, LeafAt, Quest}
use Rattle.tree_search.specs.Space.{FloorsGrow}
use Rattle.tree_search.specs.declared.outcome.Outcome.{Outcome}
use Rattle.tree_search.specs.declared.outcome.Outcome.TheVariants.{Found, Nothing, Spent}
use Rattle.tree_search.proofs.Order.{compared}

-- what a search of the front tells of any tree
pub record IsFrontAnswer (live : List ℕ → Option ℕ) (height budget : ℕ) (outcome : Outcome) : Type 0 where
  pub found : IfFound outcome (tree.IsFirstLeast live height)
  pub nothing : OnNothing outcome (tree.HasNoLeaf live height)
  pub over : IsSpent outcome ↔ tree.IsOverBudget live height budget
  pub found_load : IfFound outcome (λ path value. tree.AtMost (tree.IsLoaded live value) budget)
  pub nothing_load : OnNothing outcome (tree.AtMost (tree.IsLiveBelowRoot live) budget)
  pub spent : IfSpent outcome (λ bound. tree.Many (tree.IsLoaded live bound) (budget + 1))
  pub least : IfSpent outcome (λ bound. (floor : ℕ) → floor < bound → tree.AtMost (tree.IsLoaded live floor) budget)
  pub bound : IfSpent outcome (tree.BoundsLeaves live height)

-- ---- the order of paths

-- where one path before another leads to what is earlier, and nothing is earlier than itself, paths
-- to the same are one
pub same_path : {E : Type 0} (there : List ℕ → List E) (IsEarlier : List E → List E → Type 0)
    → ((s : List E) → IsEarlier s s → ⊥) → (path other : List ℕ) → length path ≡ length other
    → (tree.IsBefore path other → IsEarlier (there path) (there other))
    → (tree.IsBefore other path → IsEarlier (there other) (there path)) → there path ≡ there other → path ≡ other
same_path there IsEarlier itself path other size on back e = decide (compared path other size)
  where
    decide : (path ≡ other) ⊎ (tree.IsBefore path other ⊎ tree.IsBefore other path) → path ≡ other
    decide (inl h) = h
    decide (inr (inl h)) = absurd (itself (there other) (subst (λ s. IsEarlier s (there other)) e (on h)))
    decide (inr (inr h)) = absurd (itself (there path) (subst (λ s. IsEarlier s (there path)) (sym e) (back h)))

-- the parts of a path of one step or more
record Parted (path : List ℕ) : Type 0 where
  parent : List ℕ
  child : ℕ
  is : path ≡ parent ++ child ∷ []

parted : (k : ℕ) (path : List ℕ) → Parted (k ∷ path)
parted k [] = record { parent = []; child = k; is = refl }
parted k (l ∷ path) =
    let rest = parted l path in
    record { parent = k ∷ rest.parent; child = rest.child; is = ap (λ xs. k ∷ xs) rest.is }

-- of two lists that are longer by a step and the same, those without it are the same
shorter_same : {E : Type 0} (p q : List E) (x y : E) → p ++ x ∷ [] ≡ q ++ y ∷ [] → p ≡ q
shorter_same [] [] x y e = refl
shorter_same [] (b ∷ []) x y e = cc
shorter_same [] (b ∷ c ∷ q) x y e = cc
shorter_same (a ∷ []) [] x y e = cc
shorter_same (a ∷ b ∷ p) [] x y e = cc
shorter_same (a ∷ p) (b ∷ q) x y e =
    let first : a ≡ b = cc in
    let rest : p ++ x ∷ [] ≡ q ++ y ∷ [] = cc in
    ap₂ (λ z zs. z ∷ zs) first (shorter_same p q x y rest)

-- ---- as many paths as lists

-- a path of a kind to a list
pub record PathOf {E : Type 0} (there : List ℕ → List E) (Kind : List ℕ → Type 0) (p : List E) : Type 0 where
  pub path : List ℕ
  pub leads : there path ≡ p
  pub kind : Kind path

-- paths of a kind lead to the lists of another, each of these is at the end of one, and paths to
-- the same list are one
pub record IsAlike {E : Type 0} (there : List ℕ → List E) (Kind : List ℕ → Type 0) (Of : List E → Type 0) : Type 0 where
  pub leads : (path : List ℕ) → Kind path → Of (there path)
  pub each : (p : List E) → Of p → PathOf there Kind p
  pub once : (path other : List ℕ) → Kind path → Kind other → there path ≡ there other → path ≡ other

-- paths of a kind to given lists
record PathsOf {E : Type 0} (there : List ℕ → List E) (Kind : List ℕ → Type 0) (lists : List (List E)) : Type 0 where
  paths : List (List ℕ)
  lead : map there paths ≡ lists
  kind : AllByRecursion Kind paths

module _ {E : Type 0} (there : List ℕ → List E) (Kind : List ℕ → Type 0) (Of : List E → Type 0) (alike : IsAlike there Kind Of)
  where
    all_lead : (paths : List (List ℕ)) → AllByRecursion Kind paths → AllByRecursion Of (map there paths)
    all_lead [] h = tt
    all_lead (path ∷ paths) h = (alike.leads path h.0, all_lead paths h.1)

    others_differ : (path : List ℕ) (paths : List (List ℕ)) → Kind path → AllByRecursion Kind paths
        → AllByRecursion (λ other. path ≢ other) paths → AllByRecursion (λ other. there path ≢ other) (map there paths)
    others_differ path [] here h d = tt
    others_differ path (other ∷ paths) here h d =
        ((λ e. d.0 (alike.once path other here h.0 e)), others_differ path paths here h.1 d.1)

    lists_differ : (paths : List (List ℕ)) → AllByRecursion Kind paths → tree.AllDiffer paths
        → AllDiffer (map there paths)
    lists_differ [] h d = tt
    lists_differ (path ∷ paths) h d = (others_differ path paths h.0 h.1 d.0, lists_differ paths h.1 d.1)

    each_path : (lists : List (List E)) → AllByRecursion Of lists → PathsOf there Kind lists
    each_path [] h = record { paths = []; lead = refl; kind = tt }
    each_path (p ∷ lists) h =
        let way = alike.each p h.0 in
        let others = each_path lists h.1 in
        record {
          paths = way.path ∷ others.paths;
          lead = ap₂ (λ q qs. q ∷ qs) way.leads others.lead;
          kind = (way.kind, others.kind);
        }

    other_paths : (path : List ℕ) (paths : List (List ℕ)) → AllByRecursion (λ other. there path ≢ other) (map there paths)
        → AllByRecursion (λ other. path ≢ other) paths
    other_paths path [] d = tt
    other_paths path (other ∷ paths) d = ((λ e. d.0 (ap there e)), other_paths path paths d.1)

    paths_differ : (paths : List (List ℕ)) → AllDiffer (map there paths) → tree.AllDiffer paths
    paths_differ [] d = tt
    paths_differ (path ∷ paths) d = (other_paths path paths d.0, paths_differ paths d.1)

    pub many_lists : (count : ℕ) → tree.Many Kind count → HasMany Of count
    many_lists count many = record {
      lists = map there many.paths;
      counted = length-map many.paths there ∙ many.counted;
      differ = lists_differ many.paths many.kind many.differ;
      kind = all_lead many.paths many.kind;
    }

    pub many_paths : (count : ℕ) → HasMany Of count → tree.Many Kind count
    many_paths count many =
        let ways = each_path many.lists many.kind in
        record {
          paths = ways.paths;
          counted = sym (length-map ways.paths there) ∙ ap length ways.lead ∙ many.counted;
          differ = paths_differ ways.paths (subst AllDiffer (sym ways.lead) many.differ);
          kind = ways.kind;
        }

    pub few_lists : (count : ℕ) → tree.AtMost Kind count → HasAtMost Of count
    few_lists count few lists differ kind =
        let ways = each_path lists kind in
        subst (λ n. n ≤ count) (sym (length-map ways.paths there) ∙ ap length ways.lead)
        (few ways.paths (paths_differ ways.paths (subst AllDiffer (sym ways.lead) differ)) ways.kind)

    pub few_paths : (count : ℕ) → HasAtMost Of count → tree.AtMost Kind count
    few_paths count few paths differ kind =
        subst (λ n. n ≤ count) (length-map paths there)
        (few (map there paths) (lists_differ paths kind differ) (all_lead paths kind))

module _ {E : Type 0} (quest : Quest E) (live : List ℕ → Option ℕ) (width : List ℕ → ℕ) (height : ℕ)
    (there : List ℕ → List E) (of : IsTreeOf quest live height there) (grow : FloorsGrow live width height)
  where
    pub is_there : (path : List ℕ) (value : ℕ) → live path ≡ Some value → IsSome (live path)
    is_there path value e = subst IsSome (sym e) refl

    begun : (path : List ℕ) → path ≢ [] → there path ≢ []
    begun [] h e = h refl
    begun (k ∷ path) h e =
        let parts = parted k path in
        let on = of.on parts.parent parts.child in
        nonempty (there parts.parent) on.step (sym (ap there parts.is ∙ on.is) ∙ e)
      where
        nonempty : (xs : List E) (x : E) → xs ++ x ∷ [] ≡ [] → ⊥
        nonempty [] x e = cc
        nonempty (y ∷ xs) x e = cc

    -- live paths below the root and live lists of one step or more
    pub live_alike : IsAlike there (tree.IsLiveBelowRoot live) (IsLiveBegun quest)
    live_alike = record {
      leads = λ path h. (of.live_only path h.0, begun path h.1);
      each = λ p h.
          let way = of.each_live p h.0 in
          record {
            path = way.path;
            leads = way.leads;
            kind = (way.is_live, (λ e. h.1 (sym way.leads ∙ ap there e ∙ of.root)));
          };
      once = λ path other h k e. of.once path other h.0 k.0 e;
    }

    module _ (x : ℕ) where
      low_floor : (o : Option ℕ) (own : ℕ) → o ≡ Some own → own ≤ x → IsSomeAnd o (λ floor. floor ≤ x)
      low_floor None own e h = cc
      low_floor (Some n) own e h = let same : n ≡ own = cc in omega (arith, same, h)

      its_floor : (o : Option ℕ) (own : ℕ) → o ≡ Some own → IsSomeAnd o (λ floor. floor ≤ x) → own ≤ x
      its_floor None own e h = absurd h
      its_floor (Some n) own e h = let same : n ≡ own = cc in omega (arith, same, h)

      loaded_leads : (path : List ℕ) → tree.IsLoaded live x path → IsLoaded quest x (there path)
      loaded_leads path h =
          let on = of.on h.parent h.child in
          record {
            live = of.live_only path h.is_live;
            shorter = there h.parent;
            last = on.step;
            is = ap there h.is ∙ on.is;
            low = low_floor (quest.floor (there h.parent)) h.own_floor (of.floors h.parent h.own_floor h.parent_live)
                h.low;
          }

      -- a live path to a loaded list is loaded
      loaded_there : (p : List E) → IsLoaded quest x p → (path : List ℕ) → there path ≡ p → IsSome (live path)
          → tree.IsLoaded live x path
      loaded_there p loaded [] leads is_live =
          absurd (nonempty loaded.shorter loaded.last (sym loaded.is ∙ sym leads ∙ of.root))
        where
          nonempty : (xs : List E) (x : E) → xs ++ x ∷ [] ≡ [] → ⊥
          nonempty [] x e = cc
          nonempty (y ∷ xs) x e = cc
      loaded_there p loaded (k ∷ path) leads is_live = at (live (k ∷ path)) refl is_live
        where
          at : (o : Option ℕ) → live (k ∷ path) ≡ o → IsSome o → tree.IsLoaded live x (k ∷ path)
          at None e h = cc
          at (Some value) e h =
              let parts = parted k path in
              let on = of.on parts.parent parts.child in
              let parent = grow parts.parent parts.child value (sym (ap live parts.is) ∙ e) in
              let same : there parts.parent ≡ loaded.shorter = shorter_same (there parts.parent) loaded.shorter on.step
              loaded.last (sym on.is ∙ sym (ap there parts.is) ∙ leads ∙ loaded.is) in
              record {
                is_live = is_live;
                parent = parts.parent;
                child = parts.child;
                is = parts.is;
                own_floor = parent.own_floor;
                parent_live = parent.is_live;
                low = its_floor (quest.floor loaded.shorter) parent.own_floor
                    (sym (ap quest.floor same) ∙ of.floors parts.parent parent.own_floor parent.is_live) loaded.low;
              }

      -- loaded paths and loaded lists
      pub loaded_alike : IsAlike there (tree.IsLoaded live x) (IsLoaded quest x)
      loaded_alike = record {
        leads = loaded_leads;
        each = λ p loaded.
            let way = of.each_live p loaded.live in
            record { path = way.path; leads = way.leads; kind = loaded_there p loaded way.path way.leads way.is_live };
        once = λ path other h k e. of.once path other h.is_live k.is_live e;
      }

    -- ---- the first leaf of least value is the best

    pub first_is_best : (path : List ℕ) (value : ℕ) → tree.IsFirstLeast live height path value
        → IsBest quest (there path)
    first_is_best path value found = record { lawful = own.0; least = least; first = first }
      where
        own : quest.IsLawful (there path) × (quest.penalty (there path) ≡ value)
        own = of.lawful_only path value found.leaf

        least : (t : List E) → quest.IsLawful t → quest.penalty (there path) ≤ quest.penalty t
        least t lawful =
            let way = of.each_lawful t lawful in
            omega (arith, own.1, found.least way.path (quest.penalty t) way.leaf)

        first : (t : List E) → quest.IsLawful t → quest.penalty t ≡ quest.penalty (there path) → there path ≢ t
            → quest.IsEarlier (there path) t
        first t lawful same differ =
            let way = of.each_lawful t lawful in
            let level : quest.penalty t ≡ value = same ∙ own.1 in
            decide way.path way.leads (way.leaf.0, way.leaf.1 ∙ ap Some level)
            (compared path way.path (found.leaf.0 ∙ sym way.leaf.0))
          where
            decide : (other : List ℕ) → there other ≡ t → tree.IsLeaf live height other value
                → (path ≡ other) ⊎ (tree.IsBefore path other ⊎ tree.IsBefore other path)
                → quest.IsEarlier (there path) t
            decide other leads leaf (inl one) = absurd (differ (ap there one ∙ leads))
            decide other leads leaf (inr (inl before)) =
                subst (λ (s : List E). quest.IsEarlier (there path) s) leads
                (of.order path other (is_there other value leaf.1) (found.leaf.0 ∙ sym leaf.0) before)
            decide other leads leaf (inr (inr after)) = absurd (found.first other leaf after)

    -- the best is at the end of a path to the first leaf of least value
    pub best_is_first : (s : List E) → IsBest quest s → (path : List ℕ) × (there path ≡ s)
        × tree.IsFirstLeast live height path (quest.penalty s)
    best_is_first s best = (
      way.path,
      way.leads,
      record { leaf = way.leaf; least = least; first = first },
    )
      where
        way : LeafAt live height there s (quest.penalty s)
        way = of.each_lawful s best.lawful

        least : (other : List ℕ) (value : ℕ) → tree.IsLeaf live height other value → quest.penalty s ≤ value
        least other value leaf =
            let its = of.lawful_only other value leaf in
            omega (arith, its.1, best.least (there other) its.0)

        first : (other : List ℕ) → tree.IsLeaf live height other (quest.penalty s) → tree.IsBefore other way.path → ⊥
        first other leaf before =
            let its = of.lawful_only other (quest.penalty s) leaf in
            let earlier : quest.IsEarlier (there other) s = subst (λ (t : List E). quest.IsEarlier (there other) t)
            way.leads
            (of.order other way.path (is_there way.path (quest.penalty s) way.leaf.1) (leaf.0 ∙ sym way.leaf.0) before)
            in
            let differ : s ≢ there other = λ e.
            let self = subst (λ (t : List E). quest.IsEarlier t s) (sym e) earlier in
            of.one_way s s self self
            in
            of.one_way (there other) s earlier (best.first (there other) its.0 its.1 differ)

    pub none_is_lawful : tree.HasNoLeaf live height → HasNoLawful quest
    none_is_lawful none s lawful = let way = of.each_lawful s lawful in none way.path (quest.penalty s) way.leaf

    no_leaf : HasNoLawful quest → tree.HasNoLeaf live height
    no_leaf none path value leaf = none (there path) (of.lawful_only path value leaf).0

    pub bound_is_reached : (bound : ℕ) → tree.BoundsLeaves live height bound → BoundsLawful quest bound
    bound_is_reached bound below s lawful =
        let way = of.each_lawful s lawful in
        below way.path (quest.penalty s) way.leaf

    -- ---- the answer

    module _ (budget : ℕ) where
      pub over_lists : tree.IsOverBudget live height budget → IsOverBudget quest budget
      over_lists over = record {
        load = λ s best.
            let way = best_is_first s best in
            many_lists there _ _ (loaded_alike (quest.penalty s)) (budget + 1)
            (over.load way.0 (quest.penalty s) way.2);
        whole = λ none. many_lists there _ _ live_alike (budget + 1) (over.whole (no_leaf none));
      }

      over_paths : IsOverBudget quest budget → tree.IsOverBudget live height budget
      over_paths over = record {
        load = λ path value first.
            let level = (of.lawful_only path value first.leaf).1 in
            many_paths there _ _ (loaded_alike value) (budget + 1)
            (subst (λ n. HasMany (IsLoaded quest n) (budget + 1)) level
            (over.load (there path) (first_is_best path value first)));
        whole = λ none. many_paths there _ _ live_alike (budget + 1) (over.whole (none_is_lawful none));
      }

      pub answers_exactly : (outcome : Outcome) → IsFrontAnswer live height budget outcome
          → IsExact quest live there budget outcome
      answers_exactly (Found path value) answer = record {
        found = record {
          is_live = is_there path value answer.found.leaf.1;
          best = record {
            best = first_is_best path value answer.found;
            charged = sym (of.lawful_only path value answer.found.leaf).1;
            load = few_lists there _ _ (loaded_alike value) budget answer.found_load;
          };
        };
        nothing = tt;
        over = ((λ spent. absurd spent), (λ over. answer.over.1 (over_paths over)));
        spent = tt;
      }
      answers_exactly Nothing answer = record {
        found = tt;
        nothing = record {
          none = none_is_lawful answer.nothing;
          load = few_lists there _ _ live_alike budget answer.nothing_load;
        };
        over = ((λ spent. absurd spent), (λ over. answer.over.1 (over_paths over)));
        spent = tt;
      }
      answers_exactly (Spent bound) answer = record {
        found = tt;
        nothing = tt;
        over = ((λ spent. over_lists (answer.over.0 spent)), (λ over. tt));
        spent = record {
          many = many_lists there _ _ (loaded_alike bound) (budget + 1) answer.spent;
          least = λ x low. few_lists there _ _ (loaded_alike x) budget (answer.least x low);
          reached = bound_is_reached bound answer.bound;
          over = over_lists (answer.over.0 tt);
        };
      }

      -- the same of what a search answers, clause by clause
      pub answered : {F : Type 0} (result : Result Outcome F)
          → IfOk result (λ outcome. IfFound outcome (tree.IsFirstLeast live height))
          → IfOk result (λ outcome. OnNothing outcome (tree.HasNoLeaf live height))
          → IfOk result (λ outcome. IsSpent outcome ↔ tree.IsOverBudget live height budget)
          → IfOk result (λ outcome. IfFound outcome (λ path value. tree.AtMost (tree.IsLoaded live value) budget))
          → IfOk result (λ outcome. OnNothing outcome (tree.AtMost (tree.IsLiveBelowRoot live) budget))
          → IfOk result (λ outcome. IfSpent outcome (λ bound. tree.Many (tree.IsLoaded live bound) (budget + 1)))
          → IfOk result (λ outcome. IfSpent outcome (tree.AreLowerLoadsWithin live budget))
          → IfOk result (λ outcome. IfSpent outcome (tree.BoundsLeaves live height))
          → IfOk result (IsExact quest live there budget)
      answered (Err fault) found nothing over found_load nothing_load spent least bound = tt
      answered (Ok outcome) found nothing over found_load nothing_load spent least bound =
          answers_exactly outcome record {
            found = found;
            nothing = nothing;
            over = over;
            found_load = found_load;
            nothing_load = nothing_load;
            spent = spent;
            least = least;
            bound = bound;
          }
