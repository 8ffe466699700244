-- What a search for the leaf of a number tells of a tree is exact of what is sought in it
-- (`answers_exactly_nth`): as many leaves there are as lawful lists, and those before one are those
-- before the other.
use Rattle.std.specs.Prelude.{◌≡◌, ℕ, ◌+◌, ◌-◌, ◌<◌, ◌⊎◌, ◌↔◌, List, Option, IfOk, Result, Ok, Err}
use Rattle.std.proofs.Common.{ap, sym, ◌∙◌, subst, arith, inl, inr}
use Rattle.tree_search.specs.Answer as tree
use Rattle.tree_search.specs.Nth as tree_nth
use Rattle.tree_search.specs.Numbered.{IfFound, IfOnly, IfSpent, IsSpent}
use Rattle.tree_search.specs.Quests.{HasMany, IsLoaded, IsTreeOf, Quest}
use Rattle.tree_search.specs.NthQuests.{ComesBefore, CostsLess, IsExactNth, IsNth, IsOverBudget}
use Rattle.tree_search.specs.Space.{FloorsGrow}
use Rattle.tree_search.specs.declared.outcome.Numbered.{Numbered}
use Rattle.tree_search.specs.declared.outcome.Numbered.TheVariants.{Found, Only, Spent}
use Rattle.tree_search.proofs.Order.{compared}
use Rattle.tree_search.proofs.Nth.{IsNumbered}
use Rattle.tree_search.proofs.Quests.{IsAlike, few_lists, few_paths, is_there, live_alike, loaded_alike, many_lists, many_paths}

module _ {E : Type 0} (quest : Quest E) (live : List ℕ → Option ℕ) (width : List ℕ → ℕ) (height : ℕ)
    (there : List ℕ → List E) (of : IsTreeOf quest live height there) (grow : FloorsGrow live width height)
  where
    -- leaves and lawful lists
    leaf_alike : IsAlike there (tree_nth.IsAnyLeaf live height) quest.IsLawful
    leaf_alike = record {
      leads = λ path any. (of.lawful_only path any.value any.leaf).0;
      each = λ s lawful.
          let way = of.each_lawful s lawful in
          record { path = way.path; leads = way.leads; kind = record { value = quest.penalty s; leaf = way.leaf } };
      once = λ path other h k e. of.once path other
          (is_there quest live width height there of grow path h.value h.leaf.1)
          (is_there quest live width height there of grow other k.value k.leaf.1) e;
    }

    -- those below a bound
    below_alike : (bound : ℕ) → IsAlike there (tree_nth.IsLeafBelow live height bound) (CostsLess quest bound)
    below_alike bound = record {
      leads = λ path low.
          let its = of.lawful_only path low.value low.leaf in
          (its.0, omega (arith, its.1, low.below));
      each = λ s less.
          let way = of.each_lawful s less.0 in
          record {
            path = way.path;
            leads = way.leads;
            kind = record { value = quest.penalty s; leaf = way.leaf; below = less.1 };
          };
      once = λ path other h k e. of.once path other
          (is_there quest live width height there of grow path h.value h.leaf.1)
          (is_there quest live width height there of grow other k.value k.leaf.1) e;
    }

    -- those before another
    module _ (path : List ℕ) (value : ℕ) (leaf : tree.IsLeaf live height path value) where
      own : quest.IsLawful (there path) × (quest.penalty (there path) ≡ value)
      own = of.lawful_only path value leaf

      earlier_leads : (other : List ℕ) → tree_nth.IsEarlierLeaf live height path value other
          → ComesBefore quest (there path) (there other)
      earlier_leads other earlier = record { lawful = its.0; before = by earlier.before }
        where
          its : quest.IsLawful (there other) × (quest.penalty (there other) ≡ earlier.its_value)
          its = of.lawful_only other earlier.its_value earlier.leaf

          by : tree_nth.Precedes earlier.its_value other value path
              → (quest.penalty (there other) < quest.penalty (there path))
              ⊎ ((quest.penalty (there other) ≡ quest.penalty (there path)) × quest.IsEarlier (there other) (there path))
          by (inl less) = inl (omega (arith, less, its.1, own.1))
          by (inr same) = inr (
            its.1 ∙ same.0 ∙ sym own.1,
            of.order other path (is_there quest live width height there of grow path value leaf.1)
                (earlier.leaf.0 ∙ sym leaf.0) same.1,
          )

      -- a leaf to what comes before it is before it
      earlier_at : (t : List E) → ComesBefore quest (there path) t → (other : List ℕ) → there other ≡ t
          → tree.IsLeaf live height other (quest.penalty t) → tree_nth.IsEarlierLeaf live height path value other
      earlier_at t before other leads its = record { its_value = quest.penalty t; leaf = its; before = by before.before }
        where
          by : (quest.penalty t < quest.penalty (there path))
              ⊎ ((quest.penalty t ≡ quest.penalty (there path)) × quest.IsEarlier t (there path))
              → tree_nth.Precedes (quest.penalty t) other value path
          by (inl less) = inl (omega (arith, less, own.1))
          by (inr same) = inr (same.0 ∙ own.1, decide (compared other path (its.0 ∙ sym leaf.0)))
            where
              decide : (other ≡ path) ⊎ (tree.IsBefore other path ⊎ tree.IsBefore path other) → tree.IsBefore other path
              decide (inl one) =
                  let self : quest.IsEarlier t t =
                  subst (λ (s : List E). quest.IsEarlier t s) (sym (ap there one) ∙ leads) same.1 in
                  absurd (of.one_way t t self self)
              decide (inr (inl earlier)) = earlier
              decide (inr (inr after)) =
                  let back : quest.IsEarlier (there path) t =
                  subst (λ (s : List E). quest.IsEarlier (there path) s) leads
                  (of.order path other (is_there quest live width height there of grow other (quest.penalty t) its.1)
                  (leaf.0 ∙ sym its.0) after) in
                  absurd (of.one_way t (there path) same.1 back)

      earlier_alike : IsAlike there (tree_nth.IsEarlierLeaf live height path value) (ComesBefore quest (there path))
      earlier_alike = record {
        leads = earlier_leads;
        each = λ t before.
            let way = of.each_lawful t before.lawful in
            record { path = way.path; leads = way.leads; kind = earlier_at t before way.path way.leads way.leaf };
        once = λ one other h k e. of.once one other
            (is_there quest live width height there of grow one h.its_value h.leaf.1)
            (is_there quest live width height there of grow other k.its_value k.leaf.1) e;
      }

    nth_there : (nth : ℕ) (path : List ℕ) (value : ℕ) → tree_nth.IsNthLeaf live height nth path value
        → IsNth quest nth (there path)
    nth_there nth path value it = record {
      lawful = (of.lawful_only path value it.leaf).0;
      before = (
        many_lists there _ _ (earlier_alike path value it.leaf) (nth - 1) it.before.0,
        few_lists there _ _ (earlier_alike path value it.leaf) (nth - 1) it.before.1,
      );
    }

    nth_leaf : (nth : ℕ) (path : List ℕ) (value : ℕ) → tree.IsLeaf live height path value → IsNth quest nth (there path)
        → tree_nth.IsNthLeaf live height nth path value
    nth_leaf nth path value leaf it = record {
      leaf = leaf;
      before = (
        many_paths there _ _ (earlier_alike path value leaf) (nth - 1) it.before.0,
        few_paths there _ _ (earlier_alike path value leaf) (nth - 1) it.before.1,
      );
    }

    module _ (nth budget : ℕ) where
      over_lists : tree_nth.IsOverNth live height nth budget → IsOverBudget quest nth budget
      over_lists over = record {
        load = λ s it.
            let way = of.each_lawful s it.lawful in
            many_lists there _ _ (loaded_alike quest live width height there of grow (quest.penalty s)) (budget + 1)
            (over.load way.path (quest.penalty s)
            (nth_leaf nth way.path (quest.penalty s) way.leaf
            (subst (λ (t : List E). IsNth quest nth t) (sym way.leads) it)));
        whole = λ fewer. many_lists there _ _ (live_alike quest live width height there of grow) (budget + 1)
            (over.whole (few_paths there _ _ leaf_alike (nth - 1) fewer));
      }

      over_paths : IsOverBudget quest nth budget → tree_nth.IsOverNth live height nth budget
      over_paths over = record {
        load = λ path value it.
            let level = (of.lawful_only path value it.leaf).1 in
            many_paths there _ _ (loaded_alike quest live width height there of grow value) (budget + 1)
            (subst (λ n. HasMany (IsLoaded quest n) (budget + 1)) level
            (over.load (there path) (nth_there nth path value it)));
        whole = λ fewer. many_paths there _ _ (live_alike quest live width height there of grow) (budget + 1)
            (over.whole (few_lists there _ _ leaf_alike (nth - 1) fewer));
      }

      answers_exactly_nth : (outcome : Numbered) → IsNumbered live height nth budget outcome
          → IsExactNth quest live there nth budget outcome
      answers_exactly_nth (Found path value) answer = record {
        found = record {
          is_live = is_there quest live width height there of grow path value answer.found.leaf.1;
          it = record {
            is_nth = nth_there nth path value answer.found;
            charged = sym (of.lawful_only path value answer.found.leaf).1;
            load = few_lists there _ _ (loaded_alike quest live width height there of grow value) budget
                answer.found_load;
          };
        };
        only = tt;
        over = ((λ spent. absurd spent), (λ over. answer.over.1 (over_paths over)));
        spent = tt;
      }
      answers_exactly_nth (Only count) answer = record {
        found = tt;
        only = record {
          fewer = answer.only.0;
          counted = (
            many_lists there _ _ leaf_alike count answer.only.1.0,
            few_lists there _ _ leaf_alike count answer.only.1.1,
          );
          load = few_lists there _ _ (live_alike quest live width height there of grow) budget answer.only_load;
        };
        over = ((λ spent. absurd spent), (λ over. answer.over.1 (over_paths over)));
        spent = tt;
      }
      answers_exactly_nth (Spent bound) answer = record {
        found = tt;
        only = tt;
        over = ((λ spent. over_lists (answer.over.0 spent)), (λ over. tt));
        spent = record {
          many = many_lists there _ _ (loaded_alike quest live width height there of grow bound) (budget + 1) answer.spent;
          least = λ x low.
              few_lists there _ _ (loaded_alike quest live width height there of grow x) budget (answer.least x low);
          reached = few_lists there _ _ (below_alike bound) (nth - 1) answer.bound;
          over = over_lists (answer.over.0 tt);
        };
      }

      -- the same of what a search answers, clause by clause
      pub numbered : {F : Type 0} (result : Result Numbered F)
          → IfOk result (λ outcome. IfFound outcome (tree_nth.IsNthLeaf live height nth))
          → IfOk result (λ outcome. IfOnly outcome (tree_nth.HasOnly live height nth))
          → IfOk result (λ outcome. IsSpent outcome ↔ tree_nth.IsOverNth live height nth budget)
          → IfOk result (λ outcome. IfFound outcome (λ path value. tree.AtMost (tree.IsLoaded live value) budget))
          → IfOk result (λ outcome. IfOnly outcome (λ count. tree.AtMost (tree.IsLiveBelowRoot live) budget))
          → IfOk result (λ outcome. IfSpent outcome (λ bound. tree.Many (tree.IsLoaded live bound) (budget + 1)))
          → IfOk result (λ outcome. IfSpent outcome (tree.AreLowerLoadsWithin live budget))
          → IfOk result (λ outcome. IfSpent outcome (tree_nth.AreFewerBelow live height nth))
          → IfOk result (IsExactNth quest live there nth budget)
      numbered (Err fault) found only over found_load only_load spent least bound = tt
      numbered (Ok outcome) found only over found_load only_load spent least bound =
          answers_exactly_nth outcome record {
            found = found;
            only = only;
            over = over;
            found_load = found_load;
            only_load = only_load;
            spent = spent;
            least = least;
            bound = bound;
          }
