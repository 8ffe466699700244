-- What a state leads to is listed with one state more or none (`list_more`, `work_more`), state after
-- state (`listed_more`), until all are (`all_listed`): then they have each state (`all_there`), and
-- their web isn't too large (`fits`).
use Rattle.std.proofs.Common.{◌≡◌, ◌≢◌, ◌⊎◌, ℕ, zero, suc, ◌+◌, ◌<◌, ◌≤◌, nat_lt, List, [], ◌∷◌, ◌++◌, length, get_or, take, All, AllPairs, Contains, sum_by, Option, Some, None, option_and_then, option_map, is_some, Bool, true, false, if◌then◌else◌, slice_get, refl, sym, ap, subst, ◌∙◌, ⊎_elim, inl, inr, arith, append-nil, append_assoc, length-append, take_all}
use Rattle.std.proofs.lemmas.Bool.{cases_lt}
use Rattle.std.proofs.lemmas.Bool.Decides.{nat_tests}
use Rattle.std.proofs.lemmas.List.{get_or_append_left, get_or_default, take-append-le}
use Rattle.std.proofs.lemmas.List.Elements.{All-push, Contains-append_left, Contains-push}
use Rattle.std.proofs.lemmas.List.Quantifiers.{all_pairs_push}
use Rattle.std.proofs.lemmas.List.Sums.{sum_by-append, sum_by-cons, sum_by-take-le}
use Rattle.std.proofs.lemmas.Option.{get_or_from_slice_get, slice_get-get_or, slice_get_cases, slice_get_within}
use Rattle.priced_paths.specs.declared.states.State.{State}
use Rattle.priced_paths.specs.declared.states.Tally.{Tally}
use Rattle.priced_paths.specs.declared.web.TheConstants.{MOST_EDGES, MOST_LABELS, MOST_SPOTS}
use Rattle.priced_paths.specs.Sizes.{IsState, IsTooLarge, count_below, edges_of, labels_of, next_of, state_after, state_at, state_from}
use Rattle.priced_paths.specs.Listed.{AreAllStates, AreCounted, AreListed, AreNear, AreNextIn, AreStates, AreWorkable, GrowsBy, IsWorked, IsWorking}
use Rattle.priced_paths.proofs.Once.{length-within, sum-within}

pub some_same : {X : Type 0} (x y : X) → Some x ≡ Some y → x ≡ y
some_same x y e = cc

-- ---- an element that stays at its place

module _ {X : Type 0} (xs ys : List X) (i : ℕ) (x : X) where
  pub get_left : slice_get xs i ≡ Some x → slice_get (xs ++ ys) i ≡ Some x
  get_left e =
      let within = slice_get_within xs i x e in
      slice_get-get_or (xs ++ ys) i x (omega (arith, within, length-append xs ys))
      ∙ ap (λ y. Some y) (get_or_append_left xs ys x i within ∙ get_or_from_slice_get xs i x x e)

  pub get_back : i < length xs → slice_get (xs ++ ys) i ≡ Some x → slice_get xs i ≡ Some x
  get_back within e =
      slice_get-get_or xs i x within
      ∙ ap (λ y. Some y) (sym (get_or_append_left xs ys x i within) ∙ get_or_from_slice_get (xs ++ ys) i x x e)

pub get_there : {X : Type 0} (xs : List X) (x : X) → (there : Contains xs x) → slice_get xs there.0 ≡ Some x
get_there xs x there = slice_get-get_or xs there.0 x there.1 ∙ ap (λ y. Some y) there.2

-- where none is the list has ended
pub past_end : {X : Type 0} (xs : List X) (i : ℕ) → slice_get xs i ≡ None → length xs ≤ i
past_end {X} xs i e = by (slice_get_cases xs i).1
  where
    none_some : (x : X) → None ≡ Some x → ⊥
    none_some x h = cc

    by : ((x : X) × (i < length xs) × (slice_get xs i ≡ Some x) × (get_or xs i x ≡ x)) ⊎ ((length xs ≤ i) × (slice_get xs i ≡ None))
        → length xs ≤ i
    by h = ⊎_elim (λ some. absurd (none_some some.0 (sym e ∙ some.2))) (λ none. none.0) h

-- what holds of each element
pub all_at : {X : Type 0} (P : X → Type 0) (xs : List X) (i : ℕ) (x : X) → All P xs → slice_get xs i ≡ Some x → P x
all_at P xs i x all e =
    subst P (get_or_from_slice_get xs i x x e) (all i x (slice_get_within xs i x e))

-- and of two
pub pair_at : {X : Type 0} (R : X → X → Type 0) (xs : List X) (i j : ℕ) (x y : X) → AllPairs R xs → i < j
    → slice_get xs i ≡ Some x → slice_get xs j ≡ Some y → R x y
pair_at R xs i j x y all before e f =
    subst (R x) (get_or_from_slice_get xs j y x f)
    (subst (λ z. R z (get_or xs j x)) (get_or_from_slice_get xs i x x e) (all i j x before (slice_get_within xs j y f)))

-- one element more is taken
take_next : {X : Type 0} (f : X → ℕ) (xs : List X) (i : ℕ) (x : X) → slice_get xs i ≡ Some x
    → sum_by f (take (suc i) xs) ≡ sum_by f (take i xs) + f x
take_next f [] i x e = cc
take_next f (y ∷ xs) zero x e = ap (λ z. 0 + f z) (some_same y x e)
take_next f (y ∷ xs) (suc i) x e =
    sum_by-cons f y (take (suc i) xs)
    ∙ ap (λ n. f y + n) (take_next f xs i x e)
    ∙ shuffle (f y) (sum_by f (take i xs)) (f x)
    ∙ ap (λ n. n + f x) (sym (sum_by-cons f y (take i xs)))
  where
    shuffle : (a b c : ℕ) → a + (b + c) ≡ a + b + c
    shuffle a b c = omega arith

next_number : (n : ℕ) → n + 1 ≡ suc n
next_number n = omega arith

pub take_one : {X : Type 0} (f : X → ℕ) (xs : List X) (i : ℕ) (x : X) → slice_get xs i ≡ Some x
    → sum_by f (take (i + 1) xs) ≡ sum_by f (take i xs) + f x
take_one f xs i x e = ap (λ n. sum_by f (take n xs)) (next_number i) ∙ take_next f xs i x e

count-few : (test : ℕ → Bool) (n : ℕ) → count_below test n ≤ n
count-few test zero = omega arith
count-few test (suc n) = by (test n) (count-few test n)
  where
    by : (b : Bool) → count_below test n ≤ n → count_below test n + (if b then 1 else 0) ≤ suc n
    by true h = omega (arith, h)
    by false h = omega (arith, h)

pub counted_few : (test : ℕ → Bool) (n edges : ℕ) → edges ≡ count_below test n → edges ≤ n
counted_few test n edges e = omega (arith, e, count-few test n)

module _ {K : Type 0} (height : ℕ) (breadth : ℕ → ℕ) (step : ℕ → K → ℕ → Option (K × ℕ)) where
  -- ---- where paths lead

  from-append : (state : State K) (path : List ℕ) (label : ℕ) → state_from height breadth step state (path ++ label ∷ [])
      ≡ option_and_then (λ s. next_of height breadth step s label) (state_from height breadth step state path)
  from-append state [] label = one (next_of height breadth step state label)
    where
      one : (o : Option (State K)) → option_and_then (λ next. Some next) o ≡ o
      one None = refl
      one (Some next) = refl
  from-append state (first ∷ path) label = on (next_of height breadth step state first)
      (λ next. from-append next path label)
    where
      on : (o : Option (State K))
          → ((next : State K) → state_from height breadth step next (path ++ label ∷ [])
          ≡ option_and_then (λ s. next_of height breadth step s label) (state_from height breadth step next path))
          → option_and_then (λ next. state_from height breadth step next (path ++ label ∷ [])) o
          ≡ option_and_then (λ s. next_of height breadth step s label)
          (option_and_then (λ next. state_from height breadth step next path) o)
      on None onward = refl
      on (Some next) onward = onward next

  next-within : (state : State K) (label : ℕ) → label < labels_of height breadth state
      → next_of height breadth step state label ≡ state_after height breadth step state label
  next-within state label within =
      let test : nat_lt label (labels_of height breadth state) ≡ true = grind (arith, nat_tests) in
      ap (λ b. if b then state_after height breadth step state label else None) test

  -- a step is under one of a state's labels
  pub next_parts : (state next : State K) (label : ℕ) → next_of height breadth step state label ≡ Some next
      → (label < labels_of height breadth state) × (state_after height breadth step state label ≡ Some next)
  next_parts state next label e = by (nat_lt label (labels_of height breadth state)) refl e
    where
      by : (b : Bool) → nat_lt label (labels_of height breadth state) ≡ b
          → (if b then state_after height breadth step state label else None) ≡ Some next
          → (label < labels_of height breadth state) × (state_after height breadth step state label ≡ Some next)
      by true t e = (grind (arith, nat_tests), e)
      by false t e = cc

  pub after_deeper : (state next : State K) (label : ℕ) → state_after height breadth step state label ≡ Some next
      → next.depth ≡ state.depth + 1
  after_deeper state next label e = by (step state.depth state.kept label) e
    where
      by : (o : Option (K × ℕ)) → option_map (λ n. state_at (state.depth + 1) n.0) o ≡ Some next
          → next.depth ≡ state.depth + 1
      by None e = cc
      by (Some n) e = ap (λ (s : State K). s.depth) (sym (some_same (state_at (state.depth + 1) n.0) next e))

  -- so many labels are seen with one more
  seen_more : (state : State K) (label : ℕ) (mid new more : List (State K)) → new ≡ mid ++ more
      → ((k : ℕ) (next : State K) → k < label → state_after height breadth step state k ≡ Some next → Contains mid next)
      → ((x : State K) → state_after height breadth step state label ≡ Some x → Contains new x)
      → (k : ℕ) (next : State K) → k < label + 1 → state_after height breadth step state k ≡ Some next → Contains new next
  seen_more state label mid new more grown before here k next within e = ⊎_elim
      (λ earlier. subst (λ (l : List (State K)). Contains l next) (sym grown)
      (Contains-append_left mid more next (before k next earlier e)))
      (λ late.
      let same : k ≡ label = omega (arith, within, late) in
      here next (ap (state_after height breadth step state) (sym same) ∙ e))
      (cases_lt k label)

  count_more : (state : State K) (label edges edges_new : ℕ) (made : Bool)
      → made ≡ is_some (state_after height breadth step state label)
      → edges ≡ count_below (λ k. is_some (state_after height breadth step state k)) label
      → edges_new ≡ edges + (if made then 1 else 0)
      → edges_new ≡ count_below (λ k. is_some (state_after height breadth step state k)) (label + 1)
  count_more state label edges edges_new made is before now =
      now ∙ ap (λ b. edges + (if b then 1 else 0)) is
      ∙ ap (λ n. n + (if is_some (state_after height breadth step state label) then 1 else 0)) before
      ∙ ap (count_below (λ k. is_some (state_after height breadth step state k))) (sym (next_number label))

  pub counted_first : (states : List (State K)) → AreCounted height breadth step 0 (record { labels = 0; edges = 0 }) states
  counted_first states = record { labels = refl; edges = refl; few_labels = omega arith; few_edges = omega arith }

module _ {K : Type 0} (start : K) (height : ℕ) (breadth : ℕ → ℕ) (step : ℕ → K → ℕ → Option (K × ℕ)) where
  reached : (state next : State K) (label : ℕ) → IsState start height breadth step state
      → next_of height breadth step state label ≡ Some next → IsState start height breadth step next
  reached state next label is e = record {
    path = is.path ++ label ∷ [];
    leads = from-append height breadth step (state_at 0 start) is.path label
        ∙ ap (option_and_then (λ s. next_of height breadth step s label)) is.leads ∙ e;
  }

  -- ---- one state more

  record IsMore (state : State K) (next : Option (State K)) (old new : List (State K)) : Type 0 where
    are : AreStates start height breadth step new
    near : AreNear state new
    more : List (State K)
    grown : new ≡ old ++ more
    there : (x : State K) → next ≡ Some x → Contains new x

  one_more : (state : State K) (label : ℕ) (old new : List (State K)) → IsState start height breadth step state
      → label < labels_of height breadth state → AreStates start height breadth step old → AreNear state old
      → GrowsBy (state_after height breadth step state label) old new
      → IsMore state (state_after height breadth step state label) old new
  one_more state label old new is within are near grows =
      by (state_after height breadth step state label) refl grows
    where
      none : IsMore state None old old
      none = record {
        are = are;
        near = near;
        more = [];
        grown = sym (append-nil old);
        there = λ x e. cc;
      }

      had : (next : State K) → Contains old next → IsMore state (Some next) old old
      had next there = record {
        are = are;
        near = near;
        more = [];
        grown = sym (append-nil old);
        there = λ x e. subst (Contains old) (some_same next x e) there;
      }

      pushed : (next : State K) → state_after height breadth step state label ≡ Some next → (Contains old next → ⊥)
          → IsMore state (Some next) old (old ++ next ∷ [])
      pushed next e lacks =
          let deep = after_deeper height breadth step state next label e in
          let its = reached state next label is (next-within height breadth step state label within ∙ e) in
          record {
            are = record {
              first = get_left old (next ∷ []) 0 (state_at 0 start) are.first;
              once = all_pairs_push (λ one other. one ≢ other) old next are.once
                  (λ k d l same. lacks (k, l, get_or_default old k next d l ∙ same));
              each = All-push (IsState start height breadth step) old next are.each its;
              deeper = all_pairs_push (λ one other. one.depth ≤ other.depth) old next are.deeper
                  (λ k d l. omega (arith, near k d l, deep));
            };
            near = All-push (λ other. other.depth ≤ state.depth + 1) old next near (omega (arith, deep));
            more = next ∷ [];
            grown = refl;
            there = λ x f. subst (Contains (old ++ next ∷ [])) (some_same next x f) (Contains-push old next);
          }

      by : (o : Option (State K)) → state_after height breadth step state label ≡ o → GrowsBy o old new
          → IsMore state o old new
      by None e same = subst (IsMore state None old) (sym same) none
      by (Some next) e grows = ⊎_elim
          (λ h. subst (IsMore state (Some next) old) (sym h.1) (had next h.0))
          (λ h. subst (IsMore state (Some next) old) (sym h.1) (pushed next e h.0))
          grows

  pub list_more : (state : State K) (label edges edges_new : ℕ) (made : Bool) (old mid new : List (State K))
      → IsState start height breadth step state → label < labels_of height breadth state
      → IsWorking start height breadth step state label edges old mid
      → GrowsBy (state_after height breadth step state label) mid new
      → made ≡ is_some (state_after height breadth step state label)
      → edges_new ≡ edges + (if made then 1 else 0) → length new ≤ MOST_SPOTS
      → IsWorking start height breadth step state (label + 1) edges_new old new
  list_more state label edges edges_new made old mid new is within before grows is_made counts few =
      let its = one_more state label mid new is within before.are before.near grows in
      record {
        are = its.are;
        few = few;
        near = its.near;
        more = before.more ++ its.more;
        grown = its.grown ∙ ap (λ l. l ++ its.more) before.grown ∙ append_assoc old before.more its.more;
        seen = seen_more height breadth step state label mid new its.more its.grown before.seen its.there;
        counts = count_more height breadth step state label edges edges_new made is_made before.counts counts;
      }

  -- too many states
  pub too_many : (state : State K) (label edges : ℕ) (old mid new : List (State K))
      → IsState start height breadth step state → label < labels_of height breadth state
      → IsWorking start height breadth step state label edges old mid
      → GrowsBy (state_after height breadth step state label) mid new → MOST_SPOTS < length new
      → IsTooLarge start height breadth step
  too_many state label edges old mid new is within before grows many =
      let its = one_more state label mid new is within before.are before.near grows in
      record { states = new; once = its.are.once; each = its.are.each; more = inl many }

  -- at first no label is seen
  pub list_begins : (state : State K) (states : List (State K)) → AreWorkable start height breadth step state states
      → IsWorking start height breadth step state 0 0 states states
  list_begins state states h = record {
    are = h.are;
    few = h.few;
    near = h.near;
    more = [];
    grown = sym (append-nil states);
    seen = λ k next within e. absurd (omega (arith, within));
    counts = refl;
  }

  -- at last all are
  pub list_ends : (state : State K) (label labels edges : ℕ) (old states : List (State K))
      → labels ≡ labels_of height breadth state → labels ≤ label
      → IsWorking start height breadth step state label edges old states
      → IsWorked start height breadth step state old states
  list_ends state label labels edges old states all past h = record {
    are = h.are;
    few = h.few;
    near = h.near;
    more = h.more;
    grown = h.grown;
    next = λ k next e.
        let parts = next_parts height breadth step state next k e in
        h.seen k next (omega (arith, parts.0, all, past)) parts.1;
  }

  -- ---- one state is worked more

  -- what is counted of the first states is so in a longer list
  pub counted_more : (at edges labels : ℕ) (state : State K) (tally : Tally) (old new : List (State K))
      → slice_get old at ≡ Some state → IsWorked start height breadth step state old new
      → AreCounted height breadth step at tally old → labels ≡ labels_of height breadth state
      → edges ≡ edges_of height breadth step state → tally.labels + labels ≤ MOST_LABELS
      → tally.edges + edges ≤ MOST_EDGES
      → AreCounted height breadth step (at + 1) (record { labels = tally.labels + labels; edges = tally.edges + edges }) new
  counted_more at edges labels state tally old new here worked counted its_labels its_edges few_labels few_edges =
      let within = slice_get_within old at state here in
      let P : List (State K) → Type 0 = λ l. AreCounted height breadth step (at + 1)
      (record { labels = tally.labels + labels; edges = tally.edges + edges }) l in
      let same = take-append-le (at + 1) old worked.more (omega (arith, within)) in
      subst P (sym worked.grown) record {
        labels = omega (
          arith,
          counted.labels,
          its_labels,
          take_one (labels_of height breadth) old at state here,
          ap (sum_by (labels_of height breadth)) same,
        );
        edges = omega (
          arith,
          counted.edges,
          its_edges,
          take_one (edges_of height breadth step) old at state here,
          ap (sum_by (edges_of height breadth step)) same,
        );
        few_labels = few_labels;
        few_edges = few_edges;
      }

  -- too many labels, or edges
  pub many_labels : (at labels : ℕ) (state : State K) (tally : Tally) (states : List (State K))
      → slice_get states at ≡ Some state → AreStates start height breadth step states
      → AreCounted height breadth step at tally states → labels ≡ labels_of height breadth state
      → MOST_LABELS < tally.labels + labels → IsTooLarge start height breadth step
  many_labels at labels state tally states here are counted its many =
      let most : MOST_LABELS < sum_by (labels_of height breadth) states = omega (
        arith,
        many,
        its,
        counted.labels,
        take_one (labels_of height breadth) states at state here,
        sum_by-take-le (labels_of height breadth) states (at + 1),
      ) in
      record { states = states; once = are.once; each = are.each; more = inr (inr most) }

  pub many_edges : (at edges : ℕ) (state : State K) (tally : Tally) (old new : List (State K))
      → slice_get old at ≡ Some state → IsWorked start height breadth step state old new
      → AreCounted height breadth step at tally old → edges ≡ edges_of height breadth step state
      → MOST_EDGES < tally.edges + edges → IsTooLarge start height breadth step
  many_edges at edges state tally old new here worked counted its many =
      let f : State K → ℕ = edges_of height breadth step in
      let most : MOST_EDGES < sum_by f new = omega (
        arith,
        many,
        its,
        counted.edges,
        take_one f old at state here,
        sum_by-take-le f old (at + 1),
        sum_by-append f old worked.more,
        ap (sum_by f) worked.grown,
      ) in
      record { states = new; once = worked.are.once; each = worked.are.each; more = inr (inl most) }

  -- the state at the next place may be worked
  pub workable : (at : ℕ) (state : State K) (states : List (State K)) → AreListed start height breadth step at states
      → slice_get states at ≡ Some state → AreWorkable start height breadth step state states
  workable at state states h here = record {
    is = all_at (IsState start height breadth step) states at state h.are.each here;
    are = h.are;
    few = h.few;
    near = h.near at state (omega arith) here;
  }

  pub listed_more : (at : ℕ) (state : State K) (old new : List (State K))
      → AreListed start height breadth step at old → slice_get old at ≡ Some state
      → IsWorked start height breadth step state old new → AreListed start height breadth step (at + 1) new
  listed_more at state old new h here worked = record {
    are = worked.are;
    few = worked.few;
    closed = closed;
    near = λ i other past there.
        let deeper = pair_at (λ (one other : State K). one.depth ≤ other.depth) new at i state other worked.are.deeper
        (omega (arith, past)) stays there in
        λ k d within. omega (arith, worked.near k d within, deeper);
  }
    where
      stays : slice_get new at ≡ Some state
      stays = ap (λ l. slice_get l at) worked.grown ∙ get_left old worked.more at state here

      room : at < length old
      room = slice_get_within old at state here

      closed : (i : ℕ) (one : State K) → i < at + 1 → slice_get new i ≡ Some one
          → AreNextIn start height breadth step new one
      closed i one before there label next e = ⊎_elim
          (λ earlier.
          let was = get_back old worked.more i one (omega (arith, earlier, room))
          (sym (ap (λ l. slice_get l i) worked.grown) ∙ there) in
          subst (λ (l : List (State K)). Contains l next) (sym worked.grown)
          (Contains-append_left old worked.more next (h.closed i one earlier was label next e)))
          (λ late.
          let same : i ≡ at = omega (arith, before, late) in
          let own = some_same one state (sym there ∙ ap (slice_get new) same ∙ stays) in
          worked.next label next (ap (λ s. next_of height breadth step s label) (sym own) ∙ e))
          (cases_lt i at)

  -- the first state is listed
  pub listed_first : (states : List (State K)) → states ≡ state_at 0 start ∷ []
      → AreListed start height breadth step 0 states
  listed_first states same =
      subst (AreListed start height breadth step 0) (sym same) record {
        are = record {
          first = refl;
          once = λ i j d l m. absurd (omega (arith, l, m));
          each = λ k d l. by k d l;
          deeper = λ i j d l m. absurd (omega (arith, l, m));
        };
        few = omega arith;
        closed = λ at state l e. absurd (omega (arith, l));
        near = λ at state l e k d m. shallow state.depth k d m;
      }
    where
      by : (k : ℕ) (d : State K) → k < 1 → IsState start height breadth step (get_or (state_at 0 start ∷ []) k d)
      by zero d l = record { path = []; leads = refl }
      by (suc k) d l = absurd (omega (arith, l))

      shallow : (n k : ℕ) (d : State K) → k < 1 → (get_or (state_at 0 start ∷ []) k d).depth ≤ n + 1
      shallow n zero d l = omega arith
      shallow n (suc k) d l = absurd (omega (arith, l))

  -- where all are worked, all states are there
  pub all_listed : (at : ℕ) (tally : Tally) (states : List (State K)) → AreListed start height breadth step at states
      → AreCounted height breadth step at tally states → length states ≤ at
      → AreAllStates start height breadth step states
  all_listed at tally states h counted past =
      let whole = take_all at states past in
      record {
        are = h.are;
        closed = λ i state there. h.closed i state (omega (arith, past, slice_get_within states i state there)) there;
        few = h.few;
        few_labels = omega (arith, counted.few_labels, counted.labels, ap (sum_by (labels_of height breadth)) whole);
        few_edges = omega (arith, counted.few_edges, counted.edges, ap (sum_by (edges_of height breadth step)) whole);
      }

  -- ---- all states

  pub all_there : (states : List (State K)) → AreAllStates start height breadth step states → (state : State K)
      (path : List ℕ) (from : State K) → Contains states from → state_from height breadth step from path ≡ Some state
      → Contains states state
  all_there states all state [] from there e = subst (Contains states) (some_same from state e) there
  all_there states all state (label ∷ path) from there e =
      on (next_of height breadth step from label) refl e (λ next within. all_there states all state path next within)
    where
      on : (o : Option (State K)) → next_of height breadth step from label ≡ o
          → option_and_then (λ next. state_from height breadth step next path) o ≡ Some state
          → ((next : State K) → Contains states next → state_from height breadth step next path ≡ Some state
          → Contains states state)
          → Contains states state
      on None is e onward = cc
      on (Some next) is e onward =
          onward next (all.closed there.0 from (get_there states from there) label next is) e

  pub fits : (states : List (State K)) → AreAllStates start height breadth step states
      → IsTooLarge start height breadth step → ⊥
  fits states all large =
      ⊎_elim (λ many. absurd (omega (arith, many, all.few, length-within large.states states large.once inside)))
      (λ rest. ⊎_elim
      (λ many. absurd (omega (
        arith,
        many,
        all.few_edges,
        sum-within (edges_of height breadth step) large.states states large.once inside,
      )))
      (λ many. absurd (omega (
        arith,
        many,
        all.few_labels,
        sum-within (labels_of height breadth) large.states states large.once inside,
      )))
      rest)
      large.more
    where
      first : Contains states (state_at 0 start)
      first = (
        0,
        slice_get_within states 0 (state_at 0 start) all.are.first,
        get_or_from_slice_get states 0 (state_at 0 start) (state_at 0 start) all.are.first,
      )

      inside : (state : State K) → Contains large.states state → Contains states state
      inside state there =
          let is = subst (IsState start height breadth step) there.2 (large.each there.0 state there.1) in
          all_there states all state is.path (state_at 0 start) first is.leads
