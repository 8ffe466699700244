-- Steps of a search of the front. An entry is taken (`IsOpen-first`), its children are met
-- (`IsOpen-add`), and it is done (`IsClosed-opened`, `IsClosed-leaf`). What is known where nothing
-- waits (`few_last`, `few_live`), and of the floor of the entry that is taken (`few_below`); what
-- is known of the leaves that are kept then stands in `Nth`.
use Rattle.std.proofs.Common.{◌≡◌, ◌≢◌, ℕ, ◌+◌, ◌<◌, ◌≤◌, inl, ⊎_elim, List, [], ◌∷◌, ◌++◌, length, zero, suc, Option, Some, None, All, IsPermutation, refl, sym, ap, subst, ◌∙◌, arith}
use Rattle.std.proofs.lemmas.List.{get_or_append_left, get_or_push, length_push, length-append}
use Rattle.std.proofs.lemmas.List.Elements.{All-map, All-nil}
use Rattle.std.proofs.lemmas.Bool.{cases_lt, cases_eq}
use Rattle.tree_search.specs.Answer.{AtMost, IsLoaded, IsLiveBelowRoot}
use Rattle.tree_search.specs.Space.{FloorsGrow}
use Rattle.tree_search.specs.declared.links.Link.{Link}
use Rattle.tree_search.specs.Links.{path_in}
use Rattle.tree_search.specs.Entries.{Entry, numbers}
use Rattle.tree_search.specs.Finds.{Leaf, Covers, TakesIn, leaf_numbers}
use Rattle.tree_search.specs.Fronts.{times, IsFront, IsMet, IsOpening, IsSearch, floor_of, floor_in}
use Rattle.tree_search.proofs.Arena.{path_in-earlier, path_in-last}
use Rattle.tree_search.proofs.Waits.{times-same, times-other, times-permutation, All_at, All_from}
use Rattle.tree_search.proofs.Entered.{numbers-permutation, HaveFloors-add, HaveFloors-rest, taken_floor, least_number}
use Rattle.tree_search.proofs.Trails.{some_of}
use Rattle.tree_search.proofs.Frontier.{IsFront-add, IsOpening-add, IsOpening-passed, IsFront-opened, IsFront-leaf, IsFront-pop, IsOpening-pop, child_not_root}
use Rattle.tree_search.proofs.Floors.{none_from}
use Rattle.tree_search.proofs.Loads.{at_most_loaded, at_most_live}
use Rattle.tree_search.proofs.Kept.{taken_met, taken_once, taken_covers, taken_keeps}

times_none : (n : ℕ) (xs : List ℕ) → (0 < times n xs → ⊥) → times n xs ≡ 0
times_none n xs never = ⊎_elim (λ some. absurd (never some)) (λ none. omega (arith, none)) (cases_lt 0 (times n xs))

module _ {live : List ℕ → Option ℕ} {width : List ℕ → ℕ} {height : ℕ} (grows : FloorsGrow live width height)
    {most : ℕ} {links : List Link} {waiting : List Entry} {leaves : List Leaf} {c k : ℕ}
    (search : IsSearch live height most links waiting leaves (λ i. i ≡ c) (floor_in live links c))
    (opening : IsOpening live (length links + 1) (path_in links) (λ i. times i (numbers waiting)) c k) where
  -- past children that are dead
  pub IsOpen-passed : (to : ℕ) → k ≤ to
      → ((j floor : ℕ) → k ≤ j → j < to → live (path_in links c ++ j ∷ []) ≡ Some floor → ⊥) →
      IsSearch live height most links waiting leaves (λ i. i ≡ c) (floor_in live links c)
      × IsOpening live (length links + 1) (path_in links) (λ i. times i (numbers waiting)) c to
  IsOpen-passed to le dead = (search, IsOpening-passed to le dead opening)

  -- what is kept, where no entry is open
  met_closed : All (IsMet live height (length links + 1) (path_in links) (λ i. times i (numbers waiting)) (λ _. ⊥)
      (floor_in live links c)) leaves
  met_closed i d inside =
      let h = search.met i d inside in
      record {
        within = h.within;
        is = h.is;
        leads = h.leads;
        low = h.low;
        taken = h.taken;
        unspared = λ never. never;
      }

  -- all children are met
  pub IsClosed-opened : width (path_in links c) ≤ k → length (path_in links c) < height
      → IsSearch live height most links waiting leaves (λ _. ⊥) (floor_in live links c)
  IsClosed-opened all above = record {
    front = IsFront-opened grows c k search.front opening all above refl;
    met = met_closed;
    once = search.once;
    linked = search.linked;
    floors = search.floors;
  }

  -- it is a leaf, and taken in
  module _ {leaves' : List Leaf} {f : ℕ} (floor : floor_in live links c ≡ f) (long : length (path_in links c) ≡ height)
      (more : TakesIn most leaves leaves' f (path_in links c) c) where
    own_met : IsMet live height (length links + 1) (path_in links) (λ i. times i (numbers waiting)) (λ _. ⊥)
        (floor_in live links c) more.leaf
    own_met = record {
      within = omega (arith, more.entry_is, opening.here);
      is = ap (λ (i : ℕ). path_in links i) more.entry_is ∙ sym more.path_is;
      leads = (
        ap (λ (p : List ℕ). length p) more.path_is ∙ long,
        ap live more.path_is ∙ search.front.floors c opening.here ∙ ap Some (floor ∙ sym more.value_is),
      );
      low = omega (arith, more.value_is, floor);
      taken = ap (λ (i : ℕ). times i (numbers waiting)) more.entry_is ∙ opening.taken;
      unspared = λ never. never;
    }

    fresh : times c (leaf_numbers leaves) ≡ 0
    fresh = times_none c (leaf_numbers leaves)
        (λ some. All_at (λ j. j ≢ c) (leaf_numbers leaves) c
        (All-map (λ j. j ≢ c) (λ (leaf : Leaf). leaf.1.1) leaves (λ i d inside. (search.met i d inside).unspared)) some
        refl)

    pub IsClosed-leaf : IsSearch live height most links waiting leaves' (λ _. ⊥) (floor_in live links c)
    IsClosed-leaf = record {
      front = IsFront-leaf grows c (Covers most leaves') search.front
          (taken_keeps search.front.differ more met_closed own_met search.once fresh) long refl
          (subst (λ (v : ℕ). Covers most leaves' (path_in links c) v) (sym floor)
          (taken_covers search.front.differ more met_closed own_met search.once fresh));
      met = taken_met search.front.differ more met_closed own_met search.once fresh;
      once = taken_once search.front.differ more met_closed own_met search.once fresh;
      linked = search.linked;
      floors = search.floors;
    }

  module _ {waiting' : List Entry} {f : ℕ}
      (added : IsPermutation ((record { 0 = f }, length links + 1) ∷ waiting) waiting') where
    earlier : (i : ℕ) → i < length links + 1 → path_in (links ++ record { parent = c; child = k } ∷ []) i ≡
        path_in links i
    earlier i within = path_in-earlier links (record { parent = c; child = k }) i (omega (arith, within))

    last : path_in (links ++ record { parent = c; child = k } ∷ []) (length links + 1) ≡ path_in links c ++ k ∷ []
    last = path_in-last links (record { parent = c; child = k }) (length links + 1) refl

    more : IsPermutation ((length links + 1) ∷ numbers waiting) (numbers waiting')
    more = numbers-permutation ((record { 0 = f }, length links + 1) ∷ waiting) waiting' added

    new_waits : times (length links + 1) (numbers waiting') ≡ 1
    new_waits =
        let none = times_none (length links + 1) (numbers waiting)
        (λ some. omega (arith, search.front.within (length links + 1) some)) in
        let one = times-same (length links + 1) (numbers waiting) in
        omega (
          arith,
          none,
          one,
          times-permutation (length links + 1) ((length links + 1) ∷ numbers waiting)
              (numbers waiting') more,
        )

    old_waits : (i : ℕ) → i ≢ length links + 1 → times i (numbers waiting') ≡ times i (numbers waiting)
    old_waits i differ =
        times-permutation i ((length links + 1) ∷ numbers waiting) (numbers waiting') more
        ∙ times-other i (length links + 1) (numbers waiting) (λ e. differ (sym e))

    floor_stays : floor_in live (links ++ record { parent = c; child = k } ∷ []) c ≡ floor_in live links c
    floor_stays = ap (λ (p : List ℕ). floor_of (live p)) (earlier c opening.here)

    met_later : All (IsMet live height (length links + 1 + 1) (path_in (links ++ record { parent = c; child = k } ∷ []))
        (λ i. times i (numbers waiting')) (λ i. i ≡ c) (floor_in live links c)) leaves
    met_later i d inside =
        let h = search.met i d inside in
        record {
          within = omega (arith, h.within);
          is = earlier _ h.within ∙ h.is;
          leads = h.leads;
          low = h.low;
          taken = old_waits _ (omega (arith, h.within)) ∙ h.taken;
          unspared = h.unspared;
        }

    IsSearch-add : live (path_in links c ++ k ∷ []) ≡ Some f →
        IsSearch live height most (links ++ record { parent = c; child = k } ∷ []) waiting' leaves
        (λ i. i ≡ c) (floor_in live links c)
    IsSearch-add is =
        let link : Link = record { parent = c; child = k } in
        record {
          front = subst
              (λ (n : ℕ). IsFront live height (n + 1) (path_in (links ++ link ∷ []))
              (floor_in live (links ++ link ∷ [])) (λ i. times i (numbers waiting')) (λ i. i ≡ c)
              (Covers most leaves) (floor_in live links c))
              (sym (length_push links link))
              (IsFront-add grows search.front (path_in (links ++ link ∷ []))
              (floor_in live (links ++ link ∷ [])) (λ i. times i (numbers waiting')) c k f opening refl is
              earlier last (λ i within. ap (λ (p : List ℕ). floor_of (live p)) (earlier i within))
              (ap (λ (p : List ℕ). floor_of (live p)) last ∙ ap floor_of is) old_waits new_waits);
          met = subst
              (λ (n : ℕ). All (IsMet live height (n + 1) (path_in (links ++ link ∷ []))
              (λ i. times i (numbers waiting')) (λ i. i ≡ c) (floor_in live links c)) leaves)
              (sym (length_push links link)) met_later;
          once = search.once;
          linked = λ j d within. ⊎_elim
              (λ less. subst (λ (x : Link). x.parent ≤ j)
              (sym (get_or_append_left links (link ∷ []) d j less)) (search.linked j d less))
              (λ more.
              let e : j ≡ length links = omega (arith, within, more, length_push links link) in
              subst (λ (x : Link). x.parent ≤ j) (sym (get_or_push links link d j (sym e)))
              (omega (arith, opening.here, e)))
              (cases_lt j (length links));
          floors = HaveFloors-add live links (links ++ link ∷ []) f (length links + 1) waiting waiting'
              (ap live last ∙ is) earlier
              (All_from (λ i. i < length links + 1) (numbers waiting) search.front.within) search.floors added;
        }

    IsOpening-more : IsOpening live (length (links ++ record { parent = c; child = k } ∷ []) + 1)
        (path_in (links ++ record { parent = c; child = k } ∷ [])) (λ i. times i (numbers waiting')) c (k + 1)
    IsOpening-more =
        let link : Link = record { parent = c; child = k } in
        subst (λ (n : ℕ). IsOpening live (n + 1) (path_in (links ++ link ∷ []))
        (λ i. times i (numbers waiting')) c (k + 1)) (sym (length_push links link))
        (IsOpening-add grows search.front (path_in (links ++ link ∷ [])) (λ i. times i (numbers waiting')) c k
        opening earlier last old_waits)

    -- a live child more
    pub IsOpen-add : (links' : List Link) (most' : ℕ) (leaves' : List Leaf)
        → links' ≡ links ++ record { parent = c; child = k } ∷ [] → most' ≡ most → leaves' ≡ leaves →
        live (path_in links c ++ k ∷ []) ≡ Some f →
        IsSearch live height most' links' waiting' leaves' (λ i. i ≡ c) (floor_in live links' c)
        × IsOpening live (length links' + 1) (path_in links') (λ i. times i (numbers waiting')) c (k + 1)
    IsOpen-add links' most' leaves' a b d is =
        let link : Link = record { parent = c; child = k } in
        rw (a, b, d) (
          subst (λ (r : ℕ). IsSearch live height most (links ++ link ∷ []) waiting' leaves (λ i. i ≡ c) r)
              (sym floor_stays) (IsSearch-add is),
          IsOpening-more,
        )

    pub path_stays : (links' : List Link) → links' ≡ links ++ record { parent = c; child = k } ∷ []
        → path_in links' c ≡ path_in links c
    path_stays links' a = ap (λ (ls : List Link). path_in ls c) a ∙ earlier c opening.here

-- under a dead root nothing is live
pub few_from_dead : {live : List ℕ → Option ℕ} {width : List ℕ → ℕ} {height : ℕ}
    → FloorsGrow live width height → (budget : ℕ) → live [] ≡ None → AtMost (IsLiveBelowRoot live) budget
few_from_dead grows budget dead [] differ kind = omega arith
few_from_dead {live} grows budget dead (x ∷ xs) differ kind =
    let floor = some_of (live x) kind.0.0 in
    absurd (none_from grows [] x floor.0 dead floor.1 (x, refl))

pub times_empty : (waiting : List Entry) → waiting ≡ [] → (i : ℕ) → 0 < times i (numbers waiting) → ⊥
times_empty [] e i some = omega (arith, some)
times_empty (x ∷ xs) e i some = cc

module _ {live : List ℕ → Option ℕ} {width : List ℕ → ℕ} {height : ℕ} (grows : FloorsGrow live width height)
    {most : ℕ} {links : List Link} {waiting : List Entry} {leaves : List Leaf} {reached : ℕ}
    (search : IsSearch live height most links waiting leaves (λ _. ⊥) reached) where
  few_loaded : (x budget : ℕ) → length links ≤ budget
      → ((i : ℕ) → 0 < times i (numbers waiting) → x < floor_in live links i) → AtMost (IsLoaded live x) budget
  few_loaded x budget room higher = λ paths differ kind.
      omega (
        arith,
        room,
        at_most_loaded grows search.front x
            (λ i within open_yet. ⊎_elim (higher i) (λ never. absurd never) open_yet) paths differ kind,
      )

  -- nothing waits
  module _ (empty : waiting ≡ []) where
    pub few_last : (x budget : ℕ) → length links ≤ budget → AtMost (IsLoaded live x) budget
    few_last x budget room = few_loaded x budget room (λ i some. absurd (times_empty waiting empty i some))

    pub few_live : (budget : ℕ) → length links ≤ budget → AtMost (IsLiveBelowRoot live) budget
    few_live budget room = λ paths differ kind.
        omega (
          arith,
          room,
          at_most_live grows search.front
              (λ i within open_yet. ⊎_elim (times_empty waiting empty i) (λ never. never) open_yet) paths differ kind,
        )

  -- an entry of least floor is taken
  module _ {waiting' : List Entry} {f c : ℕ}
      (taken : IsPermutation waiting ((record { 0 = f }, c) ∷ waiting'))
      (least : All (λ other. f ≤ other.0.0) waiting') where
    moved : IsPermutation (numbers waiting) (c ∷ numbers waiting')
    moved = numbers-permutation waiting ((record { 0 = f }, c) ∷ waiting') taken

    one : times c (numbers waiting) ≡ 1 + times c (numbers waiting')
    one = sym (times-permutation c (numbers waiting) (c ∷ numbers waiting') moved) ∙ times-same c (numbers waiting')

    others_stay : (i : ℕ) → i ≢ c → times i (numbers waiting') ≡ times i (numbers waiting)
    others_stay i differ = sym (times-other i c (numbers waiting') (λ e. differ (sym e)))
        ∙ times-permutation i (numbers waiting) (c ∷ numbers waiting') moved

    waits : 0 < times c (numbers waiting)
    waits = omega (arith, one)

    none : times c (numbers waiting') ≡ 0
    none = omega (arith, one, search.front.once c)

    pub floor_live : live (path_in links c) ≡ Some f
    floor_live = taken_floor live links f c waiting waiting' search.floors taken

    pub floor_is : floor_in live links c ≡ f
    floor_is = ap floor_of floor_live

    pub taken_within : c ≤ length links
    taken_within = omega (arith, search.front.within c waits)

    -- none that waited is lower
    pub low : (i : ℕ) → 0 < times i (numbers waiting) → f ≤ floor_in live links i
    low i some = ⊎_elim
        (λ e. subst (λ (j : ℕ). f ≤ floor_in live links j) (sym e) (omega (arith, floor_is)))
        (λ differ. All_at (λ j. f ≤ floor_in live links j) (numbers waiting') i
        (least_number live links f c waiting waiting' search.floors taken least)
        (omega (arith, some, others_stay i differ)))
        (cases_eq i c)

    -- no path of an entry is longer than a leaf's
    pub no_longer : length (path_in links c) ≤ height
    no_longer = by_entry c (omega (arith, taken_within))
      where
        by_entry : (i : ℕ) → i < length links + 1 → length (path_in links i) ≤ height
        by_entry zero within = omega (arith, ap (λ (p : List ℕ). length p) search.front.root)
        by_entry (suc i) within =
            let h = search.front.parents (suc i) (omega arith) within in
            let own = search.front.floors (suc i) within in
            let parent = grows (path_in links h.parent) h.child (floor_in live links (suc i))
            (ap live (sym h.is) ∙ own) in
            omega (
              arith,
              ap (λ (p : List ℕ). length p) h.is,
              length-append (path_in links h.parent)
                  (h.child ∷ []),
              parent.above,
            )

    pub few_below : (x budget : ℕ) → x < f → length links ≤ budget → AtMost (IsLoaded live x) budget
    few_below x budget less room = few_loaded x budget room (λ i some. omega (arith, less, low i some))

    -- what is kept was reached before
    met_then : All (IsMet live height (length links + 1) (path_in links) (λ i. times i (numbers waiting')) (λ i. i ≡ c)
        (floor_in live links c)) leaves
    met_then i d inside =
        let h = search.met i d inside in
        record {
          within = h.within;
          is = h.is;
          leads = h.leads;
          low = omega (arith, h.low, floor_is, search.front.high c waits);
          taken = others_stay _ (λ e. waited _ e h.taken) ∙ h.taken;
          unspared = λ e. waited _ e h.taken;
        }
      where
        waited : (j : ℕ) → j ≡ c → times j (numbers waiting) ≡ 0 → ⊥
        waited j e none = let some = subst (λ (i : ℕ). 0 < times i (numbers waiting)) (sym e) waits in
            omega (arith, some, none)

    IsSearch-pop : IsSearch live height most links waiting' leaves (λ i. i ≡ c) (floor_in live links c)
    IsSearch-pop =
        let rest = least_number live links f c waiting waiting' search.floors taken least in
        record {
          front = IsFront-pop grows (λ i. times i (numbers waiting')) c search.front waits none others_stay
              (λ j some. omega
              (arith, floor_is, All_at (λ j. f ≤ floor_in live links j) (numbers waiting') j rest some));
          met = met_then;
          once = search.once;
          linked = search.linked;
          floors = HaveFloors-rest live links f c waiting waiting' search.floors taken;
        }

    -- the entry is open, and none of its children is met
    pub IsOpen-first :
        IsSearch live height most links waiting' leaves (λ i. i ≡ c) (floor_in live links c)
        × IsOpening live (length links + 1) (path_in links) (λ i. times i (numbers waiting')) c 0
    IsOpen-first =
        (IsSearch-pop, IsOpening-pop grows search.front (λ i. times i (numbers waiting')) c waits none)

-- the root alone
IsClosed-root : (live : List ℕ → Option ℕ) (height most f : ℕ) (waiting : List Entry)
    → live [] ≡ Some f → IsPermutation ((record { 0 = f }, 0) ∷ []) waiting
    → IsSearch live height most [] waiting [] (λ _. ⊥) f
IsClosed-root live height most f waiting is added =
    let moved = numbers-permutation ((record { 0 = f }, 0) ∷ []) waiting added in
    let own : floor_in live [] 0 ≡ f = ap floor_of is in
    let at_root : (i : ℕ) → 0 < times i (numbers waiting) → i ≡ 0 = λ i some. ⊎_elim (λ e. e)
    (λ ne. absurd
    (omega (
      arith,
      some,
      times-permutation i (0 ∷ []) (numbers waiting) moved,
      times-other i 0 []
          (λ e. ne (sym e)),
    ))) (cases_eq i 0) in
    record {
      front = record {
        root = refl;
        some = omega arith;
        floors = λ i within. let e : i ≡ 0 = omega (arith, within) in
            subst (λ (j : ℕ). live (path_in [] j) ≡ Some (floor_in live [] j)) (sym e) (is ∙ ap Some (sym own));
        differ = λ i j wi wj same. omega (arith, wi, wj);
        parents = λ m some within. absurd (omega (arith, some, within));
        once = λ i. ⊎_elim
            (λ e. omega (
              arith,
              times-permutation i (0 ∷ []) (numbers waiting) moved,
              subst
                  (λ (j : ℕ). times j (0 ∷ []) ≡ 1) (sym e) (times-same 0 []),
            ))
            (λ ne. omega
            (arith, times-permutation i (0 ∷ []) (numbers waiting) moved, times-other i 0 [] (λ e. ne (sym e))))
            (cases_eq i 0);
        within = λ i some. omega (arith, at_root i some);
        high = λ i some. subst (λ (j : ℕ). f ≤ floor_in live [] j) (sym (at_root i some)) (omega (arith, own));
        fresh = λ i m k some within e. let zero_m : m ≡ 0 = omega (arith, within) in
            child_not_root (path_in [] i) k (sym e ∙ ap (path_in []) zero_m);
        done = λ i within. let e : i ≡ 0 = omega (arith, within) in
            inl (subst (λ (j : ℕ). 0 < times j (numbers waiting)) (sym e)
            (omega (arith, times-permutation 0 (0 ∷ []) (numbers waiting) moved, times-same 0 [])));
      };
      met = All-nil (IsMet live height 1 (path_in []) (λ i. times i (numbers waiting)) (λ _. ⊥) f);
      once = λ i. omega arith;
      linked = λ k d within. absurd (omega (arith, within));
      floors = HaveFloors-add live [] [] f 0 [] waiting is (λ i within. refl)
          (λ k d inside. absurd (omega (arith, inside))) (λ k d inside. absurd (omega (arith, inside))) added;
    }

pub starts : (live : List ℕ → Option ℕ) (height most f : ℕ) (links : List Link) (waiting : List Entry)
    (leaves : List Leaf) → live [] ≡ Some f → links ≡ [] → leaves ≡ []
    → IsPermutation ((record { 0 = f }, 0) ∷ []) waiting →
    (reached : ℕ) × IsSearch live height most links waiting leaves (λ _. ⊥) reached
starts live height most f links waiting leaves is a b added =
    (f, rw (a, b) (IsClosed-root live height most f waiting is added))
