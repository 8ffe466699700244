-- A trail goes on by one node.
use Rattle.std.proofs.Common.{◌≡◌, ℕ, ◌+◌, ◌<◌, ◌≤◌, ◌-◌, ⊎_elim, List, [], ◌∷◌, ◌++◌, length, take, set, get_or, Option, Some, None, IsSome, is_some, refl, sym, ap, subst, ◌∙◌, arith, length-set}
use Rattle.std.proofs.lemmas.Bool.{cases_lt}
use Rattle.std.proofs.lemmas.List.{take-set-le, take_more_set, length-take, length_push, get_or-set_same, get_or-set_other}
use Rattle.tree_search.specs.Space.{FloorsGrow, HasChild, HasLiveChild}
use Rattle.tree_search.specs.Trails.{AreEntriesOf, AreKept, HasPlaces, IsEntryOf, IsKept, IsPut, IsTrail, IsTrailTo, Leads, node_in}
use Rattle.tree_search.specs.declared.trail.Nodes.{Nodes}
use Rattle.tree_search.specs.declared.trail.Trail.{Trail}
use Rattle.tree_search.specs.declared.links.Link.{Link}
use Rattle.tree_search.specs.Links.{path_in, IsLinked}
use Rattle.tree_search.proofs.Arena.{path_in-earlier, path_in-last, path_by_link}

pub some_of : (o : Option ℕ) → IsSome o → (x : ℕ) × (o ≡ Some x)
some_of None e = cc
some_of (Some x) e = (x, refl)

pub is_there : (o : Option ℕ) (x : ℕ) → o ≡ Some x → IsSome o
is_there None x e = cc
is_there (Some y) x e = refl

pub never_both : (o : Option ℕ) (x : ℕ) → o ≡ None → o ≡ Some x → ⊥
never_both None x e f = cc
never_both (Some y) x e f = cc

-- a node with a live child has that child, and is of no leaf
pub has_child : {is_at : List ℕ → Type 0} {live : List ℕ → Option ℕ} {width : List ℕ → ℕ} {height k : ℕ} →
    FloorsGrow live width height → HasLiveChild is_at live k → HasChild is_at height width k
has_child {live} {k} grows child =
    let floor = some_of (live (child.path ++ k ∷ [])) child.is_live in
    let parent = grows child.path k floor.0 floor.1 in
    record { path = child.path; at = child.at; above = parent.above; within = parent.within }

places_kept : {N : Type 0} {height level : ℕ} {old new : Nodes N} → AreKept old new level → HasPlaces height old
    → HasPlaces height new
places_kept kept places = record { even = kept.even ∙ places.even; odd = kept.odd ∙ places.odd }

pub IsTrail-step : {N : Type 0} (is_at : N → List ℕ → Type 0) (height : ℕ) (path : List ℕ) (nodes nodes' : Nodes N)
    (level k : ℕ) →
    level < height → IsTrail is_at height path nodes level → AreKept nodes nodes' level
    → ((d : N) → is_at (node_in nodes' (level + 1) d) (take level path ++ k ∷ []))
    → IsTrail is_at height (set path level k) nodes' (level + 1)
IsTrail-step {N} is_at height path nodes nodes' level k above trail kept at = record {
  path_long = length-set path level k ∙ trail.path_long;
  places = places_kept kept trail.places;
  within = omega arith;
  nodes_at = λ j d le. ⊎_elim
      (λ less. subst (λ (p : List ℕ). is_at (node_in nodes' j d) p)
      (sym (take-set-le j path level k (omega arith)))
      (subst (λ (x : N). is_at x (take j path)) (sym (kept.same j d (omega arith)))
      (trail.nodes_at j d (omega arith))))
      (λ more.
      let e : j ≡ level + 1 = omega (arith, le, more) in
      subst (λ (i : ℕ). is_at (node_in nodes' i d) (take i (set path level k))) (sym e)
      (subst (λ (p : List ℕ). is_at (node_in nodes' (level + 1) d) p)
      (sym (take_more_set path level k (omega (arith, trail.path_long)))) (at d)))
      (cases_lt j (level + 1));
}

-- the parent of a live entry is live
pub parent_live : {live : List ℕ → Option ℕ} {width : List ℕ → ℕ} {height : ℕ} → FloorsGrow live width height
    → (links : List Link) (entry : ℕ) (d : Link) → IsLinked links → 0 < entry → entry ≤ length links
    → IsSome (live (path_in links entry)) → IsSome (live (path_in links (get_or links (entry - 1) d).parent))
parent_live {live} grows links entry d linked some within is =
    let link : Link = get_or links (entry - 1) d in
    let floor = some_of (live (path_in links entry)) is in
    ap is_some
    (grows (path_in links link.parent) link.child floor.0
    (ap live (sym (path_by_link links entry d linked some within)) ∙ floor.1)).is_live

-- a path with a live child is not a leaf's
pub above_child : {N : Type 0} {is_at : N → List ℕ → Type 0} {live : List ℕ → Option ℕ} {width : List ℕ → ℕ}
    {height : ℕ} {path : List ℕ} {nodes : Nodes N} {level : ℕ} →
    FloorsGrow live width height → IsTrail is_at height path nodes level → (k : ℕ)
    → IsSome (live (take level path ++ k ∷ [])) → level < height
above_child {live} {path} {level} grows trail k is =
    let floor = some_of (live (take level path ++ k ∷ [])) is in
    omega (
      arith,
      (grows (take level path) k floor.0 floor.1).above,
      length-take level path,
      trail.path_long,
      trail.within,
    )

-- the node at the level, as it is read
pub node_there : {N : Type 0} {is_at : N → List ℕ → Type 0} {height : ℕ} {path : List ℕ} {nodes : Nodes N}
    {level : ℕ} → IsTrail is_at height path nodes level → (node : N) → node ≡ node_in nodes level node
    → is_at node (take level path)
node_there {N} {is_at} {path} {level} trail node read =
    subst (λ (x : N). is_at x (take level path)) (sym read) (trail.nodes_at level node (omega arith))

-- a child more: its entry stands behind the others
entries-step : (links links' : List Link) (path entries : List ℕ) (level k number : ℕ) → level < length path
    → level + 1 < length entries
    → ((i : ℕ) → i ≤ length links → (i ≤ length links') × (path_in links' i ≡ path_in links i))
    → IsEntryOf links' number (take level path ++ k ∷ []) → AreEntriesOf links path entries level
    → AreEntriesOf links' (set path level k) (set entries (level + 1) number) (level + 1)
entries-step links links' path entries level k number above within stays new earlier = λ j d le. ⊎_elim
    (λ less.
    let known = earlier j d (omega (arith, less)) in
    let kept = stays (get_or entries j d) known.0 in
    subst (λ (i : ℕ). IsEntryOf links' i (take j (set path level k)))
    (sym (get_or-set_other entries (level + 1) j number d (omega (arith, less))))
    (kept.0, kept.1 ∙ known.1 ∙ sym (take-set-le j path level k (omega (arith, less)))))
    (λ more.
    let e : j ≡ level + 1 = omega (arith, le, more) in
    subst (λ (i : ℕ). IsEntryOf links' (get_or (set entries (level + 1) number) i d) (take i (set path level k))) (sym e)
    (subst (λ (i : ℕ). IsEntryOf links' i (take (level + 1) (set path level k)))
    (sym (get_or-set_same entries (level + 1) number d within))
    (new.0, new.1 ∙ sym (take_more_set path level k above))))
    (cases_lt j (level + 1))

-- the root's entry stays the first
root-step : (entries : List ℕ) (level number : ℕ) → ((d : ℕ) → get_or entries 0 d ≡ 0)
    → (d : ℕ) → get_or (set entries (level + 1) number) 0 d ≡ 0
root-step entries level number root d = get_or-set_other entries (level + 1) 0 number d (omega arith) ∙ root d

module _ {N : Type 0} {is_at : N → List ℕ → Type 0} {height : ℕ} {links : List Link} {path : List ℕ}
    {nodes : Nodes N} {entries : List ℕ} {level entry : ℕ}
    (trail : IsTrailTo is_at height links path nodes entries level entry) where
  -- no further than a level, to the entry that is read there
  pub trail_up : (level' : ℕ) → level' ≤ level → (number : ℕ) → number ≡ get_or entries level' number
      → IsTrailTo is_at height links path nodes entries level' number
  trail_up level' le number read =
      let known = subst (λ (i : ℕ). IsEntryOf links i (take level' path)) (sym read)
      (trail.earlier level' number le) in
      record {
        trail = record {
          path_long = trail.trail.path_long;
          places = trail.trail.places;
          within = omega (arith, trail.trail.within, le);
          nodes_at = λ j e less. trail.trail.nodes_at j e (omega (arith, less, le));
        };
        entries_long = trail.entries_long;
        root = trail.root;
        earlier = λ j e less. trail.earlier j e (omega (arith, less, le));
        entry_within = known.0;
        leads = sym known.1;
      }

  -- to the same entry where there is a link more
  pub trail_stays : (link : Link) (links' : List Link) → links' ≡ links ++ link ∷ []
      → IsTrailTo is_at height links' path nodes entries level entry
  trail_stays link links' a = rw a (record {
    trail = trail.trail;
    entries_long = trail.entries_long;
    root = trail.root;
    earlier = λ j d le.
        let known = trail.earlier j d le in (
          omega (arith, known.0, length_push links link),
          path_in-earlier links link (get_or entries j d) known.0 ∙ known.1,
        );
    entry_within = omega (arith, trail.entry_within, length_push links link);
    leads = trail.leads ∙ sym (path_in-earlier links link entry trail.entry_within);
  })

  -- on to the entry of a child
  pub trail_on : (k number : ℕ) (path' : List ℕ) (nodes' : Nodes N) (entries' : List ℕ) (level' : ℕ) → level < height
      → IsTrail is_at height path' nodes' level' → path' ≡ set path level k
      → entries' ≡ set entries (level + 1) number → level' ≡ level + 1 → number ≤ length links
      → path_in links number ≡ path_in links entry ++ k ∷ []
      → IsTrailTo is_at height links path' nodes' entries' level' number
  trail_on k number path' nodes' entries' level' above at a b e within is =
      let child : path_in links number ≡ take level path ++ k ∷ [] = is ∙ ap (λ (p : List ℕ). p ++ k ∷ []) (sym trail.leads) in
      let inside : level < length path = omega (arith, trail.trail.path_long, above) in
      record {
        trail = at;
        entries_long = ap (λ (xs : List ℕ). length xs) b ∙ length-set entries (level + 1) number ∙ trail.entries_long;
        root = rw b (root-step entries level number trail.root);
        earlier = rw (a, b, e)
            (entries-step links links path entries level k number inside
            (omega (arith, trail.entries_long, above)) (λ i le. (le, refl)) (within, child) trail.earlier);
        entry_within = within;
        leads = rw (a, e) (take_more_set path level k inside ∙ sym child);
      }

module _ {N : Type 0} {is_at : N → List ℕ → Type 0} {height : ℕ} {links : List Link} {path : List ℕ}
    {nodes : Nodes N} {entries : List ℕ} {level entry : ℕ}
    (trail : IsTrailTo is_at height links path nodes entries level entry) (above : level < height) (k : ℕ) (child : N)
    (at : is_at child (path_in links entry ++ k ∷ [])) (nodes' : Nodes N) (put : IsPut nodes nodes' level child) where
  stepped : IsTrail is_at height (set path level k) nodes' (level + 1)
  stepped = IsTrail-step is_at height path nodes nodes' level k above trail.trail put.kept
      (λ d. subst (λ (x : N). is_at x (take level path ++ k ∷ [])) (sym (put.own d))
      (subst (λ (p : List ℕ). is_at child (p ++ k ∷ [])) (sym trail.leads) at))

  module _ (links' : List Link) (path' : List ℕ) (entries' : List ℕ) (number : ℕ)
      (a : links' ≡ links ++ record { parent = entry; child = k } ∷ [])
      (b : path' ≡ set path level k)
      (e : entries' ≡ set entries (level + 1) number) (f : number ≡ length links') where
    last : number ≡ length links + 1
    last = f ∙ ap (λ (ls : List Link). length ls) a ∙ length_push links (record { parent = entry; child = k })

    longer : number ≤ length (links ++ record { parent = entry; child = k } ∷ [])
    longer = omega (arith, last, length_push links (record { parent = entry; child = k }))

    known : AreEntriesOf (links ++ record { parent = entry; child = k } ∷ []) (set path level k)
        (set entries (level + 1) number) (level + 1)
    known = entries-step links (links ++ record { parent = entry; child = k } ∷ []) path entries level k number
        (omega (arith, trail.trail.path_long)) (omega (arith, trail.entries_long, above))
        (λ i le. (
          omega (arith, le, length_push links (record { parent = entry; child = k })),
          path_in-earlier links (record { parent = entry; child = k }) i le,
        )) (
          longer,
          path_in-last links (record { parent = entry; child = k }) number last
              ∙ ap (λ (p : List ℕ). p ++ k ∷ []) (sym trail.leads),
        ) trail.earlier

    -- the trail still leads to the parent
    pub trail_parent : IsTrailTo is_at height links' path' nodes' entries' level entry
    trail_parent = rw (a, b, e) (record {
      trail = record {
        path_long = stepped.path_long;
        places = stepped.places;
        within = omega arith;
        nodes_at = λ j x le. stepped.nodes_at j x (omega arith);
      };
      entries_long = length-set entries (level + 1) number ∙ trail.entries_long;
      root = root-step entries level number trail.root;
      earlier = λ j x le. known j x (omega (arith, le));
      entry_within = omega (arith, trail.entry_within, length_push links (record { parent = entry; child = k }));
      leads = take-set-le level path level k (omega arith) ∙ trail.leads
          ∙ sym (path_in-earlier links (record { parent = entry; child = k }) entry trail.entry_within);
    })

    -- and goes on to the child
    pub trail_child : (level' entry' : ℕ) → level' ≡ level + 1 → entry' ≡ number
        → IsTrailTo is_at height links' path' nodes' entries' level' entry'
    trail_child level' entry' g h =
        rw (a, b, e, g, h) (record {
          trail = stepped;
          entries_long = length-set entries (level + 1) number ∙ trail.entries_long;
          root = root-step entries level number trail.root;
          earlier = known;
          entry_within = longer;
          leads = take_more_set path level k (omega (arith, trail.trail.path_long))
              ∙ ap (λ (p : List ℕ). p ++ k ∷ []) trail.leads
              ∙ sym (path_in-last links (record { parent = entry; child = k }) number last);
        })

-- the node of the entry, as it is read
pub node_of : {N : Type 0} {is_at : N → List ℕ → Type 0} {height : ℕ} {links : List Link} {path : List ℕ}
    {nodes : Nodes N} {entries : List ℕ} {level entry : ℕ} →
    IsTrailTo is_at height links path nodes entries level entry → (node : N) → node ≡ node_in nodes level node
    → is_at node (path_in links entry)
node_of {is_at} trail node read = subst (λ (p : List ℕ). is_at node p) trail.leads (node_there trail.trail node read)

-- the level is how long the path is
pub level_is : {N : Type 0} {is_at : N → List ℕ → Type 0} {height : ℕ} {links : List Link} {path : List ℕ}
    {nodes : Nodes N} {entries : List ℕ} {level entry : ℕ} →
    IsTrailTo is_at height links path nodes entries level entry → length (path_in links entry) ≡ level
level_is {path} {level} trail =
    omega (
      arith,
      ap (λ (p : List ℕ). length p) trail.leads,
      length-take level path,
      trail.trail.path_long,
      trail.trail.within,
    )

-- a trail that is kept leads where it led
trail_kept : {N : Type 0} {is_at : N → List ℕ → Type 0} {height : ℕ} {links : List Link} {old new : Trail N}
    {level entry below : ℕ} → IsKept old new below
    → ((k : ℕ) (d : N) → k ≤ level → node_in new.nodes k d ≡ node_in old.nodes k d)
    → IsTrailTo is_at height links old.path.items old.nodes old.entries.items level entry
    → IsTrailTo is_at height links new.path.items new.nodes new.entries.items level entry
trail_kept {N} {is_at} {old} kept same trail = rw (kept.same_path, kept.same_entries) (record {
  trail = record {
    path_long = trail.trail.path_long;
    places = places_kept kept.nodes trail.trail.places;
    within = trail.trail.within;
    nodes_at = λ j d le. subst (λ (x : N). is_at x (take j old.path.items)) (sym (same j d le))
        (trail.trail.nodes_at j d le);
  };
  entries_long = trail.entries_long;
  root = trail.root;
  earlier = trail.earlier;
  entry_within = trail.entry_within;
  leads = trail.leads;
})

pub parent_kept : {N : Type 0} {is_at : N → List ℕ → Type 0} {height : ℕ} {links : List Link} {old new : Trail N}
    {level entry : ℕ} → IsKept old new level
    → IsTrailTo is_at height links old.path.items old.nodes old.entries.items level entry
    → IsTrailTo is_at height links new.path.items new.nodes new.entries.items level entry
parent_kept kept trail = trail_kept kept kept.nodes.same trail

pub leads_kept : {N : Type 0} {is_at : N → List ℕ → Type 0} {height : ℕ} {links : List Link} {old new : Trail N}
    {level : ℕ} → IsKept old new level → Leads is_at height links old → Leads is_at height links new
leads_kept kept trail = rw (kept.same_level, kept.same_entry) (trail_kept kept kept.further trail)

-- what was made below the level is made below the entry
pub made_below : {N : Type 0} {is_at : N → List ℕ → Type 0} {height : ℕ} {links : List Link} {path : List ℕ}
    {nodes : Nodes N} {entries : List ℕ} {level entry : ℕ} →
    IsTrailTo is_at height links path nodes entries level entry
    → (live : List ℕ → Option ℕ) (k : ℕ) (made : N) (floor : ℕ)
    → is_at made (take level path ++ k ∷ []) × (live (take level path ++ k ∷ []) ≡ Some floor)
    → is_at made (path_in links entry ++ k ∷ []) × (live (path_in links entry ++ k ∷ []) ≡ Some floor)
made_below {is_at} trail live k made floor is =
    subst (λ (p : List ℕ). is_at made (p ++ k ∷ []) × (live (p ++ k ∷ []) ≡ Some floor)) trail.leads is
