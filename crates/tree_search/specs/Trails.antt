-- The nodes of one path.
use Rattle.std.specs.Prelude.{◌≡◌, ℕ, ◌+◌, ◌/◌, ◌%◌, ◌==◌, ◌≤◌, List, cond, length, nat_lt, take, slice_index_or}
use Rattle.tree_search.specs.declared.trail.Nodes.{Nodes}
use Rattle.tree_search.specs.declared.links.Link.{Link}
use Rattle.tree_search.specs.declared.trail.Trail.{Trail}
use Rattle.tree_search.specs.Links.{path_in}

-- the node at a level
abbrev pub node_in : {N : Type 0} → Nodes N → ℕ → N → N
node_in nodes level d =
    cond (level % 2 == 0) (slice_index_or nodes.even.items (level / 2) d) (slice_index_or nodes.odd.items (level / 2) d)

-- there is a place for each level down to a leaf's
pub record HasPlaces {N : Type 0} (height : ℕ) (nodes : Nodes N) : Type 0 where
  pub even : length nodes.even.items ≡ height / 2 + 1
  pub odd : length nodes.odd.items ≡ height / 2 + 1

-- the nodes down to a level are as they were, and the places
pub record AreKept {N : Type 0} (old new : Nodes N) (level : ℕ) : Type 0 where
  pub even : length new.even.items ≡ length old.even.items
  pub odd : length new.odd.items ≡ length old.odd.items
  pub same : (k : ℕ) (d : N) → k ≤ level → node_in new k d ≡ node_in old k d

-- so they are, and at the next level stands this node
pub record IsPut {N : Type 0} (old new : Nodes N) (level : ℕ) (node : N) : Type 0 where
  pub kept : AreKept old new level
  pub own : (d : N) → node_in new (level + 1) d ≡ node

-- as far as the level, each node stands for the path that leads to it
pub record IsTrail {N : Type 0} (is_at : N → List ℕ → Type 0) (height : ℕ) (path : List ℕ) (nodes : Nodes N)
    (level : ℕ) : Type 0 where
  pub path_long : length path ≡ height
  pub places : HasPlaces height nodes
  pub within : level ≤ height
  pub nodes_at : (k : ℕ) (d : N) → k ≤ level → is_at (node_in nodes k d) (take k path)

-- the entry has this path
abbrev pub IsEntryOf : List Link → ℕ → List ℕ → Type 0
IsEntryOf links entry path = (entry ≤ length links) × (path_in links entry ≡ path)

-- as far as the level, these are the numbers of the entries on the path
abbrev pub AreEntriesOf : List Link → List ℕ → List ℕ → ℕ → Type 0
AreEntriesOf links path entries level =
    (k d : ℕ) → k ≤ level → IsEntryOf links (slice_index_or entries k d) (take k path)

-- the trail leads to this entry
pub record IsTrailTo {N : Type 0} (is_at : N → List ℕ → Type 0) (height : ℕ) (links : List Link)
    (path : List ℕ) (nodes : Nodes N) (entries : List ℕ) (level entry : ℕ) : Type 0 where
  pub trail : IsTrail is_at height path nodes level
  pub entries_long : length entries ≡ height + 1
  pub root : (d : ℕ) → slice_index_or entries 0 d ≡ 0
  pub earlier : AreEntriesOf links path entries level
  pub entry_within : entry ≤ length links
  pub leads : take level path ≡ path_in links entry

-- as far as the level, the trail leads to this entry
abbrev pub LeadsTo : {N : Type 0} → (N → List ℕ → Type 0) → ℕ → List Link → Trail N → ℕ → ℕ → Type 0
LeadsTo is_at height links trail level entry =
    IsTrailTo is_at height links trail.path.items trail.nodes trail.entries.items level entry

-- the trail leads to its own entry
abbrev pub Leads : {N : Type 0} → (N → List ℕ → Type 0) → ℕ → List Link → Trail N → Type 0
Leads is_at height links trail = LeadsTo is_at height links trail trail.level trail.entry

-- where a child of the node at a level is made: in the spare place, or at the next level where the
-- trail goes no further
abbrev pub made_in : {N : Type 0} → Trail N → ℕ → N
made_in trail level = cond (nat_lt level trail.level) trail.spare (node_in trail.nodes (level + 1) trail.spare)

-- but for that place the trail is as it was
pub record IsKept {N : Type 0} (old new : Trail N) (level : ℕ) : Type 0 where
  pub same_path : new.path.items ≡ old.path.items
  pub same_entries : new.entries.items ≡ old.entries.items
  pub same_level : new.level ≡ old.level
  pub same_entry : new.entry ≡ old.entry
  pub nodes : AreKept old.nodes new.nodes level
  pub further : (k : ℕ) (d : N) → k ≤ old.level → node_in new.nodes k d ≡ node_in old.nodes k d
