-- What a part of the open ends tells: what waits behind some columns for later ones, and how the
-- steps of a lawful setting lead from one column to the next (`FollowsLawful`). Two parts are one,
-- of which each goes on by itself.
use Rattle.std.specs.Prelude.{◌≡◌, ◌≢◌, ◌<◌, ◌≤◌, ℕ, Bool, ◌&&◌, List, [], ◌∷◌, ◌++◌, Option, Some, None, length, reverse, if◌then◌else◌}
use Rattle.fux_grid.specs.declared.cell.Cell.{Cell}
use Rattle.fux_grid.specs.declared.exercise.Exercise.{Exercise}
use Rattle.fux_grid.specs.Columns.{Columns, newest_column}
use Rattle.fux_judge.specs.Lawful.{IsLawful}
use Rattle.open_ends.specs.declared.both.Both.{Both}
use Rattle.open_ends.specs.declared.keeps.Keeps.{Keeps}

-- what waits behind some columns
abbrev pub Waits : Type 0 → Type 0
Waits Part = Exercise → Keeps → Columns → Part

-- what waits behind one column more: by its place, what waited before it, the column before it, and
-- the column; none where it breaks a rule
abbrev pub Step : Type 0 → Type 0
Step Part = Exercise → Keeps → ℕ → Part → List Cell → List Cell → Option Part

-- the step of a part that is read in some exercises: none where the column breaks its rule
abbrev pub where_read : {Part : Type 0} → Bool → Bool → Part → Part → Option Part
where_read read breaks nothing next = if read && breaks then None else Some (if read then next else nothing)

-- the species voice is a free one of at most four voices, in at least three bars
pub record HasVoices (ex : Exercise) : Type 0 where
  pub most_voices : ex.voices ≤ 4
  pub fewest_bars : 3 ≤ ex.bars
  pub species_there : ex.species_voice < ex.voices
  pub differ : ex.species_voice ≢ ex.cantus_voice

-- from prefix to prefix of a lawful setting no step is refused, and each leads to what waits behind
-- its column
pub record FollowsLawful {Part : Type 0} (ex : Exercise) (nothing : Part) (waits : Columns → Part)
    (after : ℕ → Part → List Cell → List Cell → Option Part) : Type 0 where
  pub first : waits [] ≡ nothing
  pub next : (p : Columns) (col : List Cell) (more : Columns) → IsLawful ex (p ++ col ∷ more)
      → after (length p) (waits p) (newest_column (reverse p)) col ≡ Some (waits (p ++ col ∷ []))

-- ---- two parts as one

abbrev pub both : {P Q : Type 0} → P → Q → Both P Q
both first second = record { first = first; second = second }

abbrev pub both_in : {P Q : Type 0} → Waits P → Waits Q → Waits (Both P Q)
both_in first second ex keeps p = both (first ex keeps p) (second ex keeps p)

-- what both wait for; none where one of them refuses the column
abbrev pub if_both : {P Q : Type 0} → Option P → Option Q → Option (Both P Q)
if_both None second = None
if_both (Some p) None = None
if_both (Some p) (Some q) = Some (both p q)

abbrev pub both_after : {P Q : Type 0} → Step P → Step Q → Step (Both P Q)
both_after first second ex keeps i kept before now =
    if_both (first ex keeps i kept.first before now) (second ex keeps i kept.second before now)
