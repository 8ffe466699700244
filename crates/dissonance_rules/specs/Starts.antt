-- What is kept of a prefix for S15 and S27: where each voice's latest notes start.
use Rattle.std.specs.Prelude.{◌≡◌, ℕ, ◌+◌, ◌-◌, ◌<◌, ◌≤◌, ◌==◌, ◌&&◌, ◌||◌, Bool, true, false, not, nat_le, List, [], ◌∷◌, ◌++◌, Some, length, slice_get, slice_index_or, if◌then◌else◌}
use Rattle.fux_grid.specs.declared.cell.Cell.{Cell}
use Rattle.fux_grid.specs.declared.exercise.Exercise.{Exercise}
use Rattle.fux_grid.specs.Cells.{cell_in}
use Rattle.fux_grid.specs.Columns.{Columns, onsets_since}
use Rattle.fux_grid.specs.Exercises.{species_in}
use Rattle.rule_law.specs.Around.{AreKeptFrom}
use Rattle.rule_law.specs.Bars.{begins_bar}
use Rattle.rule_law.specs.Newest.{AreNewestOf}
use Rattle.rule_law.specs.Prefixes.{GoesOn}
use Rattle.rule_law.specs.Rulebooks.{IsAmong, newly_breaks}
use Rattle.rule_law.specs.Terms.{starts}
use Rattle.rule_law.specs.Voices.{is_free, pair_of}
use Rattle.rule_law.specs.declared.newest.NewestColumns.{NewestColumns}
use Rattle.dissonance_rules.specs.Book.{late_count, late_first, late_row}
use Rattle.dissonance_rules.specs.Passing.{has_ornaments, notes_needed}
use Rattle.dissonance_rules.specs.declared.starts.LatestStarts.{LatestStarts}

-- so many notes of a voice start from a column on
abbrev pub starts_from : Columns → ℕ → ℕ → ℕ
starts_from p v i = length (onsets_since p v i)

-- the n-th latest note of a voice starts in the column before this one: from each column before it
-- on n notes start at least, and from it on fewer
pub record IsNthStart (n : ℕ) (p : Columns) (v behind : ℕ) : Type 0 where
  pub many : (i : ℕ) → i < behind → n ≤ starts_from p v i
  pub few : (i : ℕ) → behind ≤ i → starts_from p v i < n

-- the latest note of a voice of a species starts there, the one before it, and the one that the
-- latest tells of: as many as are needed come after that
pub record IsStartsOf (species : ℕ) (p : Columns) (v : ℕ) (kept : LatestStarts) : Type 0 where
  pub latest : IsNthStart 1 p v kept.latest
  pub second : IsNthStart 2 p v kept.second
  pub told : IsNthStart (notes_needed species + 1) p v kept.told

-- those of each voice do
abbrev pub AreStartsOf : Exercise → Columns → List LatestStarts → Type 0
AreStartsOf ex p voices =
    (v : ℕ) (kept : LatestStarts) → slice_get voices v ≡ Some kept → IsStartsOf (species_in ex v) p v kept

-- no note has started
abbrev pub no_starts : LatestStarts
no_starts = record { latest = 0; second = 0; told = 0 }

-- what the next note of a voice tells of: in species 3 and 5 the note before the latest one, else
-- the latest one
abbrev pub next_told : ℕ → LatestStarts → ℕ
next_told species kept = if has_ornaments species then kept.second else kept.latest

-- the latest note of a voice tells what its note at a place is
abbrev pub is_told_at : List LatestStarts → ℕ → ℕ → Bool
is_told_at voices place v = (slice_index_or voices v no_starts).told == place + 1

-- the latest note of a free voice starts in a column, and tells what its note at a place is
pub record IsTelling (ex : Exercise) (voices : List LatestStarts) (last place v : ℕ) : Type 0 where
  pub there : v < ex.voices
  pub free : is_free ex v ≡ true
  pub latest : (slice_index_or voices v no_starts).latest ≡ last + 1
  pub told : (slice_index_or voices v no_starts).told ≡ place + 1

-- so many places from a start on have each one from a first one on, before the column and within a
-- bar, that is told so
abbrev pub HasTold : Exercise → List LatestStarts → ℕ → ℕ → ℕ → ℕ → Type 0
HasTold ex voices first last start count =
    (v i : ℕ) → IsTelling ex voices last i v → first ≤ i → i < last → begins_bar i ≡ false → IsAmong start count i

-- whatever is kept of them: of the rule's places the last column settles a break at none but so many
-- from a first one on
abbrev pub LeavesPlaces : ℕ → Exercise → NewestColumns → ℕ → ℕ → Type 0
LeavesPlaces rule ex newest first count =
    (p : Columns) (col : List Cell) → AreNewestOf ex.voices (p ++ col ∷ []) newest → GoesOn ex p (col ∷ [])
    → (voices i : ℕ) → IsAmong (late_first rule ex (length p)) (late_count rule ex (length p)) i
    → newly_breaks (late_row rule) ex voices p col i ≡ true → IsAmong first count i

-- a free voice starts a note in a column
abbrev pub starts_free : Exercise → List Cell → ℕ → Bool
starts_free ex now v = is_free ex v && starts (cell_in now v)

-- it starts one at a place, and the columns don't tell yet what that is
abbrev pub is_untold : Exercise → List LatestStarts → List Cell → ℕ → ℕ → Bool
is_untold ex voices now place v = starts_free ex now v && nat_le (slice_index_or voices v no_starts).told place

-- it starts one there, of which its latest note tells, which starts in the last of so many columns
abbrev pub is_told_now : Exercise → List LatestStarts → List Cell → ℕ → ℕ → ℕ → Bool
is_told_now ex voices now place len v =
    starts_free ex now v
    && (((slice_index_or voices v no_starts).told == place + 1)
    && ((slice_index_or voices v no_starts).latest == len))

-- where two voices clash at a place, the last of so many columns settles it: it tells of a note
-- there, and none is untold
abbrev pub closes_pair : Exercise → List LatestStarts → List Cell → ℕ → ℕ → ℕ → ℕ → Bool
closes_pair ex voices now place len v w =
    not (is_untold ex voices now place v || is_untold ex voices now place w)
    && (is_told_now ex voices now place len v || is_told_now ex voices now place len w)

-- for a set of voices: whether the last column settles a break of the rule at the place, known by
-- the newest columns and by where the latest notes start
abbrev pub TellsTold : Exercise → ℕ → ℕ → List LatestStarts → NewestColumns → ℕ → Bool → Type 0
TellsTold ex rule voices kept newest place told =
    (p : Columns) (col : List Cell) → AreStartsOf ex (p ++ col ∷ []) kept
    → AreKeptFrom ex newest (p ++ col ∷ []) (place - 3) → GoesOn ex p (col ∷ [])
    → told ≡ newly_breaks (late_row rule) ex voices p col place

-- the same for each set of these two voices
abbrev pub TellsPair : Exercise → ℕ → List LatestStarts → NewestColumns → ℕ → ℕ → ℕ → Bool → Type 0
TellsPair ex rule kept newest place v w told =
    (voices : ℕ) → Some (v, w) ≡ pair_of voices → TellsTold ex rule voices kept newest place told
