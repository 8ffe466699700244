-- In a lawful setting no step of a part is refused, and each leads to what waits behind its column
-- (`followed`): it is enough that its rule isn't broken by what waited before each column. Of two
-- parts that do the same both do (`both-followed`).
use Rattle.std.specs.Prelude.{◌≡◌, ℕ, ◌+◌, ◌<◌, Bool, true, false, List, [], ◌∷◌, ◌++◌, Option, Some, None, length, reverse, slice_index_or, if◌then◌else◌, refl}
use Rattle.std.proofs.Common.{ap, ap₂, sym, ◌∙◌, arith}
use Rattle.std.proofs.lemmas.List.{get_or-append-add, length-append, length-reverse}
use Rattle.fux_grid.specs.declared.cell.Cell.{Cell}
use Rattle.fux_grid.specs.declared.exercise.Exercise.{Exercise}
use Rattle.fux_grid.specs.Columns.{Columns, earlier, newest_column}
use Rattle.fux_grid.specs.Exercises.{IsValid}
use Rattle.fux_grid.proofs.Histories.{earlier-all, earlier-append, reverse-push}
use Rattle.fux_judge.specs.Lawful.{IsLawful}
use Rattle.open_ends.specs.Parts.{FollowsLawful, HasVoices, both, if_both, where_read}

-- ---- a part of which so much is kept of some columns, the newest first

module _ {Part : Type 0} (ex : Exercise) (nothing : Part) (read : Bool) (kept_of : List (List Cell) → Part)
    (on : ℕ → Part → List Cell → List Cell → Part) (breaks : ℕ → Part → List Cell → List Cell → Bool) where
  -- its rule isn't broken at any column of a lawful setting
  abbrev pub NeverBreaks : Type 0
  NeverBreaks =
      read ≡ true → (s : Columns) → IsLawful ex s → (i : ℕ) → i < length s
      → breaks i (kept_of (earlier s i)) (newest_column (earlier s i)) (slice_index_or s i []) ≡ false

  module _ (first : kept_of [] ≡ nothing)
      (grows : (col : List Cell) (behind : List (List Cell))
      → kept_of (col ∷ behind) ≡ on (length behind) (kept_of behind) (newest_column behind) col)
      (never : NeverBreaks) where
    begins : (b : Bool) → (if b then kept_of [] else nothing) ≡ nothing
    begins true = first
    begins false = refl

    module _ (p : Columns) (col : List Cell) (more : Columns) (lawful : IsLawful ex (p ++ col ∷ more)) where
      abbrev s : Columns
      s = p ++ col ∷ more

      abbrev before : List Cell
      before = newest_column (reverse p)

      here : length p < length s
      here = omega (arith, length-append p (col ∷ more))

      behind : earlier s (length p) ≡ reverse p
      behind = earlier-append p (col ∷ more) (length p) (omega arith) ∙ earlier-all p (length p) (omega arith)

      newest : slice_index_or s (length p) [] ≡ col
      newest = ap (λ n. slice_index_or s n []) (plus_none (length p)) ∙ get_or-append-add p (col ∷ more) 0 []
        where
          plus_none : (n : ℕ) → n ≡ n + 0
          plus_none n = omega arith

      unbroken : read ≡ true → breaks (length p) (kept_of (reverse p)) before col ≡ false
      unbroken e =
          sym (ap (λ cols. breaks (length p) (kept_of cols) (newest_column cols) (slice_index_or s (length p) [])) behind
          ∙ ap (breaks (length p) (kept_of (reverse p)) before) newest)
          ∙ never e s lawful (length p) here

      grown : on (length p) (kept_of (reverse p)) before col ≡ kept_of (reverse (p ++ col ∷ []))
      grown =
          sym (ap kept_of (reverse-push p col)
          ∙ grows col (reverse p)
          ∙ ap (λ n. on n (kept_of (reverse p)) before col) (length-reverse p))

      leads : (b : Bool) → read ≡ b
          → where_read b (breaks (length p) (if b then kept_of (reverse p) else nothing) before col) nothing
          (on (length p) (if b then kept_of (reverse p) else nothing) before col)
          ≡ Some (if b then kept_of (reverse (p ++ col ∷ [])) else nothing)
      leads true e =
          ap (λ b. if b then None else Some (on (length p) (kept_of (reverse p)) before col)) (unbroken e) ∙ ap Some grown
      leads false e = refl

    pub followed : FollowsLawful ex nothing (λ p. if read then kept_of (reverse p) else nothing)
        (λ i kept before now. where_read read (breaks i kept before now) nothing (on i kept before now))
    followed = record { first = begins read; next = λ p col more lawful. leads p col more lawful read refl }

-- ---- two parts

pub both-followed : {P Q : Type 0} (ex : Exercise) (nothing : P) (others : Q) (waits : Columns → P) (wait : Columns → Q)
    (after : ℕ → P → List Cell → List Cell → Option P) (next : ℕ → Q → List Cell → List Cell → Option Q)
    → FollowsLawful ex nothing waits after → FollowsLawful ex others wait next
    → FollowsLawful ex (both nothing others) (λ p. both (waits p) (wait p))
    (λ i kept before now. if_both (after i kept.first before now) (next i kept.second before now))
both-followed ex nothing others waits wait after next f g = record {
  first = ap₂ both f.first g.first;
  next = λ p col more lawful. ap₂ if_both (f.next p col more lawful) (g.next p col more lawful);
}

-- ---- valid exercises

pub voices_of_valid : (ex : Exercise) → IsValid ex → HasVoices ex
voices_of_valid ex valid = record {
  most_voices = valid.most_voices;
  fewest_bars = valid.fewest_bars;
  species_there = valid.species_there;
  differ = valid.differ;
}
