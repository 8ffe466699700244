-- What the newest columns show after an orderly prefix: the columns around each place among them
-- (`kept_after`).
use Rattle.std.specs.Prelude.{◌≡◌, ◌≢◌, ℕ, suc, ◌+◌, ◌-◌, ◌<◌, ◌≤◌, true, List, [], ◌∷◌, ◌++◌, None, drop, take, length, reverse, slice_index_or, refl}
use Rattle.std.proofs.Common.{ap, sym, ◌∙◌, subst, inl, inr, arith}
use Rattle.std.proofs.Math.ListN.{get_or-append}
use Rattle.std.proofs.lemmas.Bool.{cases_lt}
use Rattle.std.proofs.lemmas.Bool.Decides.{nat_tests}
use Rattle.std.proofs.lemmas.List.{append_assoc, get_or_past, length-append, length-reverse, length-take-le, reverse-append, reverse-reverse, take-append-drop}
use Rattle.fux_grid.specs.declared.cell.Cell.{Cell}
use Rattle.fux_grid.specs.declared.cell.Cell.TheVariants.{Rest}
use Rattle.fux_grid.specs.declared.exercise.Exercise.{Exercise}
use Rattle.fux_grid.specs.Cells.{cell_in, first_of, newest, notes_from, pitch_of}
use Rattle.fux_grid.specs.Columns.{HistoryFollows, earlier, line, newest_column}
use Rattle.fux_grid.specs.Orderly.{IsOrderly}
use Rattle.fux_grid.proofs.Histories.{earlier-append, get_or-earlier}
use Rattle.fux_grid.proofs.OrderlyLemmas.{orderly-fewer}
use Rattle.rule_law.specs.Around.{AreKeptFrom, SoundsOn}
use Rattle.rule_law.specs.Nearby.{line_follows, previous-sounds}
use Rattle.rule_law.specs.Newest.{AreNewestOf}
use Rattle.rule_law.specs.OrderlyLaw.{free_rests}
use Rattle.rule_law.specs.Prefixes.{GoesOn}
use Rattle.rule_law.specs.Terms.{note_pitch, previous_pitch}
use Rattle.rule_law.specs.Voices.{is_free}
use Rattle.rule_law.specs.declared.newest.NewestColumns.{NewestColumns}

-- the newest column is the first one
pub newest-first : (behind : List (List Cell)) → newest_column behind ≡ slice_index_or behind 0 []
newest-first [] = refl
newest-first (col ∷ behind) = refl

-- so many columns are before column i
pub length-earlier : (s : List (List Cell)) (i : ℕ) → i ≤ length s → length (earlier s i) ≡ i
unfolding earlier
length-earlier s i here = length-reverse (take i s) ∙ length-take-le i s here

-- the newest of the first columns is the one before the next
pub newest-earlier : (s : List (List Cell)) (i : ℕ) → 0 < i → i ≤ length s
    → newest_column (earlier s i) ≡ slice_index_or s (i - 1) []
newest-earlier s i some here =
    let before : i - 1 - 0 ≡ i - 1 = omega arith in
    newest-first (earlier s i) ∙ get_or-earlier s i 0 some here ∙ ap (λ n. slice_index_or s n []) before

newest_of_line : (v : ℕ) (cols : List (List Cell)) → newest (line v cols) ≡ cell_in (newest_column cols) v
newest_of_line v [] = refl
newest_of_line v (col ∷ cols) = refl

follows_fewer : (xs ys : List (List Cell)) → HistoryFollows (xs ++ ys) → HistoryFollows ys
follows_fewer [] ys f = f
follows_fewer (x ∷ xs) ys f = follows_fewer xs ys f.1

-- a voice that rests throughout has no notes
silent_pitch : (v : ℕ) (cols : List (List Cell))
    → ((k : ℕ) → k < length cols → cell_in (slice_index_or cols k []) v ≡ Rest)
    → previous_pitch (line v cols) ≡ pitch_of (cell_in (newest_column cols) v)
silent_pitch v cols rests = none cols rests ∙ sym (newest_none cols rests)
  where
    none : (cols : List (List Cell)) → ((k : ℕ) → k < length cols → cell_in (slice_index_or cols k []) v ≡ Rest)
        → previous_pitch (line v cols) ≡ None
    none [] rests = refl
    none (col ∷ cols) rests =
        ap (λ c. note_pitch (first_of (notes_from 0 (c ∷ line v cols)))) (rests 0 (omega arith))
        ∙ none cols (λ k h. rests (suc k) (omega (arith, h)))

    newest_none : (cols : List (List Cell))
        → ((k : ℕ) → k < length cols → cell_in (slice_index_or cols k []) v ≡ Rest)
        → pitch_of (cell_in (newest_column cols) v) ≡ None
    newest_none [] rests = refl
    newest_none (col ∷ cols) rests = ap pitch_of (rests 0 (omega arith))

module _ (ex : Exercise) (p : List (List Cell)) (col : List Cell) (on : GoesOn ex p (col ∷ [])) where
  -- the first columns of an orderly prefix are orderly, and follow one another
  module _ (i : ℕ) (here : i ≤ length p) where
    orderly_before : IsOrderly ex (reverse (earlier p i))
    unfolding earlier
    orderly_before =
        let P : List (List Cell) → Type 0 = λ s. IsOrderly ex s in
        subst P (sym (reverse-reverse (take i p)))
        (orderly-fewer ex (take i p) (drop i p) (subst P (sym (take-append-drop i p)) on.orderly))

    follows_before : HistoryFollows (earlier p i)
    unfolding earlier
    follows_before =
        let P : List (List Cell) → Type 0 = λ s. HistoryFollows s in
        follows_fewer (reverse (drop i p ++ col ∷ [])) (reverse (take i p))
        (subst P (ap reverse (sym (ap (λ s. s ++ col ∷ []) (take-append-drop i p))
        ∙ append_assoc (take i p) (drop i p) (col ∷ [])) ∙ reverse-append (take i p) (drop i p ++ col ∷ []))
        on.longer.follows)

    width : (j : ℕ) → j < length p → length (slice_index_or p j []) ≡ ex.voices
    width j there =
        ap length (sym (get_or-append p (col ∷ []) [] j there))
        ∙ (on.longer.menus j (omega (arith, there, length-append p (col ∷ [])))).full

    rests_beyond : (v : ℕ) → ex.voices ≤ v → (k : ℕ) → k < length (earlier p i)
        → cell_in (slice_index_or (earlier p i) k []) v ≡ Rest
    rests_beyond v beyond k there =
        let within : k < i = omega (arith, there, length-earlier p i here) in
        ap (λ c. cell_in c v) (get_or-earlier p i k within here)
        ∙ get_or_past (slice_index_or p (i - 1 - k) []) v Rest
        (omega (arith, width (i - 1 - k) (omega (arith, within, here)), beyond))

    previous_is : (v : ℕ) → is_free ex v ≡ true
        → previous_pitch (line v (earlier p i)) ≡ pitch_of (cell_in (newest_column (earlier p i)) v)
    previous_is v free =
        elim (cases_lt v ex.voices) [
          | inl there ↦
              previous-sounds (line v (earlier p i)) (line_follows v (earlier p i) follows_before)
              (free_rests ex v record { there = there; no_cantus = no_cantus } (earlier p i) orderly_before)
              ∙ ap pitch_of (newest_of_line v (earlier p i))
          | inr beyond ↦ silent_pitch v (earlier p i) (rests_beyond v beyond)
        ]
      where
        no_cantus : v ≢ ex.cantus_voice
        no_cantus e = grind (arith, nat_tests, free, e)

  -- so free voices sound on in it, and in the list with one column more
  pub sounds_on : SoundsOn ex (p ++ col ∷ [])
  sounds_on v i free there =
      let here : i ≤ length p = omega (arith, there, length-append p (col ∷ [])) in
      let same : earlier (p ++ col ∷ []) i ≡ earlier p i = earlier-append p (col ∷ []) i here in
      ap (λ cols. previous_pitch (line v cols)) same ∙ previous_is i here v free
      ∙ sym (ap (λ cols. pitch_of (cell_in (newest_column cols) v)) same)

  -- the newest columns of that list are those around each place among them
  pub kept_after : (kept : NewestColumns) (first : ℕ) → AreNewestOf ex.voices (p ++ col ∷ []) kept
      → length p < first + 25 → AreKeptFrom ex kept (p ++ col ∷ []) first
  kept_after kept first newest near = record {
    newest = newest;
    near = omega (arith, near, length-append p (col ∷ []));
    previous = sounds_on;
  }
