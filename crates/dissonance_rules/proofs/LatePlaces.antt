-- At which places a column settles breaks of the late rules (`clash_places`), and that a quiet one
-- settles none of S15 and S27 (`quiet_settles`).
use Rattle.std.specs.Prelude.{◌≡◌, ◌≢◌, ℕ, zero, suc, ◌+◌, ◌-◌, ◌*◌, ◌%◌, ◌<◌, ◌≤◌, ◌==◌, ◌&&◌, ◌||◌, Bool, true, false, not, nat_le, nat_lt, List, [], ◌∷◌, ◌++◌, Option, Some, None, is_some, drop, length, slice_index_or, if◌then◌else◌, refl}
use Rattle.std.proofs.Common.{◌⊎◌, ap, sym, ◌∙◌, subst, inl, inr, arith}
use Rattle.std.proofs.lemmas.Bool.{and_parts, and_from, both_ways, cases_Bool, cases_eq, eqb-false, eqb-true, eq-eqb, cases_lt, leb-false, leb-true, lt-ltb, ltb-false, ltb-true, ne_eqb, not-true, or_cases, or_left, or_parts}
use Rattle.std.proofs.lemmas.List.{append-nil, drop-append-le, get_or_push, length-append, length-drop}
use Rattle.std.proofs.Math.ListN.{get_or-append}
use Rattle.fux_grid.specs.declared.cell.Cell.{Cell}
use Rattle.fux_grid.specs.declared.exercise.Exercise.{Exercise}
use Rattle.fux_grid.specs.Columns.{earlier, line}
use Rattle.fux_grid.specs.Exercises.{columns_in, is_mixed, slot_of, species_in}
use Rattle.fux_grid.specs.Cells.{cell_in, first_of, onsets_from}
use Rattle.fux_grid.specs.Menus.{IsInMenu}
use Rattle.rule_law.specs.After.{onsets_after, second_of}
use Rattle.rule_law.proofs.AtOnce.{breaks_at_own_place}
use Rattle.rule_law.specs.Bars.{begins_bar}
use Rattle.rule_law.specs.Growth.{newly}
use Rattle.rule_law.specs.Places.{reading_of, settled_by}
use Rattle.rule_law.specs.Prefixes.{GoesOn}
use Rattle.rule_law.specs.Quiet.{is_quiet, on_pair-none, quiet_cell, quiet_slot}
use Rattle.rule_law.specs.Rulebooks.{IsAmong, newly_breaks}
use Rattle.rule_law.specs.Terms.{clash, starts}
use Rattle.rule_law.specs.Voices.{holds_of_pair, is_free, pair_of}
use Rattle.rule_law.specs.Ways.{holds_some_way, on_some_way}
use Rattle.rule_law.specs.Whole.{is_whole}
use Rattle.dissonance_rules.specs.Book.{has_places_in, late_count, late_first, late_row, may_settle_in, passing_count, passing_reach, reach}
use Rattle.dissonance_rules.proofs.ClashLaws.{IsAtOnce, by_rule, no_onsets, onsets_after-append}
use Rattle.dissonance_rules.proofs.NotesAhead.{notes_come}
use Rattle.dissonance_rules.proofs.OffBar.{cantus_holds, reaches_in, settles_at_bar, settles_in, starter_has_species, starter_is_free, starter_settles}
use Rattle.dissonance_rules.specs.Clashes.{clash_enough, clash_row, clash_rule, disturbance_rule, enough_ahead, excuse_rule, is_told_later, newly_passing, passing_enough, passing_rule, resolution_rule}
use Rattle.dissonance_rules.specs.Ligatures.{is_suspended}
use Rattle.dissonance_rules.specs.Mixed.{clash_anew, clash_unexcused, is_disturbed, is_excused, starts_in_three}
use Rattle.rule_law.specs.Pairs.{one_starts}
use Rattle.dissonance_rules.specs.Passing.{clashes_badly, has_notes_after, has_ornaments, is_good_in, is_open_clash, reaches_last_bar, starts_in_clash}

-- where S15 is open a note clashes, and neither enough notes nor the last bar came
pub open_parts : (clashing notes last : Bool) → not (not clashing || notes || last) ≡ true
    → (clashing ≡ true) × (not (notes || last) ≡ true)
open_parts true notes last h = (refl, h)
open_parts false notes last h = cc

-- where a test of a set of two voices passes, it passes for one way to name them, and what fails
-- for the set fails for that way
pub record Way (ex : Exercise) (test : ℕ → ℕ → Bool) (voices : ℕ) : Type 0 where
  pub v : ℕ
  pub w : ℕ
  pub free : is_free ex v ≡ true
  pub passes : test v w ≡ true
  pub fails : (other : ℕ → ℕ → Bool) → on_some_way ex other voices ≡ false → other v w ≡ false

fails_first : (there fv fw x y : Bool) → there ≡ true → fv ≡ true → (there && ((fv && x) || (fw && y))) ≡ false → x
    ≡ false
fails_first true true fw x y e f h = (or_parts x (fw && y) h).0
fails_first true false fw x y e f h = cc
fails_first false fv fw x y e f h = cc

fails_second : (there fv fw x y : Bool) → there ≡ true → fw ≡ true → (there && ((fv && x) || (fw && y))) ≡ false → y
    ≡ false
fails_second true fv true x y e f h = (or_parts (fv && x) y h).1
fails_second true fv false x y e f h = cc
fails_second false fv fw x y e f h = cc

pub way_of : (ex : Exercise) (test : ℕ → ℕ → Bool) (voices : ℕ) → on_some_way ex test voices ≡ true → Way ex test voices
way_of ex test voices = at (pair_of voices) refl
  where
    at : (o : Option (ℕ × ℕ)) → pair_of voices ≡ o → holds_of_pair ex (holds_some_way ex test) o ≡ true
        → Way ex test voices
    at None e h = cc
    at (Some pair) e h =
        let parts = and_parts (nat_lt pair.1 ex.voices) (holds_some_way ex test pair.0 pair.1) h in
        elim (or_cases (is_free ex pair.0 && test pair.0 pair.1) (is_free ex pair.1 && test pair.1 pair.0) parts.1) [
          | inl one ↦
              let both = and_parts (is_free ex pair.0) (test pair.0 pair.1) one in
              record {
                v = pair.0;
                w = pair.1;
                free = both.0;
                passes = both.1;
                fails = λ other k.
                    fails_first (nat_lt pair.1 ex.voices) (is_free ex pair.0) (is_free ex pair.1) (other pair.0 pair.1)
                    (other pair.1 pair.0) parts.0 both.0
                    (sym (ap (holds_of_pair ex (holds_some_way ex other)) e) ∙ k);
              }
          | inr one ↦
              let both = and_parts (is_free ex pair.1) (test pair.1 pair.0) one in
              record {
                v = pair.1;
                w = pair.0;
                free = both.0;
                passes = both.1;
                fails = λ other k.
                    fails_second (nat_lt pair.1 ex.voices) (is_free ex pair.0) (is_free ex pair.1) (other pair.0 pair.1)
                    (other pair.1 pair.0) parts.0 both.0
                    (sym (ap (holds_of_pair ex (holds_some_way ex other)) e) ∙ k);
              }
        ]

-- none of the others reads beyond its own column whether a note is held there at the beginning of a
-- bar
pub not_at_bars : (n : ℕ) (ex : Exercise) (voices i : ℕ) (behind : List (List Cell)) (now : List Cell)
    (ahead : List (List Cell)) → is_told_later n ≡ false → begins_bar i ≡ false
    → clash_row n ex voices i behind now ahead ≡ false
not_at_bars n ex voices i behind now ahead later h =
    on_pair-none ex _ voices (λ v w. rw parts.1 (rw (one_way v w, one_way w v) (none (is_free ex v) (is_free ex w))))
  where
    parts : ((n == 15) ≡ false) × ((n == 27) ≡ false)
    parts = or_parts (n == 15) (n == 27) later

    none : (a b : Bool) → ((a && false) || (b && false)) ≡ false
    none true true = refl
    none true false = refl
    none false true = refl
    none false false = refl

    disturbed : (m t : Bool) → (m && false && t) ≡ false
    disturbed true t = refl
    disturbed false t = refl

    at : (v w : ℕ) (b c d : Bool) → (n == 19) ≡ b → (n == 20) ≡ c → (n == 28) ≡ d
        → clash_rule n ex i behind now ahead v w ≡ false
    at v w true c d e f g = rw (parts.0, e, h) refl
    at v w false true d e f g = rw (parts.0, e, f, h) refl
    at v w false false true e f g =
        rw (parts.0, e, f, g, h) (disturbed (is_mixed ex)
        (starts_in_three (slice_index_or ahead 0 []) (slice_index_or ahead 1 []) (slice_index_or ahead 2 []) w))
    at v w false false false e f g = rw (parts.0, e, f, g, h) refl

    one_way : (v w : ℕ) → clash_rule n ex i behind now ahead v w ≡ false
    one_way v w = at v w (n == 19) (n == 20) (n == 28) refl refl refl

-- so a break stands where a bar begins
breaks_at_bar : (n : ℕ) (ex : Exercise) (voices : ℕ) (s : List (List Cell)) (i : ℕ) → is_told_later n ≡ false
    → reading_of (clash_row n ex voices) s i ≡ true → begins_bar i ≡ true
breaks_at_bar n ex voices s i later h =
    elim (cases_Bool (begins_bar i)) [
      | inl e ↦ e
      | inr e ↦ absurd (both_ways (reading_of (clash_row n ex voices) s i)
          (not_at_bars n ex voices i (earlier s i) (slice_index_or s i []) (drop (i + 1) s) later e) h)
    ]

-- S19 and S21
suspension_places : (ex : Exercise) (voices : ℕ) (p : List (List Cell)) (col : List Cell) (i n : ℕ) → IsAtOnce n
    → newly_breaks (late_row n) ex voices p col i ≡ true
    → IsAmong (length p) (if begins_bar (length p) then 1 else 0) i
suspension_places ex voices p col i n soon h =
    let later : is_told_later n ≡ false = rw (soon.no_passing, soon.no_excuse) refl in
    let own = breaks_at_own_place (late_row n) ex voices
    (λ i behind now ahead. rw (soon.no_passing, soon.no_excuse, soon.no_resolution, soon.no_disturbance) refl) p col i
    h in
    let same : i ≡ length p = omega (arith, own.from, own.to) in
    let bar : begins_bar i ≡ true = breaks_at_bar n ex voices (p ++ col ∷ []) i later
    (and_parts (newly (settled_by (clash_enough n ex voices)) p col i)
    (reading_of (clash_row n ex voices) (p ++ col ∷ []) i) h).1 in
    let P : Bool → Type 0 = λ b. IsAmong (length p) (if b then 1 else 0) i in
    subst P (sym (ap begins_bar (sym same) ∙ bar)) own

-- ---- S15 and S27

-- where one of them is broken a free voice starts a note within a bar, and the rule has places in
-- the exercise
record IsStart (ex : Exercise) (n i : ℕ) (now : List Cell) : Type 0 where
  pub slot : slot_of i ≢ 0
  pub places : has_places_in n ex ≡ true
  pub v : ℕ
  pub free : is_free ex v ≡ true
  pub start : starts (cell_in now v) ≡ true

passing_start : (ex : Exercise) (voices i : ℕ) (behind : List (List Cell)) (now : List Cell) (ahead : List (List Cell))
    → clash_row passing_rule ex voices i behind now ahead ≡ true → IsStart ex passing_rule i now
passing_start ex voices i behind now ahead h =
    let way = way_of ex (clashes_badly ex i behind now ahead) voices h in
    let bad = and_parts (not (is_mixed ex) && not (begins_bar i) && starts_in_clash now way.v way.w)
    (not (is_good_in ex i behind now ahead way.v)) way.passes in
    let clashing = and_parts (not (is_mixed ex) && not (begins_bar i)) (starts_in_clash now way.v way.w) bad.0 in
    let within = and_parts (not (is_mixed ex)) (not (begins_bar i)) clashing.0 in
    record {
      slot = eqb-false (slot_of i) 0 (not-true (begins_bar i) within.1);
      places = within.0;
      v = way.v;
      free = way.free;
      start = (and_parts (starts (cell_in now way.v)) (clash now way.v way.w) clashing.1).0;
    }

excuse_start : (ex : Exercise) (voices i : ℕ) (behind : List (List Cell)) (now : List Cell) (ahead : List (List Cell))
    → IsInMenu ex i now → clash_row excuse_rule ex voices i behind now ahead ≡ true → IsStart ex excuse_rule i now
excuse_start ex voices i behind now ahead menu = at (pair_of voices)
  where
    test : ℕ → ℕ → Bool
    test = clash_unexcused ex i behind now ahead

    free_start : slot_of i ≢ 0 → is_mixed ex ≡ true → (v : ℕ) → starts (cell_in now v) ≡ true → IsStart ex excuse_rule i now
    free_start slot mixed v start =
        elim (cases_eq v ex.cantus_voice) [
          | inl cantus ↦ absurd (both_ways (starts (cell_in now v)) (cantus_holds ex v i now cantus menu slot) start)
          | inr other ↦ record {
            slot = slot;
            places = mixed;
            v = v;
            free = ap not (ne_eqb v ex.cantus_voice other);
            start = start;
          }
        ]

    of_two : (v w : ℕ) → clash_unexcused ex i behind now ahead v w ≡ true → IsStart ex excuse_rule i now
    of_two v w h =
        let broken = and_parts (is_mixed ex && clash_anew i now v w)
        (not (is_excused ex i behind now ahead v || is_excused ex i behind now ahead w)) h in
        let mixed = and_parts (is_mixed ex) (clash_anew i now v w) broken.0 in
        let anew = and_parts (not (begins_bar i) && clash now v w) (one_starts now v w) mixed.1 in
        let within = and_parts (not (begins_bar i)) (clash now v w) anew.0 in
        let slot : slot_of i ≢ 0 = eqb-false (slot_of i) 0 (not-true (begins_bar i) within.0) in
        elim (or_cases (starts (cell_in now v)) (starts (cell_in now w)) anew.1) [
          | inl first ↦ free_start slot mixed.0 v first
          | inr second ↦ free_start slot mixed.0 w second
        ]

    at : (pair : Option (ℕ × ℕ)) → holds_of_pair ex (clash_unexcused ex i behind now ahead) pair ≡ true
        → IsStart ex excuse_rule i now
    at None h = cc
    at (Some pair) h =
        of_two pair.0 pair.1
        (and_parts (nat_lt pair.1 ex.voices) (clash_unexcused ex i behind now ahead pair.0 pair.1) h).1

-- in a list S15 is open at a place for one way to name the voices, and in a longer one it isn't.
-- What fails for the set fails for that way
pub record IsClosing (ex : Exercise) (voices : ℕ) (p s : List (List Cell)) (i : ℕ) : Type 0 where
  pub v : ℕ
  pub w : ℕ
  pub free : is_free ex v ≡ true
  pub opens : is_open_clash ex i (slice_index_or p i []) (drop (i + 1) p) v w ≡ true
  pub closed : is_open_clash ex i (slice_index_or s i []) (drop (i + 1) s) v w ≡ false
  pub fails : (other : ℕ → ℕ → Bool) → on_some_way ex other voices ≡ false → other v w ≡ false

module _ (ex : Exercise) (voices : ℕ) (p : List (List Cell)) (col : List Cell) (i : ℕ) (on : GoesOn ex p (col ∷ []))
  where
    abbrev grown : List (List Cell)
    grown = p ++ col ∷ []

    size : length grown ≡ length p + 1
    size = omega (arith, length-append p (col ∷ []))

    abbrev here : List (List Cell) → List Cell
    here s = slice_index_or s i []

    abbrev ahead : List (List Cell) → List (List Cell)
    ahead s = drop (i + 1) s

    -- the newest column settles where a voice of another species than 1 starts a note in it
    newest_settles : (v : ℕ) → is_free ex v ≡ true → (species_in ex v == 1) ≡ false → starts (cell_in col v) ≡ true
        → may_settle_in ex (length p) ≡ true
    newest_settles v free other start =
        let P : List Cell → Type 0 = λ c. IsInMenu ex (length p) c in
        let menu : IsInMenu ex (length p) col = subst P (get_or_push p col [] (length p) refl)
        (on.longer.menus (length p) (omega (arith, size))) in
        settles_in ex v other (length p) (starter_settles ex v (length p) col menu free start other)

    -- a way that was open before the newest column, and is closed with it
    module _ (within : i < length p) (slot : slot_of i ≢ 0) (v w : ℕ) (free : is_free ex v ≡ true)
        (opens : is_open_clash ex i (here p) (ahead p) v w ≡ true)
        (closed : is_open_clash ex i (here grown) (ahead grown) v w ≡ false) where
      parts : (starts_in_clash (here p) v w ≡ true)
          × (not (has_notes_after (species_in ex v) i v (ahead p) || reaches_last_bar ex i (ahead p)) ≡ true)
      parts = open_parts (starts_in_clash (here p) v w) (has_notes_after (species_in ex v) i v (ahead p))
          (reaches_last_bar ex i (ahead p)) opens

      neither : (has_notes_after (species_in ex v) i v (ahead p) ≡ false) × (reaches_last_bar ex i (ahead p) ≡ false)
      neither = or_parts (has_notes_after (species_in ex v) i v (ahead p)) (reaches_last_bar ex i (ahead p))
          (not-true _ parts.1)

      start : starts (cell_in (here p) v) ≡ true
      start = (and_parts (starts (cell_in (here p) v)) (clash (here p) v w) parts.0).0

      same_column : here grown ≡ here p
      same_column = get_or-append p (col ∷ []) [] i within

      menu : IsInMenu ex i (here p)
      menu = let P : List Cell → Type 0 = λ c. IsInMenu ex i c in
          subst P same_column (on.longer.menus i (omega (arith, size, within)))

      other : (species_in ex v == 1) ≡ false
      other = starter_has_species ex v i (here p) menu free start slot

      unended : length p ≤ 8 * (ex.bars - 1)
      unended =
          omega (arith, ltb-false (8 * (ex.bars - 1)) (i + 1 + length (ahead p)) neither.1, length-drop (i + 1) p, within)

      near : length p ≤ i + passing_reach ex
      near =
          elim (cases_lt (i + reach (species_in ex v)) (length p)) [
            | inl far ↦
                absurd (both_ways (has_notes_after (species_in ex v) i v (ahead p)) neither.0
                (notes_come ex p v on.orderly (starter_is_free ex v i (here p) menu free start) unended i other
                (omega (arith, slot)) far))
            | inr close ↦ reaches_in ex v other (length p) i close
          ]

      more_ahead : ahead grown ≡ ahead p ++ col ∷ []
      more_ahead = drop-append-le (i + 1) p (col ∷ []) (omega (arith, within))

      -- where no note of the voice starts in the newest column, its notes are the same
      same_notes : starts (cell_in col v) ≡ false → has_notes_after (species_in ex v) i v (ahead grown) ≡ false
      same_notes silent =
          let none : onsets_from (i + 1 + length (line v (ahead p))) (line v (col ∷ []))
          ≡ [] = no_onsets (i + 1 + length (line v (ahead p))) v (col ∷ []) alone in
          let all : onsets_after i v (ahead grown) ≡ onsets_after i v (ahead p) =
          ap (onsets_after i v) more_ahead ∙ onsets_after-append i v (ahead p) (col ∷ [])
          ∙ ap (λ more. onsets_after i v (ahead p) ++ more) none ∙ append-nil (onsets_after i v (ahead p)) in
          ap (λ os. if has_ornaments (species_in ex v) then is_some (second_of os) else is_some (first_of os)) all
          ∙ neither.0
        where
          alone : (k : ℕ) → k < 1 → starts (cell_in (slice_index_or (col ∷ []) k []) v) ≡ false
          alone zero k = silent
          alone (suc k) h = absurd (omega (arith, h))

      -- the voice starts a note in the newest column, or the last bar begins there
      closes : (starts (cell_in col v) ≡ true) ⊎ (length p % 8 ≡ 0)
      closes =
          elim (cases_Bool (starts (cell_in col v))) [
            | inl e ↦ inl e
            | inr e ↦ inr (at (reaches_last_bar ex i (ahead grown)) refl (same_notes e))
          ]
        where
          begun : reaches_last_bar ex i (ahead grown) ≡ true → length p % 8 ≡ 0
          begun h = omega (
            arith,
            ltb-true (8 * (ex.bars - 1)) (i + 1 + length (ahead grown)) h,
            length-drop (i + 1)
                grown,
            size,
            unended,
            within,
          )

          open_still : has_notes_after (species_in ex v) i v (ahead grown) ≡ false → reaches_last_bar ex i (ahead grown)
              ≡ false → is_open_clash ex i (here grown) (ahead grown) v w ≡ true
          open_still f g =
              ap (λ c. not (not (starts_in_clash c v w)
              || has_notes_after (species_in ex v) i v (ahead grown) || reaches_last_bar ex i (ahead grown)))
              same_column
              ∙ rw (parts.0, f, g) refl

          at : (b : Bool) → reaches_last_bar ex i (ahead grown) ≡ b → has_notes_after (species_in ex v) i v (ahead grown)
              ≡ false → length p % 8 ≡ 0
          at true g f = begun g
          at false g f = absurd (both_ways (is_open_clash ex i (here grown) (ahead grown) v w) closed (open_still f g))

      settles : may_settle_in ex (length p) ≡ true
      settles =
          elim closes [
            | inl e ↦ newest_settles v free other e
            | inr e ↦ settles_in ex v other (length p) (settles_at_bar (species_in ex v) (length p) other e)
          ]

      stirs : is_quiet (length p) col ≡ true → ⊥
      stirs quiet =
          elim closes [
            | inl e ↦ both_ways (starts (cell_in col v)) (quiet_cell (length p) col quiet v) e
            | inr e ↦ both_ways (begins_bar (length p)) (quiet_slot (length p) col quiet) (eq-eqb (length p % 8) 0 e)
          ]

    among : (n : ℕ) → has_places_in n ex ≡ true → length p ≤ i + passing_reach ex → i ≤ length p
        → may_settle_in ex (length p) ≡ true
        → IsAmong (length p - passing_reach ex) (passing_count n ex (length p)) i
    among n places close early e =
        let both : (has_places_in n ex && may_settle_in ex (length p)) ≡ true = rw (places, e) refl in
        let P : Bool → Type 0 = λ b. IsAmong (length p - passing_reach ex)
        (if b then length p + 1 - (length p - passing_reach ex) else 0) i in
        subst P (sym both) record { from = omega (arith, close); to = omega (arith, early, close) }

    -- the place is one that the list with the newest column has
    placed : newly_passing ex voices p col i ≡ true → i < length grown
    placed h =
        let now_then = and_parts (settled_by (passing_enough ex voices) grown i)
        (not (settled_by (passing_enough ex voices) p i)) h in
        ltb-true i (length grown)
        (and_parts (nat_lt i (length grown)) (reading_of (passing_enough ex voices) grown i) now_then.0).0

    -- a way that was open before the newest column, which closes it
    pub closing : newly_passing ex voices p col i ≡ true → i < length p → IsClosing ex voices p grown i
    closing h within =
        let now_then = and_parts (settled_by (passing_enough ex voices) grown i)
        (not (settled_by (passing_enough ex voices) p i)) h in
        let settled = and_parts (nat_lt i (length grown)) (reading_of (passing_enough ex voices) grown i) now_then.0 in
        let one = way_of ex (is_open_clash ex i (here p) (ahead p)) voices (still_open (not-true _ now_then.1)) in
        record {
          v = one.v;
          w = one.w;
          free = one.free;
          opens = one.passes;
          closed = one.fails (is_open_clash ex i (here grown) (ahead grown)) (not-true _ settled.1);
          fails = one.fails;
        }
      where
        still_open : settled_by (passing_enough ex voices) p i ≡ false
            → on_some_way ex (is_open_clash ex i (here p) (ahead p)) voices ≡ true
        still_open h =
            elim (cases_Bool (on_some_way ex (is_open_clash ex i (here p) (ahead p)) voices)) [
              | inl e ↦ e
              | inr e ↦ absurd (both_ways (settled_by (passing_enough ex voices) p i) h
                  (and_from (nat_lt i (length p)) _ (lt-ltb i (length p) within) (ap not e)))
            ]

    told_places : (n : ℕ) → newly_passing ex voices p col i ≡ true → IsStart ex n i (here grown)
        → IsAmong (length p - passing_reach ex) (passing_count n ex (length p)) i
    told_places n h there =
        elim (cases_lt i (length p)) [
          | inl within ↦
              let one = closing h within in
              among n there.places (near within there.slot one.v one.w one.free one.opens one.closed)
              (omega (arith, within))
              (settles within there.slot one.v one.w one.free one.opens one.closed)
          | inr past ↦
              let last : i ≡ length p = omega (arith, past, placed h, size) in
              let menu : IsInMenu ex i (here grown) = on.longer.menus i (placed h) in
              let other : (species_in ex there.v == 1)
              ≡ false = starter_has_species ex there.v i (here grown) menu there.free there.start there.slot in
              among n there.places (omega (arith, last)) (omega (arith, last))
              (ap (may_settle_in ex) (sym last) ∙ settles_in ex there.v other i
              (starter_settles ex there.v i (here grown) menu there.free there.start other))
        ]

    told_stirs : (n : ℕ) → newly_passing ex voices p col i ≡ true → IsStart ex n i (here grown)
        → is_quiet (length p) col ≡ true → ⊥
    told_stirs n h there quiet =
        elim (cases_lt i (length p)) [
          | inl within ↦
              let one = closing h within in
              stirs within there.slot one.v one.w one.free one.opens one.closed quiet
          | inr past ↦
              let last : length p ≡ i = omega (arith, past, placed h, size) in
              both_ways (starts (cell_in col there.v)) (quiet_cell (length p) col quiet there.v)
              (ap (λ c. starts (cell_in c there.v)) (sym (get_or_push p col [] i last)) ∙ there.start)
        ]

    passing_there : newly_breaks (late_row passing_rule) ex voices p col i ≡ true
        → (newly_passing ex voices p col i ≡ true) × IsStart ex passing_rule i (here grown)
    passing_there h =
        let parts = and_parts (newly_passing ex voices p col i) (reading_of (clash_row passing_rule ex voices) grown i) h
        in
        (parts.0, passing_start ex voices i (earlier grown i) (here grown) (ahead grown) parts.1)

    excuse_there : newly_breaks (late_row excuse_rule) ex voices p col i ≡ true
        → (newly_passing ex voices p col i ≡ true) × IsStart ex excuse_rule i (here grown)
    excuse_there h =
        let parts = and_parts (newly_passing ex voices p col i) (reading_of (clash_row excuse_rule ex voices) grown i) h
        in (
          parts.0,
          excuse_start ex voices i (earlier grown i) (here grown) (ahead grown) (on.longer.menus i (placed parts.0))
              parts.1,
        )

    passing_places : newly_breaks (late_row passing_rule) ex voices p col i ≡ true
        → IsAmong (length p - passing_reach ex) (passing_count passing_rule ex (length p)) i
    passing_places h = let is = passing_there h in told_places passing_rule is.0 is.1

    excuse_places : newly_breaks (late_row excuse_rule) ex voices p col i ≡ true
        → IsAmong (length p - passing_reach ex) (passing_count excuse_rule ex (length p)) i
    excuse_places h = let is = excuse_there h in told_places excuse_rule is.0 is.1

-- a quiet column settles no break of theirs
pub quiet_settles : (n : ℕ) (ex : Exercise) (voices : ℕ) (p : List (List Cell)) (col : List Cell) (i : ℕ)
    → GoesOn ex p (col ∷ []) → is_told_later n ≡ true → newly_breaks (late_row n) ex voices p col i ≡ true
    → is_quiet (length p) col ≡ true → ⊥
quiet_settles n ex voices p col i on =
    by_rule Stirs (λ told h. let is = passing_there ex voices p col i on h in told_stirs ex voices p col i on passing_rule is.0 is.1)
    (λ told h. let is = excuse_there ex voices p col i on h in told_stirs ex voices p col i on excuse_rule is.0 is.1)
    (λ told h quiet. both_ways false refl told) (λ told h quiet. both_ways false refl told)
    (λ r soon told. absurd (both_ways (is_told_later r) (rw (soon.no_passing, soon.no_excuse) refl) told)) n
  where
    Stirs : ℕ → Type 0
    Stirs r = is_told_later r ≡ true → newly_breaks (late_row r) ex voices p col i ≡ true → is_quiet (length p) col ≡ true → ⊥

-- and a break of theirs stands within a bar
pub broken_within : (n : ℕ) (ex : Exercise) (voices : ℕ) (p : List (List Cell)) (col : List Cell) (i : ℕ)
    → GoesOn ex p (col ∷ []) → is_told_later n ≡ true → newly_breaks (late_row n) ex voices p col i ≡ true
    → slot_of i ≢ 0
broken_within n ex voices p col i on =
    by_rule Within (λ told h. (passing_there ex voices p col i on h).1.slot)
    (λ told h. (excuse_there ex voices p col i on h).1.slot)
    (λ told h slot. both_ways false refl told) (λ told h slot. both_ways false refl told)
    (λ r soon told. absurd (both_ways (is_told_later r) (rw (soon.no_passing, soon.no_excuse) refl) told)) n
  where
    Within : ℕ → Type 0
    Within r = is_told_later r ≡ true → newly_breaks (late_row r) ex voices p col i ≡ true → slot_of i ≢ 0

-- ---- S20 and S28

-- what stands where a bar begins, and is settled so many columns later, is settled by the column at
-- that slot
module _ (n : ℕ) (short : n < 7) (ex : Exercise) (p : List (List Cell)) (col : List Cell) (i : ℕ)
    (on : GoesOn ex p (col ∷ [])) (newly_there : newly (settled_by (enough_ahead n ex)) p col i ≡ true)
    (begins : begins_bar i ≡ true) where
  abbrev s : List (List Cell)
  s = p ++ col ∷ []

  bar : i % 8 ≡ 0
  bar = eqb-true (i % 8) 0 begins

  now_then : (settled_by (enough_ahead n ex) s i ≡ true) × (not (settled_by (enough_ahead n ex) p i) ≡ true)
  now_then = and_parts (settled_by (enough_ahead n ex) s i) (not (settled_by (enough_ahead n ex) p i)) newly_there

  settled : (nat_lt i (length s) ≡ true) × (reading_of (enough_ahead n ex) s i ≡ true)
  settled = and_parts (nat_lt i (length s)) (reading_of (enough_ahead n ex) s i) now_then.0

  -- in the prefix fewer columns came after the place
  few : i < length p → length p ≤ i + n
  few here =
      elim (cases_Bool (nat_le n (length (drop (i + 1) p)))) [
        | inl e ↦ absurd (both_ways (settled_by (enough_ahead n ex) p i)
            (not-true (settled_by (enough_ahead n ex) p i) now_then.1)
            (and_from (nat_lt i (length p)) (reading_of (enough_ahead n ex) p i) (lt-ltb i (length p) here)
            (or_left (nat_le n (length (drop (i + 1) p))) (is_whole ex i (drop (i + 1) p)) e)))
        | inr e ↦ omega (arith, leb-false n (length (drop (i + 1) p)) e, length-drop (i + 1) p)
      ]

  size_then : length s ≡ length p + 1
  size_then = omega (arith, length-append p (col ∷ []))

  at_end : columns_in ex ≤ i + 1 + length (drop (i + 1) s) → ⊥
  at_end whole =
      let early : i ≤ length p = omega (arith, ltb-true i (length s) settled.0, size_then) in
      let all : length p + 1 ≡ 8 * ex.bars = omega
      (arith, whole, length-drop (i + 1) s, size_then, early, on.longer.few) in
      elim (cases_lt i (length p)) [
        | inl before ↦ omega (arith, all, few before, bar, before, short)
        | inr last ↦ omega (arith, all, last, early, bar)
      ]

  -- so many columns came after it, and no more
  pub settled_by_nth : length p ≡ i + n
  settled_by_nth =
      elim (or_cases (nat_le n (length (drop (i + 1) s))) (is_whole ex i (drop (i + 1) s)) settled.1) [
        | inl many ↦ by_many (leb-true n (length (drop (i + 1) s)) many)
        | inr whole ↦ absurd (at_end (leb-true (columns_in ex) (i + 1 + length (drop (i + 1) s)) whole))
      ]
    where
      by_many : n ≤ length (drop (i + 1) s) → length p ≡ i + n
      by_many many =
          let early : i ≤ length p = omega (arith, ltb-true i (length s) settled.0, size_then) in
          elim (cases_lt i (length p)) [
            | inl before ↦ omega (arith, many, length-drop (i + 1) s, size_then, few before)
            | inr last ↦ omega (arith, many, length-drop (i + 1) s, size_then, last, early)
          ]

  pub nth_places : (test : Bool) → test ≡ true
      → IsAmong (length p - n) (if test && (slot_of (length p) == n) then 1 else 0) i
  nth_places test passes =
      let slot : length p % 8 ≡ n = omega (arith, settled_by_nth, bar, short) in
      let both : (test && (slot_of (length p) == n)) ≡ true = and_from test _ passes (eq-eqb (length p % 8) n slot) in
      let P : Bool → Type 0 = λ b. IsAmong (length p - n) (if b then 1 else 0) i in
      subst P (sym both) record { from = omega (arith, settled_by_nth); to = omega (arith, settled_by_nth) }

-- where S28 is broken, species are mixed
mixed_if_disturbed : (ex : Exercise) (voices i : ℕ) (behind : List (List Cell)) (now : List Cell)
    (ahead : List (List Cell)) → clash_row disturbance_rule ex voices i behind now ahead ≡ true → is_mixed ex ≡ true
mixed_if_disturbed ex voices i behind now ahead h =
    let way = way_of ex (is_disturbed ex i now ahead) voices h in
    let parts = and_parts (is_mixed ex && is_suspended i now way.v way.w)
    (starts_in_three (slice_index_or ahead 0 []) (slice_index_or ahead 1 []) (slice_index_or ahead 2 []) way.w)
    way.passes in
    (and_parts (is_mixed ex) (is_suspended i now way.v way.w) parts.0).0

pub clash_places : (n : ℕ) (ex : Exercise) (voices : ℕ) (p : List (List Cell)) (col : List Cell) (i : ℕ)
    → GoesOn ex p (col ∷ []) → newly_breaks (late_row n) ex voices p col i ≡ true
    → IsAmong (late_first n ex (length p)) (late_count n ex (length p)) i
clash_places n ex voices p col i on =
    by_rule Places (passing_places ex voices p col i on) (excuse_places ex voices p col i on) resolution disturbance
    (λ m soon h. rw (soon.no_passing, soon.no_excuse, soon.no_resolution, soon.no_disturbance)
    (suspension_places ex voices p col i m soon h)) n
  where
    Places : ℕ → Type 0
    Places m = newly_breaks (late_row m) ex voices p col i ≡ true
        → IsAmong (late_first m ex (length p)) (late_count m ex (length p)) i

    parts_of : (m : ℕ) → newly_breaks (late_row m) ex voices p col i ≡ true
        → (newly (settled_by (clash_enough m ex voices)) p col i ≡ true)
        × (reading_of (clash_row m ex voices) (p ++ col ∷ []) i ≡ true)
    parts_of m h =
        and_parts (newly (settled_by (clash_enough m ex voices)) p col i)
        (reading_of (clash_row m ex voices) (p ++ col ∷ []) i) h

    resolution : Places resolution_rule
    resolution h =
        let parts = parts_of resolution_rule h in
        nth_places 4 (omega arith) ex p col i on parts.0
        (breaks_at_bar resolution_rule ex voices (p ++ col ∷ []) i refl parts.1) true refl

    disturbance : Places disturbance_rule
    disturbance h =
        let parts = parts_of disturbance_rule h in
        nth_places 3 (omega arith) ex p col i on parts.0
        (breaks_at_bar disturbance_rule ex voices (p ++ col ∷ []) i refl parts.1) (is_mixed ex)
        (mixed_if_disturbed ex voices i (earlier (p ++ col ∷ []) i) (slice_index_or (p ++ col ∷ []) i [])
        (drop (i + 1) (p ++ col ∷ [])) parts.1)
