-- Where a voice's latest notes start, as columns come (`starts-more`, `starts-same`); and that the
-- newest column settles no break of S15 or S27 at another place than of a note that they tell of
-- (`untold_unsettled`, `some_telling`, `own_unbroken`).
use Rattle.std.specs.Prelude.{◌≡◌, ◌≢◌, ℕ, suc, ◌+◌, ◌-◌, ◌*◌, ◌<◌, ◌≤◌, ◌==◌, Bool, true, false, not, ◌&&◌, ◌||◌, nat_lt, List, [], ◌∷◌, ◌++◌, is_some, drop, length, slice_index_or, if◌then◌else◌, refl, Option, Some, None}
use Rattle.std.specs.Int.{from_bool}
use Rattle.std.proofs.Common.{ap, sym, ◌∙◌, subst, inl, inr, arith}
use Rattle.std.proofs.Math.ListN.{get_or-append}
use Rattle.std.proofs.lemmas.Bool.{and_from, and_parts, both_ways, cases_Bool, cases_eq, cases_lt, eq-eqb, eqb-false, eqb-true, lt-ltb, ne_eqb, not-true, or_cases, or_left, or_parts, or_right}
use Rattle.std.proofs.lemmas.List.{drop-append-le, drop_all, drop_more, get_or_past, length-append, length-drop, map-append}
use Rattle.fux_grid.specs.declared.cell.Cell.{Cell}
use Rattle.fux_grid.specs.declared.cell.Cell.TheVariants.{Rest, Hold, Start}
use Rattle.fux_grid.specs.declared.cell.Onset.{Onset}
use Rattle.fux_grid.specs.declared.exercise.Exercise.{Exercise}
use Rattle.fux_grid.specs.Cells.{cell_in, first_of, onsets_from}
use Rattle.fux_grid.specs.Columns.{earlier, line}
use Rattle.fux_grid.specs.Exercises.{is_mixed, slot_of, species_in}
use Rattle.rule_law.proofs.FourLemmas.{one_of_four}
use Rattle.rule_law.specs.After.{second_of}
use Rattle.rule_law.specs.Bars.{begins_bar}
use Rattle.rule_law.specs.Growth.{newly}
use Rattle.rule_law.specs.Pairs.{one_starts}
use Rattle.rule_law.specs.Places.{reading_of, settled_by}
use Rattle.rule_law.specs.Prefixes.{GoesOn}
use Rattle.rule_law.specs.Rulebooks.{newly_breaks}
use Rattle.rule_law.specs.Terms.{clash, starts}
use Rattle.rule_law.specs.Ways.{holds_some_way, on_some_way}
use Rattle.rule_law.specs.Voices.{holds_of_pair, is_free, on_pair, pair_of}
use Rattle.dissonance_rules.proofs.ClashLaws.{onsets-append}
use Rattle.dissonance_rules.proofs.LatePlaces.{closing, open_parts, way_of}
use Rattle.dissonance_rules.proofs.EitherWay.{clash-turned}
use Rattle.dissonance_rules.proofs.LateReadings.{newly-told}
use Rattle.dissonance_rules.proofs.OffBar.{cantus_holds}
use Rattle.dissonance_rules.specs.Book.{late_row}
use Rattle.dissonance_rules.specs.Clashes.{clash_enough, clash_row, excuse_rule, is_told_later, newly_passing, passing_enough, passing_rule}
use Rattle.dissonance_rules.specs.Mixed.{clash_anew, clash_unexcused, is_excused}
use Rattle.dissonance_rules.specs.Passing.{clashes_badly, has_notes_after, has_ornaments, is_good_in, is_open_clash, notes_needed, reaches_last_bar, starts_in_clash}
use Rattle.dissonance_rules.specs.Starts.{AreStartsOf, IsNthStart, IsStartsOf, IsTelling, is_told_at, next_told, no_starts, starts_from}
use Rattle.dissonance_rules.specs.declared.starts.LatestStarts.{LatestStarts}

-- ---- notes from a column on

one_cell : (k : ℕ) (c : Cell) → length (onsets_from k (c ∷ [])) ≡ from_bool (starts c)
one_cell k Rest = refl
one_cell k (Hold p) = refl
one_cell k (Start p) = refl

first_cell : (k : ℕ) (c : Cell) (cells : List Cell) → starts c ≡ true
    → length (onsets_from k (c ∷ cells)) ≡ length (onsets_from (k + 1) cells) + 1
first_cell k Rest cells h = cc
first_cell k (Hold p) cells h = cc
first_cell k (Start p) cells h =
    let next : suc k ≡ k + 1 = omega arith in
    let same : length (onsets_from (suc k) cells) ≡ length (onsets_from (k + 1) cells) =
    ap (λ n. length (onsets_from n cells)) next in
    omega (arith, same)

module _ (p : List (List Cell)) (v : ℕ) where
  pub from-past : (i : ℕ) → length p ≤ i → starts_from p v i ≡ 0
  from-past i h = ap (λ cols. length (onsets_from i (line v cols))) (drop_all i p h)

  pub from-start : (i : ℕ) → i < length p → starts (cell_in (slice_index_or p i []) v) ≡ true
      → starts_from p v i ≡ starts_from p v (i + 1) + 1
  from-start i h e =
      ap (λ cols. length (onsets_from i (line v cols))) (drop_more p i [] h)
      ∙ first_cell i (cell_in (slice_index_or p i []) v) (line v (drop (i + 1) p)) e

  module _ (col : List Cell) where
    pub from-grown : (i : ℕ) → i ≤ length p
        → starts_from (p ++ col ∷ []) v i ≡ starts_from p v i + from_bool (starts (cell_in col v))
    from-grown i h =
        ap (λ cols. length (onsets_from i (line v cols))) (drop-append-le i p (col ∷ []) h)
        ∙ ap (λ cells. length (onsets_from i cells)) (map-append (λ c. cell_in c v) (drop i p) (col ∷ []))
        ∙ ap length (onsets-append i (line v (drop i p)) (line v (col ∷ [])))
        ∙ length-append (onsets_from i (line v (drop i p)))
        (onsets_from (i + length (line v (drop i p))) (line v (col ∷ [])))
        ∙ ap (λ n. starts_from p v i + n) (one_cell (i + length (line v (drop i p))) (cell_in col v))

-- ---- the latest notes

-- before the first column there are none
pub none-started : (v n : ℕ) → 0 < n → IsNthStart n [] v 0
none-started v n some = record {
  many = λ i less. absurd (omega (arith, less));
  few = λ i more. omega (arith, some, from-past [] v i (omega arith));
}

module _ (p : List (List Cell)) (col : List Cell) (v : ℕ) where
  abbrev grown : List (List Cell)
  grown = p ++ col ∷ []

  size : length grown ≡ length p + 1
  size = length-append p (col ∷ [])

  module _ (b : Bool) (is_start : starts (cell_in col v) ≡ b) (n behind : ℕ) (some : 0 < n)
      (is : IsNthStart n p v behind) where
    grows : (i : ℕ) → i ≤ length p → starts_from grown v i ≡ starts_from p v i + from_bool b
    grows i h = from-grown p v col i h ∙ ap (λ x. starts_from p v i + from_bool x) is_start

    many : (i : ℕ) → i < behind → n + from_bool b ≤ starts_from grown v i
    many i less =
        elim (cases_lt (length p) i) [
          | inl past ↦ absurd (omega (arith, some, is.many i less, from-past p v i (omega (arith, past))))
          | inr within ↦ omega (arith, is.many i less, grows i within)
        ]

    few : (i : ℕ) → behind ≤ i → starts_from grown v i < n + from_bool b
    few i more =
        elim (cases_lt (length p) i) [
          | inl past ↦ omega (arith, some, from-past grown v i (omega (arith, past, size)))
          | inr within ↦ omega (arith, is.few i more, grows i within)
        ]

    nth : IsNthStart (n + from_bool b) grown v behind
    nth = record { many = many; few = few }

  -- a cell that starts no note changes nothing
  pub starts-same : (species : ℕ) (kept : LatestStarts) → starts (cell_in col v) ≡ false → IsStartsOf species p v kept
      → IsStartsOf species grown v kept
  starts-same species kept silent is = record {
    latest = nth false silent 1 kept.latest (omega arith) is.latest;
    second = nth false silent 2 kept.second (omega arith) is.second;
    told = at (has_ornaments species) is.told;
  }
    where
      at : (b : Bool) → IsNthStart ((if b then 2 else 1) + 1) p v kept.told
          → IsNthStart ((if b then 2 else 1) + 1) grown v kept.told
      at true = nth false silent 3 kept.told (omega arith)
      at false = nth false silent 2 kept.told (omega arith)

  -- a note that starts is the latest one
  pub starts-more : (species : ℕ) (kept longer : LatestStarts) → starts (cell_in col v) ≡ true
      → longer.latest ≡ length p + 1 → longer.second ≡ kept.latest → longer.told ≡ next_told species kept
      → IsStartsOf species p v kept → IsStartsOf species grown v longer
  starts-more species kept longer start first second third is = record {
    latest = subst (IsNthStart 1 grown v) (sym first) newest;
    second = subst (IsNthStart 2 grown v) (sym second) (nth true start 1 kept.latest (omega arith) is.latest);
    told = subst (IsNthStart (notes_needed species + 1) grown v) (sym third) (at (has_ornaments species));
  }
    where
      newest : IsNthStart 1 grown v (length p + 1)
      newest = record {
        many = λ i less. omega (arith, from-grown p v col i (omega (arith, less)), ap from_bool start);
        few = λ i more. omega (arith, from-past grown v i (omega (arith, more, size)));
      }

      at : (b : Bool) → IsNthStart ((if b then 2 else 1) + 1) grown v (if b then kept.second else kept.latest)
      at true = nth true start 2 kept.second (omega arith) is.second
      at false = nth true start 1 kept.latest (omega arith) is.latest

-- ---- enough notes

pub enough : (species : ℕ) (notes : List Onset)
    → (if has_ornaments species then is_some (second_of notes) else is_some (first_of notes)) ≡ true
    → notes_needed species ≤ length notes
enough species = at (has_ornaments species)
  where
    at : (b : Bool) (notes : List Onset) → (if b then is_some (second_of notes) else is_some (first_of notes)) ≡ true
        → (if b then 2 else 1) ≤ length notes
    at true [] h = cc
    at true (x ∷ []) h = cc
    at true (x ∷ y ∷ notes) h = omega arith
    at false [] h = cc
    at false (x ∷ notes) h = omega arith

pub too_few : (species : ℕ) (notes : List Onset)
    → (if has_ornaments species then is_some (second_of notes) else is_some (first_of notes)) ≡ false
    → length notes < notes_needed species
too_few species = at (has_ornaments species)
  where
    at : (b : Bool) (notes : List Onset) → (if b then is_some (second_of notes) else is_some (first_of notes)) ≡ false
        → length notes < (if b then 2 else 1)
    at true [] h = omega arith
    at true (x ∷ []) h = omega arith
    at true (x ∷ y ∷ notes) h = cc
    at false [] h = omega arith
    at false (x ∷ notes) h = cc

abbrev no_notes : List Onset
no_notes = []

none_enough : (species : ℕ)
    → (if has_ornaments species then is_some (second_of no_notes) else is_some (first_of no_notes)) ≡ false
none_enough species = at (has_ornaments species)
  where
    at : (b : Bool) → (if b then is_some (second_of no_notes) else is_some (first_of no_notes)) ≡ false
    at true = refl
    at false = refl

-- what is closed before the last bar has enough notes
closed_parts : (clashing notes last : Bool) → clashing ≡ true → last ≡ false
    → not (not clashing || notes || last) ≡ false → notes ≡ true
closed_parts true true last f g h = refl
closed_parts true false true f g h = cc
closed_parts true false false f g h = cc
closed_parts false notes last f g h = cc

-- ---- what the newest column settles

-- a voice that starts a note is there
pub is_there : (ex : Exercise) (p : List (List Cell)) (col : List Cell) (i : ℕ) → GoesOn ex p (col ∷ []) → i < length p
    → (v : ℕ) → starts (cell_in (slice_index_or p i []) v) ≡ true → v < ex.voices
is_there ex p col i on here v h =
    elim (cases_lt v ex.voices) [
      | inl there ↦ there
      | inr beyond ↦ absurd (both_ways (starts (cell_in (slice_index_or p i []) v)) (silent beyond) h)
    ]
  where
    width : length (slice_index_or p i []) ≡ ex.voices
    width =
        ap length (sym (get_or-append p (col ∷ []) [] i here))
        ∙ (on.longer.menus i (omega (arith, here, length-append p (col ∷ [])))).full

    silent : ex.voices ≤ v → starts (cell_in (slice_index_or p i []) v) ≡ false
    silent beyond = ap starts (get_or_past (slice_index_or p i []) v Rest (omega (arith, width, beyond)))

neither : (there fv fw x y : Bool) → (there && (x || y)) ≡ false → (there && ((fv && x) || (fw && y))) ≡ false
neither false fv fw x y h = refl
neither true fv fw true y h = cc
neither true fv fw false true h = cc
neither true true true false false h = refl
neither true true false false false h = refl
neither true false true false false h = refl
neither true false false false false h = refl

-- what is so of neither voice of a set is so for no way to name them
no_way : (ex : Exercise) (test : ℕ → Bool) (voices : ℕ) → on_pair ex (λ v w. test v || test w) voices ≡ false
    → on_some_way ex (λ v w. test v) voices ≡ false
no_way ex test voices = at (pair_of voices)
  where
    at : (o : Option (ℕ × ℕ)) → holds_of_pair ex (λ v w. test v || test w) o ≡ false
        → holds_of_pair ex (holds_some_way ex (λ v w. test v)) o ≡ false
    at None h = refl
    at (Some pair) h =
        neither (nat_lt pair.1 ex.voices) (is_free ex pair.0) (is_free ex pair.1) (test pair.0) (test pair.1) h

-- of a set that the exercise has
pub pair_holds : (ex : Exercise) (test : ℕ → ℕ → Bool) (voices v w : ℕ) → Some (v, w) ≡ pair_of voices
    → w < ex.voices → on_pair ex test voices ≡ test v w
pair_holds ex test voices v w e there =
    sym (ap (holds_of_pair ex test) e) ∙ ap (λ b. b && test v w) (lt-ltb w ex.voices there)

-- where a column more has enough notes and one less had too few, the latest one tells of the note at
-- the place
pub exactly : (i need : ℕ) (b : Bool) (behind then_from now_from own_from : ℕ) → need ≤ now_from → then_from < need
    → now_from ≡ then_from + from_bool b → own_from ≡ now_from + 1
    → (i < behind → need + 1 ≤ own_from) → (behind ≤ i → own_from < need + 1)
    → (i + 1 < behind → need + 1 ≤ now_from) → (behind ≤ i + 1 → now_from < need + 1)
    → behind ≡ i + 1
exactly i need b behind then_from now_from own_from h k e f m1 l1 m2 l2 =
    elim (cases_lt i behind) [
      | inl less ↦
          elim (cases_lt (i + 1) behind) [
            | inl beyond ↦ absurd (omega (arith, m2 beyond, k, e, one b))
            | inr upto ↦ omega (arith, less, upto)
          ]
      | inr more ↦ absurd (omega (arith, l1 more, h, f))
    ]
  where
    one : (b : Bool) → from_bool b ≤ 1
    one true = omega arith
    one false = omega arith

-- and it starts in the newest column
pub newest_start : (need : ℕ) (b : Bool) (last behind then_from now_from last_from end_from : ℕ) → need ≤ now_from
    → then_from < need → now_from ≡ then_from + from_bool b → last_from ≡ from_bool b → end_from ≡ 0
    → (behind ≤ last → last_from < 1) → (last + 1 < behind → 1 ≤ end_from) → behind ≡ last + 1
newest_start need b last behind then_from now_from last_from end_from h k e f g few many =
    elim (cases_lt last behind) [
      | inl above ↦
          elim (cases_lt (last + 1) behind) [
            | inl beyond ↦ absurd (omega (arith, many beyond, g))
            | inr upto ↦ omega (arith, above, upto)
          ]
      | inr below ↦ absurd (omega (arith, few below, f, h, k, e))
    ]

-- of the two rules the one that isn't S27 is S15
pub other_is_passing : (rule : ℕ) → is_told_later rule ≡ true → (rule == 27) ≡ false → rule ≡ passing_rule
other_is_passing rule told other = at (rule == 15) refl
  where
    at : (b : Bool) → (rule == 15) ≡ b → rule ≡ passing_rule
    at true e = eqb-true rule 15 e
    at false e = absurd (both_ways (is_told_later rule) (rw (e, other) refl) told)

module _ (ex : Exercise) (voices : ℕ) (p : List (List Cell)) (col : List Cell) (i : ℕ) (on : GoesOn ex p (col ∷ []))
    (early : nat_lt (8 * (ex.bars - 1)) (length (p ++ col ∷ [])) ≡ false) where
  abbrev longer : List (List Cell)
  longer = p ++ col ∷ []

  -- so long as the last bar hasn't begun
  unended : i < length longer → reaches_last_bar ex i (drop (i + 1) longer) ≡ false
  unended h =
      let same : i + 1 + length (drop (i + 1) longer) ≡ length longer = omega (arith, length-drop (i + 1) longer, h) in
      ap (nat_lt (8 * (ex.bars - 1))) same ∙ early

  -- at a place before it the newest column settles nothing but a note that the latest ones tell of
  module _ (kept : List LatestStarts) (are : AreStartsOf ex longer kept) (four : length kept ≡ 4) (few : ex.voices ≤ 4)
      (within : i < length p) where
    abbrev Told : ℕ → Bool
    Told v = is_told_at kept i v

    -- a way that was open, and that it closes, is of such a note
    telling : (v w : ℕ) → is_free ex v ≡ true → is_open_clash ex i (slice_index_or p i []) (drop (i + 1) p) v w ≡ true
        → is_open_clash ex i (slice_index_or longer i []) (drop (i + 1) longer) v w ≡ false
        → IsTelling ex kept (length p) i v
    telling v w free opens closed =
        let parts = open_parts (starts_in_clash (slice_index_or p i []) v w)
        (has_notes_after (species_in ex v) i v (drop (i + 1) p)) (reaches_last_bar ex i (drop (i + 1) p)) opens in
        let fewer = (or_parts (has_notes_after (species_in ex v) i v (drop (i + 1) p))
        (reaches_last_bar ex i (drop (i + 1) p)) (not-true _ parts.1)).0 in
        let column : slice_index_or longer i [] ≡ slice_index_or p i [] = get_or-append p (col ∷ []) [] i within in
        let clashing : starts_in_clash (slice_index_or longer i []) v w ≡ true =
        ap (λ c. starts_in_clash c v w) column ∙ parts.0 in
        let there : i < length longer = omega (arith, within, length-append p (col ∷ [])) in
        let more = closed_parts (starts_in_clash (slice_index_or longer i []) v w)
        (has_notes_after (species_in ex v) i v (drop (i + 1) longer)) (reaches_last_bar ex i (drop (i + 1) longer))
        clashing (unended there) closed in
        let start = (and_parts (starts (cell_in (slice_index_or longer i []) v))
        (clash (slice_index_or longer i []) v w) clashing).0 in
        let start_then : starts (cell_in (slice_index_or p i []) v) ≡ true =
        ap (λ c. starts (cell_in c v)) (sym column) ∙ start in
        let inside : v < ex.voices = is_there ex p col i on within v start_then in
        let small : v < 4 = omega (arith, inside, few) in
        let Kept : ℕ → LatestStarts → Type 0 = λ w starts. IsStartsOf (species_in ex w) longer w starts in
        let mine = one_of_four Kept kept v no_starts are four small in
        let nth = mine.told in
        let above = from-start longer v i there start in
        let now = enough (species_in ex v) (onsets_from (i + 1) (line v (drop (i + 1) longer))) more in
        let before = too_few (species_in ex v) (onsets_from (i + 1) (line v (drop (i + 1) p))) fewer in
        let grown_by = from-grown p v col (i + 1) (omega (arith, within)) in
        let none_then = from-past p v (length p) (omega arith) in
        let last_by = from-grown p v col (length p) (omega arith) in
        let last_from : starts_from longer v (length p) ≡ from_bool (starts (cell_in col v)) = omega (arith, none_then, last_by) in
        let end_from : starts_from longer v (length p + 1) ≡ 0 = from-past longer v (length p + 1) (omega (arith, length-append p (col ∷ []))) in
        record {
          there = inside;
          free = free;
          latest = newest_start (notes_needed (species_in ex v)) (starts (cell_in col v)) (length p) _ _ _ _ _ now before
              grown_by last_from end_from (mine.latest.few (length p)) (mine.latest.many (length p + 1));
          told = exactly i (notes_needed (species_in ex v)) (starts (cell_in col v)) _ _ _ _ now before grown_by above
              (nth.many i) (nth.few i) (nth.many (i + 1)) (nth.few (i + 1));
        }

    tells : (v w : ℕ) → is_free ex v ≡ true → is_open_clash ex i (slice_index_or p i []) (drop (i + 1) p) v w ≡ true
        → is_open_clash ex i (slice_index_or longer i []) (drop (i + 1) longer) v w ≡ false → Told v ≡ true
    tells v w free opens closed =
        eq-eqb ((slice_index_or kept v no_starts).told) (i + 1) (telling v w free opens closed).told

    pub untold_unsettled : on_pair ex (λ v w. Told v || Told w) voices ≡ false → newly_passing ex voices p col i ≡ false
    untold_unsettled none =
        elim (cases_Bool (newly_passing ex voices p col i)) [
          | inl e ↦
              let one = closing ex voices p col i on e within in
              absurd (both_ways (Told one.v) (one.fails (λ v w. Told v) (no_way ex Told voices none)) (tells one.v one.w one.free one.opens one.closed))
          | inr e ↦ e
        ]

    -- what it settles is of a free voice's note that it tells of
    pub some_telling : (rule : ℕ) → is_told_later rule ≡ true → newly_breaks (late_row rule) ex voices p col i ≡ true
        → (v : ℕ) × IsTelling ex kept (length p) i v
    some_telling rule told h =
        let newly_there : newly_passing ex voices p col i ≡ true =
        sym (newly-told rule ex voices p col i told)
        ∙ (and_parts (newly (settled_by (clash_enough rule ex voices)) p col i)
        (reading_of (clash_row rule ex voices) longer i) h).0 in
        let one = closing ex voices p col i on newly_there within in
        (one.v, telling one.v one.w one.free one.opens one.closed)

  abbrev now : List Cell
  now = slice_index_or longer i []

  abbrev ahead : List (List Cell)
  ahead = drop (i + 1) longer

  module _ (own : i ≡ length p) where
    here : i < length longer
    here = omega (arith, own, length-append p (col ∷ []))

    none_ahead : ahead ≡ []
    none_ahead = drop_all (i + 1) longer (omega (arith, own, length-append p (col ∷ [])))

    -- a note that clashes there is told by no column yet
    own_opens : (v w : ℕ) → starts_in_clash now v w ≡ true → is_open_clash ex i now ahead v w ≡ true
    own_opens v w clashing =
        let notes : has_notes_after (species_in ex v) i v ahead ≡ false =
        ap (λ cols. has_notes_after (species_in ex v) i v cols) none_ahead ∙ none_enough (species_in ex v) in
        rw (clashing, notes, unended here) refl

    none_open : newly_passing ex voices p col i ≡ true → on_some_way ex (is_open_clash ex i now ahead) voices ≡ false
    none_open h =
        let now_then = and_parts (settled_by (passing_enough ex voices) longer i)
        (not (settled_by (passing_enough ex voices) p i)) h in
        let settled = and_parts (nat_lt i (length longer)) (reading_of (passing_enough ex voices) longer i) now_then.0
        in
        not-true _ settled.1

    -- S15 isn't settled at its own place where it is broken there
    pub own_unsettled : newly_breaks (late_row passing_rule) ex voices p col i ≡ false
    own_unsettled =
        elim (cases_Bool (newly_breaks (late_row passing_rule) ex voices p col i)) [
          | inl e ↦ absurd (both_ways false refl (never e))
          | inr e ↦ e
        ]
      where
        never : newly_breaks (late_row passing_rule) ex voices p col i ≡ true → false ≡ true
        never h =
            let parts = and_parts (newly_passing ex voices p col i)
            (reading_of (clash_row passing_rule ex voices) longer i) h in
            let way = way_of ex (clashes_badly ex i (earlier longer i) now ahead) voices parts.1 in
            let bad = and_parts (not (is_mixed ex) && not (begins_bar i) && starts_in_clash now way.v way.w)
            (not (is_good_in ex i (earlier longer i) now ahead way.v)) way.passes in
            let clashing = (and_parts (not (is_mixed ex) && not (begins_bar i)) (starts_in_clash now way.v way.w)
            bad.0).1 in
            sym (way.fails (is_open_clash ex i now ahead) (none_open parts.0)) ∙ own_opens way.v way.w clashing

    -- nor is S27: within a bar no voice but a free one starts a note
    pub own_excused : newly_breaks (late_row excuse_rule) ex voices p col i ≡ false
    own_excused =
        elim (cases_Bool (newly_breaks (late_row excuse_rule) ex voices p col i)) [
          | inl e ↦ absurd (both_ways false refl (never e))
          | inr e ↦ e
        ]
      where
        opens : ℕ → ℕ → Bool
        opens = is_open_clash ex i now ahead

        starter : slot_of i ≢ 0 → (v : ℕ) → starts (cell_in now v) ≡ true → is_free ex v ≡ true
        starter slot v start =
            elim (cases_eq v ex.cantus_voice) [
              | inl cantus ↦ absurd (both_ways (starts (cell_in now v))
                  (cantus_holds ex v i now cantus (on.longer.menus i here) slot) start)
              | inr other ↦ ap not (ne_eqb v ex.cantus_voice other)
            ]

        one_way : slot_of i ≢ 0 → (v w : ℕ) → clash now v w ≡ true → starts (cell_in now v) ≡ true
            → (is_free ex v && opens v w) ≡ true
        one_way slot v w clashing start =
            and_from (is_free ex v) (opens v w) (starter slot v start)
            (own_opens v w (and_from (starts (cell_in now v)) (clash now v w) start clashing))

        some_way : (v w : ℕ) → clash_unexcused ex i (earlier longer i) now ahead v w ≡ true
            → holds_some_way ex opens v w ≡ true
        some_way v w h =
            let broken = and_parts (is_mixed ex && clash_anew i now v w)
            (not (is_excused ex i (earlier longer i) now ahead v || is_excused ex i (earlier longer i) now ahead w)) h
            in
            let mixed = and_parts (is_mixed ex) (clash_anew i now v w) broken.0 in
            let anew = and_parts (not (begins_bar i) && clash now v w) (one_starts now v w) mixed.1 in
            let inner = and_parts (not (begins_bar i)) (clash now v w) anew.0 in
            let slot : slot_of i ≢ 0 = eqb-false (slot_of i) 0 (not-true (begins_bar i) inner.0) in
            elim (or_cases (starts (cell_in now v)) (starts (cell_in now w)) anew.1) [
              | inl first ↦ or_left (is_free ex v && opens v w) (is_free ex w && opens w v)
                  (one_way slot v w inner.1 first)
              | inr second ↦ or_right (is_free ex v && opens v w) (is_free ex w && opens w v)
                  (one_way slot w v (sym (clash-turned now v w) ∙ inner.1) second)
            ]

        at : (pair : Option (ℕ × ℕ))
            → holds_of_pair ex (clash_unexcused ex i (earlier longer i) now ahead) pair ≡ true
            → holds_of_pair ex (holds_some_way ex opens) pair ≡ true
        at None h = cc
        at (Some pair) h =
            let parts = and_parts (nat_lt pair.1 ex.voices)
            (clash_unexcused ex i (earlier longer i) now ahead pair.0 pair.1) h in
            and_from (nat_lt pair.1 ex.voices) (holds_some_way ex opens pair.0 pair.1) parts.0
            (some_way pair.0 pair.1 parts.1)

        never : newly_breaks (late_row excuse_rule) ex voices p col i ≡ true → false ≡ true
        never h =
            let parts = and_parts (newly_passing ex voices p col i)
            (reading_of (clash_row excuse_rule ex voices) longer i) h in
            sym (none_open parts.0) ∙ at (pair_of voices) parts.1

    -- so before the last bar begins the newest column settles no break of either at its own place
    pub own_unbroken : (rule : ℕ) → is_told_later rule ≡ true → newly_breaks (late_row rule) ex voices p col i ≡ false
    own_unbroken rule told =
        elim (cases_Bool (rule == 27)) [
          | inl e ↦ ap (λ r. newly_breaks (late_row r) ex voices p col i) (eqb-true rule 27 e) ∙ own_excused
          | inr e ↦ ap (λ r. newly_breaks (late_row r) ex voices p col i) (other_is_passing rule told e) ∙ own_unsettled
        ]

  -- what settles neither settles no break
  pub unsettled_unbroken : (rule : ℕ) → is_told_later rule ≡ true → newly_passing ex voices p col i ≡ false
      → newly_breaks (late_row rule) ex voices p col i ≡ false
  unsettled_unbroken rule told none =
      ap (λ b. b && reading_of (clash_row rule ex voices) longer i)
      (newly-told rule ex voices p col i told ∙ none)
