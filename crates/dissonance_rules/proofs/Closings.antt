-- Before the last bar begins: what the newest column settles of S15 and S27 for two voices, by where
-- their latest notes start (`closes-is`), and that it is a break for them (`closed-breaks`).
use Rattle.std.specs.Prelude.{◌≡◌, ℕ, ◌+◌, ◌-◌, ◌*◌, ◌<◌, ◌≤◌, ◌==◌, Bool, true, false, not, ◌&&◌, ◌||◌, nat_le, nat_lt, List, [], ◌∷◌, ◌++◌, drop, length, slice_index_or, if◌then◌else◌, refl, Some, None}
use Rattle.std.specs.Int.{from_bool}
use Rattle.std.proofs.Common.{ap, sym, ◌∙◌, inl, inr, arith}
use Rattle.std.proofs.Math.ListN.{get_or-append}
use Rattle.std.proofs.lemmas.Bool.{and_from, and_left, and_parts, and_right, cases_Bool, cases_eq, cases_lt, eq-eqb, le-leb, le-ltb, lt-leb, lt-ltb, ltb-false, ne_eqb, not-false}
use Rattle.std.proofs.lemmas.List.{length-append, length-drop}
use Rattle.fux_grid.specs.declared.cell.Cell.{Cell}
use Rattle.fux_grid.specs.declared.exercise.Exercise.{Exercise}
use Rattle.fux_grid.specs.Cells.{cell_in, onsets_from}
use Rattle.fux_grid.specs.Columns.{earlier, line}
use Rattle.fux_grid.specs.Exercises.{is_mixed, species_in}
use Rattle.rule_law.proofs.FourLemmas.{one_of_four}
use Rattle.rule_law.specs.Bars.{begins_bar}
use Rattle.rule_law.specs.Growth.{newly}
use Rattle.rule_law.specs.Pairs.{one_starts}
use Rattle.rule_law.specs.Places.{reading_of, settled_by}
use Rattle.rule_law.specs.Prefixes.{GoesOn}
use Rattle.rule_law.specs.Rulebooks.{newly_breaks}
use Rattle.rule_law.specs.Terms.{clash, starts}
use Rattle.rule_law.specs.Voices.{holds_of_pair, is_free, pair_of}
use Rattle.rule_law.specs.Ways.{holds_some_way, on_some_way}
use Rattle.dissonance_rules.specs.Book.{late_row}
use Rattle.dissonance_rules.specs.Clashes.{clash_enough, clash_row, clash_rule, is_told_later, newly_passing, pair_rule, passing_enough}
use Rattle.dissonance_rules.specs.Mixed.{clash_unexcused, is_excused}
use Rattle.dissonance_rules.specs.Passing.{clashes_badly, has_notes_after, is_good_in, is_open_clash, notes_needed, reaches_last_bar, starts_badly, starts_in_clash}
use Rattle.dissonance_rules.specs.Starts.{AreStartsOf, IsStartsOf, closes_pair, is_told_now, is_untold, no_starts, starts_free, starts_from}
use Rattle.dissonance_rules.specs.declared.starts.LatestStarts.{LatestStarts}
use Rattle.dissonance_rules.proofs.EitherWay.{clash-turned}
use Rattle.dissonance_rules.proofs.LateReadings.{newly-told, pair_found, ways}
use Rattle.dissonance_rules.proofs.LatestNotes.{enough, exactly, from-grown, from-past, from-start, is_there, newest_start, other_is_passing, too_few}

-- ---- tests

-- a way is open where a free voice starts a note that clashes, and too few notes came
opens-as : (free s c n last : Bool) → c ≡ true → last ≡ false
    → (free && not (not (s && c) || n || last)) ≡ ((free && s) && not n)
opens-as true true true true false e f = refl
opens-as true true true false false e f = refl
opens-as true true true n true e f = cc
opens-as true true false n last e f = cc
opens-as true false c n last e f = refl
opens-as false s c n last e f = refl

-- what is asked where a first test passes
after_first : (a m n : Bool) → (a ≡ true → m ≡ n) → (a && m) ≡ (a && n)
after_first true m n h = h refl
after_first false m n h = refl

twice : (b : Bool) → not (not b) ≡ b
twice true = refl
twice false = refl

-- two ways that were open, and aren't any more
closing-by : (a b c d u x t s : Bool) → a ≡ u → b ≡ x → (u ≡ false → c ≡ t) → (x ≡ false → d ≡ s)
    → (not (a || b) && not (not (c || d))) ≡ (not (u || x) && (t || s))
closing-by a b c d true x t s e f g h = ap (λ y. not (y || b) && not (not (c || d))) e
closing-by a b c d false true t s e f g h =
    ap (λ y. not (y || b) && not (not (c || d))) e ∙ ap (λ y. not y && not (not (c || d))) f
closing-by a b c d false false t s e f g h =
    ap (λ y. not (y || b) && not (not (c || d))) e ∙ ap (λ y. not y && not (not (c || d))) f
    ∙ twice (c || d) ∙ ap (λ y. y || d) (g refl) ∙ ap (λ y. t || y) (h refl)

-- ---- how many notes came

-- enough of them came after a place where the place of the note before those is behind it
told_after : (i need told now_from own_from : ℕ) → need ≤ now_from → own_from ≡ now_from + 1
    → (told ≤ i → own_from < need + 1) → i < told
told_after i need told now_from own_from h e few =
    elim (cases_lt i told) [
      | inl less ↦ less
      | inr more ↦ absurd (omega (arith, few more, h, e))
    ]

told_before : (i need told now_from own_from : ℕ) → now_from < need → own_from ≡ now_from + 1
    → (i < told → need + 1 ≤ own_from) → told ≤ i
told_before i need told now_from own_from h e many =
    elim (cases_lt i told) [
      | inl less ↦ absurd (omega (arith, many less, h, e))
      | inr more ↦ more
    ]

-- what was told before isn't told by the newest column
told_once : (i need fresh told latest last then_from now_from last_from : ℕ) → need ≤ then_from
    → now_from ≡ then_from + fresh → last_from ≡ fresh → (last < latest → 1 ≤ last_from)
    → (told ≤ i + 1 → now_from < need + 1) → told ≡ i + 1 → latest ≡ last + 1 → ⊥
told_once i need fresh told latest last then_from now_from last_from h e f many few g k =
    omega (arith, h, e, f, many (omega (arith, k)), few (omega (arith, g)))

-- ---- two voices that clash

module _ (ex : Exercise) (voices : ℕ) (p : List (List Cell)) (col : List Cell) (i : ℕ) (on : GoesOn ex p (col ∷ []))
    (early : nat_lt (8 * (ex.bars - 1)) (length (p ++ col ∷ [])) ≡ false) (kept : List LatestStarts)
    (are : AreStartsOf ex (p ++ col ∷ []) kept) (four : length kept ≡ 4) (few : ex.voices ≤ 4) (within : i < length p)
  where
    abbrev longer : List (List Cell)
    longer = p ++ col ∷ []

    abbrev now : List Cell
    now = slice_index_or longer i []

    abbrev ahead : List (List Cell) → List (List Cell)
    ahead s = drop (i + 1) s

    size : length longer ≡ length p + 1
    size = length-append p (col ∷ [])

    column : now ≡ slice_index_or p i []
    column = get_or-append p (col ∷ []) [] i within

    -- neither list has a column of the last bar
    unended_then : reaches_last_bar ex i (ahead p) ≡ false
    unended_then =
        le-ltb (8 * (ex.bars - 1)) (i + 1 + length (ahead p))
        (omega (arith, length-drop (i + 1) p, within, size, ltb-false (8 * (ex.bars - 1)) (length longer) early))

    unended_now : reaches_last_bar ex i (ahead longer) ≡ false
    unended_now =
        le-ltb (8 * (ex.bars - 1)) (i + 1 + length (ahead longer))
        (omega (arith, length-drop (i + 1) longer, within, size, ltb-false (8 * (ex.bars - 1)) (length longer) early))

    abbrev notes_in : List (List Cell) → ℕ → Bool
    notes_in s v = has_notes_after (species_in ex v) i v (ahead s)

    abbrev mine : ℕ → LatestStarts
    mine v = slice_index_or kept v no_starts

    module _ (v : ℕ) (start : starts (cell_in now v) ≡ true) where
      inside : v < ex.voices
      inside = is_there ex p col i on within v (ap (λ c. starts (cell_in c v)) (sym column) ∙ start)

      latest : IsStartsOf (species_in ex v) longer v (mine v)
      latest =
          let Kept : ℕ → LatestStarts → Type 0 = λ w starts. IsStartsOf (species_in ex w) longer w starts in
          one_of_four Kept kept v no_starts are four (omega (arith, inside, few))

      above : starts_from longer v i ≡ starts_from longer v (i + 1) + 1
      above = from-start longer v i (omega (arith, within, size)) start

      grown_by : starts_from longer v (i + 1) ≡ starts_from p v (i + 1) + from_bool (starts (cell_in col v))
      grown_by = from-grown p v col (i + 1) (omega (arith, within))

      last_from : starts_from longer v (length p) ≡ from_bool (starts (cell_in col v))
      last_from = omega (arith, from-past p v (length p) (omega arith), from-grown p v col (length p) (omega arith))

      end_from : starts_from longer v (length p + 1) ≡ 0
      end_from = from-past longer v (length p + 1) (omega (arith, size))

      enough_in : (s : List (List Cell)) → notes_in s v ≡ true → notes_needed (species_in ex v) ≤ starts_from s v (i + 1)
      enough_in s h = enough (species_in ex v) (onsets_from (i + 1) (line v (ahead s))) h

      too_few_in : (s : List (List Cell)) → notes_in s v ≡ false → starts_from s v (i + 1) < notes_needed (species_in ex v)
      too_few_in s h = too_few (species_in ex v) (onsets_from (i + 1) (line v (ahead s))) h

      -- where its note isn't told
      untold-is : not (notes_in longer v) ≡ nat_le (mine v).told i
      untold-is =
          elim (cases_Bool (notes_in longer v)) [
            | inl e ↦ ap not e ∙ sym (lt-leb (mine v).told i (told_after i (notes_needed (species_in ex v)) (mine v).told _ _
                (enough_in longer e) above (latest.told.few i)))
            | inr e ↦ ap not e ∙ sym (le-leb (mine v).told i (told_before i (notes_needed (species_in ex v)) (mine v).told _ _
                (too_few_in longer e) above (latest.told.many i)))
          ]

      -- where it is told with the newest column alone
      told-is : nat_le (mine v).told i ≡ false
          → not (notes_in p v) ≡ (((mine v).told == i + 1) && ((mine v).latest == length longer))
      told-is closed =
          let told_now : notes_in longer v ≡ true = not-false (notes_in longer v) (untold-is ∙ closed) in
          elim (cases_Bool (notes_in p v)) [
            | inl e ↦ ap not e ∙ sym (not_now (enough_in p e))
            | inr e ↦
                ap not e
                ∙ sym (and_from ((mine v).told == i + 1) ((mine v).latest == length longer)
                (eq-eqb (mine v).told (i + 1)
                (exactly i (notes_needed (species_in ex v)) (starts (cell_in col v)) _ _ _ _ (enough_in longer told_now)
                (too_few_in p e) grown_by above (latest.told.many i) (latest.told.few i) (latest.told.many (i + 1))
                (latest.told.few (i + 1))))
                (eq-eqb (mine v).latest (length longer)
                (newest_start (notes_needed (species_in ex v)) (starts (cell_in col v)) (length p) _ _ _ _ _
                (enough_in longer told_now) (too_few_in p e) grown_by last_from end_from
                (latest.latest.few (length p)) (latest.latest.many (length p + 1)) ∙ sym size)))
          ]
        where
          not_now : notes_needed (species_in ex v) ≤ starts_from p v (i + 1)
              → (((mine v).told == i + 1) && ((mine v).latest == length longer)) ≡ false
          not_now h =
              elim (cases_eq (mine v).told (i + 1)) [
                | inl e ↦ and_right ((mine v).told == i + 1) ((mine v).latest == length longer)
                    (ne_eqb (mine v).latest (length longer)
                    (λ f. told_once i (notes_needed (species_in ex v)) (from_bool (starts (cell_in col v))) (mine v).told
                    (mine v).latest (length p) _ _ _ h grown_by last_from (latest.latest.many (length p))
                    (latest.told.few (i + 1)) e (f ∙ size)))
                | inr other ↦ and_left ((mine v).told == i + 1) ((mine v).latest == length longer)
                    (ne_eqb (mine v).told (i + 1) other)
              ]

    starter : (v : ℕ) → starts_free ex now v ≡ true → starts (cell_in now v) ≡ true
    starter v h = (and_parts (is_free ex v) (starts (cell_in now v)) h).1

    abbrev opens : List (List Cell) → ℕ → ℕ → Bool
    opens s = is_open_clash ex i (slice_index_or s i []) (ahead s)

    module _ (v w : ℕ) (clashing : clash now v w ≡ true) where
      -- a way is open with the newest column where the voice's note is untold
      open_now : (is_free ex v && opens longer v w) ≡ is_untold ex kept now i v
      open_now =
          opens-as (is_free ex v) (starts (cell_in now v)) (clash now v w) (notes_in longer v)
          (reaches_last_bar ex i (ahead longer)) clashing unended_now
          ∙ after_first (starts_free ex now v) (not (notes_in longer v)) (nat_le (mine v).told i)
          (λ h. untold-is v (starter v h))

      -- where it isn't, a way was open before where the newest column tells of it
      open_then : is_untold ex kept now i v ≡ false
          → (is_free ex v && opens p v w) ≡ is_told_now ex kept now i (length longer) v
      open_then closed =
          ap (λ c. is_free ex v && is_open_clash ex i c (ahead p) v w) (sym column)
          ∙ opens-as (is_free ex v) (starts (cell_in now v)) (clash now v w) (notes_in p v)
          (reaches_last_bar ex i (ahead p)) clashing unended_then
          ∙ after_first (starts_free ex now v) (not (notes_in p v))
          (((mine v).told == i + 1) && ((mine v).latest == length longer))
          (λ h. told-is v (starter v h) (sym (ap (λ b. b && nat_le (mine v).told i) h) ∙ closed))

    module _ (v w : ℕ) (pair : Some (v, w) ≡ pair_of voices) (there : w < ex.voices) where
      -- where two voices clash
      pub closes-is : clash now v w ≡ true
          → newly_passing ex voices p col i ≡ closes_pair ex kept now i (length longer) v w
      closes-is clashing =
          ap (λ b. b && not (settled_by (passing_enough ex voices) p i)) settled_now
          ∙ ap (λ b. not (on_some_way ex (opens longer) voices) && not b) settled_then
          ∙ ap (λ b. not b && not (not (on_some_way ex (opens p) voices))) (ways ex (opens longer) voices v w pair there)
          ∙ ap (λ b. not ((is_free ex v && opens longer v w) || (is_free ex w && opens longer w v)) && not (not b))
          (ways ex (opens p) voices v w pair there)
          ∙ closing-by (is_free ex v && opens longer v w) (is_free ex w && opens longer w v)
          (is_free ex v && opens p v w) (is_free ex w && opens p w v) (is_untold ex kept now i v)
          (is_untold ex kept now i w) (is_told_now ex kept now i (length longer) v)
          (is_told_now ex kept now i (length longer) w)
          (open_now v w clashing) (open_now w v turned) (open_then v w clashing) (open_then w v turned)
        where
          turned : clash now w v ≡ true
          turned = sym (clash-turned now v w) ∙ clashing

          settled_now : settled_by (passing_enough ex voices) longer i ≡ not (on_some_way ex (opens longer) voices)
          settled_now =
              ap (λ b. b && not (on_some_way ex (opens longer) voices))
              (lt-ltb i (length longer) (omega (arith, within, size)))

          settled_then : settled_by (passing_enough ex voices) p i ≡ not (on_some_way ex (opens p) voices)
          settled_then = ap (λ b. b && not (on_some_way ex (opens p) voices)) (lt-ltb i (length p) within)

    -- where the newest column settles it, it breaks the rule where that is broken for the two voices
    pub closed-breaks : (v w : ℕ) → Some (v, w) ≡ pair_of voices → w < ex.voices → (rule : ℕ)
        → is_told_later rule ≡ true → newly_passing ex voices p col i ≡ true
        → newly_breaks (late_row rule) ex voices p col i ≡ reading_of (pair_rule rule ex) longer i v w
    closed-breaks v w pair there rule told h =
        ap (λ b. b && reading_of (clash_row rule ex voices) longer i) (newly-told rule ex voices p col i told ∙ h)
        ∙ pair_found rule ex voices i v w (earlier longer i) now (ahead longer) pair there

-- ---- voices that break neither rule

-- without a clash neither rule is broken
unclashing_way : (free m s g : Bool) → (free && (m && (s && false) && not g)) ≡ false
unclashing_way true true true g = refl
unclashing_way true true false g = refl
unclashing_way true false s g = refl
unclashing_way false m s g = refl

unclashing_pair : (m n s e : Bool) → (m && (n && false && s) && not e) ≡ false
unclashing_pair true true s e = refl
unclashing_pair true false s e = refl
unclashing_pair false n s e = refl

pub unclashing : (rule : ℕ) (ex : Exercise) (i : ℕ) (behind : List (List Cell)) (now : List Cell)
    (ahead : List (List Cell)) (v w : ℕ) → is_told_later rule ≡ true → clash now v w ≡ false
    → pair_rule rule ex i behind now ahead v w ≡ false
unclashing rule ex i behind now ahead v w told none =
    elim (cases_Bool (rule == 27)) [
      | inl e ↦
          ap (λ b. if b then clash_unexcused ex i behind now ahead v w
          else holds_some_way ex (clash_rule rule ex i behind now ahead) v w) e
          ∙ ap (λ b. is_mixed ex && (not (begins_bar i) && b && one_starts now v w)
          && not (is_excused ex i behind now ahead v || is_excused ex i behind now ahead w)) none
          ∙ unclashing_pair (is_mixed ex) (not (begins_bar i)) (one_starts now v w)
          (is_excused ex i behind now ahead v || is_excused ex i behind now ahead w)
      | inr e ↦
          ap (λ r. pair_rule r ex i behind now ahead v w) (other_is_passing rule told e)
          ∙ ap (λ b. b || (is_free ex w && clash_rule 15 ex i behind now ahead w v)) (way v w none)
          ∙ way w v (sym (clash-turned now v w) ∙ none)
    ]
  where
    way : (x y : ℕ) → clash now x y ≡ false → (is_free ex x && clash_rule 15 ex i behind now ahead x y) ≡ false
    way x y h =
        ap (λ b. is_free ex x && (not (is_mixed ex) && not (begins_bar i) && (starts (cell_in now x) && b)
        && not (is_good_in ex i behind now ahead x))) h
        ∙ unclashing_way (is_free ex x) (not (is_mixed ex) && not (begins_bar i)) (starts (cell_in now x))
        (is_good_in ex i behind now ahead x)

-- with one S15 is broken within a bar where a free voice starts a note that isn't good
clashing_way : (free m b s c g : Bool) → m ≡ false → b ≡ false → c ≡ true
    → (free && (not m && not b && (s && c) && not g)) ≡ (s && free && not g)
clashing_way true false false true true g e f h = refl
clashing_way true false false false true g e f h = refl
clashing_way true false false s false g e f h = cc
clashing_way true false true s c g e f h = cc
clashing_way true true b s c g e f h = cc
clashing_way false m b true c g e f h = refl
clashing_way false m b false c g e f h = refl

-- and where species are mixed it isn't
mixed_way : (free m b s g : Bool) → m ≡ true → (free && (not m && not b && s && not g)) ≡ false
mixed_way true true b s g e = refl
mixed_way true false b s g e = cc
mixed_way false m b s g e = refl

module _ (ex : Exercise) (i : ℕ) (behind : List (List Cell)) (now : List Cell) (ahead : List (List Cell)) (v w : ℕ)
  where
    -- of the two rules the one that isn't S27
    pub ways-of : (rule : ℕ) → is_told_later rule ≡ true → (rule == 27) ≡ false
        → pair_rule rule ex i behind now ahead v w
        ≡ ((is_free ex v && clashes_badly ex i behind now ahead v w)
        || (is_free ex w && clashes_badly ex i behind now ahead w v))
    ways-of rule told other =
        ap (λ r. pair_rule r ex i behind now ahead v w) (other_is_passing rule told other)

    pub clashing-bad : clash now v w ≡ true → begins_bar i ≡ false → is_mixed ex ≡ false
        → ((is_free ex v && clashes_badly ex i behind now ahead v w)
        || (is_free ex w && clashes_badly ex i behind now ahead w v))
        ≡ (starts_badly ex i behind now ahead v || starts_badly ex i behind now ahead w)
    clashing-bad clashing within one =
        ap (λ b. b || (is_free ex w && clashes_badly ex i behind now ahead w v)) (way v w clashing)
        ∙ ap (λ b. starts_badly ex i behind now ahead v || b) (way w v (sym (clash-turned now v w) ∙ clashing))
      where
        way : (x y : ℕ) → clash now x y ≡ true → (is_free ex x && clashes_badly ex i behind now ahead x y)
            ≡ starts_badly ex i behind now ahead x
        way x y h =
            clashing_way (is_free ex x) (is_mixed ex) (begins_bar i) (starts (cell_in now x)) (clash now x y)
            (is_good_in ex i behind now ahead x) one within h

    pub mixed-unbroken : is_mixed ex ≡ true
        → ((is_free ex v && clashes_badly ex i behind now ahead v w)
        || (is_free ex w && clashes_badly ex i behind now ahead w v)) ≡ false
    mixed-unbroken mixed =
        ap (λ b. b || (is_free ex w && clashes_badly ex i behind now ahead w v)) (way v w) ∙ way w v
      where
        way : (x y : ℕ) → (is_free ex x && clashes_badly ex i behind now ahead x y) ≡ false
        way x y =
            mixed_way (is_free ex x) (is_mixed ex) (begins_bar i) (starts_in_clash now x y)
            (is_good_in ex i behind now ahead x) mixed

module _ (rule : ℕ) (ex : Exercise) (voices : ℕ) (p : List (List Cell)) (col : List Cell) (i : ℕ) where
  abbrev grown : List (List Cell)
  grown = p ++ col ∷ []

  -- a rule that isn't broken at a place
  pub kept-unbroken : reading_of (clash_row rule ex voices) grown i ≡ false
      → false ≡ newly_breaks (late_row rule) ex voices p col i
  kept-unbroken h =
      sym (and_right (newly (settled_by (clash_enough rule ex voices)) p col i)
      (reading_of (clash_row rule ex voices) grown i) h)

  -- a set that isn't one of two voices, or of which the exercise lacks one
  pub unpaired : None ≡ pair_of voices → false ≡ newly_breaks (late_row rule) ex voices p col i
  unpaired e =
      kept-unbroken (sym (ap (holds_of_pair ex (pair_rule rule ex i (earlier grown i) (slice_index_or grown i [])
      (drop (i + 1) grown))) e))

  pub beyond : (v w : ℕ) → Some (v, w) ≡ pair_of voices → ex.voices ≤ w
      → false ≡ newly_breaks (late_row rule) ex voices p col i
  beyond v w e past =
      kept-unbroken (sym (ap (holds_of_pair ex (pair_rule rule ex i (earlier grown i) (slice_index_or grown i [])
      (drop (i + 1) grown))) e)
      ∙ and_left (nat_lt w ex.voices) (pair_rule rule ex i (earlier grown i) (slice_index_or grown i [])
      (drop (i + 1) grown) v w) (le-ltb w ex.voices past))
