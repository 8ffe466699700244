-- What the newest column settles of the late rules, after an orderly prefix (`kept_around`,
-- `newly_at_place`).
use Rattle.std.specs.Prelude.{◌≡◌, ◌≢◌, ℕ, ◌+◌, ◌-◌, ◌<◌, ◌≤◌, ◌==◌, Bool, true, false, not, ◌&&◌, ◌||◌, nat_le, nat_lt, List, [], ◌∷◌, ◌++◌, IsTrue, Some, drop, take, length, slice_index_or, if◌then◌else◌, refl}
use Rattle.std.proofs.Common.{ap, sym, ◌∙◌, subst, arith}
use Rattle.std.proofs.Math.ListN.{get_or-append}
use Rattle.std.proofs.lemmas.Bool.{and_right, cond-true, eqb-true, le-leb, le-ltb, lt-leb, lt-ltb, ne_eqb}
use Rattle.std.proofs.lemmas.List.{length-append, length-drop, take_all, take_at}
use Rattle.fux_grid.specs.declared.cell.Cell.{Cell}
use Rattle.fux_grid.specs.declared.exercise.Exercise.{Exercise}
use Rattle.fux_grid.specs.Cells.{newest}
use Rattle.fux_grid.specs.Exercises.{columns_in, is_mixed, slot_of}
use Rattle.rule_law.proofs.AroundLemmas.{kept_after}
use Rattle.rule_law.proofs.AtOnce.{among_own, newly_there}
use Rattle.rule_law.specs.Around.{AreKeptFrom}
use Rattle.rule_law.specs.Bars.{begins_bar}
use Rattle.rule_law.specs.Growth.{newly}
use Rattle.rule_law.specs.Newest.{AreNewestOf}
use Rattle.rule_law.specs.Places.{at_once, reading_of, settled_by}
use Rattle.rule_law.specs.Prefixes.{GoesOn}
use Rattle.rule_law.specs.Rulebooks.{IsAmong, RuleRow, newly_breaks}
use Rattle.rule_law.specs.Voices.{holds_of_pair, is_free, pair_of}
use Rattle.rule_law.specs.Ways.{holds_some_way, on_some_way}
use Rattle.rule_law.specs.Whole.{is_whole}
use Rattle.rule_law.specs.declared.newest.NewestColumns.{NewestColumns}
use Rattle.dissonance_rules.specs.Book.{at_once_row, is_late, late_count, late_first, late_row, passing_reach, rule_row}
use Rattle.dissonance_rules.proofs.ClashLaws.{by_rule}
use Rattle.dissonance_rules.specs.Clashes.{clash_enough, clash_row, clash_rule, enough_ahead, is_told_later, pair_rule, passing_enough}
use Rattle.dissonance_rules.specs.Passing.{is_open_clash}
use Rattle.dissonance_rules.proofs.BookLaws.{rules_keep}
use Rattle.dissonance_rules.proofs.OffBar.{passing_reach-bound}

-- ---- a late row

late_from : (n : ℕ) → IsTrue (rule_row n).late → is_late n ≡ true
late_from n h = at (is_late n) refl h
  where
    at : (b : Bool) → is_late n ≡ b → IsTrue (if b then late_row n else at_once_row n).late → is_late n ≡ true
    at true e k = e
    at false e k = cc

pub row_is : (n : ℕ) → IsTrue (rule_row n).late → rule_row n ≡ late_row n
row_is n h = cond-true (is_late n) (late_row n) (at_once_row n) (late_from n h)

-- ---- settled columns of S15

module _ (ex : Exercise) (voices : ℕ) (p : List (List Cell)) (col : List Cell) (i len : ℕ)
    (count : len ≡ length (p ++ col ∷ [])) (here : i < len) where
  abbrev grown : List (List Cell)
  grown = p ++ col ∷ []

  size : len ≡ length p + 1
  size = omega (arith, count, length-append p (col ∷ []))

  abbrev opens : List (List Cell) → List (List Cell) → Bool
  opens s t = on_some_way ex (is_open_clash ex i (slice_index_or s i []) (drop (i + 1) t)) voices

  settled_now : settled_by (passing_enough ex voices) grown i ≡ not (opens grown grown)
  settled_now = ap (λ b. b && not (opens grown grown)) (lt-ltb i (length grown) (omega (arith, count, here)))

  whole : take len grown ≡ grown
  whole = take_all len grown (omega (arith, count))

  abbrev settles_newly : Bool
  settles_newly = newly (settled_by (passing_enough ex voices)) p col i

  now_told : (was : Bool) → settled_by (passing_enough ex voices) p i ≡ was
      → settles_newly ≡ (not (opens grown (take len grown)) && not was)
  now_told was e =
      ap (λ b. b && not (settled_by (passing_enough ex voices) p i))
      (settled_now ∙ ap not (sym (ap (opens grown) whole)))
      ∙ ap (λ b. not (opens grown (take len grown)) && not b) e

  settles : settled_by (passing_enough ex voices) p i ≡ false → not (opens grown (take len grown)) ≡ settles_newly
  settles e = sym (now_told false e ∙ plain (not (opens grown (take len grown))))
    where
      plain : (b : Bool) → (b && true) ≡ b
      plain true = refl
      plain false = refl

  -- at its own place nothing was settled before
  pub settles_own : i + 1 ≡ len → not (opens grown (take len grown)) ≡ settles_newly
  settles_own last =
      settles (ap (λ b. b && reading_of (passing_enough ex voices) p i)
      (le-ltb i (length p) (omega (arith, last, size))))

  module _ (earlier_place : i + 1 ≢ len) where
    settled_before : settled_by (passing_enough ex voices) p i ≡ not (opens grown (take (len - 1) grown))
    settled_before =
        let before : i < length p = omega (arith, earlier_place, size, here) in
        let prefix : take (len - 1) grown ≡ p = take_at p (col ∷ []) (len - 1) (omega (arith, size)) in
        ap (λ b. b && not (opens p p)) (lt-ltb i (length p) before)
        ∙ ap not (sym (ap (opens grown) prefix
        ∙ ap (λ c. on_some_way ex (is_open_clash ex i c (drop (i + 1) p)) voices)
        (get_or-append p (col ∷ []) [] i before)))

    pub settles_none : false ≡ opens grown (take (len - 1) grown) → false ≡ settles_newly
    settles_none closed =
        sym (now_told true (settled_before ∙ ap not (sym closed)) ∙ never (not (opens grown (take len grown))))
      where
        never : (b : Bool) → (b && false) ≡ false
        never true = refl
        never false = refl

    pub settles_open : true ≡ opens grown (take (len - 1) grown) → not (opens grown (take len grown)) ≡ settles_newly
    settles_open open_then = settles (settled_before ∙ ap not (sym open_then))

-- S15 and S27 are newly settled where that is told
pub newly-told : (n : ℕ) (ex : Exercise) (voices : ℕ) (p : List (List Cell)) (col : List Cell) (i : ℕ) → is_told_later n
    ≡ true
    → newly (settled_by (clash_enough n ex voices)) p col i ≡ newly (settled_by (passing_enough ex voices)) p col i
newly-told n ex voices p col i told =
    ap (λ b. newly (settled_by (if b then passing_enough ex voices
    else (if n == 20 then enough_ahead 4 ex else (if n == 28 then enough_ahead 3 ex else at_once)))) p col i) told

-- ---- a place at which the newest column may settle a break

module _ (n : ℕ) (ex : Exercise) (p : List (List Cell)) (col : List Cell) (i : ℕ) (on : GoesOn ex p (col ∷ [])) where
  size_of : length (p ++ col ∷ []) ≡ length p + 1
  size_of = length-append p (col ∷ [])

  first_near : length p ≤ late_first n ex (length p) + 19
  first_near =
      by_rule (λ r. length p ≤ late_first r ex (length p) + 19) told told (omega arith) (omega arith)
      (λ r soon. rw (soon.no_passing, soon.no_excuse, soon.no_resolution, soon.no_disturbance) (omega arith)) n
    where
      told : length p ≤ length p - passing_reach ex + 19
      told = omega (arith, passing_reach-bound ex)

  pub placed : IsTrue (rule_row n).late → IsAmong ((rule_row n).first ex (length p)) ((rule_row n).count ex (length p))
      i → i ≤ length p
  placed late among = omega (arith, among.to, (rules_keep n).within ex (length p))

  -- the newest columns are those around the place
  pub kept_around : (kept : NewestColumns) → AreNewestOf ex.voices (p ++ col ∷ []) kept → IsTrue (rule_row n).late
      → IsAmong ((rule_row n).first ex (length p)) ((rule_row n).count ex (length p)) i
      → AreKeptFrom ex kept (p ++ col ∷ []) (i - 3)
  kept_around kept newest late among =
      let first : (rule_row n).first ex (length p)
      ≡ late_first n ex (length p) = ap (λ (r : RuleRow). r.first ex (length p)) (row_is n late) in
      kept_after ex p col on kept (i - 3) newest (omega (arith, first_near, first, among.from))

  -- what is settled so many columns later is settled there by the newest column
  newly_at_nth : (m : ℕ) → 0 < m → length p ≡ i + m → newly (settled_by (enough_ahead m ex)) p col i ≡ true
  newly_at_nth m some e =
      let now_there : nat_lt i (length (p ++ col ∷ []))
      ≡ true = lt-ltb i (length (p ++ col ∷ [])) (omega (arith, e, size_of)) in
      let many : nat_le m (length (drop (i + 1) (p ++ col ∷ [])))
      ≡ true = le-leb m (length (drop (i + 1) (p ++ col ∷ [])))
      (omega (arith, e, size_of, length-drop (i + 1) (p ++ col ∷ []))) in
      let few : nat_le m (length (drop (i + 1) p))
      ≡ false = lt-leb m (length (drop (i + 1) p)) (omega (arith, e, some, length-drop (i + 1) p)) in
      let part : is_whole ex i (drop (i + 1) p)
      ≡ false = lt-leb (columns_in ex) (i + 1 + length (drop (i + 1) p))
      (omega (arith, e, some, size_of, length-drop (i + 1) p, on.longer.few)) in
      ap (λ b. (b && reading_of (enough_ahead m ex) (p ++ col ∷ []) i)
      && not (settled_by (enough_ahead m ex) p i)) now_there
      ∙ ap (λ b. (b || is_whole ex i (drop (i + 1) (p ++ col ∷ []))) && not (settled_by (enough_ahead m ex) p i))
      many
      ∙ ap (λ b. not (nat_lt i (length p) && (b || is_whole ex i (drop (i + 1) p)))) few
      ∙ ap (λ b. not (nat_lt i (length p) && b)) part
      ∙ ap not (and_right (nat_lt i (length p)) false refl)

  -- what the rules but S15 and S27 may settle at their places is settled there by the newest column
  newly_at_place : (voices : ℕ) → is_told_later n ≡ false
      → IsAmong (late_first n ex (length p)) (late_count n ex (length p)) i
      → newly (settled_by (clash_enough n ex voices)) p col i ≡ true
  newly_at_place voices =
      by_rule Newly (λ e among. cc) (λ e among. cc)
      (λ e among. newly_at_nth 4 (omega arith) (at_nth 4 true among))
      (λ e among. newly_at_nth 3 (omega arith) (at_nth 3 (is_mixed ex) among))
      (λ r soon e. rw (soon.no_passing, soon.no_excuse, soon.no_resolution, soon.no_disturbance)
      (λ among. ap (newly (settled_by at_once) p col) (among_own (begins_bar (length p)) i (length p) among)
      ∙ newly_there at_once (λ i behind now ahead. refl) p col)) n
    where
      Newly : ℕ → Type 0
      Newly r = is_told_later r ≡ false → IsAmong (late_first r ex (length p)) (late_count r ex (length p)) i
          → newly (settled_by (clash_enough r ex voices)) p col i ≡ true

      at_nth : (m : ℕ) (test : Bool) → IsAmong (length p - m) (if test && (slot_of (length p) == m) then 1 else 0) i
          → length p ≡ i + m
      at_nth m true among = pick (slot_of (length p) == m) refl among
        where
          pick : (b : Bool) → (slot_of (length p) == m) ≡ b → IsAmong (length p - m) (if b then 1 else 0) i → length p
              ≡ i + m
          pick true e k = omega (arith, eqb-true (slot_of (length p)) m e, k.from, k.to)
          pick false e k = absurd (omega (arith, k.from, k.to))
      at_nth m false among = absurd (omega (arith, among.from, among.to))

  module _ (voices : ℕ) (late : IsTrue (rule_row n).late) where
    abbrev Breaks : Bool
    Breaks = newly_breaks (rule_row n) ex voices p col i

    abbrev there : Bool
    there = reading_of (clash_row n ex voices) (p ++ col ∷ []) i

    pub as_late : Breaks ≡ newly_breaks (late_row n) ex voices p col i
    as_late = ap (λ (r : RuleRow). newly_breaks r ex voices p col i) (row_is n late)

    -- where the newest column settles it there, it tells what stands there
    pub broken_as : newly (settled_by (clash_enough n ex voices)) p col i ≡ true → there ≡ Breaks
    broken_as settled = sym (as_late ∙ ap (λ b. b && there) settled)

    pub unsettled : newly (settled_by (clash_enough n ex voices)) p col i ≡ false → false ≡ Breaks
    unsettled open_there = sym (as_late ∙ ap (λ b. b && there) open_there)

    pub settled_at_place : is_told_later n ≡ false
        → IsAmong ((rule_row n).first ex (length p)) ((rule_row n).count ex (length p)) i
        → newly (settled_by (clash_enough n ex voices)) p col i ≡ true
    settled_at_place other among =
        let P : RuleRow → Type 0 = λ r. IsAmong (r.first ex (length p)) (r.count ex (length p)) i in
        newly_at_place voices other (subst P (row_is n late) among)

-- ---- two voices of a set

-- a rule is broken for a set where it is for its two voices
pub pair_found : (n : ℕ) (ex : Exercise) (voices i v w : ℕ) (behind : List (List Cell)) (now : List Cell)
    (ahead : List (List Cell)) → Some (v, w) ≡ pair_of voices → w < ex.voices
    → clash_row n ex voices i behind now ahead ≡ pair_rule n ex i behind now ahead v w
pair_found n ex voices i v w behind now ahead e there =
    sym (ap (holds_of_pair ex (pair_rule n ex i behind now ahead)) e)
    ∙ ap (λ b. b && pair_rule n ex i behind now ahead v w) (lt-ltb w ex.voices there)

-- a rule other than S27 is broken for two voices where it is for one way to name them
pub pair_by_way : (n : ℕ) (ex : Exercise) (i : ℕ) (behind : List (List Cell)) (now : List Cell)
    (ahead : List (List Cell)) (v w : ℕ) → n ≢ 27 → pair_rule n ex i behind now ahead v w
    ≡ ((is_free ex v && clash_rule n ex i behind now ahead v w)
    || (is_free ex w && clash_rule n ex i behind now ahead w v))
pair_by_way n ex i behind now ahead v w other = rw (ne_eqb n 27 other) refl

-- ---- ways to name two voices

pub ways : (ex : Exercise) (test : ℕ → ℕ → Bool) (voices v w : ℕ) → Some (v, w) ≡ pair_of voices → w < ex.voices
    → on_some_way ex test voices ≡ ((is_free ex v && test v w) || (is_free ex w && test w v))
ways ex test voices v w e there =
    sym (ap (holds_of_pair ex (holds_some_way ex test)) e)
    ∙ ap (λ b. b && ((is_free ex v && test v w) || (is_free ex w && test w v))) (lt-ltb w ex.voices there)

pub first_way : (a b r all : Bool) → all ≡ (a || b) → r ≡ a → true ≡ a → r ≡ all
first_way a b r all e f h = f ∙ sym h ∙ sym (ap (λ x. x || b) (sym h)) ∙ sym e

pub second_way : (a b r all : Bool) → all ≡ (a || b) → r ≡ b → false ≡ a → r ≡ all
second_way a b r all e f h = f ∙ ap (λ x. x || b) h ∙ sym e
