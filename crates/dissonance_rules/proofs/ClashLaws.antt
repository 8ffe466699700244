-- S15, S20, S27 and S28 wait for later columns. Once settled they read the same in each prefix that
-- goes on, and so in each setting; S19 and S21 do at once.
use Rattle.std.specs.Prelude.{◌≡◌, ◌≢◌, ℕ, suc, ◌+◌, ◌-◌, ◌*◌, ◌<◌, ◌≤◌, ◌==◌, Bool, true, false, not, ◌&&◌, ◌||◌, nat_le, nat_lt, List, [], ◌∷◌, ◌++◌, Option, Some, None, is_some, length, drop, slice_index_or, if◌then◌else◌, refl}
use Rattle.std.proofs.Common.{ap, sym, ◌∙◌, subst, arith}
use Rattle.std.proofs.Math.ListN.{get_or-append}
use Rattle.std.proofs.lemmas.Bool.{eqb-true, or_parts, not-true, or_right}
use Rattle.std.proofs.lemmas.Bool.Decides.{nat_tests}
use Rattle.std.proofs.lemmas.List.{append-nil, get_or-append-add, length-append, length-drop, map-append}
use Rattle.fux_pitch.specs.declared.pitch.Pitch.{Pitch}
use Rattle.fux_grid.specs.declared.cell.Cell.{Cell}
use Rattle.fux_grid.specs.declared.cell.Cell.TheVariants.{Rest, Hold, Start}
use Rattle.fux_grid.specs.declared.cell.Onset.{Onset}
use Rattle.fux_grid.specs.declared.exercise.Exercise.{Exercise}
use Rattle.fux_grid.specs.Cells.{cell_in, first_of, onsets_from, pitch_of}
use Rattle.fux_grid.specs.Columns.{earlier, line}
use Rattle.fux_grid.specs.Exercises.{bar_of, is_mixed, slot_of, species_in}
use Rattle.fux_grid.specs.Menus.{IsInMenu}
use Rattle.rule_law.specs.Law.{or_each}
use Rattle.rule_law.specs.After.{next_onset, onset_pitch, onsets_after, second_next_onset, second_of}
use Rattle.rule_law.specs.Bars.{begins_bar}
use Rattle.rule_law.specs.Growth.{EnoughStays}
use Rattle.rule_law.proofs.LateLaw.{StaysAhead, ends_when_whole, local_from_ahead, local_or_whole, whole_stays}
use Rattle.rule_law.specs.Places.{IsLocal, IsUndisturbed, SettlesAtEnd, reading_of, settled_by}
use Rattle.rule_law.specs.Prefixes.{GoesOn}
use Rattle.rule_law.specs.Terms.{is_clean, previous_pitch, starts}
use Rattle.rule_law.specs.Voices.{holds_of_pair, is_free, pair_of}
use Rattle.rule_law.specs.Ways.{holds_some_way, on_some_way}
use Rattle.rule_law.specs.Whole.{is_whole}
use Rattle.rule_law.proofs.NextPitch.{last_bar_holds}
use Rattle.dissonance_rules.specs.Clashes.{clash_row, disturbance_rule, enough_ahead, excuse_rule, passing_enough, passing_rule, resolution_rule}
use Rattle.dissonance_rules.specs.Ligatures.{is_suspended, resolves}
use Rattle.dissonance_rules.specs.Mixed.{starts_in_three}
use Rattle.dissonance_rules.specs.Passing.{clashes_badly, has_notes_after, has_ornaments, is_cambiata, is_good, is_good_in, is_good_note, is_neighbor, is_open_clash, is_passing, next_is_clean, reaches_last_bar, starts_clean, starts_in_clash}

-- ---- the rules by their numbers

-- a rule that is settled at once, as S19 and S21 are
pub record IsAtOnce (n : ℕ) : Type 0 where
  pub no_passing : (n == 15) ≡ false
  pub no_excuse : (n == 27) ≡ false
  pub no_resolution : (n == 20) ≡ false
  pub no_disturbance : (n == 28) ≡ false

-- what holds of the four that aren't, and of the others, holds of each
pub by_rule : (P : ℕ → Type 0) → P passing_rule → P excuse_rule → P resolution_rule → P disturbance_rule
    → ((n : ℕ) → IsAtOnce n → P n) → (n : ℕ) → P n
by_rule P passing excuse resolution disturbance others n =
    at (n == 15) (n == 27) (n == 20) (n == 28) refl refl refl refl
  where
    at : (a b c d : Bool) → (n == 15) ≡ a → (n == 27) ≡ b → (n == 20) ≡ c → (n == 28) ≡ d → P n
    at true b c d e f g h = subst P (sym (eqb-true n 15 e)) passing
    at false true c d e f g h = subst P (sym (eqb-true n 27 f)) excuse
    at false false true d e f g h = subst P (sym (eqb-true n 20 g)) resolution
    at false false false true e f g h = subst P (sym (eqb-true n 28 h)) disturbance
    at false false false false e f g h =
        others n record { no_passing = e; no_excuse = f; no_resolution = g; no_disturbance = h }

-- ---- S20

-- S20 from the columns that it reads
resolution_row : Exercise → ℕ → ℕ → List Cell → List Cell → List Cell → Bool
resolution_row ex voices i now next fourth =
    on_some_way ex (λ v w. is_suspended i now v w && not (resolves now next fourth v)) voices

four_ahead : (ex : Exercise) (voices : ℕ) → IsUndisturbed (clash_row resolution_rule ex voices)
    (λ i behind now ahead. nat_le 4 (length ahead))
unfolding resolution_row
four_ahead ex voices i behind now ahead t h =
    let four : 4 ≤ length ahead = grind (arith, nat_tests, h) in
    ap (λ col. resolution_row ex voices i now col (slice_index_or (ahead ++ t) 3 []))
    (get_or-append ahead t [] 0 (omega (arith, four)))
    ∙ ap (λ col. resolution_row ex voices i now (slice_index_or ahead 0 []) col)
    (get_or-append ahead t [] 3 (omega (arith, four)))

pub resolution_is_local : (ex : Exercise) (voices : ℕ)
    → IsLocal ex (reading_of (clash_row resolution_rule ex voices)) (settled_by (enough_ahead 4 ex))
resolution_is_local ex voices =
    local_or_whole ex (clash_row resolution_rule ex voices) (λ i behind now ahead. nat_le 4 (length ahead)) (four_ahead ex voices)

-- ---- S28

-- S28 from the columns that it reads
disturbance_row : Exercise → ℕ → ℕ → List Cell → List Cell → List Cell → List Cell → Bool
disturbance_row ex voices i now first second third =
    on_some_way ex (λ v w. is_mixed ex && is_suspended i now v w && starts_in_three first second third w) voices

three_ahead : (ex : Exercise) (voices : ℕ) → IsUndisturbed (clash_row disturbance_rule ex voices)
    (λ i behind now ahead. nat_le 3 (length ahead))
unfolding disturbance_row
three_ahead ex voices i behind now ahead t h =
    let three : 3 ≤ length ahead = grind (arith, nat_tests, h) in
    ap (λ col. disturbance_row ex voices i now col (slice_index_or (ahead ++ t) 1 []) (slice_index_or (ahead ++ t) 2 []))
    (get_or-append ahead t [] 0 (omega (arith, three)))
    ∙ ap (λ col. disturbance_row ex voices i now (slice_index_or ahead 0 []) col (slice_index_or (ahead ++ t) 2 []))
    (get_or-append ahead t [] 1 (omega (arith, three)))
    ∙ ap (λ col. disturbance_row ex voices i now (slice_index_or ahead 0 []) (slice_index_or ahead 1 []) col)
    (get_or-append ahead t [] 2 (omega (arith, three)))

pub disturbance_is_local : (ex : Exercise) (voices : ℕ)
    → IsLocal ex (reading_of (clash_row disturbance_rule ex voices)) (settled_by (enough_ahead 3 ex))
disturbance_is_local ex voices =
    local_or_whole ex (clash_row disturbance_rule ex voices) (λ i behind now ahead. nat_le 3 (length ahead))
    (three_ahead ex voices)

-- ---- S15: the notes of a voice in a longer list

pub onsets-append : (n : ℕ) (xs ys : List Cell) → onsets_from n (xs ++ ys) ≡ onsets_from n xs
    ++ onsets_from (n + length xs) ys
onsets-append n [] ys = ap (λ k. onsets_from k ys) (n_plus n)
  where
    n_plus : (k : ℕ) → k ≡ k + 0
    n_plus k = omega arith
onsets-append n (Rest ∷ xs) ys =
    onsets-append (suc n) xs ys ∙ ap (λ k. onsets_from (suc n) xs ++ onsets_from k ys) (next n (length xs))
  where
    next : (k m : ℕ) → suc k + m ≡ k + suc m
    next k m = omega arith
onsets-append n (Hold p ∷ xs) ys =
    onsets-append (suc n) xs ys ∙ ap (λ k. onsets_from (suc n) xs ++ onsets_from k ys) (next n (length xs))
  where
    next : (k m : ℕ) → suc k + m ≡ k + suc m
    next k m = omega arith
onsets-append n (Start p ∷ xs) ys =
    ap (λ os. record { start = n; pitch = p } ∷ os)
    (onsets-append (suc n) xs ys ∙ ap (λ k. onsets_from (suc n) xs ++ onsets_from k ys) (next n (length xs)))
  where
    next : (k m : ℕ) → suc k + m ≡ k + suc m
    next k m = omega arith

-- the first note of a list stands within it
first-within : (n : ℕ) (xs : List Cell) (o : Onset) → first_of (onsets_from n xs) ≡ Some o → (n ≤ o.start)
    × (o.start < n + length xs)
first-within n [] o e = cc
first-within n (Rest ∷ xs) o e = let h = first-within (suc n) xs o e in (omega (arith, h.0), omega (arith, h.1))
first-within n (Hold p ∷ xs) o e = let h = first-within (suc n) xs o e in (omega (arith, h.0), omega (arith, h.1))
first-within n (Start p ∷ xs) o e =
    let same : record { start = n; pitch = p } ≡ o = the_one e in
    (omega (arith, ap (λ x. x.start) same), omega (arith, ap (λ x. x.start) same))
  where
    the_one : {x : Onset} → Some x ≡ Some o → x ≡ o
    the_one h = cc

first_of-append : (xs ys : List Onset) → is_some (first_of xs) ≡ true → first_of (xs ++ ys) ≡ first_of xs
first_of-append [] ys h = cc
first_of-append (x ∷ xs) ys h = refl

second_of-append : (xs ys : List Onset) → is_some (second_of xs) ≡ true → second_of (xs ++ ys) ≡ second_of xs
second_of-append [] ys h = cc
second_of-append (x ∷ xs) ys h = first_of-append xs ys h

first_from_second : (xs : List Onset) → is_some (second_of xs) ≡ true → is_some (first_of xs) ≡ true
first_from_second [] h = cc
first_from_second (x ∷ xs) h = refl

-- the notes of a voice ahead, and those of the columns after
pub onsets_after-append : (i v : ℕ) (ahead t : List (List Cell)) → onsets_after i v (ahead ++ t)
    ≡ onsets_after i v ahead ++ onsets_from (i + 1 + length (line v ahead)) (line v t)
onsets_after-append i v ahead t =
    ap (onsets_from (i + 1)) (map-append (λ col. cell_in col v) ahead t)
    ∙ onsets-append (i + 1) (line v ahead) (line v t)

length-line : (w : ℕ) (cols : List (List Cell)) → length (line w cols) ≡ length cols
length-line w [] = refl
length-line w (col ∷ cols) = ap suc (length-line w cols)

-- a note of a longer list that is one of the list starts as clean as there
clean_same : (i v : ℕ) (ahead t : List (List Cell)) → next_onset i v (ahead ++ t) ≡ next_onset i v ahead
    → next_is_clean i (ahead ++ t) v ≡ next_is_clean i ahead v
clean_same i v ahead t e = ap (starts_clean i (ahead ++ t) v) e ∙ at (next_onset i v ahead) refl
  where
    at : (o : Option Onset) → next_onset i v ahead ≡ o → starts_clean i (ahead ++ t) v o ≡ starts_clean i ahead v o
    at None k = refl
    at (Some o) k =
        let within = first-within (i + 1) (line v ahead) o k in
        ap (λ col. is_clean col v) (get_or-append ahead t [] (o.start - (i + 1))
        (omega (arith, within.0, within.1, length-line v ahead)))

-- where the next notes are the same, a note is as good
good_same : (species i : ℕ) (behind : List (List Cell)) (now : List Cell) (ahead t : List (List Cell)) (v : ℕ)
    → next_onset i v (ahead ++ t) ≡ next_onset i v ahead
    → (has_ornaments species ≡ true → second_next_onset i v (ahead ++ t) ≡ second_next_onset i v ahead)
    → is_good_note species i behind now (ahead ++ t) v ≡ is_good_note species i behind now ahead v
good_same species i behind now ahead t v first second = at (has_ornaments species) refl
  where
    before : Option Pitch
    before = previous_pitch (line v behind)

    here : Option Pitch
    here = pitch_of (cell_in now v)

    at : (b : Bool) → has_ornaments species ≡ b → is_good_note species i behind now (ahead ++ t) v
        ≡ is_good_note species i behind now ahead v
    at true e =
        ap (λ n. is_good species before here (onset_pitch n) (next_is_clean i (ahead ++ t) v)
        (onset_pitch (second_next_onset i v (ahead ++ t)))) first
        ∙ ap (λ c. is_good species before here (onset_pitch (next_onset i v ahead)) c
        (onset_pitch (second_next_onset i v (ahead ++ t)))) (clean_same i v ahead t first)
        ∙ ap (λ n. is_good species before here (onset_pitch (next_onset i v ahead)) (next_is_clean i ahead v)
        (onset_pitch n)) (second e)
    at false e =
        ap (λ b. is_passing before here (onset_pitch (next_onset i v (ahead ++ t)))
        || (b && (is_neighbor before here (onset_pitch (next_onset i v (ahead ++ t)))
        || is_cambiata before here (onset_pitch (next_onset i v (ahead ++ t))) (next_is_clean i (ahead ++ t) v)
        (onset_pitch (second_next_onset i v (ahead ++ t)))))) e
        ∙ ap (λ n. is_passing before here (onset_pitch n) || false) first
        ∙ ap (λ b. is_passing before here (onset_pitch (next_onset i v ahead))
        || (b && (is_neighbor before here (onset_pitch (next_onset i v ahead))
        || is_cambiata before here (onset_pitch (next_onset i v ahead)) (next_is_clean i ahead v)
        (onset_pitch (second_next_onset i v ahead))))) (sym e)

-- where enough notes came, they are those of a longer list
notes_same : (species i : ℕ) (behind : List (List Cell)) (now : List Cell) (ahead t : List (List Cell)) (v : ℕ)
    → has_notes_after species i v ahead ≡ true → is_good_note species i behind now (ahead ++ t) v
    ≡ is_good_note species i behind now ahead v
notes_same species i behind now ahead t v h = at (has_ornaments species) refl
  where
    more : List Onset
    more = onsets_from (i + 1 + length (line v ahead)) (line v t)

    no_way : false ≡ true → second_next_onset i v (ahead ++ t) ≡ second_next_onset i v ahead
    no_way k = cc

    first : is_some (next_onset i v ahead) ≡ true → next_onset i v (ahead ++ t) ≡ next_onset i v ahead
    first k = ap first_of (onsets_after-append i v ahead t) ∙ first_of-append (onsets_after i v ahead) more k

    at : (b : Bool) → has_ornaments species ≡ b → is_good_note species i behind now (ahead ++ t) v
        ≡ is_good_note species i behind now ahead v
    at true e =
        let two : is_some (second_next_onset i v ahead)
        ≡ true = sym (ap (λ b. if b then is_some (second_next_onset i v ahead) else is_some (next_onset i v ahead))
        e) ∙ h in
        good_same species i behind now ahead t v (first (first_from_second (onsets_after i v ahead) two))
        (λ k. ap second_of (onsets_after-append i v ahead t) ∙ second_of-append (onsets_after i v ahead) more two)
    at false e =
        let one : is_some (next_onset i v ahead)
        ≡ true = sym (ap (λ b. if b then is_some (second_next_onset i v ahead) else is_some (next_onset i v ahead))
        e) ∙ h in
        good_same species i behind now ahead t v (first one) (λ k. no_way (sym e ∙ k))

-- columns without a start have no notes
pub no_onsets : (n v : ℕ) (t : List (List Cell))
    → ((k : ℕ) → k < length t → starts (cell_in (slice_index_or t k []) v) ≡ false) → onsets_from n (line v t) ≡ []
no_onsets n v [] none = refl
no_onsets n v (col ∷ t) none =
    no_first n (cell_in col v) (line v t) (none 0 (omega arith))
    (no_onsets (suc n) v t (λ k here. none (suc k) (omega (arith, here))))
  where
    no_first : (m : ℕ) (c : Cell) (cells : List Cell) → starts c ≡ false → onsets_from (suc m) cells ≡ []
        → onsets_from m (c ∷ cells) ≡ []
    no_first m Rest cells e later = later
    no_first m (Hold p) cells e later = later
    no_first m (Start p) cells e later = cc

-- once the last bar has begun no note starts later
nothing_later : (ex : Exercise) (p t : List (List Cell)) (i v : ℕ) → GoesOn ex p t → i < length p → v ≢ ex.cantus_voice
    → reaches_last_bar ex i (drop (i + 1) p) ≡ true → (k : ℕ) → k < length t
    → starts (cell_in (slice_index_or t k []) v) ≡ false
nothing_later ex p t i v on here free last k within =
    let begun : 8 * (ex.bars - 1) < i + 1 + length (drop (i + 1) p) = grind (arith, nat_tests, last) in
    let past : 8 * (ex.bars - 1) < length p = omega (arith, begun, length-drop (i + 1) p, here) in
    let place : length p + k < length (p ++ t) = omega (arith, length-append p t, within) in
    let few : length p + k < 8 * ex.bars = omega (arith, place, on.longer.few) in
    let bar : bar_of (length p + k) ≡ ex.bars = omega (arith, past, few) in
    let slot : slot_of (length p + k) ≢ 0 = λ e. omega (arith, e, past, few) in
    let col : slice_index_or (p ++ t) (length p + k) [] ≡ slice_index_or t k [] = get_or-append-add p t k [] in
    let P : List Cell → Type 0 = λ c. IsInMenu ex (length p + k) c in
    last_bar_holds ex v (length p + k) (slice_index_or t k []) free bar slot
    (subst P col (on.longer.menus (length p + k) place))

last_bar_same : (ex : Exercise) (p t : List (List Cell)) (i v species : ℕ) → GoesOn ex p t → i < length p
    → v ≢ ex.cantus_voice → reaches_last_bar ex i (drop (i + 1) p) ≡ true
    → is_good_note species i (earlier p i) (slice_index_or p i []) (drop (i + 1) p ++ t) v
    ≡ is_good_note species i (earlier p i) (slice_index_or p i []) (drop (i + 1) p) v
last_bar_same ex p t i v species on here free last =
    let ahead : List (List Cell) = drop (i + 1) p in
    let none : onsets_from (i + 1 + length (line v ahead)) (line v t)
    ≡ [] = no_onsets (i + 1 + length (line v ahead)) v t (nothing_later ex p t i v on here free last) in
    let all : onsets_after i v (ahead ++ t) ≡ onsets_after i v ahead =
    onsets_after-append i v ahead t ∙ ap (λ more. onsets_after i v ahead ++ more) none
    ∙ append-nil (onsets_after i v ahead) in
    good_same species i (earlier p i) (slice_index_or p i []) ahead t v (ap first_of all) (λ k. ap second_of all)

-- a note that clashes is as good in a longer list, where that is told
pub good_if_told : (ex : Exercise) (p t : List (List Cell)) (i v w : ℕ) → GoesOn ex p t → i < length p → is_free ex v
    ≡ true
    → starts_in_clash (slice_index_or p i []) v w ≡ true
    → is_open_clash ex i (slice_index_or p i []) (drop (i + 1) p) v w ≡ false
    → is_good_in ex i (earlier p i) (slice_index_or p i []) (drop (i + 1) p ++ t) v
    ≡ is_good_in ex i (earlier p i) (slice_index_or p i []) (drop (i + 1) p) v
good_if_told ex p t i v w on here free =
    at (starts_in_clash now v w) (has_notes_after (species_in ex v) i v ahead) (reaches_last_bar ex i ahead) refl refl
  where
    ahead : List (List Cell)
    ahead = drop (i + 1) p

    now : List Cell
    now = slice_index_or p i []

    other : v ≢ ex.cantus_voice
    other e = grind (arith, nat_tests, free, e)

    at : (c n l : Bool) → has_notes_after (species_in ex v) i v ahead ≡ n → reaches_last_bar ex i ahead ≡ l → c ≡ true
        → not (not c || n || l) ≡ false
        → is_good_in ex i (earlier p i) now (ahead ++ t) v ≡ is_good_in ex i (earlier p i) now ahead v
    at false n l f g e k = cc
    at true true l f g e k = notes_same (species_in ex v) i (earlier p i) now ahead t v f
    at true false true f g e k = last_bar_same ex p t i v (species_in ex v) on here other g
    at true false false f g e k = cc

-- S15 for one way to name the voices, where it isn't open
way_same : (ex : Exercise) (p t : List (List Cell)) (i v w : ℕ) → GoesOn ex p t → i < length p → is_free ex v ≡ true
    → is_open_clash ex i (slice_index_or p i []) (drop (i + 1) p) v w ≡ false
    → clashes_badly ex i (earlier p i) (slice_index_or p i []) (drop (i + 1) p ++ t) v w
    ≡ clashes_badly ex i (earlier p i) (slice_index_or p i []) (drop (i + 1) p) v w
way_same ex p t i v w on here free closed = at (starts_in_clash now v w) refl
  where
    ahead : List (List Cell)
    ahead = drop (i + 1) p

    now : List Cell
    now = slice_index_or p i []

    quiet : (b c x y : Bool) → c ≡ false → (b && c && x) ≡ (b && c && y)
    quiet true true x y e = cc
    quiet true false x y e = refl
    quiet false c x y e = refl

    at : (c : Bool) → starts_in_clash now v w ≡ c → clashes_badly ex i (earlier p i) now (ahead ++ t) v w
        ≡ clashes_badly ex i (earlier p i) now ahead v w
    at false e = quiet (not (is_mixed ex) && not (begins_bar i)) (starts_in_clash now v w) _ _ e
    at true e =
        ap (λ g. not (is_mixed ex) && not (begins_bar i) && starts_in_clash now v w && not g)
        (good_if_told ex p t i v w on here free e closed)

-- two tests that agree for each way where a third one fails
two_ways : (there fv fw o1 o2 x1 y1 x2 y2 : Bool) → (there && ((fv && o1) || (fw && o2))) ≡ false
    → (fv ≡ true → o1 ≡ false → x1 ≡ y1) → (fw ≡ true → o2 ≡ false → x2 ≡ y2) → (there && ((fv && x1) || (fw && x2)))
    ≡ (there && ((fv && y1) || (fw && y2)))
two_ways false fv fw o1 o2 x1 y1 x2 y2 h f g = refl
two_ways true false false o1 o2 x1 y1 x2 y2 h f g = refl
two_ways true false true o1 o2 x1 y1 x2 y2 h f g = g refl h
two_ways true true false o1 o2 x1 y1 x2 y2 h f g = ap (λ b. b || false) (f refl (or_parts o1 false h).0)
two_ways true true true o1 o2 x1 y1 x2 y2 h f g =
    ap (λ b. b || x2) (f refl (or_parts o1 o2 h).0) ∙ ap (λ b. y1 || b) (g refl (or_parts o1 o2 h).1)

passing_stays_ahead : (ex : Exercise) (voices : ℕ) → StaysAhead ex (clash_row passing_rule ex voices) (passing_enough ex voices)
passing_stays_ahead ex voices p t i on here h =
    at (pair_of voices) (not-true (on_some_way ex (is_open_clash ex i (slice_index_or p i []) (drop (i + 1) p)) voices)
    h)
  where
    at : (pair : Option (ℕ × ℕ)) → holds_of_pair ex
        (holds_some_way ex (is_open_clash ex i (slice_index_or p i []) (drop (i + 1) p))) pair ≡ false
        → holds_of_pair ex (holds_some_way ex
        (clashes_badly ex i (earlier p i) (slice_index_or p i []) (drop (i + 1) p ++ t))) pair
        ≡ holds_of_pair ex (holds_some_way ex
        (clashes_badly ex i (earlier p i) (slice_index_or p i []) (drop (i + 1) p))) pair
    at None k = refl
    at (Some pair) k =
        two_ways (nat_lt pair.1 ex.voices) (is_free ex pair.0) (is_free ex pair.1) _ _ _ _ _ _ k
        (way_same ex p t i pair.0 pair.1 on here) (way_same ex p t i pair.1 pair.0 on here)

pub passing_is_local : (ex : Exercise) (voices : ℕ)
    → IsLocal ex (reading_of (clash_row passing_rule ex voices)) (settled_by (passing_enough ex voices))
passing_is_local ex voices =
    local_from_ahead ex (clash_row passing_rule ex voices) (passing_enough ex voices) (passing_stays_ahead ex voices)

-- ---- what is settled stays so, and in a list of all columns each is settled

columns_stay : (n : ℕ) (ahead t : List (List Cell)) → nat_le n (length ahead) ≡ true → nat_le n (length (ahead ++ t))
    ≡ true
columns_stay n ahead t h =
    let reached : n ≤ length (ahead ++ t) = grind (arith, nat_tests, length-append ahead t) in
    grind (arith, nat_tests)

pub ahead_enough_stays : (n : ℕ) (ex : Exercise) → EnoughStays (enough_ahead n ex)
ahead_enough_stays n ex i behind now ahead t h =
    or_each (nat_le n (length ahead)) (is_whole ex i ahead) (nat_le n (length (ahead ++ t)))
    (is_whole ex i (ahead ++ t))
    (columns_stay n ahead t) (whole_stays ex i ahead t) h

pub ahead_settles_at_end : (n : ℕ) (ex : Exercise) → SettlesAtEnd ex (settled_by (enough_ahead n ex))
ahead_settles_at_end n ex =
    ends_when_whole ex (enough_ahead n ex)
    (λ i behind now ahead whole. or_right (nat_le n (length ahead)) (is_whole ex i ahead) whole)

-- a clash that isn't open stays so
some-append : (xs ys : List Onset) → is_some (first_of xs) ≡ true → is_some (first_of (xs ++ ys)) ≡ true
some-append xs ys h = ap is_some (first_of-append xs ys h) ∙ h

some_second-append : (xs ys : List Onset) → is_some (second_of xs) ≡ true → is_some (second_of (xs ++ ys)) ≡ true
some_second-append xs ys h = ap is_some (second_of-append xs ys h) ∙ h

notes_stay : (species i v : ℕ) (ahead t : List (List Cell)) → has_notes_after species i v ahead ≡ true
    → has_notes_after species i v (ahead ++ t) ≡ true
notes_stay species i v ahead t h = at (has_ornaments species) h
  where
    more : List Onset
    more = onsets_from (i + 1 + length (line v ahead)) (line v t)

    at : (b : Bool) → (if b then is_some (second_next_onset i v ahead) else is_some (next_onset i v ahead)) ≡ true
        → (if b then is_some (second_next_onset i v (ahead ++ t)) else is_some (next_onset i v (ahead ++ t))) ≡ true
    at true k = ap (λ os. is_some (second_of os)) (onsets_after-append i v ahead t)
        ∙ some_second-append (onsets_after i v ahead) more k
    at false k =
        ap (λ os. is_some (first_of os)) (onsets_after-append i v ahead t) ∙ some-append (onsets_after i v ahead) more k

last_bar_stays : (ex : Exercise) (i : ℕ) (ahead t : List (List Cell)) → reaches_last_bar ex i ahead ≡ true
    → reaches_last_bar ex i (ahead ++ t) ≡ true
last_bar_stays ex i ahead t h =
    let begun : 8 * (ex.bars - 1) < i + 1 + length ahead = grind (arith, nat_tests, h) in
    let reached : 8 * (ex.bars - 1) < i + 1 + length (ahead ++ t) = omega (arith, begun, length-append ahead t) in
    grind (arith, nat_tests)

closed_stays : (ex : Exercise) (i : ℕ) (now : List Cell) (ahead t : List (List Cell)) (v w : ℕ)
    → is_open_clash ex i now ahead v w ≡ false → is_open_clash ex i now (ahead ++ t) v w ≡ false
closed_stays ex i now ahead t v w h =
    at (starts_in_clash now v w) (has_notes_after (species_in ex v) i v ahead) (reaches_last_bar ex i ahead) _ _
    (notes_stay (species_in ex v) i v ahead t) (last_bar_stays ex i ahead t) h
  where
    at : (c n l n' l' : Bool) → (n ≡ true → n' ≡ true) → (l ≡ true → l' ≡ true) → not (not c || n || l) ≡ false
        → not (not c || n' || l') ≡ false
    at false n l n' l' f g k = refl
    at true true l n' l' f g k = ap (λ b. not (b || l')) (f refl)
    at true false true n' l' f g k = ap not (or_right n' l' (g refl))
    at true false false n' l' f g k = cc

ways_stay : (there fv fw o1 o2 x1 x2 : Bool) → (o1 ≡ false → x1 ≡ false) → (o2 ≡ false → x2 ≡ false)
    → (there && ((fv && o1) || (fw && o2))) ≡ false → (there && ((fv && x1) || (fw && x2))) ≡ false
ways_stay there fv fw o1 o2 x1 x2 f g h =
    two_ways there fv fw o1 o2 x1 false x2 false h (λ _. f) (λ _. g) ∙ none there fv fw
  where
    none : (a b c : Bool) → (a && ((b && false) || (c && false))) ≡ false
    none false b c = refl
    none true true true = refl
    none true true false = refl
    none true false true = refl
    none true false false = refl

pub passing_enough_stays : (ex : Exercise) (voices : ℕ) → EnoughStays (passing_enough ex voices)
passing_enough_stays ex voices i behind now ahead t h =
    ap not (at (pair_of voices) (not-true (on_some_way ex (is_open_clash ex i now ahead) voices) h))
  where
    at : (pair : Option (ℕ × ℕ)) → holds_of_pair ex (holds_some_way ex (is_open_clash ex i now ahead)) pair ≡ false
        → holds_of_pair ex (holds_some_way ex (is_open_clash ex i now (ahead ++ t))) pair ≡ false
    at None k = refl
    at (Some pair) k =
        ways_stay (nat_lt pair.1 ex.voices) (is_free ex pair.0) (is_free ex pair.1) _ _ _ _
        (closed_stays ex i now ahead t pair.0 pair.1) (closed_stays ex i now ahead t pair.1 pair.0) k

-- a list of all columns has one of the last bar
whole_reaches : (ex : Exercise) (i : ℕ) (ahead : List (List Cell)) → is_whole ex i ahead ≡ true
    → reaches_last_bar ex i ahead ≡ true
whole_reaches ex i ahead h =
    let all : 8 * ex.bars ≤ i + 1 + length ahead = grind (arith, nat_tests, h) in
    let reached : 8 * (ex.bars - 1) < i + 1 + length ahead = omega (arith, all) in
    grind (arith, nat_tests)

closed_at_end : (ex : Exercise) (i : ℕ) (now : List Cell) (ahead : List (List Cell)) (v w : ℕ) → is_whole ex i ahead
    ≡ true → is_open_clash ex i now ahead v w ≡ false
closed_at_end ex i now ahead v w h =
    at (starts_in_clash now v w) (has_notes_after (species_in ex v) i v ahead) _ (whole_reaches ex i ahead h)
  where
    at : (c n l : Bool) → l ≡ true → not (not c || n || l) ≡ false
    at false n l e = refl
    at true n l e = ap not (or_right n l e)

pub passing_settles_at_end : (ex : Exercise) (voices : ℕ) → SettlesAtEnd ex (settled_by (passing_enough ex voices))
passing_settles_at_end ex voices =
    ends_when_whole ex (passing_enough ex voices)
    (λ i behind now ahead whole. ap not (at i now ahead whole (pair_of voices)))
  where
    none : (a b c x y : Bool) → x ≡ false → y ≡ false → (a && ((b && x) || (c && y))) ≡ false
    none a b c true y e f = cc
    none a b c false true e f = cc
    none false b c false false e f = refl
    none true true true false false e f = refl
    none true true false false false e f = refl
    none true false true false false e f = refl
    none true false false false false e f = refl

    at : (i : ℕ) (now : List Cell) (ahead : List (List Cell)) → is_whole ex i ahead ≡ true → (pair : Option (ℕ × ℕ))
        → holds_of_pair ex (holds_some_way ex (is_open_clash ex i now ahead)) pair ≡ false
    at i now ahead whole None = refl
    at i now ahead whole (Some pair) =
        none (nat_lt pair.1 ex.voices) (is_free ex pair.0) (is_free ex pair.1) _ _
        (closed_at_end ex i now ahead pair.0 pair.1 whole) (closed_at_end ex i now ahead pair.1 pair.0 whole)
