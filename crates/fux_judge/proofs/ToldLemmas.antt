-- The first rule of those that a voice breaks by its cells is the least of all (`voice_is_least`), and
-- where there is none, the first of those of several voices (`joint_is_least`).
use Rattle.std.proofs.Common.{◌≡◌, ℕ, ◌+◌, ◌<◌, ◌==◌, ◌&&◌, ◌||◌, Bool, true, false, List, [], ◌∷◌, ◌++◌, drop, length, reverse, slice_index_or, subst, refl, ap, sym, ◌∙◌, arith}
use Rattle.std.specs.Prelude.{Option, Some, None, cond, not}
use Rattle.std.specs.List.{find, list_all, list_any}
use Rattle.std.proofs.Math.Seq.{get_or-append_seam}
use Rattle.std.specs.Option.{option_or}
use Rattle.std.proofs.lemmas.Bool.{and_from, eq-eqb, eqb-true, not-true, or_parts, or_right}
use Rattle.std.proofs.lemmas.List.{length-append}
use Rattle.std.proofs.lemmas.List.Folds.{find-append}
use Rattle.fux_grid.specs.declared.cell.Cell.{Cell}
use Rattle.fux_grid.specs.declared.exercise.Exercise.{Exercise}
use Rattle.fux_grid.specs.Menus.{IsInMenu}
use Rattle.rule_law.specs.Law.{first_true, reading-at_end, second_true}
use Rattle.rule_law.specs.Nearby.{previous_pitches}
use Rattle.rule_law.specs.Prefixes.{GoesOn}
use Rattle.fux_judge.specs.declared.moment.Moment.{Moment}
use Rattle.fux_judge.specs.Always.{sounding_rules}
use Rattle.fux_judge.specs.Links.{breaks_strictly}
use Rattle.fux_judge.specs.Moments.{IsAfter, is_strictly_broken_then}
use Rattle.fux_judge.specs.Penalties.{is_strict_at, newly_broken}
use Rattle.fux_judge.specs.Rules.{all_sets, breaks, is_broken, is_late, is_read, late_rules, rule_at, rules_at_once, rules_read}
use Rattle.fux_judge.specs.Told.{alone_rules, is_early, joint_rules, least_alone, least_newly_broken, next_rules, voice_rules}
use Rattle.fux_judge.proofs.AlwaysLemmas.{sounds_alone}
use Rattle.fux_judge.proofs.MenuBreaks.{keeps_gamut, keeps_ranges}
use Rattle.fux_judge.proofs.Parts.{list_all-kept}
use Rattle.fux_judge.proofs.PruningLemmas.{one_of}
use Rattle.fux_judge.proofs.StepPlaces.{newly_broken-at_once}

-- ---- the first of a list

-- tests that agree where a third one holds find the same in a list of which each passes that one
pub find_where : (test f g : ℕ → Bool) (xs : List ℕ) → list_all test xs ≡ true → ((x : ℕ) → test x ≡ true → f x ≡ g x)
    → find f xs ≡ find g xs
find_where test f g [] h e = refl
find_where test f g (x ∷ xs) h e =
    ap (λ b. cond b (Some x) (find f xs)) (e x (first_true (test x) (list_all test xs) h))
    ∙ ap (λ o. cond (g x) (Some x) o) (find_where test f g xs (second_true (test x) (list_all test xs) h) e)

-- nothing is found of a test that all fail
pub none_found : (f : ℕ → Bool) (xs : List ℕ) → ((x : ℕ) → f x ≡ false) → find f xs ≡ None
none_found f [] none = refl
none_found f (x ∷ xs) none = ap (λ b. cond b (Some x) (find f xs)) (none x) ∙ none_found f xs none

-- what is found of a list is an item of it that passes
pub found_passes : (f : ℕ → Bool) (xs : List ℕ) (y : ℕ) → find f xs ≡ Some y
    → (list_any (λ z. y == z) xs ≡ true) × (f y ≡ true)
found_passes f [] y e = cc
found_passes f (x ∷ xs) y e = at (f x) refl e (found_passes f xs y)
  where
    at : (b : Bool) → f x ≡ b → cond b (Some x) (find f xs) ≡ Some y
        → (find f xs ≡ Some y → (list_any (λ z. y == z) xs ≡ true) × (f y ≡ true))
        → (((y == x) || list_any (λ z. y == z) xs) ≡ true) × (f y ≡ true)
    at true h k later =
        let same : x ≡ y = cc in
        (ap (λ b. b || list_any (λ z. y == z) xs) (eq-eqb y x (sym same)), sym (ap f same) ∙ h)
    at false h k later =
        let found = later k in
        (or_right (y == x) (list_any (λ z. y == z) xs) found.0, found.1)

-- nor where none passes
pub nothing_found : (f : ℕ → Bool) (xs : List ℕ) → list_any f xs ≡ false → find f xs ≡ None
nothing_found f [] h = refl
nothing_found f (x ∷ xs) h =
    let parts = or_parts (f x) (list_any f xs) h in
    ap (λ b. cond b (Some x) (find f xs)) parts.0 ∙ nothing_found f xs parts.1

-- ---- the rules

later_rules : List ℕ
later_rules = drop 17 rules_read

joint_soon : list_all (λ rule. not (is_late rule)) joint_rules ≡ true
unfolding rule_at
joint_soon = refl

-- those from S10 to S17
abbrev behind_voices : List ℕ
behind_voices = joint_rules ++ next_rules

-- what is found of all rules, where S1 and S2 aren't broken, is found of those of one voice, or else
-- of those up to S17, or else of the others
found_in_all : (f : ℕ → Bool) → f 1 ≡ false → f 2 ≡ false
    → find f rules_read ≡ option_or (find f voice_rules) (option_or (find f behind_voices) (find f later_rules))
unfolding rules_read later_rules
found_in_all f first second =
    ap (λ b. cond b (Some 1) (cond (f 2) (Some 2) (find f (voice_rules ++ (behind_voices ++ later_rules))))) first
    ∙ ap (λ b. cond b (Some 2) (find f (voice_rules ++ (behind_voices ++ later_rules)))) second
    ∙ find-append f voice_rules (behind_voices ++ later_rules)
    ∙ ap (option_or (find f voice_rules)) (find-append f behind_voices later_rules)

pub fifteenth_is_late : is_late 15 ≡ true
unfolding rule_at
fifteenth_is_late = refl

moving_soon : list_all (λ rule. not (is_late rule)) (16 ∷ 17 ∷ []) ≡ true
unfolding rule_at
moving_soon = refl

one_among : (test : ℕ → Bool) (x : ℕ) (xs : List ℕ) → list_all test xs ≡ true → list_any (λ y. y == x) xs ≡ true
    → test x ≡ true
one_among test x [] h k = cc
one_among test x (y ∷ ys) h k = at (y == x) refl k (one_among test x ys (second_true (test y) (list_all test ys) h))
  where
    at : (t : Bool) → (y == x) ≡ t → (t || list_any (λ z. z == x) ys) ≡ true
        → (list_any (λ z. z == x) ys ≡ true → test x ≡ true) → test x ≡ true
    at true e m later = ap test (sym (eqb-true y x e)) ∙ first_true (test y) (list_all test ys) h
    at false e m later = later m

both_soon : list_all (λ rule. not (is_late rule)) (1 ∷ 2 ∷ []) ≡ true
unfolding rule_at
both_soon = refl

range_at_once : (rule : ℕ) → list_any (λ y. y == rule) (1 ∷ 2 ∷ []) ≡ true → is_late rule ≡ false
range_at_once rule h = not-true (is_late rule) (one_among (λ r. not (is_late r)) rule (1 ∷ 2 ∷ []) both_soon h)

-- each of several is settled at once
pub told_at_once : (rule : ℕ) → list_any (λ y. y == rule) joint_rules ≡ true → is_late rule ≡ false
told_at_once rule h = not-true (is_late rule) (one_among (λ r. not (is_late r)) rule joint_rules joint_soon h)

-- each rule that is read is late, or settled at once
all_at_once : list_all (λ rule. not (is_late rule)) rules_at_once ≡ true
unfolding rules_at_once
all_at_once = list_all-kept (λ rule. not (is_late rule)) rules_read

at_once_read : list_all is_read rules_at_once ≡ true
unfolding rules_at_once rules_read rule_at
at_once_read = refl

all_late : list_all is_late late_rules ≡ true
unfolding late_rules
all_late = list_all-kept is_late rules_read

late_read : list_all is_read late_rules ≡ true
unfolding late_rules rules_read rule_at
late_read = refl

pub at_once_among : (rule : ℕ) → list_any (λ y. y == rule) rules_at_once ≡ true
    → (is_late rule ≡ false) × (is_read rule ≡ true)
at_once_among rule h = (
  not-true (is_late rule) (one_among (λ r. not (is_late r)) rule rules_at_once all_at_once h),
  one_among is_read rule rules_at_once at_once_read h,
)

pub late_among : (rule : ℕ) → list_any (λ y. y == rule) late_rules ≡ true → (is_late rule ≡ true) × (is_read rule ≡ true)
late_among rule h = (one_among is_late rule late_rules all_late h, one_among is_read rule late_rules late_read h)

module _ (ex : Exercise) (p : List (List Cell)) (col : List Cell) (m : Moment) (same : m.exercise.now ≡ ex)
    (its : m.column.now ≡ col) where
  -- what is read at the moment is what the column settles
  pub strictly_newly : (rule : ℕ) → is_late rule ≡ false → is_strictly_broken_then all_sets rule p m ≡ newly_broken ex p col rule
  strictly_newly rule late =
      ap (λ e. list_any
      (λ voices. is_broken rule e voices (p ++ m.column.now ∷ []) (length p) && is_strict_at rule e voices (length p))
      all_sets) same
      ∙ ap (λ c. list_any
      (λ voices. is_broken rule ex voices (p ++ c ∷ []) (length p) && is_strict_at rule ex voices (length p))
      all_sets) its
      ∙ sym (newly_broken-at_once ex p col rule late)

  -- so it is found of those of several voices
  pub joint_newly : find (λ r. is_strictly_broken_then all_sets r p m) joint_rules ≡ find (newly_broken ex p col) joint_rules
  joint_newly =
      find_where (λ r. not (is_late r)) (λ r. is_strictly_broken_then all_sets r p m) (newly_broken ex p col)
      joint_rules joint_soon (λ r h. strictly_newly r (not-true (is_late r) h))

  pub moving_newly : find (λ r. is_strictly_broken_then all_sets r p m) (16 ∷ 17 ∷ [])
      ≡ find (newly_broken ex p col) (16 ∷ 17 ∷ [])
  moving_newly =
      find_where (λ r. not (is_late r)) (λ r. is_strictly_broken_then all_sets r p m) (newly_broken ex p col)
      (16 ∷ 17 ∷ []) moving_soon (λ r h. strictly_newly r (not-true (is_late r) h))

-- the first of those from S10 to S17 is the first of S10 to S14, or else of the others
module _ (ex : Exercise) (p : List (List Cell)) (col : List Cell) (rule : ℕ) where
  pub first_joint : Some rule ≡ find (newly_broken ex p col) joint_rules
      → Some rule ≡ find (newly_broken ex p col) (joint_rules ++ next_rules)
  first_joint e =
      sym (find-append (newly_broken ex p col) joint_rules next_rules
      ∙ ap (λ o. option_or o (find (newly_broken ex p col) next_rules)) (sym e))

  pub next_joint : None ≡ find (newly_broken ex p col) joint_rules → Some rule ≡ find (newly_broken ex p col) next_rules
      → Some rule ≡ find (newly_broken ex p col) (joint_rules ++ next_rules)
  next_joint none e =
      sym (find-append (newly_broken ex p col) joint_rules next_rules
      ∙ ap (λ o. option_or o (find (newly_broken ex p col) next_rules)) (sym none) ∙ sym e)

-- no set passes two tests of which it never passes the first
none_of_both : (test other : ℕ → Bool) (sets : List ℕ) → ((voices : ℕ) → test voices ≡ false)
    → list_any (λ voices. test voices && other voices) sets ≡ false
none_of_both test other [] h = refl
none_of_both test other (x ∷ xs) h =
    ap (λ b. (b && other x) || list_any (λ voices. test voices && other voices) xs) (h x)
    ∙ none_of_both test other xs h

module _ (ex : Exercise) (p : List (List Cell)) (col : List Cell) (on : GoesOn ex p (col ∷ [])) where
  -- it is a column of its menu
  chosen : IsInMenu ex (length p) col
  chosen =
      let here : slice_index_or (p ++ col ∷ []) (length p) [] ≡ col = get_or-append_seam p col [] [] in
      let placed : length p < length (p ++ col ∷ []) = omega (arith, length-append p (col ∷ [])) in
      subst (λ (c : List Cell). IsInMenu ex (length p) c) here (on.longer.menus (length p) placed)

  -- so it breaks neither S1 nor S2
  first_kept : newly_broken ex p col 1 ≡ false
  unfolding rule_at
  first_kept =
      newly_broken-at_once ex p col 1 (range_at_once 1 refl)
      ∙ none_of_both (λ voices. is_broken 1 ex voices (p ++ col ∷ []) (length p))
      (λ voices. is_strict_at 1 ex voices (length p)) all_sets
      (λ voices. reading-at_end (breaks 1 ex voices) p col
      ∙ keeps_ranges ex (length p) (previous_pitches (reverse p)) col chosen voices)

  second_kept : newly_broken ex p col 2 ≡ false
  unfolding rule_at
  second_kept =
      newly_broken-at_once ex p col 2 (range_at_once 2 refl)
      ∙ none_of_both (λ voices. is_broken 2 ex voices (p ++ col ∷ []) (length p))
      (λ voices. is_strict_at 2 ex voices (length p)) all_sets
      (λ voices. reading-at_end (breaks 2 ex voices) p col
      ∙ keeps_gamut ex (length p) (previous_pitches (reverse p)) col chosen voices)

  module _ (rule : ℕ) where
    pub voice_is_least : Some rule ≡ find (newly_broken ex p col) voice_rules → least_newly_broken ex p col ≡ Some rule
    voice_is_least e =
        found_in_all (newly_broken ex p col) first_kept second_kept
        ∙ ap (λ o. option_or o (option_or (find (newly_broken ex p col) behind_voices) (find (newly_broken ex p col) later_rules)))
        (sym e)

    pub joint_is_least : None ≡ find (newly_broken ex p col) voice_rules
        → Some rule ≡ find (newly_broken ex p col) (joint_rules ++ next_rules) → least_newly_broken ex p col ≡ Some rule
    joint_is_least none e =
        found_in_all (newly_broken ex p col) first_kept second_kept
        ∙ ap (λ o. option_or o (option_or (find (newly_broken ex p col) behind_voices) (find (newly_broken ex p col) later_rules)))
        (sym none)
        ∙ ap (λ o. option_or o (find (newly_broken ex p col) later_rules)) (sym e)

-- ---- what a column decides by itself

-- the first of four that pass, and of five: the third of these is before the last two
abbrev first_of_four : Bool → Bool → Bool → Bool → Option ℕ
first_of_four a b c d = cond a (Some 10) (cond b (Some 11) (cond c (Some 13) (cond d (Some 14) None)))

abbrev first_of_five : Bool → Bool → Bool → Bool → Bool → Option ℕ
first_of_five a b s c d =
    cond a (Some 10) (cond b (Some 11) (cond s (Some 12) (cond c (Some 13) (cond d (Some 14) None))))

early_first : (a b s c d : Bool) (least : Option ℕ) → first_of_four a b c d ≡ least → is_early least ≡ true
    → first_of_five a b s c d ≡ least
early_first true b s c d least e early = e
early_first false true s c d least e early = e
early_first false false s true d least e early = let no : false ≡ true = ap is_early e ∙ early in cc
early_first false false s false true least e early = let no : false ≡ true = ap is_early e ∙ early in cc
early_first false false s false false least e early = let no : false ≡ true = ap is_early e ∙ early in cc

third_first : (a b s c d : Bool) (least : Option ℕ) → first_of_four a b c d ≡ least → is_early least ≡ false → s ≡ true
    → first_of_five a b s c d ≡ Some 12
third_first true b s c d least e late t = let no : true ≡ false = ap is_early e ∙ late in cc
third_first false true s c d least e late t = let no : true ≡ false = ap is_early e ∙ late in cc
third_first false false s c d least e late t = ap (λ b. cond b (Some 12) (cond c (Some 13) (cond d (Some 14) None))) t

late_first : (a b s c d : Bool) (least : Option ℕ) → first_of_four a b c d ≡ least → s ≡ false
    → first_of_five a b s c d ≡ least
late_first true b s c d least e t = e
late_first false true s c d least e t = e
late_first false false s c d least e t = ap (λ b. cond b (Some 12) (cond c (Some 13) (cond d (Some 14) None))) t ∙ e

module _ (p : List (List Cell)) (m : Moment) (after : IsAfter p m) where
  abbrev test : ℕ → Bool
  test rule = is_strictly_broken_then all_sets rule p m

  abbrev alone : ℕ → Bool
  alone rule = breaks_strictly m.exercise.now m.state.now.newest.len None m.column.now rule

  module _ (least : Option ℕ) (e : least ≡ least_alone m.exercise.now m.state.now.newest.len m.column.now) where
    -- what is found of those that a column decides by itself is found at the moment
    found_alone : first_of_four (test 10) (test 11) (test 13) (test 14) ≡ least
    unfolding least_alone
    found_alone =
        find_where (λ r. list_any (λ y. r == y) sounding_rules) test alone alone_rules refl
        (λ r h. sounds_alone m.exercise.now p m.column.now r h
        ∙ ap (λ n. breaks_strictly m.exercise.now n None m.column.now r) (sym after.state.newest.count))
        ∙ sym e

    pub early_joint : is_early least ≡ true → find (λ r. is_strictly_broken_then all_sets r p m) joint_rules ≡ least
    early_joint early = early_first (test 10) (test 11) (test 12) (test 13) (test 14) least found_alone early

    pub third_joint : is_early least ≡ false → is_strictly_broken_then all_sets 12 p m ≡ true
        → find (λ r. is_strictly_broken_then all_sets r p m) joint_rules ≡ Some 12
    third_joint late t = third_first (test 10) (test 11) (test 12) (test 13) (test 14) least found_alone late t

    pub late_joint : is_strictly_broken_then all_sets 12 p m ≡ false
        → find (λ r. is_strictly_broken_then all_sets r p m) joint_rules ≡ least
    late_joint t = late_first (test 10) (test 11) (test 12) (test 13) (test 14) least found_alone t

alone_read : list_all is_read alone_rules ≡ true
unfolding rules_read
alone_read = refl

alone_soon : list_all (λ rule. not (is_late rule)) alone_rules ≡ true
unfolding rule_at
alone_soon = refl

-- of the least rule that a column breaks by itself it settles a strict break after each prefix
pub alone_newly : (ex : Exercise) (p : List (List Cell)) (col : List Cell) (rule : ℕ)
    → least_alone ex (length p) col ≡ Some rule → (is_read rule && newly_broken ex p col rule) ≡ true
unfolding least_alone
alone_newly ex p col rule e =
    let found = found_passes (breaks_strictly ex (length p) None col) alone_rules rule e in
    let soon = not-true (is_late rule) (one_of (λ r. not (is_late r)) rule alone_rules alone_soon found.0) in
    let sounds = one_of (λ r. list_any (λ y. r == y) sounding_rules) rule alone_rules refl found.0 in
    and_from (is_read rule) (newly_broken ex p col rule) (one_of is_read rule alone_rules alone_read found.0)
    (newly_broken-at_once ex p col rule soon ∙ sounds_alone ex p col rule sounds ∙ found.1)
