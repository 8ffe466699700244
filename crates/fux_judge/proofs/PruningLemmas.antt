-- A strict break of the first voices is one in each column that has their cells.
use Rattle.std.proofs.Common.{◌≡◌, ℕ, ◌==◌, ◌&&◌, ◌||◌, Bool, true, false, Option, Some, None, List, [], ◌∷◌, ◌++◌, length, reverse, refl, ap, sym, ◌∙◌, subst}
use Rattle.std.specs.Prelude.{if◌then◌else◌, not}
use Rattle.std.specs.List.{list_any, list_all}
use Rattle.std.proofs.lemmas.Bool.{eqb-true, not-true}
use Rattle.fux_grid.specs.declared.cell.Cell.{Cell}
use Rattle.fux_grid.specs.declared.exercise.Exercise.{Exercise}
use Rattle.fux_grid.specs.Columns.{newest_column}
use Rattle.rule_law.specs.Law.{first_true, second_true, reading-at_end}
use Rattle.rule_law.proofs.LowerVoices.{IsSameBelow, same_below}
use Rattle.rule_law.specs.Nearby.{previous_pitches, whole_of}
use Rattle.rule_law.specs.Places.{Row}
use Rattle.melody_rules.specs.Rows as melody
use Rattle.motion_rules.specs.Rows as motion
use Rattle.dissonance_rules.specs.Rows as dissonance
use Rattle.rhythm_cadence.specs.Rows as rhythm
use Rattle.melody_rules.proofs.LowerVoices as melody_below
use Rattle.motion_rules.proofs.LowerVoices as motion_below
use Rattle.dissonance_rules.proofs.LowerVoices as dissonance_below
use Rattle.rhythm_cadence.proofs.LowerVoices as rhythm_below
use Rattle.rule_law.specs.Forms as forms
use Rattle.rule_law.specs.Rulebooks.{RuleRow, no_rule}
use Rattle.rule_law.specs.Voices.{is_below}
use Rattle.melody_rules.specs.Book as melody_book
use Rattle.motion_rules.specs.Book as motion_book
use Rattle.dissonance_rules.specs.Book as dissonance_book
use Rattle.rhythm_cadence.specs.Book as rhythm_book
use Rattle.fux_judge.specs.declared.moment.Moment.{Moment}
use Rattle.fux_judge.specs.Moments.{is_strict_break_then}
use Rattle.fux_judge.specs.Crates.{RuleCrate, Melody, Motion, Dissonance, Rhythm, Doubling, crate_with}
use Rattle.fux_judge.specs.Rules.{rules_read, all_sets, is_late, is_read, rule_at, breaks, is_broken}
use Rattle.fux_judge.proofs.CrateLemmas.{late_by_crate, not_shape, rule_of_crate, soon_in_dissonance, soon_in_motion, soon_in_rhythm}
use Rattle.fux_judge.specs.Penalties.{is_strict_at, newly_broken}
use Rattle.fux_judge.proofs.StepPlaces.{newly_broken-at_once}
use Rattle.fux_judge.specs.Pruning.{AllBreak, is_set_below, reads_below, rules_below, sets_below}

-- what each of a list passes, one of them passes
pub one_of : (test : ℕ → Bool) (x : ℕ) (xs : List ℕ) → list_all test xs ≡ true → list_any (λ y. x == y) xs ≡ true
    → test x ≡ true
one_of test x [] h k = cc
one_of test x (y ∷ ys) h k = at (x == y) refl k (one_of test x ys (second_true (test y) (list_all test ys) h))
  where
    at : (t : Bool) → (x == y) ≡ t → (t || list_any (λ z. x == z) ys) ≡ true
        → (list_any (λ z. x == z) ys ≡ true → test x ≡ true) → test x ≡ true
    at true e m later = ap test (eqb-true x y e) ∙ first_true (test y) (list_all test ys) h
    at false e m later = later m

-- what one of a list passes, some of them passes
pub some_of : (test : ℕ → Bool) (x : ℕ) (xs : List ℕ) → list_any (λ y. x == y) xs ≡ true → test x ≡ true
    → list_any test xs ≡ true
some_of test x [] k t = cc
some_of test x (y ∷ ys) k t = at (x == y) refl k (λ m. some_of test x ys m t)
  where
    or_true : (b : Bool) → (b || true) ≡ true
    or_true true = refl
    or_true false = refl

    at : (s : Bool) → (x == y) ≡ s → (s || list_any (λ z. x == z) ys) ≡ true
        → (list_any (λ z. x == z) ys ≡ true → list_any test ys ≡ true) → (test y || list_any test ys) ≡ true
    at true e m later = ap (λ b. b || list_any test ys) (ap test (sym (eqb-true x y e)) ∙ t)
    at false e m later = ap (λ b. test y || b) (later m) ∙ or_true (test y)

-- the rules that read below are read, S3 isn't one of them, and of those of rhythm and cadence they
-- are the ones of endings
reads_some : (rule : ℕ) → reads_below rule ≡ true → is_read rule ≡ true
unfolding rules_read
reads_some rule h = one_of is_read rule rules_below refl h

all_settled_at_once : list_all (λ r. not (is_late r)) rules_below ≡ true
unfolding rule_at
all_settled_at_once = refl

pub settled_at_once : (rule : ℕ) → reads_below rule ≡ true → is_late rule ≡ false
settled_at_once rule h = not-true (is_late rule) (one_of (λ r. not (is_late r)) rule rules_below all_settled_at_once h)

is_rhythmic : Option RuleCrate → Bool
is_rhythmic (Some Rhythm) = true
is_rhythmic (Some Melody) = false
is_rhythmic (Some Motion) = false
is_rhythmic (Some Dissonance) = false
is_rhythmic (Some Doubling) = false
is_rhythmic None = false

ends_by : Option RuleCrate → ℕ → Bool
ends_by crate rule = if is_rhythmic crate then rhythm_below.is_of_ending rule else true

all_end : list_all (λ rule. ends_by (crate_with rule) rule) rules_below ≡ true
unfolding ends_by is_rhythmic
all_end = refl

of_ending : (rule : ℕ) → reads_below rule ≡ true → crate_with rule ≡ Some Rhythm → rhythm_below.is_of_ending rule ≡ true
unfolding ends_by is_rhythmic
of_ending rule h e =
    let here : ends_by (Some Rhythm) rule ≡ true = sym (ap (λ c. ends_by c rule) e)
    ∙ one_of (λ r. ends_by (crate_with r) r) rule rules_below all_end h in
    here

set_there : (voices : ℕ) → list_any (λ other. voices == other) sets_below ≡ true
    → list_any (λ other. voices == other) all_sets ≡ true
unfolding forms.all_sets
set_there voices h = one_of (λ set. list_any (λ other. set == other) all_sets) voices sets_below refl h

module _ (n : ℕ) (a b : List Cell) (same : IsSameBelow n a b) (i : ℕ) (behind : List (List Cell)) where
  choose_same : (t : Bool) (x y : Row Bool) → (t ≡ true → x i behind a [] ≡ x i behind b [])
      → (t ≡ false → y i behind a [] ≡ y i behind b []) → (if t then x else y) i behind a []
      ≡ (if t then x else y) i behind b []
  choose_same true x y h k = h refl
  choose_same false x y h k = k refl

  module _ (rule : ℕ) (ex : Exercise) (voices : ℕ) (below : is_below n voices ≡ true) where
    melody_same : melody.broken_in rule ex voices i behind a [] ≡ melody.broken_in rule ex voices i behind b []
    melody_same =
        choose_same (melody.looks_back rule) (melody.window_rows rule ex voices)
        (whole_of (melody.near_rows rule ex voices))
        (λ e. melody_below.window_rows-same n a b same rule ex voices i below behind [])
        (λ e. melody_below.near_rows-same n a b same rule ex voices i below (newest_column behind)
        (previous_pitches behind))

    motion_same : motion.broken_in rule ex voices i behind a [] ≡ motion.broken_in rule ex voices i behind b []
    motion_same =
        motion_below.near_rows-same n a b same rule ex voices i (newest_column behind) (previous_pitches behind) below

    dissonance_same : dissonance.broken_in rule ex voices i behind a []
        ≡ dissonance.broken_in rule ex voices i behind b []
    dissonance_same = dissonance_below.near_rows-same n a b same rule ex voices i (newest_column behind)
        (previous_pitches behind) below

    rhythm_same : (rule == 3) ≡ false → rhythm_below.is_of_ending rule ≡ true
        → rhythm.broken_in rule ex voices i behind a [] ≡ rhythm.broken_in rule ex voices i behind b []
    rhythm_same e ending =
        ap (λ t. if t then rhythm.shape_row ex voices i behind a []
        else whole_of (rhythm.near_rows rule ex voices) i behind a []) e
        ∙ rhythm_below.near_rows-same n a b same ex i rule voices (newest_column behind) (previous_pitches behind)
        ending below
        ∙ sym (ap (λ t. if t then rhythm.shape_row ex voices i behind b []
        else whole_of (rhythm.near_rows rule ex voices) i behind b []) e)

    -- a rule that reads below is broken in both columns, or in none
    breaks_same : reads_below rule ≡ true → breaks rule ex voices i behind a [] ≡ breaks rule ex voices i behind b []
    breaks_same reads = at (crate_with rule) refl
      where
        soon : is_late rule ≡ false
        soon = settled_at_once rule reads

        by : (it : RuleRow) → rule_at rule ≡ it → it.broken ex voices i behind a [] ≡ it.broken ex voices i behind b []
            → breaks rule ex voices i behind a [] ≡ breaks rule ex voices i behind b []
        by it e h = ap (λ (r : RuleRow). r.broken ex voices i behind a []) e ∙ h
            ∙ sym (ap (λ (r : RuleRow). r.broken ex voices i behind b []) e)

        at : (crate : Option RuleCrate) → crate_with rule ≡ crate → breaks rule ex voices i behind a []
            ≡ breaks rule ex voices i behind b []
        at (Some Melody) e = by (melody_book.rule_row rule) (rule_of_crate rule (Some Melody) e) melody_same
        at (Some Motion) e = by (motion_book.at_once_row rule) (soon_in_motion rule soon e) motion_same
        at (Some Dissonance) e = by (dissonance_book.at_once_row rule) (soon_in_dissonance rule soon e) dissonance_same
        at (Some Rhythm) e = by (rhythm_book.at_once_row rule) (soon_in_rhythm rule soon e)
            (rhythm_same (not_shape rule soon e) (of_ending rule reads e))
        at (Some Doubling) e = let no : true ≡ false = late_by_crate rule (Some Doubling) e false soon in cc
        at None e = by no_rule (rule_of_crate rule None e) refl

module _ (rule voices n : ℕ) (ex : Exercise) (p : List (List Cell)) (col : List Cell) where
  -- so a strict break in one is one in the other
  pub breaks_in_all : reads_below rule ≡ true → is_set_below n voices ≡ true
      → (is_broken rule ex voices (p ++ col ∷ []) (length p) && is_strict_at rule ex voices (length p)) ≡ true
      → AllBreak n ex p col
  breaks_in_all reads below strict other same =
      let known : list_any (λ o. voices == o) sets_below
      ≡ true = first_true (list_any (λ o. voices == o) sets_below) (is_below n voices) below in
      let test : ℕ → Bool = λ set. is_broken rule ex set (p ++ other ∷ []) (length p)
      && is_strict_at rule ex set (length p) in
      let moved : is_broken rule ex voices (p ++ other ∷ []) (length p)
      ≡ is_broken rule ex voices (p ++ col ∷ []) (length p) =
      reading-at_end (breaks rule ex voices) p other
      ∙ breaks_same n other col (same_below n other col same) (length p) (reverse p) rule ex voices
      (second_true (list_any (λ o. voices == o) sets_below) (is_below n voices) below) reads
      ∙ sym (reading-at_end (breaks rule ex voices) p col) in
      some_of (newly_broken ex p other) rule rules_read (reads_some rule reads)
      (newly_broken-at_once ex p other rule (settled_at_once rule reads)
      ∙ some_of test voices all_sets (set_there voices known)
      (ap (λ b. b && is_strict_at rule ex voices (length p)) moved ∙ strict))

-- and so it does where the break is read at a moment of these
pub breaks_here : (rule voices n : ℕ) (ex : Exercise) (p : List (List Cell)) (col : List Cell) (m : Moment)
    → m.exercise.now ≡ ex → m.column.now ≡ col → reads_below rule ≡ true → is_set_below n voices ≡ true
    → is_strict_break_then rule voices p m ≡ true → AllBreak n ex p col
breaks_here rule voices n ex p col m of same reads below strict =
    subst (λ (d : List Cell). AllBreak n ex p d) same
    (subst (λ (e : Exercise). AllBreak n e p m.column.now) of
    (breaks_in_all rule voices n m.exercise.now p m.column.now reads below strict))
