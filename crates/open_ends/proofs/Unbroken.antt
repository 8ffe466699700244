-- A lawful setting breaks neither S15 nor S20 where they are asked, whichever way two voices are
-- named (`passing_kept`, `resolution_kept`). What such a rule asks wherever a voice clashes with
-- another one is kept by a voice that isn't clean (`clashes_well`).
use Rattle.std.specs.Prelude.{◌≡◌, ℕ, zero, suc, ◌<◌, ◌≤◌, ◌==◌, ◌&&◌, ◌||◌, Bool, true, false, not, nat_lt, List, [], ◌∷◌, Option, Some, None, find, length, pos, if◌then◌else◌, refl}
use Rattle.std.specs.List.{list_any}
use Rattle.std.proofs.Common.{ℤ, ◌-ℤ◌, ap, sym, ◌∙◌, subst, inl, inr, arith}
use Rattle.std.proofs.lemmas.Bool.{cases_eq, cases_lt, cond_both, eqb-true, lt-ltb, not-true, or_parts}
use Rattle.std.proofs.lemmas.Int.{ints}
use Rattle.std.proofs.lemmas.List.{get_or_past}
use Rattle.fux_pitch.specs.declared.interval.Interval.{Interval}
use Rattle.fux_pitch.specs.declared.pitch.Pitch.{Pitch}
use Rattle.fux_pitch.specs.Pitch.{degree_of, key_of}
use Rattle.fux_pitch.specs.Size.{interval_between, is_consonant_size}
use Rattle.fux_grid.specs.declared.cell.Cell.{Cell}
use Rattle.fux_grid.specs.declared.cell.Cell.TheVariants.{Rest}
use Rattle.fux_grid.specs.declared.exercise.Exercise.{Exercise}
use Rattle.fux_grid.specs.declared.exercise.Relax.{Relax}
use Rattle.fux_grid.specs.Cells.{cell_in, pitch_of}
use Rattle.fux_grid.specs.Columns.{Columns}
use Rattle.fux_grid.specs.Exercises.{bar_of}
use Rattle.rule_law.specs.Forms as forms
use Rattle.rule_law.specs.Places.{reading_of}
use Rattle.rule_law.specs.Terms.{clash, holds_of, interval_of_pitches, is_clean, is_lowest}
use Rattle.rule_law.specs.Voices.{is_free}
use Rattle.rule_law.specs.Ways.{on_some_way}
use Rattle.dissonance_rules.specs.Clashes.{clash_rule, passing_rule, resolution_rule}
use Rattle.penalty_sheet.specs.Prices.{is_strict, line_price, relaxes}
use Rattle.penalty_sheet.specs.declared.price.Price.TheVariants.{Strict}
use Rattle.fux_judge.specs.Lawful.{IsLawful}
use Rattle.fux_judge.specs.Penalties.{is_strict_at}
use Rattle.fux_judge.specs.Rules.{all_sets, is_broken, rule_at, rules_read}
use Rattle.open_ends.specs.Asked.{is_asked, is_relaxed}

-- where no number of a list passes, one that is among them doesn't
fails_among : (f : ℕ → Bool) (n : ℕ) (xs : List ℕ) → list_any f xs ≡ false → list_any (λ x. n == x) xs ≡ true
    → f n ≡ false
fails_among f n [] h there = cc
fails_among f n (x ∷ xs) h there =
    at (n == x) refl there (or_parts (f x) (list_any f xs) h) (fails_among f n xs)
  where
    at : (b : Bool) → (n == x) ≡ b → (b || list_any (λ y. n == y) xs) ≡ true → (f x ≡ false) × (list_any f xs ≡ false)
        → (list_any f xs ≡ false → list_any (λ y. n == y) xs ≡ true → f n ≡ false) → f n ≡ false
    at true e m both later = ap f (eqb-true n x e) ∙ both.0
    at false e m both later = later both.1 m

-- ---- a rule that no line relaxes is strict everywhere

no_line : (rule voices bar : ℕ) (lines : List Relax) → list_any (λ line. line.rule == rule) lines ≡ false
    → find (relaxes rule voices bar) lines ≡ None
no_line rule voices bar [] h = refl
no_line rule voices bar (line ∷ lines) h =
    let parts = or_parts (line.rule == rule) (list_any (λ l. l.rule == rule) lines) h in
    rw parts.0 (no_line rule voices bar lines parts.1)

strict_everywhere : (ex : Exercise) (rule voices i : ℕ) → is_asked ex rule ≡ true → is_strict_at rule ex voices i ≡ true
strict_everywhere ex rule voices i asked =
    let unrelaxed = not-true (is_relaxed ex rule) asked in
    ap (λ line. is_strict (if nat_lt rule 4 then Strict else line_price line))
    (no_line rule voices (bar_of i) ex.relax unrelaxed)
    ∙ cond_both (nat_lt rule 4) Strict Strict (λ price. is_strict price ≡ true) (λ e. refl) (λ e. refl)

-- ---- two voices

as_lower : (there a b c d : Bool) → (there && ((a && b) || (c && d))) ≡ false → there ≡ true → a ≡ true → b ≡ false
as_lower true true b c d h e f = (or_parts b (c && d) h).0
as_lower true false b c d h e f = cc
as_lower false a b c d h e f = cc

as_higher : (there a b c d : Bool) → (there && ((a && b) || (c && d))) ≡ false → there ≡ true → c ≡ true → d ≡ false
as_higher true a b true d h e f = (or_parts (a && b) d h).1
as_higher true a b false d h e f = cc
as_higher false a b c d h e f = cc

module _ (ex : Exercise) (test : ℕ → ℕ → Bool)
    (none : (voices : ℕ) → list_any (λ x. voices == x) all_sets ≡ true → on_some_way ex test voices ≡ false) where
  lower : (v w voices : ℕ) → list_any (λ x. voices == x) all_sets ≡ true
      → on_some_way ex test voices ≡ (nat_lt w ex.voices && ((is_free ex v && test v w) || (is_free ex w && test w v)))
      → w < ex.voices → is_free ex v ≡ true → test v w ≡ false
  lower v w voices set e there free =
      as_lower (nat_lt w ex.voices) (is_free ex v) (test v w) (is_free ex w) (test w v) (sym e ∙ none voices set)
      (lt-ltb w ex.voices there) free

  higher : (v w voices : ℕ) → list_any (λ x. voices == x) all_sets ≡ true
      → on_some_way ex test voices ≡ (nat_lt v ex.voices && ((is_free ex w && test w v) || (is_free ex v && test v w)))
      → v < ex.voices → is_free ex v ≡ true → test v w ≡ false
  higher v w voices set e there free =
      as_higher (nat_lt v ex.voices) (is_free ex w) (test w v) (is_free ex v) (test v w) (sym e ∙ none voices set)
      (lt-ltb v ex.voices there) free

  -- a test that holds for no set, whichever way its voices are named, holds of no free voice and
  -- another one
  pub two_voices : ex.voices ≤ 4 → (v w : ℕ) → v < ex.voices → w < ex.voices → (v ≡ w → ⊥) → is_free ex v ≡ true
      → test v w ≡ false
  unfolding forms.all_sets
  two_voices few zero zero here there differ free = absurd (differ refl)
  two_voices few zero (suc zero) here there differ free = lower 0 1 3 refl refl there free
  two_voices few zero (suc (suc zero)) here there differ free = lower 0 2 5 refl refl there free
  two_voices few zero (suc (suc (suc zero))) here there differ free = lower 0 3 9 refl refl there free
  two_voices few (suc zero) zero here there differ free = higher 1 0 3 refl refl here free
  two_voices few (suc zero) (suc zero) here there differ free = absurd (differ refl)
  two_voices few (suc zero) (suc (suc zero)) here there differ free = lower 1 2 6 refl refl there free
  two_voices few (suc zero) (suc (suc (suc zero))) here there differ free = lower 1 3 10 refl refl there free
  two_voices few (suc (suc zero)) zero here there differ free = higher 2 0 5 refl refl here free
  two_voices few (suc (suc zero)) (suc zero) here there differ free = higher 2 1 6 refl refl here free
  two_voices few (suc (suc zero)) (suc (suc zero)) here there differ free = absurd (differ refl)
  two_voices few (suc (suc zero)) (suc (suc (suc zero))) here there differ free = lower 2 3 12 refl refl there free
  two_voices few (suc (suc (suc zero))) zero here there differ free = higher 3 0 9 refl refl here free
  two_voices few (suc (suc (suc zero))) (suc zero) here there differ free = higher 3 1 10 refl refl here free
  two_voices few (suc (suc (suc zero))) (suc (suc zero)) here there differ free = higher 3 2 12 refl refl here free
  two_voices few (suc (suc (suc zero))) (suc (suc (suc zero))) here there differ free = absurd (differ refl)
  two_voices few (suc (suc (suc (suc v)))) w here there differ free = absurd (omega (arith, few, here))
  two_voices few v (suc (suc (suc (suc w)))) here there differ free = absurd (omega (arith, few, there))

-- ---- what a lawful setting doesn't break

unbroken : (b : Bool) → (b && true) ≡ false → b ≡ false
unbroken true h = h
unbroken false h = refl

module _ (ex : Exercise) (few : ex.voices ≤ 4) (s : Columns) (lawful : IsLawful ex s) (i : ℕ) (here : i < length s) where
  pub unbroken_for : (rule : ℕ) → list_any (λ x. rule == x) rules_read ≡ true → is_asked ex rule ≡ true → (voices : ℕ)
      → list_any (λ x. voices == x) all_sets ≡ true → is_broken rule ex voices s i ≡ false
  unbroken_for rule read asked voices set =
      unbroken (is_broken rule ex voices s i)
      (ap (λ b. is_broken rule ex voices s i && b) (sym (strict_everywhere ex rule voices i asked))
      ∙ fails_among (λ set. is_broken rule ex set s i && is_strict_at rule ex set i) voices all_sets
      (fails_among (λ r. list_any (λ set. is_broken r ex set s i && is_strict_at r ex set i) all_sets) rule rules_read
      (lawful.unbroken i here) read) set)

  -- S15 and S20, for a way to name the voices
  pub passing_kept : is_asked ex passing_rule ≡ true → (v w : ℕ) → v < ex.voices → w < ex.voices → (v ≡ w → ⊥)
      → is_free ex v ≡ true → reading_of (clash_rule passing_rule ex) s i v w ≡ false
  unfolding rule_at rules_read
  passing_kept asked =
      two_voices ex (reading_of (clash_rule passing_rule ex) s i)
      (λ voices set. unbroken_for passing_rule refl asked voices set) few

  pub resolution_kept : is_asked ex resolution_rule ≡ true → (v w : ℕ) → v < ex.voices → w < ex.voices → (v ≡ w → ⊥)
      → is_free ex v ≡ true → reading_of (clash_rule resolution_rule ex) s i v w ≡ false
  unfolding rule_at rules_read
  resolution_kept asked =
      two_voices ex (reading_of (clash_rule resolution_rule ex) s i)
      (λ voices set. unbroken_for resolution_rule refl asked voices set) few

-- ---- a voice that isn't clean clashes with another one

-- with itself no voice clashes
abbrev prime : Interval
prime = record { degrees = pos 0; semitones = pos 0 }

unison : (p : Pitch) → interval_between p p ≡ prime
unison p =
    let Size : ℤ → ℤ → Interval = λ d k. record { degrees = d; semitones = k } in
    let d : pos (degree_of p) -ℤ pos (degree_of p) ≡ pos 0 = omega (arith, ints) in
    let k : key_of p -ℤ key_of p ≡ pos 0 = omega (arith, ints) in
    ap (λ n. Size n (key_of p -ℤ key_of p)) d ∙ ap (Size (pos 0)) k

pub clash-self : (now : List Cell) (v : ℕ) → clash now v v ≡ false
clash-self now v = at (pitch_of (cell_in now v))
  where
    at : (p : Option Pitch)
        → holds_of (λ i. not (is_consonant_size i (is_lowest now v || is_lowest now v))) (interval_of_pitches p p) ≡ false
    at None = refl
    at (Some p) = ap (λ i. not (is_consonant_size i (is_lowest now v || is_lowest now v))) (unison p)

-- nor with a voice that isn't there
pub clash-absent : (now : List Cell) (v w : ℕ) → length now ≤ w → clash now v w ≡ false
clash-absent now v w beyond =
    ap (λ c. holds_of (λ i. not (is_consonant_size i (is_lowest now v || is_lowest now w)))
    (interval_of_pitches (pitch_of (cell_in now v)) (pitch_of c))) (get_or_past now w Rest beyond)
    ∙ at (pitch_of (cell_in now v))
  where
    at : (p : Option Pitch)
        → holds_of (λ i. not (is_consonant_size i (is_lowest now v || is_lowest now w))) (interval_of_pitches p None)
        ≡ false
    at None = refl
    at (Some p) = refl

-- if a voice isn't clean, and what a rule asks is kept wherever it clashes with another voice, then
-- it is kept
pub clashes_well : (now : List Cell) (v : ℕ) (kept : Bool)
    → ((w : ℕ) → w < length now → (v ≡ w → ⊥) → (clash now v w && not kept) ≡ false) → not (is_clean now v) ≡ true
    → kept ≡ true
clashes_well now v true others unclean = refl
clashes_well now v false others unclean =
    absurd (contradiction (none 0) (none 1) (none 2) (none 3) unclean)
  where
    alone : (b : Bool) → (b && true) ≡ false → b ≡ false
    alone true h = h
    alone false h = refl

    none : (w : ℕ) → clash now v w ≡ false
    none w =
        elim (cases_lt w (length now)) [
          | inl there ↦ elim (cases_eq v w) [
            | inl same ↦ subst (λ (u : ℕ). clash now v u ≡ false) same (clash-self now v)
            | inr other ↦ alone (clash now v w) (others w there other)
          ]
          | inr beyond ↦ clash-absent now v w beyond
        ]

    contradiction : {a b c d : Bool} → a ≡ false → b ≡ false → c ≡ false → d ≡ false
        → not (not (a || b || c || d)) ≡ true → ⊥
    contradiction e f g h k = cc
