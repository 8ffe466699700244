-- What is kept of the notes of the species voice tells nothing wrong of them (`kept_of_line`). So
-- by it no note of a lawful setting turns badly, where S8 is asked (`never_turns_badly`).
use Rattle.std.specs.Prelude.{◌≡◌, ℕ, zero, suc, ◌<◌, ◌==◌, ◌&&◌, ◌||◌, Bool, true, false, not, nat_le, nat_lt, List, [], ◌∷◌, Option, Some, None, is_some, length, slice_index_or, if◌then◌else◌, refl}
use Rattle.std.specs.List.{list_any}
use Rattle.std.proofs.Common.{ap, sym, ◌∙◌, subst, arith}
use Rattle.std.proofs.Math.Bool.{or-false}
use Rattle.std.proofs.lemmas.Bool.{lt-ltb, ne_eqb}
use Rattle.std.proofs.lemmas.Int.{ints}
use Rattle.fux_pitch.specs.declared.interval.Interval.{Interval}
use Rattle.fux_pitch.specs.declared.pitch.Pitch.{Pitch}
use Rattle.fux_pitch.specs.Size.{interval_between}
use Rattle.fux_grid.specs.declared.cell.Cell.{Cell}
use Rattle.fux_grid.specs.declared.cell.Cell.TheVariants.{Rest, Hold, Start}
use Rattle.fux_grid.specs.declared.exercise.Exercise.{Exercise}
use Rattle.fux_grid.specs.Cells.{cell_in}
use Rattle.fux_grid.specs.Columns.{Columns, earlier, line}
use Rattle.rule_law.specs.Forms as forms
use Rattle.rule_law.specs.Terms.{falls, holds_of, interval_of_pitches, move_from, opposite_ways, rises, semitones_without_sign}
use Rattle.rule_law.specs.Voices.{is_free, on_free_voice}
use Rattle.melody_rules.specs.Held.{pitches-hold}
use Rattle.melody_rules.specs.Rows.{before_last, last_of, latest_turning, pitches, turns, turns_at_tritone, window_rule}
use Rattle.fux_judge.specs.Lawful.{IsLawful}
use Rattle.fux_judge.specs.Rules.{all_sets, rule_at, rules_read}
use Rattle.open_ends.specs.Asked.{is_asked}
use Rattle.open_ends.specs.Parts.{HasVoices}
use Rattle.open_ends.proofs.Unbroken.{unbroken_for}
use Rattle.open_ends.specs.declared.notes.OpenTurns.{OpenTurns}
use Rattle.open_ends.specs.declared.notes.Way.TheVariants.{Falls, Level, Rises}
use Rattle.open_ends.specs.Notes.{goes_back, has_tritone, none, noted, noted_in, semitones_between, turning_after, turns_back, turns_badly, turns_rule, way_between, way_of, while_near, with_note, with_tritone}

-- ---- the way of a move

-- the next move goes back where both go opposite ways
back-opposite : (i j : Interval) → goes_back (way_of (Some i)) j ≡ opposite_ways i j
back-opposite i j = at (rises i) (falls i) refl refl
  where
    not_both : rises i ≡ true → falls i ≡ true → ⊥
    not_both e f = grind (arith, ints, e, f)

    at : (a b : Bool) → rises i ≡ a → falls i ≡ b
        → goes_back (if a then Rises else (if b then Falls else Level)) j ≡ ((a && falls j) || (b && rises j))
    at true true e f = absurd (not_both e f)
    at true false e f = sym (or-false (falls j))
    at false true e f = refl
    at false false e f = refl

back-turns : (previous : Option Pitch) (c : Pitch) (now : Cell)
    → holds_of (goes_back (way_between previous c)) (move_from (Some c) now) ≡ turns previous (Some c) now
back-turns None c Rest = refl
back-turns None c (Hold d) = refl
back-turns None c (Start d) = refl
back-turns (Some p) c Rest = refl
back-turns (Some p) c (Hold d) = refl
back-turns (Some p) c (Start d) = back-opposite (interval_between p c) (interval_between c d)

never_back : (step : Option Interval) → holds_of (goes_back Level) step ≡ true → ⊥
never_back None e = cc
never_back (Some i) e = cc

-- ---- what is kept tells nothing wrong

-- what is kept of notes, given by their pitches, the latest first
record TellsOf (ps : List Pitch) (kept : OpenTurns) : Type 0 where
  newest : kept.newest ≡ last_of ps
  -- where by it the newest note becomes a turning note, it does
  turned : (now : Cell) → turns_back kept now ≡ true → turns (before_last ps) (last_of ps) now ≡ true
  -- the turning note that is kept is the latest
  turning : (t : Pitch) → kept.turning ≡ Some t → latest_turning ps ≡ Some t
  -- and with it the way is kept
  exact : (t : Pitch) → kept.turning ≡ Some t → (now : Cell)
      → turns_back kept now ≡ turns (before_last ps) (last_of ps) now

tells-none : TellsOf [] none
tells-none = record {
  newest = refl;
  turned = λ now e. absurd (never_back (move_from None now) e);
  turning = λ t e. cc;
  exact = λ t e now. cc;
}

module _ (ex : Exercise) (i : ℕ) (c : Pitch) (ps : List Pitch) (kept : OpenTurns) (tells : TellsOf ps kept) where
  back : (now : Cell)
      → holds_of (goes_back (way_between kept.newest c)) (move_from (Some c) now) ≡ turns (last_of ps) (Some c) now
  back now = back-turns kept.newest c now ∙ ap (λ p. turns p (Some c) now) tells.newest

  way_if : (b : Bool) (now : Cell)
      → holds_of (goes_back (if b then way_between kept.newest c else Level)) (move_from (Some c) now) ≡ true
      → turns (last_of ps) (Some c) now ≡ true
  way_if true now e = sym (back now) ∙ e
  way_if false now e = absurd (never_back (move_from (Some c) now) e)

  module _ (t : Pitch) where
    near : (p : Option Pitch) → while_near p c ≡ Some t → p ≡ Some t
    near None e = cc
    near (Some p) e = at (nat_le (semitones_between p c) 6) e
      where
        at : (b : Bool) → (if b then Some p else None) ≡ Some t → Some p ≡ Some t
        at true f = f
        at false f = cc

    tritone : (p : Option Pitch) → with_tritone ex i kept.way p ≡ Some t → p ≡ Some t
    tritone None e = cc
    tritone (Some p) e = at (has_tritone ex i kept.way p) e
      where
        at : (b : Bool) → (if b then Some p else None) ≡ Some t → Some p ≡ Some t
        at true f = f
        at false f = cc

    latest : turning_after ex i kept c ≡ Some t → latest_turning (c ∷ ps) ≡ Some t
    latest e =
        at (turns_back kept (Start c)) refl
        (near (if turns_back kept (Start c) then with_tritone ex i kept.way kept.newest else kept.turning) e)
      where
        at : (b : Bool) → turns_back kept (Start c) ≡ b
            → (if b then with_tritone ex i kept.way kept.newest else kept.turning) ≡ Some t
            → latest_turning (c ∷ ps) ≡ Some t
        at true f g =
            ap (λ b. if b then last_of ps else latest_turning ps) (tells.turned (Start c) f)
            ∙ sym tells.newest
            ∙ tritone kept.newest g
        at false f g =
            ap (λ b. if b then last_of ps else latest_turning ps) (sym (tells.exact t g (Start c)) ∙ f)
            ∙ tells.turning t g

  tells-more : TellsOf (c ∷ ps) (with_note ex i kept c)
  tells-more = record {
    newest = refl;
    turned = way_if (is_some (turning_after ex i kept c) || has_tritone ex i (way_between kept.newest c) c);
    turning = latest;
    exact = λ t e now. ap (λ p. holds_of (goes_back
        (if is_some p || has_tritone ex i (way_between kept.newest c) c then way_between kept.newest c else Level))
        (move_from (Some c) now)) e ∙ back now;
  }

one_cell : (ex : Exercise) (i : ℕ) (c : Cell) (cells : List Cell) (kept : OpenTurns) → TellsOf (pitches cells) kept
    → TellsOf (pitches (c ∷ cells)) (noted ex i kept c)
one_cell ex i Rest cells kept tells = tells
one_cell ex i (Hold p) cells kept tells =
    subst (λ (ps : List Pitch). TellsOf ps kept) (sym (pitches-hold p cells)) tells
one_cell ex i (Start c) cells kept tells = tells-more ex i c (pitches cells) kept tells

kept_of_line : (ex : Exercise) (behind : List (List Cell))
    → TellsOf (pitches (line ex.species_voice behind)) (noted_in ex behind)
kept_of_line ex [] = tells-none
kept_of_line ex (col ∷ behind) =
    one_cell ex (length behind) (cell_in col ex.species_voice) (line ex.species_voice behind) (noted_in ex behind)
    (kept_of_line ex behind)

last : (a b c : Bool) → (a && (b && c)) ≡ false → a ≡ true → b ≡ true → c ≡ false
last true true c h e f = h
last true false c h e f = cc
last false b c h e f = cc

-- ---- so S8 is broken where a note turns badly

abbrev are_six : Option Pitch → Option Pitch → Bool
are_six turning last = holds_of (λ k. semitones_without_sign k == 6) (interval_of_pitches turning last)

not_badly : (ps : List Pitch) (kept : OpenTurns) (now : Cell) → TellsOf ps kept
    → turns_at_tritone (latest_turning ps) (before_last ps) (last_of ps) now ≡ false → turns_badly kept now ≡ false
not_badly ps kept now tells kept_well = at kept.turning refl
  where
    nothing : (b : Bool) → (b && false) ≡ false
    nothing true = refl
    nothing false = refl

    at : (t : Option Pitch) → kept.turning ≡ t → (turns_back kept now && are_six t kept.newest) ≡ false
    at None e = nothing (turns_back kept now)
    at (Some t) e =
        ap (λ b. b && are_six (Some t) kept.newest) (tells.exact t e now)
        ∙ ap (λ p. turns (before_last ps) (last_of ps) now && are_six (Some t) p) tells.newest
        ∙ ap (λ p. turns (before_last ps) (last_of ps) now && are_six p (last_of ps)) (sym (tells.turning t e))
        ∙ kept_well

module _ (ex : Exercise) (voices : HasVoices ex) (s : Columns) (lawful : IsLawful ex s)
    (asked : is_asked ex turns_rule ≡ true) (i : ℕ) (here : i < length s) where
  abbrev breaks : ℕ → Bool
  breaks v = window_rule turns_rule (pitches (line v (earlier s i))) (cell_in (slice_index_or s i []) v)

  -- S8 of a set of voices
  unbroken : (set : ℕ) → list_any (λ x. set == x) all_sets ≡ true → on_free_voice ex breaks set ≡ false
  unfolding rule_at rules_read
  unbroken set is_set = unbroken_for ex voices.most_voices s lawful i here turns_rule refl asked set is_set

  unbroken_by : (v : ℕ) → v < 4 → nat_lt v ex.voices ≡ true → is_free ex v ≡ true → breaks v ≡ false
  unfolding forms.all_sets
  unbroken_by zero few there free = last (nat_lt 0 ex.voices) (is_free ex 0) (breaks 0) (unbroken 1 refl) there free
  unbroken_by (suc zero) few there free =
      last (nat_lt 1 ex.voices) (is_free ex 1) (breaks 1) (unbroken 2 refl) there free
  unbroken_by (suc (suc zero)) few there free =
      last (nat_lt 2 ex.voices) (is_free ex 2) (breaks 2) (unbroken 4 refl) there free
  unbroken_by (suc (suc (suc zero))) few there free =
      last (nat_lt 3 ex.voices) (is_free ex 3) (breaks 3) (unbroken 8 refl) there free
  unbroken_by (suc (suc (suc (suc v)))) few there free = absurd (omega (arith, few))

  pub never_turns_badly : turns_badly (noted_in ex (earlier s i)) (cell_in (slice_index_or s i []) ex.species_voice)
      ≡ false
  never_turns_badly =
      not_badly (pitches (line ex.species_voice (earlier s i))) (noted_in ex (earlier s i))
      (cell_in (slice_index_or s i []) ex.species_voice) (kept_of_line ex (earlier s i))
      (unbroken_by ex.species_voice (omega (arith, voices.species_there, voices.most_voices))
      (lt-ltb ex.species_voice ex.voices voices.species_there)
      (ap not (ne_eqb ex.species_voice ex.cantus_voice voices.differ)))
