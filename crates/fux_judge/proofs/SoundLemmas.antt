-- Of a column of which it is told what it keeps, no rule that is settled at once is left but S12
-- (`none_left`), which it keeps where no voice's first note starts (`unopened`).
use Rattle.std.proofs.Common.{◌≡◌, ℕ, ◌<◌, ◌&&◌, ◌||◌, Bool, false, List, [], ◌∷◌, length, reverse, refl, ap, sym, ◌∙◌, subst}
use Rattle.std.specs.Prelude.{None, nat_lt, not}
use Rattle.std.specs.List.{filter, list_any}
use Rattle.std.proofs.lemmas.Bool.{and_right, or_parts}
use Rattle.fux_grid.specs.declared.cell.Cell.{Cell}
use Rattle.fux_grid.specs.Columns.{newest_column}
use Rattle.fux_grid.specs.Menus.{IsInMenu}
use Rattle.rule_law.specs.Nearby.{pitch_at, previous_pitches}
use Rattle.rule_law.specs.Pairs.{some_pair}
use Rattle.rule_law.specs.Quiet.{on_free_voice-kept, on_pair-kept}
use Rattle.rule_law.specs.Terms.{lowest_voice}
use Rattle.rule_law.specs.Voices.{is_free}
use Rattle.motion_rules.specs.Rows.{move_in_parallel, outer_move_into_perfect}
use Rattle.rhythm_cadence.specs.Rows.{fits_opening, opens_badly}
use Rattle.fux_judge.specs.declared.moment.Moment.{Moment}
use Rattle.fux_judge.specs.Always.{IsSound}
use Rattle.fux_judge.specs.Kept.{begins_line, is_close, is_moving, is_of_ending, is_of_place, rules_at_a_bar, rules_at_the_end, rules_within_bars, some_begins}
use Rattle.fux_judge.specs.Links.{breaks_strictly}
use Rattle.fux_judge.specs.Moments.{IsAfter, breaks_one_of, is_strictly_broken_then}
use Rattle.fux_judge.specs.Pruning.{IsFairVoice, IsToldAt, move_unfairly}
use Rattle.fux_judge.specs.Rules.{all_sets, is_of_melody, rules_at_once}
use Rattle.fux_judge.proofs.AlwaysLemmas.{sounds_alone}
use Rattle.fux_judge.proofs.FairLemmas.{none_unfair}
use Rattle.fux_judge.proofs.KeptLemmas.{at_once, kept_by_all, left_out, melody_kept, menu_kept, of_three, of_two}
use Rattle.fux_judge.proofs.MomentLemmas.{motion_then, rhythm_then}
use Rattle.fux_judge.proofs.SmoothLemmas.{neither, none_rough}

-- ---- S12

module _ (p : List (List Cell)) (m : Moment) (after : IsAfter p m) where
  abbrev pub begins : ℕ → Bool
  begins v = begins_line (previous_pitches (reverse p)) m.column.now v

  open_line : (v : ℕ) → begins v ≡ false
      → opens_badly m.exercise.now (pitch_at (previous_pitches (reverse p)) v) m.column.now v ≡ false
  open_line v h = ap (λ b. b && not (fits_opening m.exercise.now m.column.now v (lowest_voice m.column.now))) h

  kept_line : (v : ℕ) → begins v ≡ false
      → (nat_lt v m.exercise.now.voices && (is_free m.exercise.now v && begins v)) ≡ false
  kept_line v h = and_right (nat_lt v m.exercise.now.voices) _ (and_right (is_free m.exercise.now v) (begins v) h)

  some_free : some_begins (previous_pitches (reverse p)) m.column.now ≡ false
      → list_any (λ v. nat_lt v m.exercise.now.voices && (is_free m.exercise.now v && begins v)) (0 ∷ 1 ∷ 2 ∷ 3 ∷ [])
      ≡ false
  some_free here =
      let a = or_parts (begins 0) _ here in
      let b = or_parts (begins 1) _ a.1 in
      let c = or_parts (begins 2) _ b.1 in
      let d = or_parts (begins 3) false c.1 in
      neither _ _ (kept_line 0 a.0)
      (neither _ _ (kept_line 1 b.0) (neither _ _ (kept_line 2 c.0) (neither _ false (kept_line 3 d.0) refl)))

  pub unopened : some_begins m.latest.pitches m.column.now ≡ false → is_strictly_broken_then all_sets 12 p m ≡ false
  unopened none =
      kept_by_all p m 12
      (λ voices. sym (rhythm_then 12 voices p m (at_once 12 refl) refl)
      ∙ on_free_voice-kept m.exercise.now begins
      (λ v. opens_badly m.exercise.now (pitch_at (previous_pitches (reverse p)) v) m.column.now v) voices
      (some_free (ap (λ l. some_begins l m.column.now) (sym after.latest) ∙ none))
      (open_line 0) (open_line 1) (open_line 2) (open_line 3))

-- ---- all others

module _ (p : List (List Cell)) (m : Moment) (after : IsAfter p m) where
  abbrev pub strict : ℕ → Bool
  strict rule = is_strictly_broken_then all_sets rule p m

  -- a sound column keeps the rules of what it sounds
  pub record KeepsSounds : Type 0 where
    pub uncrossed : strict 10 ≡ false
    pub unmet : strict 11 ≡ false
    pub fitting : strict 13 ≡ false
    pub unclashed : strict 14 ≡ false
    pub final : strict 24 ≡ false

  moved : (rule : ℕ) → breaks_strictly m.exercise.now m.state.now.newest.len None m.column.now rule ≡ false
      → breaks_strictly m.exercise.now (length p) None m.column.now rule ≡ false
  moved rule h = ap (λ n. breaks_strictly m.exercise.now n None m.column.now rule) (sym after.state.newest.count) ∙ h

  sounds_kept : IsSound m.exercise.now m.state.now.newest.len m.column.now → KeepsSounds
  sounds_kept sound =
      let alone : ℕ → Bool = breaks_strictly m.exercise.now m.state.now.newest.len None m.column.now in
      let a = or_parts (alone 10) _ sound in
      let b = or_parts (alone 11) _ a.1 in
      let c = or_parts (alone 13) _ b.1 in
      let d = or_parts (alone 14) _ c.1 in
      let e = or_parts (alone 24) false d.1 in
      record {
        uncrossed = sounds_alone m.exercise.now p m.column.now 10 refl ∙ moved 10 a.0;
        unmet = sounds_alone m.exercise.now p m.column.now 11 refl ∙ moved 11 b.0;
        fitting = sounds_alone m.exercise.now p m.column.now 13 refl ∙ moved 13 c.0;
        unclashed = sounds_alone m.exercise.now p m.column.now 14 refl ∙ moved 14 d.0;
        final = sounds_alone m.exercise.now p m.column.now 24 refl ∙ moved 24 e.0;
      }

  -- a fair one S16 and S17
  motion_kept : some_pair (move_unfairly m.exercise.now (newest_column (reverse p)) m.column.now) ≡ false
      → (strict 16 ≡ false) × (strict 17 ≡ false)
  motion_kept fair =
      let ex = m.exercise.now in
      let before = newest_column (reverse p) in
      let now = m.column.now in
      let both : ℕ → ℕ → Bool = λ v w. move_in_parallel before now v w || outer_move_into_perfect ex before now v w in (
        kept_by_all p m 16
            (λ voices. sym (motion_then 16 voices p m (at_once 16 refl) refl)
            ∙ on_pair-kept ex both (move_in_parallel before now) voices fair
            (λ v w h. (or_parts (move_in_parallel before now v w) (outer_move_into_perfect ex before now v w) h).0)),
        kept_by_all p m 17
            (λ voices. sym (motion_then 17 voices p m (at_once 17 refl) refl)
            ∙ on_pair-kept ex both (outer_move_into_perfect ex before now) voices fair
            (λ v w h. (or_parts (move_in_parallel before now v w) (outer_move_into_perfect ex before now v w) h).1)),
      )

  pub none_left : m.exercise.now.relax ≡ [] → IsToldAt m → strict 12 ≡ false → (r : ℕ) (rules : List ℕ)
      → rules ≡ rules_within_bars → breaks_one_of rules p m r ≡ breaks_one_of rules_at_once p m r
  unfolding rules_within_bars rules_at_a_bar rules_at_the_end
  none_left nothing told opened r rules e =
      let P : ℕ → Type 0 = λ rule. strict rule ≡ false in
      let fair : (v : ℕ) → v < 4 → IsFairVoice m.exercise.now p m.column.now v =
      λ v lt. told.fair v lt nothing p after in
      let sounds = sounds_kept told.sound in
      let motion = motion_kept (none_unfair m.exercise.now (newest_column (reverse p)) m.column.now
      (λ v w lt few. (fair w few).motion v lt)) in
      let menu = menu_kept p m (subst (λ (n : ℕ). IsInMenu m.exercise.now n m.column.now) after.state.newest.count
      told.menu) in
      let smooth = none_rough m.exercise.now (reverse p) m.column.now (λ v lt. (fair v lt).melody) in
      ap (λ rs. breaks_one_of rs p m r) e
      ∙ left_out strict is_close rules_at_a_bar r (λ rule. of_two P 11 14 rule sounds.unmet sounds.unclashed)
      ∙ left_out strict is_of_ending rules_at_the_end r (λ rule. of_two P 13 24 rule sounds.fitting sounds.final)
      ∙ left_out strict is_of_place (filter (λ rule. not (is_moving rule))
      (filter (λ rule. not (is_of_melody rule)) rules_at_once)) r
      (λ rule. of_three P 1 2 12 rule menu.0 menu.1 opened)
      ∙ left_out strict is_moving (filter (λ rule. not (is_of_melody rule)) rules_at_once) r
      (λ rule. of_three P 10 16 17 rule sounds.uncrossed motion.0 motion.1)
      ∙ left_out strict is_of_melody rules_at_once r (melody_kept p m smooth)
