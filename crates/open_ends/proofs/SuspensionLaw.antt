-- In a lawful setting what the species voice holds over a bar line in a clash is prepared, where
-- S19 is asked (`prepared`), and of a good size, where S21 is (`well_sized`).
use Rattle.std.specs.Prelude.{◌≡◌, ℕ, ◌-◌, ◌<◌, ◌==◌, ◌&&◌, ◌||◌, Bool, true, false, not, List, [], ◌∷◌, length, slice_index_or, refl}
use Rattle.std.specs.List.{list_any}
use Rattle.std.proofs.Common.{ap, sym, ◌∙◌, subst, inl, inr, arith}
use Rattle.std.proofs.lemmas.Bool.{cases_eq, cases_lt}
use Rattle.std.proofs.lemmas.Bool.Decides.{nat_tests}
use Rattle.fux_grid.specs.declared.cell.Cell.{Cell}
use Rattle.fux_grid.specs.declared.exercise.Exercise.{Exercise}
use Rattle.fux_grid.specs.Cells.{cell_in, is_hold}
use Rattle.fux_grid.specs.Columns.{Columns, earlier, newest_column}
use Rattle.rule_law.specs.Bars.{begins_bar}
use Rattle.rule_law.specs.Places.{reading_of}
use Rattle.rule_law.specs.Sounding.{sounding_note, started_after}
use Rattle.rule_law.specs.Terms.{clash, is_clean}
use Rattle.rule_law.specs.Voices.{is_free}
use Rattle.rule_law.specs.Ways.{on_some_way}
use Rattle.rule_law.proofs.AroundLemmas.{length-earlier, newest-first}
use Rattle.dissonance_rules.specs.Clashes.{clash_rule}
use Rattle.dissonance_rules.specs.Ligatures.{is_bad_above, is_bad_below, is_bad_suspension, is_suspended}
use Rattle.dissonance_rules.proofs.Preparations.{unprepared_same}
use Rattle.fux_judge.specs.Lawful.{IsLawful}
use Rattle.fux_judge.specs.Rules.{all_sets, rule_at, rules_read}
use Rattle.open_ends.specs.Asked.{is_asked}
use Rattle.open_ends.specs.Parts.{HasVoices}
use Rattle.open_ends.proofs.Unbroken.{clash-absent, clash-self, clashes_well, two_voices, unbroken_for}
use Rattle.open_ends.specs.Suspended.{is_bad_at, is_unprepared_at, preparation_rule, size_rule, starts_late_in}
use Rattle.open_ends.proofs.LateStarts.{late-at_bar}

module _ (ex : Exercise) (voices : HasVoices ex) (s : Columns) (lawful : IsLawful ex s) (i : ℕ)
    (here : i < length s) where
  abbrev v : ℕ
  v = ex.species_voice

  abbrev now : List Cell
  now = slice_index_or s i []

  abbrev behind : List (List Cell)
  behind = earlier s i

  free : is_free ex v ≡ true
  free = grind (arith, nat_tests, voices.differ)

  -- what holds for no set of two voices holds of no other voice beside the species voice
  no_other : (test : ℕ → ℕ → Bool)
      → ((set : ℕ) → list_any (λ x. set == x) all_sets ≡ true → on_some_way ex test set ≡ false)
      → (w : ℕ) → w < length now → (v ≡ w → ⊥) → test v w ≡ false
  no_other test none w there differ =
      two_voices ex test none voices.most_voices v w voices.species_there
      (omega (arith, there, (lawful.setting.prefix.menus i here).full)) differ free

  -- so do S19 and S21
  preparation_kept : is_asked ex preparation_rule ≡ true → (w : ℕ) → w < length now → (v ≡ w → ⊥)
      → reading_of (clash_rule preparation_rule ex) s i v w ≡ false
  unfolding rule_at rules_read
  preparation_kept asked =
      no_other (reading_of (clash_rule preparation_rule ex) s i)
      (λ set is. unbroken_for ex voices.most_voices s lawful i here preparation_rule refl asked set is)

  size_kept : is_asked ex size_rule ≡ true → (w : ℕ) → w < length now → (v ≡ w → ⊥)
      → is_bad_suspension i now v w ≡ false
  unfolding rule_at rules_read
  size_kept asked =
      no_other (reading_of (clash_rule size_rule ex) s i)
      (λ set is. unbroken_for ex voices.most_voices s lawful i here size_rule refl asked set is)

  -- ---- the preparation

  -- a late start or a clash in the column before
  abbrev is_unprepared : Bool
  is_unprepared = starts_late_in behind v || not (is_clean (newest_column behind) v)

  size : length behind ≡ i
  size = length-earlier s i (omega (arith, here))

  -- by it a note that is suspended is unprepared just where S19 says so
  unprepared : (w : ℕ) → is_suspended i now v w ≡ true
      → is_unprepared
      ≡ (started_after (i - 4) (sounding_note v (now ∷ behind)) || not (is_clean (newest_column behind) v))
  unprepared w suspended =
      ap (λ col. starts_late_in behind v || not (is_clean col v)) (newest-first behind)
      ∙ late-at_bar v behind (not (is_clean (slice_index_or behind 0 []) v))
      (ap begins_bar size ∙ (first (begins_bar i) (is_hold (cell_in now v)) (clash now v w) suspended))
      ∙ unprepared_same i v w behind now size suspended
    where
      first : (a b c : Bool) → (a && b && c) ≡ true → a ≡ true
      first true b c h = refl
      first false b c h = cc

  pub prepared : is_asked ex preparation_rule ≡ true
      → is_unprepared_at i (starts_late_in behind v) (newest_column behind) now v ≡ false
  prepared asked = at (begins_bar i) (is_hold (cell_in now v)) (not (is_clean now v)) refl refl refl
    where
      -- with each voice that it clashes with
      with_voice : begins_bar i ≡ true → is_hold (cell_in now v) ≡ true → (w : ℕ) → w < length now → (v ≡ w → ⊥)
          → (clash now v w && not (not is_unprepared)) ≡ false
      with_voice bar held w there differ =
          by (clash now v w) is_unprepared _ refl
          (λ clashes. unprepared w (rw (bar, held, clashes) refl))
          (preparation_kept asked w there differ)
        where
          by : (c u t : Bool) → clash now v w ≡ c → (c ≡ true → u ≡ t)
              → ((begins_bar i && is_hold (cell_in now v) && c) && t) ≡ false → (c && not (not u)) ≡ false
          by false u t e same kept = refl
          by true false t e same kept = refl
          by true true t e same kept = same refl ∙ sym (rw (bar, held) refl) ∙ kept

      at : (b h c : Bool) → begins_bar i ≡ b → is_hold (cell_in now v) ≡ h → not (is_clean now v) ≡ c
          → (b && h && c && is_unprepared) ≡ false
      at false h c e f g = refl
      at true false c e f g = refl
      at true true false e f g = refl
      at true true true e f g = negated is_unprepared (clashes_well now v (not is_unprepared) (with_voice e f) g)
        where
          negated : (b : Bool) → not b ≡ true → b ≡ false
          negated true h = cc
          negated false h = refl

  -- ---- the size

  no_clash : (b h c d : Bool) → c ≡ false → (b && h && c && d) ≡ false
  no_clash true true c d e = rw e refl
  no_clash true false c d e = refl
  no_clash false h c d e = refl

  -- with itself the voice doesn't clash, nor with one that isn't there
  no_size : is_asked ex size_rule ≡ true → (w : ℕ) → is_bad_suspension i now v w ≡ false
  no_size asked w =
      elim (cases_lt w (length now)) [
        | inl there ↦ elim (cases_eq v w) [
          | inl same ↦ subst (λ (u : ℕ). is_bad_suspension i now v u ≡ false) same (quiet v (clash-self now v))
          | inr other ↦ size_kept asked w there other
        ]
        | inr beyond ↦ quiet w (clash-absent now v w beyond)
      ]
    where
      quiet : (u : ℕ) → clash now v u ≡ false → is_bad_suspension i now v u ≡ false
      quiet u e = no_clash (begins_bar i) (is_hold (cell_in now v)) (clash now v u)
          (is_bad_above now v u || is_bad_below now v u) e

  pub well_sized : is_asked ex size_rule ≡ true → is_bad_at i now v ≡ false
  well_sized asked = rw (no_size asked 0, no_size asked 1, no_size asked 2, no_size asked 3) refl
