-- In a lawful setting each ligature of the species voice that clashes at the beginning of a bar
-- resolves (`resolved`).
use Rattle.std.specs.Prelude.{◌≡◌, ℕ, zero, suc, ◌+◌, ◌%◌, ◌<◌, ◌≤◌, ◌==◌, ◌&&◌, ◌||◌, Bool, true, false, not, nat_lt, List, [], ◌∷◌, Option, Some, None, drop, length, slice_index_or, if◌then◌else◌, refl}
use Rattle.std.proofs.Common.{ap, sym, ◌∙◌, arith, add-one}
use Rattle.std.proofs.lemmas.Bool.{eqb-true, ltb-true}
use Rattle.std.proofs.lemmas.Bool.Decides.{nat_tests}
use Rattle.std.proofs.lemmas.List.{get_or-drop}
use Rattle.fux_pitch.specs.declared.pitch.Pitch.{Pitch}
use Rattle.fux_grid.specs.declared.cell.Cell.{Cell}
use Rattle.fux_grid.specs.declared.exercise.Exercise.{Exercise}
use Rattle.fux_grid.specs.Cells.{cell_in, is_hold, pitch_of}
use Rattle.fux_grid.specs.Columns.{Columns, earlier}
use Rattle.fux_grid.specs.Exercises.{slot_of}
use Rattle.fux_grid.proofs.Histories.{earlier-more, earlier-none}
use Rattle.rule_law.specs.Bars.{begins_bar}
use Rattle.rule_law.specs.Terms.{clash, is_clean}
use Rattle.rule_law.specs.Voices.{is_free}
use Rattle.rule_law.proofs.AroundLemmas.{length-earlier}
use Rattle.dissonance_rules.specs.Clashes.{resolution_rule}
use Rattle.dissonance_rules.specs.Ligatures.{resolves}
use Rattle.fux_judge.specs.Lawful.{IsLawful}
use Rattle.open_ends.specs.Asked.{is_asked}
use Rattle.open_ends.specs.Ligatures.{held_in_clash, is_resolution, is_unresolved, ligature_in}
use Rattle.open_ends.proofs.Unbroken.{clashes_well, resolution_kept}
use Rattle.open_ends.specs.Parts.{HasVoices}

parts_hold : (b h d k : Bool) → ((b && h && d) && k) ≡ false → b ≡ true → h ≡ true → (d && k) ≡ false
parts_hold true true d k h e f = h
parts_hold true false d k h e f = cc
parts_hold false h d k e f g = cc

module _ (ex : Exercise) (valid : HasVoices ex) (s : Columns) (lawful : IsLawful ex s)
    (asked : is_asked ex resolution_rule ≡ true) where
  abbrev v : ℕ
  v = ex.species_voice

  abbrev now : ℕ → List Cell
  now i = slice_index_or s i []

  -- the voice resolves what it holds at a column
  abbrev resolves_at : ℕ → Bool
  resolves_at i = resolves (now i) (slice_index_or (drop (i + 1) s) 0 []) (slice_index_or (drop (i + 1) s) 3 []) v

  free : is_free ex v ≡ true
  free = grind (arith, nat_tests, valid.differ)

  -- what is held in a clash at the beginning of a bar resolves
  resolves_there : (i : ℕ) → i < length s → begins_bar i ≡ true → is_hold (cell_in (now i) v) ≡ true
      → not (is_clean (now i) v) ≡ true → resolves_at i ≡ true
  resolves_there i here bar held unclean =
      let width = (lawful.setting.prefix.menus i here).full in
      clashes_well (now i) v (resolves_at i)
      (λ w there differ.
      parts_hold (begins_bar i) (is_hold (cell_in (now i) v)) (clash (now i) v w) (not (resolves_at i))
      (resolution_kept ex valid.most_voices s lawful i here asked v w valid.species_there (omega (arith, there, width))
      differ free)
      bar held)
      unclean

  -- ---- what waits

  -- a ligature of this pitch that clashed at the beginning of its bar, if no more than the first
  -- half of it has come
  record IsWaiting (j : ℕ) (pitch : Pitch) : Type 0 where
    pub start : ℕ
    pub bar : begins_bar start ≡ true
    pub before_end : start < j
    pub soon : j ≤ start + 4
    pub clashed : held_in_clash (now start) v ≡ Some pitch

  grown : (j : ℕ) → j < length s → earlier s (suc j) ≡ now j ∷ earlier s j
  grown j here = ap (earlier s) (sym (add-one j)) ∙ earlier-more s j here

  -- so it is with one column more
  waits_on : (j : ℕ) → j < length s → (pitch : Pitch)
      → (ligature_in (earlier s j) v ≡ Some pitch → IsWaiting j pitch)
      → ligature_in (earlier s (suc j)) v ≡ Some pitch → IsWaiting (suc j) pitch
  waits_on j there pitch before_it e =
      at (begins_bar j) (nat_lt (slot_of j) 4) refl refl
      (sym (ap (λ n. if begins_bar n then held_in_clash (now j) v
      else (if nat_lt (slot_of n) 4 then ligature_in (earlier s j) v else None))
      (length-earlier s j (omega (arith, there))))
      ∙ sym (ap (λ cols. ligature_in cols v) (grown j there)) ∙ e)
    where
      at : (b c : Bool) → begins_bar j ≡ b → nat_lt (slot_of j) 4 ≡ c
          → (if b then held_in_clash (now j) v else (if c then ligature_in (earlier s j) v else None)) ≡ Some pitch
          → IsWaiting (suc j) pitch
      at true c f g h = record {
        start = j;
        bar = f;
        before_end = omega arith;
        soon = omega arith;
        clashed = h;
      }
      at false true f g h =
          let it : IsWaiting j pitch = before_it h in
          let slot : j % 8 < 4 = ltb-true (slot_of j) 4 g in
          let first : it.start % 8 ≡ 0 = eqb-true (slot_of it.start) 0 it.bar in
          record {
            start = it.start;
            bar = it.bar;
            before_end = omega (arith, it.before_end);
            soon = omega (arith, it.before_end, it.soon, slot, first);
            clashed = it.clashed;
          }
      at false false f g h = cc

  waits : (j : ℕ) → j ≤ length s → (pitch : Pitch) → ligature_in (earlier s j) v ≡ Some pitch → IsWaiting j pitch
  waits zero within pitch e = absurd (none (sym (ap (λ cols. ligature_in cols v) (earlier-none s)) ∙ e))
    where
      none : None ≡ Some pitch → ⊥
      none h = cc
  waits (suc j) within pitch e =
      waits_on j (omega (arith, within)) pitch (waits j (omega (arith, within)) pitch) e

  -- ---- the resolution

  -- the pitch that waits is the one that is held at the beginning of the bar
  record IsHeld (i : ℕ) (pitch : Pitch) : Type 0 where
    pub held : is_hold (cell_in (now i) v) ≡ true
    pub unclean : not (is_clean (now i) v) ≡ true
    pub sounds : pitch_of (cell_in (now i) v) ≡ Some pitch

  held_there : (i : ℕ) (pitch : Pitch) → held_in_clash (now i) v ≡ Some pitch → IsHeld i pitch
  held_there i pitch = at (is_hold (cell_in (now i) v)) (not (is_clean (now i) v)) refl refl
    where
      at : (b c : Bool) → is_hold (cell_in (now i) v) ≡ b → not (is_clean (now i) v) ≡ c
          → (if b && c then pitch_of (cell_in (now i) v) else None) ≡ Some pitch → IsHeld i pitch
      at true true f g h = record { held = f; unclean = g; sounds = h }
      at true false f g h = cc
      at false c f g h = cc

  ahead : (i k j : ℕ) → i + 1 + k ≡ j → slice_index_or (drop (i + 1) s) k [] ≡ now j
  ahead i k j e = get_or-drop (i + 1) s k [] ∙ ap now e

  -- what the beginning of the bar asks of the columns after it
  module _ (j : ℕ) (here : j < length s) (pitch : Pitch) (it : IsWaiting j pitch) where
    abbrev i : ℕ
    i = it.start

    begins : i % 8 ≡ 0
    begins = eqb-true (slot_of i) 0 it.bar

    resolution : resolves_at i ≡ true
    resolution =
        let held = held_there i pitch it.clashed in
        resolves_there i (omega (arith, here, it.before_end)) it.bar held.held held.unclean

    -- it is held at once
    held_next : (slot_of j == 1) ≡ true → is_hold (cell_in (now j) v) ≡ true
    held_next e =
        let slot : j % 8 ≡ 1 = eqb-true (slot_of j) 1 e in
        ap (λ col. is_hold (cell_in col v))
        (sym (ahead i 0 j (omega (arith, slot, begins, it.before_end, it.soon))))
        ∙ (first_of_four (is_hold (cell_in (slice_index_or (drop (i + 1) s) 0 []) v)) _ _ _ resolution)
      where
        first_of_four : (a b c d : Bool) → (a && b && c && d) ≡ true → a ≡ true
        first_of_four true b c d h = refl
        first_of_four false b c d h = cc

    -- and resolves in the middle of the bar
    resolves_here : (slot_of j == 4) ≡ true → is_resolution (Some pitch) (now j) v ≡ true
    resolves_here e =
        let slot : j % 8 ≡ 4 = eqb-true (slot_of j) 4 e in
        let sounds : pitch_of (cell_in (now i) v) ≡ Some pitch = (held_there i pitch it.clashed).sounds in
        let place : i + 1 + 3 ≡ j = omega (arith, slot, begins, it.before_end, it.soon) in
        let fourth : slice_index_or (drop (i + 1) s) 3 [] ≡ now j = ahead i 3 j place in
        sym (ap (λ col. is_resolution (pitch_of (cell_in (now i) v)) col v) fourth
        ∙ ap (λ p. is_resolution p (now j) v) sounds)
        ∙ (last_of_four (is_hold (cell_in (slice_index_or (drop (i + 1) s) 0 []) v)) _ _ _ resolution)
      where
        last_of_four : (a b c d : Bool) → (a && b && c && d) ≡ true → (b && c && d) ≡ true
        last_of_four true b c d h = h
        last_of_four false b c d h = cc

  pub resolved : (j : ℕ) → j < length s → is_unresolved j (ligature_in (earlier s j) v) (now j) v ≡ false
  resolved j here = at (ligature_in (earlier s j) v) refl
    where
      both : (b c h r : Bool) → (b ≡ true → h ≡ true) → (c ≡ true → r ≡ true)
          → ((b && not h) || (c && not r)) ≡ false
      both true true h r f g = rw (f refl, g refl) refl
      both true false h r f g = rw (f refl) refl
      both false true h r f g = rw (g refl) refl
      both false false h r f g = refl

      at : (w : Option Pitch) → ligature_in (earlier s j) v ≡ w → is_unresolved j w (now j) v ≡ false
      at None e = refl
      at (Some pitch) e =
          let it : IsWaiting j pitch = waits j (omega (arith, here)) pitch e in
          both (slot_of j == 1) (slot_of j == 4) (is_hold (cell_in (now j) v)) (is_resolution (Some pitch) (now j) v)
          (held_next j here pitch it) (resolves_here j here pitch it)
