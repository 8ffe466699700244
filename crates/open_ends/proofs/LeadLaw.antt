-- In a lawful setting some voice may show its cadence behind each column of the last bar but one,
-- and one that may ends on the final where the last bar begins (`never_lacks`).
use Rattle.std.specs.Prelude.{◌≡◌, ℕ, zero, suc, ◌+◌, ◌-◌, ◌*◌, ◌%◌, ◌<◌, ◌≤◌, ◌==◌, ◌&&◌, Bool, true, false, not, nat_lt, List, [], ◌∷◌, Option, Some, None, length, slice_index_or, take, if◌then◌else◌, refl}
use Rattle.std.specs.List.{list_all, list_any}
use Rattle.std.proofs.Common.{ap, sym, ◌∙◌, inl, inr, arith, add-one}
use Rattle.std.proofs.lemmas.Bool.{and_from, and_parts, cases_order, eq-eqb, eqb-true, le-ltb, lt-ltb, ltb-true, ne_eqb, not-false, or_cases, or_from, or_left, or_right}
use Rattle.std.proofs.lemmas.List.Folds.{list_any_at}
use Rattle.fux_pitch.specs.declared.pitch.Pitch.{Pitch}
use Rattle.fux_pitch.specs.Modes.{final_of}
use Rattle.fux_pitch.specs.Pitch.{degree_of}
use Rattle.fux_grid.specs.declared.cell.Cell.{Cell}
use Rattle.fux_grid.specs.declared.cell.Cell.TheVariants.{Rest}
use Rattle.fux_grid.specs.declared.exercise.Exercise.{Exercise}
use Rattle.fux_grid.specs.Cells.{cell_in, is_hold, pitch_of}
use Rattle.fux_grid.specs.Columns.{Columns, cell_at, earlier}
use Rattle.fux_grid.specs.Exercises.{bar_of, slot_of, species_in}
use Rattle.fux_grid.proofs.Histories.{earlier-more}
use Rattle.rule_law.specs.Bars.{begins_bar}
use Rattle.rule_law.specs.Degrees.{lies_above}
use Rattle.rule_law.specs.Forms as forms
use Rattle.rule_law.specs.Forms.{set_of_all}
use Rattle.rule_law.specs.Leading.{is_leading}
use Rattle.rule_law.specs.Terms.{started_pitch}
use Rattle.rule_law.proofs.AroundLemmas.{length-earlier}
use Rattle.rhythm_cadence.specs.BarCells.{bar_behind}
use Rattle.rhythm_cadence.specs.Cadence.{ends_well, has_suspension, held_pitch, holds_suspension, is_lead, is_suspended, lacks_cadence, leading_slot, shows_cadence, starts_final}
use Rattle.rhythm_cadence.specs.Rows.{begins_last_bar, holds_of_pitch, is_final}
use Rattle.rhythm_cadence.proofs.CadenceReadings.{voice_reading}
use Rattle.fux_judge.specs.Lawful.{IsLawful}
use Rattle.fux_judge.specs.Rules.{all_sets, rule_at, rules_read}
use Rattle.open_ends.specs.Parts.{HasVoices}
use Rattle.open_ends.proofs.Unbroken.{unbroken_for}
use Rattle.open_ends.specs.Leads.{Leads, begins_well, cadence_rule, ends_on_final, has_final_letter, has_some, is_before_last, is_kept, is_prepared, is_read, lacks_all, leads_after, leads_in, leads_on, leaves_none, may_show, no_leads, some_ends, starts_lead}

-- ---- the cells of a bar

-- what is held in so many of the newest cells starts in the cell before them, and passes a test
abbrev IsHeldSince : (Pitch → Bool) → ℕ → List Cell → Type 0
IsHeldSince test m cells =
    ((k : ℕ) → k < m → is_hold (slice_index_or cells k Rest) ≡ true)
    × (holds_of_pitch test (started_pitch (slice_index_or cells m Rest)) ≡ true)

held_parts : (test : Pitch → Bool) (m : ℕ) (cells : List Cell) → holds_of_pitch test (held_pitch m cells) ≡ true
    → IsHeldSince test m cells
held_parts test zero [] h = cc
held_parts test zero (c ∷ cells) h = (λ k few. absurd (omega (arith, few)), h)
held_parts test (suc m) [] h = cc
held_parts test (suc m) (c ∷ cells) h = at (is_hold c) refl (held_parts test m cells) h
  where
    later : is_hold c ≡ true → IsHeldSince test m cells → (k : ℕ) → k < suc m
        → is_hold (slice_index_or (c ∷ cells) k Rest) ≡ true
    later e rest zero few = e
    later e rest (suc k) few = rest.0 k (omega (arith, few))

    at : (b : Bool) → is_hold c ≡ b
        → (holds_of_pitch test (held_pitch m cells) ≡ true → IsHeldSince test m cells)
        → holds_of_pitch test (if b && list_all is_hold (take m cells)
        then started_pitch (slice_index_or cells m Rest) else None)
        ≡ true
        → IsHeldSince test (suc m) (c ∷ cells)
    at true e rest h = (later e (rest h), (rest h).1)
    at false e rest h = cc

-- the cells of the bar that begins at column b, by their slots
bar_cell : (s : Columns) (v b k : ℕ) → k < 8 → slice_index_or (bar_behind s v (b + 8)) (7 - k) Rest ≡ cell_at s v (b + k)
bar_cell s v b zero few = ap (cell_at s v) (omega arith)
bar_cell s v b (suc zero) few = ap (cell_at s v) (omega arith)
bar_cell s v b (suc (suc zero)) few = ap (cell_at s v) (omega arith)
bar_cell s v b (suc (suc (suc zero))) few = ap (cell_at s v) (omega arith)
bar_cell s v b (suc (suc (suc (suc zero)))) few = ap (cell_at s v) (omega arith)
bar_cell s v b (suc (suc (suc (suc (suc zero))))) few = ap (cell_at s v) (omega arith)
bar_cell s v b (suc (suc (suc (suc (suc (suc zero)))))) few = ap (cell_at s v) (omega arith)
bar_cell s v b (suc (suc (suc (suc (suc (suc (suc zero))))))) few = ap (cell_at s v) (omega arith)
bar_cell s v b (suc (suc (suc (suc (suc (suc (suc (suc k)))))))) few = absurd (omega (arith, few))

-- ---- four voices

-- what is listed for each of them
four-at : (test : ℕ → Bool) (v : ℕ) → v < 4 → is_kept (test 0 ∷ test 1 ∷ test 2 ∷ test 3 ∷ []) v ≡ test v
four-at test zero few = refl
four-at test (suc zero) few = refl
four-at test (suc (suc zero)) few = refl
four-at test (suc (suc (suc zero))) few = refl
four-at test (suc (suc (suc (suc v)))) few = absurd (omega (arith, few))

-- where one may, some may
some-from_kept : (leads : Leads) (v : ℕ) → is_kept leads v ≡ true → has_some leads ≡ true
some-from_kept [] v h = cc
some-from_kept (may ∷ leads) zero h = or_left may (has_some leads) h
some-from_kept (may ∷ leads) (suc v) h = or_right may (has_some leads) (some-from_kept leads v h)

-- a voice of four that passes a test
record IsFound (test : ℕ → Bool) : Type 0 where
  pub v : ℕ
  pub few : v < 4
  pub passes : test v ≡ true

found : (test : ℕ → Bool) (vs : List ℕ) → list_all (λ v. nat_lt v 4) vs ≡ true → list_any test vs ≡ true → IsFound test
found test [] few h = cc
found test (v ∷ vs) few h =
    let parts = and_parts (nat_lt v 4) (list_all (λ w. nat_lt w 4) vs) few in
    elim (or_cases (test v) (list_any test vs) h) [
      | inl here ↦ record { v = v; few = ltb-true v 4 parts.0; passes = here }
      | inr others ↦ found test vs parts.1 others
    ]

-- ---- a voice that shows its cadence

-- what is suspended has the final's letter: both lie one degree above the leading note
letter : (ex : Exercise) (final held lead : Option Pitch) → holds_of_pitch (is_final ex) final ≡ true
    → is_lead ex final lead ≡ true → lies_above 1 held lead ≡ true → holds_of_pitch (has_final_letter ex) held ≡ true
letter ex None held lead f l a = cc
letter ex (Some q) None lead f l a = cc
letter ex (Some q) (Some r) None f l a = cc
letter ex (Some q) (Some r) (Some p) f l a =
    let above : degree_of q ≡ degree_of p + 1 =
    eqb-true (degree_of q) (degree_of p + 1)
    (and_parts (is_leading ex.mode p) (lies_above 1 (Some q) (Some p)) l).1 in
    let same : degree_of r ≡ degree_of q = eqb-true (degree_of r) (degree_of p + 1) a ∙ sym above in
    ap (λ n. n % 7 == final_of ex.mode) same ∙ (and_parts (degree_of q % 7 == final_of ex.mode) _ f).0

-- a test before a slot, on it, and after it
by_slot : (slot lead : ℕ) (on after : Bool) → (slot ≡ lead → on ≡ true) → (lead < slot → after ≡ true)
    → (if nat_lt slot lead then true else (if slot == lead then on else after)) ≡ true
by_slot slot lead on after f g =
    elim (cases_order slot lead) [
      | inl same ↦ rw (le-ltb slot lead (omega (arith, same)), eq-eqb slot lead same) (f same)
      | inr apart ↦ elim apart [
        | inl below ↦ rw (lt-ltb slot lead below) refl
        | inr above ↦ rw (
          le-ltb slot lead (omega (arith, above)),
          ne_eqb slot lead (λ e. omega (arith, e, above)),
        ) (g above)
      ]
    ]

slot_bound : (species : ℕ) → leading_slot species ≤ 6
slot_bound species = at (species == 1) (species == 3)
  where
    at : (a b : Bool) → (if a then 0 else (if b then 6 else 4)) ≤ 6
    at true b = omega arith
    at false true = omega arith
    at false false = omega arith

module _ (ex : Exercise) (bars : 3 ≤ ex.bars) (s : Columns) (whole : length s ≡ 8 * ex.bars) where
  abbrev column : ℕ → List Cell
  column j = slice_index_or s j []

  -- the last bar but one begins here
  abbrev b : ℕ
  b = 8 * (ex.bars - 2)

  before_last : (k : ℕ) → k < 8 → is_before_last ex (b + k) ≡ true
  before_last k few = eq-eqb (bar_of (b + k) + 1) ex.bars (omega (arith, few, bars))

  slot : (k : ℕ) → k < 8 → slot_of (b + k) ≡ k
  slot k few = omega (arith, few)

  kept-next : (j v : ℕ) → j < length s → is_before_last ex j ≡ true → v < 4
      → is_kept (leads_in ex (earlier s (suc j))) v ≡ may_show ex j (leads_in ex (earlier s j)) (column j) v
  kept-next j v here before few =
      let kept = leads_in ex (earlier s j) in
      ap (λ n. is_kept (leads_in ex (earlier s n)) v) (sym (add-one j))
      ∙ ap (λ cols. is_kept (leads_in ex cols) v) (earlier-more s j here)
      ∙ ap (λ n. is_kept (leads_after ex n kept (column j)) v) (length-earlier s j (omega (arith, here)))
      ∙ ap (λ e. is_kept (if e
      then may_show ex j kept (column j) 0 ∷ may_show ex j kept (column j) 1 ∷ may_show ex j kept (column j) 2
      ∷ may_show ex j kept (column j) 3 ∷ []
      else no_leads) v) before
      ∙ four-at (may_show ex j kept (column j)) v few

  -- a voice of four that is there shows its cadence
  module _ (v : ℕ) (few : v < 4) (there : nat_lt v ex.voices ≡ true)
      (shows : ends_well ex (column b) (bar_behind s v (b + 8)) (column (b + 8)) v ≡ true) where
    abbrev now : Cell
    now = cell_in (column (b + 8)) v

    abbrev lead : Option Pitch
    lead = held_pitch (7 - leading_slot (species_in ex v)) (bar_behind s v (b + 8))

    abbrev prepares : Bool
    prepares = if has_suspension (species_in ex v) then holds_suspension ex (column b) lead v else true

    final : starts_final ex now ≡ true
    final = (and_parts (starts_final ex now) (is_lead ex (pitch_of now) lead)
        (and_parts (starts_final ex now && is_lead ex (pitch_of now) lead) prepares shows).0).0

    leads : is_lead ex (pitch_of now) lead ≡ true
    leads = (and_parts (starts_final ex now) (is_lead ex (pitch_of now) lead)
        (and_parts (starts_final ex now && is_lead ex (pitch_of now) lead) prepares shows).0).1

    prepared : prepares ≡ true
    prepared = (and_parts (starts_final ex now && is_lead ex (pitch_of now) lead) prepares shows).1

    begins : begins_well ex (column b) v ≡ true
    begins = and_from (nat_lt v ex.voices) _ there (at (has_suspension (species_in ex v)) prepared)
      where
        at : (x : Bool) → (if x then holds_suspension ex (column b) lead v else true) ≡ true
            → (if x then is_prepared ex (column b) v else true) ≡ true
        at false h = refl
        at true h =
            let held = cell_in (column b) v in
            let parts = and_parts (is_hold held && lies_above 1 (pitch_of held) lead) (is_suspended ex (column b) v) h in
            let first = and_parts (is_hold held) (lies_above 1 (pitch_of held) lead) parts.0 in
            and_from _ (is_suspended ex (column b) v)
            (and_from (is_hold held) _ first.0
            (letter ex (pitch_of now) (pitch_of held) lead
            (and_parts _ (holds_of_pitch (is_final ex) (pitch_of now)) final).1 leads first.1)) parts.1

    only_leading : (q : Option Pitch) → is_lead ex (pitch_of now) q ≡ true → holds_of_pitch (is_leading ex.mode) q ≡ true
    only_leading None h = cc
    only_leading (Some p) h = (and_parts (is_leading ex.mode p) (lies_above 1 (pitch_of now) (Some p)) h).0

    on : (k : ℕ) → k < 8 → leads_on ex (b + k) (column (b + k)) v ≡ true
    on k within =
        let slots = leading_slot (species_in ex v) in
        let parts = held_parts (is_leading ex.mode) (7 - slots) (bar_behind s v (b + 8)) (only_leading lead leads) in
        let bound : slots ≤ 6 = slot_bound (species_in ex v) in
        by_slot (slot_of (b + k)) slots (starts_lead ex (cell_at s v (b + k))) (is_hold (cell_at s v (b + k)))
        (λ same.
        let place : 7 - k ≡ 7 - slots = ap (λ n. 7 - n) (sym (slot k within) ∙ same) in
        ap (starts_lead ex) (sym (bar_cell s v b k within))
        ∙ ap (λ n. starts_lead ex (slice_index_or (bar_behind s v (b + 8)) n Rest)) place
        ∙ parts.1)
        (λ above.
        let is_slot : slot_of (b + k) ≡ k = slot k within in
        ap is_hold (sym (bar_cell s v b k within))
        ∙ parts.0 (7 - k) (omega (arith, above, is_slot, within, bound)))

    -- so it may behind each column of the last bar but one
    stays : (k : ℕ) → k < 8 → is_kept (leads_in ex (earlier s (suc (b + k)))) v ≡ true
    stays zero within =
        let bar : begins_bar (b + 0) ≡ true = eq-eqb (slot_of (b + 0)) 0 (slot 0 within) in
        let same : b ≡ b + 0 = omega arith in
        kept-next (b + 0) v (omega (arith, whole, bars)) (before_last 0 within) few
        ∙ and_from _ (leads_on ex (b + 0) (column (b + 0)) v)
        (ap (λ e. if e then begins_well ex (column (b + 0)) v else is_kept (leads_in ex (earlier s (b + 0))) v) bar
        ∙ ap (λ n. begins_well ex (column n) v) (sym same) ∙ begins)
        (on 0 within)
    stays (suc k) within =
        let is_slot : slot_of (b + suc k) ≡ suc k = slot (suc k) within in
        let bar : begins_bar (b + suc k) ≡ false = ne_eqb (slot_of (b + suc k)) 0 (λ e. omega (arith, e, is_slot)) in
        let next : b + suc k ≡ suc (b + k) = omega arith in
        kept-next (b + suc k) v (omega (arith, whole, bars, within)) (before_last (suc k) within) few
        ∙ and_from _ (leads_on ex (b + suc k) (column (b + suc k)) v)
        (ap (λ e. if e then begins_well ex (column (b + suc k)) v
        else is_kept (leads_in ex (earlier s (b + suc k))) v) bar
        ∙ ap (λ n. is_kept (leads_in ex (earlier s n)) v) next ∙ stays k (omega (arith, within)))
        (on (suc k) within)

    leaves_some : (j : ℕ) → j < length s → leaves_none ex j (leads_in ex (earlier s j)) (column j) ≡ false
    leaves_some j here = at (is_before_last ex j) refl
      where
        at : (e : Bool) → is_before_last ex j ≡ e
            → (e && not (has_some (leads_after ex j (leads_in ex (earlier s j)) (column j)))) ≡ false
        at false e = refl
        at true e =
            let last : bar_of j + 1 ≡ ex.bars = eqb-true (bar_of j + 1) ex.bars e in
            let place : b + (j - b) ≡ j = omega (arith, last) in
            let kept : is_kept (leads_in ex (earlier s (suc j))) v ≡ true =
            ap (λ n. is_kept (leads_in ex (earlier s (suc n))) v) (sym place) ∙ stays (j - b) (omega (arith, last)) in
            let grown : leads_in ex (earlier s (suc j)) ≡ leads_after ex j (leads_in ex (earlier s j)) (column j) =
            ap (λ n. leads_in ex (earlier s n)) (sym (add-one j)) ∙ ap (leads_in ex) (earlier-more s j here)
            ∙ ap (λ n. leads_after ex n (leads_in ex (earlier s j)) (column j))
            (length-earlier s j (omega (arith, here))) in
            ap not (some-from_kept (leads_after ex j (leads_in ex (earlier s j)) (column j)) v
            (sym (ap (λ leads. is_kept leads v) grown) ∙ kept))

    ends : some_ends ex (leads_in ex (earlier s (b + 8))) (column (b + 8)) ≡ true
    ends =
        let eighth : b + 8 ≡ suc (b + 7) = omega arith in
        let kept : is_kept (leads_in ex (earlier s (b + 8))) v ≡ true =
        ap (λ n. is_kept (leads_in ex (earlier s n)) v) eighth ∙ stays 7 (omega arith) in
        list_any_at (ends_on_final ex (leads_in ex (earlier s (b + 8))) (column (b + 8))) (0 ∷ 1 ∷ 2 ∷ 3 ∷ []) v 0 few
        (ap (ends_on_final ex (leads_in ex (earlier s (b + 8))) (column (b + 8))) (itself v few)
        ∙ and_from (is_kept (leads_in ex (earlier s (b + 8))) v) (starts_final ex now) kept final)
      where
        itself : (u : ℕ) → u < 4 → slice_index_or (0 ∷ 1 ∷ 2 ∷ 3 ∷ []) u 0 ≡ u
        itself zero h = refl
        itself (suc zero) h = refl
        itself (suc (suc zero)) h = refl
        itself (suc (suc (suc zero))) h = refl
        itself (suc (suc (suc (suc u)))) h = absurd (omega (arith, h))

    lacks_nothing : (j : ℕ) → j < length s → lacks_all ex j (leads_in ex (earlier s j)) (column j) ≡ false
    lacks_nothing j here = or_from _ _ (leaves_some j here) (at (begins_last_bar ex j) refl)
      where
        at : (e : Bool) → begins_last_bar ex j ≡ e
            → (e && not (some_ends ex (leads_in ex (earlier s j)) (column j))) ≡ false
        at false e = refl
        at true e =
            let parts = and_parts (begins_bar j) (bar_of j == ex.bars) e in
            let bar : j % 8 ≡ 0 = eqb-true (slot_of j) 0 parts.0 in
            let last : bar_of j ≡ ex.bars = eqb-true (bar_of j) ex.bars parts.1 in
            let place : b + 8 ≡ j = omega (arith, bar, last, bars) in
            sym (ap (λ n. not (some_ends ex (leads_in ex (earlier s n)) (column n))) place) ∙ ap not ends

-- ---- a lawful setting

module _ (ex : Exercise) (voices : HasVoices ex) (s : Columns) (lawful : IsLawful ex s) (read : is_read ex ≡ true) where
  abbrev i : ℕ
  i = 8 * (ex.bars - 2) + 8

  here : i < length s
  here =
      let whole = lawful.setting.whole in
      let bars = voices.fewest_bars in
      omega (arith, whole, bars)

  is_set : list_any (λ x. set_of_all ex.voices == x) all_sets ≡ true
  unfolding forms.all_sets
  is_set = at (ex.voices == 2) (ex.voices == 3)
    where
      at : (a b : Bool) → list_any (λ x. (if a then 3 else (if b then 7 else 15)) == x) all_sets ≡ true
      at true b = refl
      at false true = refl
      at false false = refl

  -- S22 of all voices
  unbroken : ((set_of_all ex.voices == set_of_all ex.voices)
      && lacks_cadence ex i (earlier s i) (slice_index_or s i [])) ≡ false
  unfolding rule_at rules_read
  unbroken = unbroken_for ex voices.most_voices s lawful i here cadence_rule refl read (set_of_all ex.voices) is_set

  some_shows : list_any (λ v. nat_lt v ex.voices && shows_cadence ex i (earlier s i) (slice_index_or s i []) v)
      (0 ∷ 1 ∷ 2 ∷ 3 ∷ [])
      ≡ true
  some_shows =
      let bars = voices.fewest_bars in
      let bar : begins_bar i ≡ true = eq-eqb (slot_of i) 0 (omega arith) in
      let last : (bar_of i == ex.bars) ≡ true = eq-eqb (bar_of i) ex.bars (omega (arith, bars)) in
      shown (set_of_all ex.voices == set_of_all ex.voices) (begins_last_bar ex i) _
      (eq-eqb (set_of_all ex.voices) (set_of_all ex.voices) refl)
      (and_from (begins_bar i) (bar_of i == ex.bars) bar last) unbroken
    where
      shown : (a b c : Bool) → a ≡ true → b ≡ true → (a && (b && not c)) ≡ false → c ≡ true
      shown true true c e f h = not-false c h
      shown true false c e f h = cc
      shown false b c e f h = cc

  pub never_lacks : (j : ℕ) → j < length s → lacks_all ex j (leads_in ex (earlier s j)) (slice_index_or s j []) ≡ false
  never_lacks =
      let its = found (λ v. nat_lt v ex.voices && shows_cadence ex i (earlier s i) (slice_index_or s i []) v) (0 ∷ 1 ∷ 2 ∷ 3 ∷ []) refl some_shows in
      let v = its.v in
      let parts = and_parts (nat_lt v ex.voices) (shows_cadence ex i (earlier s i) (slice_index_or s i []) v) its.passes in
      let back : i - 8 ≡ 8 * (ex.bars - 2) = omega arith in
      lacks_nothing ex voices.fewest_bars s lawful.setting.whole v its.few parts.0
      (sym (ap (λ n. ends_well ex (slice_index_or s n []) (bar_behind s v i) (slice_index_or s i []) v) back)
      ∙ sym (voice_reading ex s i lawful.setting.prefix.follows (omega arith) here v) ∙ parts.1)
