-- The list that the marker of a cantus makes is that of its marks: they stand at slot 0 alone.
use Rattle.std.proofs.Common.{◌≡◌, ◌≢◌, inl, inr, ℕ, suc, ◌+◌, ◌*◌, ◌/◌, ◌^◌, ◌<◌, ◌==◌, Bool, true, false, List, [], ◌∷◌, ◌++◌, map, Option, Some, None, refl, ap, sym, ◌∙◌, subst, arith, eq-eqb}
use Rattle.std.specs.Prelude.{if◌then◌else◌, nat_lt, slice_get}
use Rattle.std.specs.List.{AllPairs, Contains, flat_map, range_with_len}
use Rattle.std.specs.Option.{option_map_or}
use Rattle.std.proofs.lemmas.Bool.{cases_eq, eqb-true, ne_eqb, false_from_ne_true, and_left}
use Rattle.std.proofs.lemmas.List.{flat_map_more, map-append}
use Rattle.fux_pitch.specs.declared.pitch.Pitch.{Pitch}
use Rattle.fux_pitch.specs.declared.interval.Interval.{Interval}
use Rattle.fux_grid.specs.declared.cell.Cell.{Cell}
use Rattle.fux_grid.specs.declared.cell.Cell.TheVariants.{Rest, Hold, Start}
use Rattle.fux_grid.specs.declared.exercise.Exercise.{Exercise}
use Rattle.fux_grid.specs.Exercises.{slot_of, cantus_cell, columns_in}
use Rattle.fux_grid.proofs.CantusCells.{cantus_cell-hold, cantus_cell-start}
use Rattle.rule_law.specs.Bars.{begins_bar}
use Rattle.rule_law.specs.Law.{below_from_test}
use Rattle.rule_law.specs.Terms.{previous_pitch}
use Rattle.melody_rules.specs.declared.notes.VoiceNotes.{VoiceNotes}
use Rattle.melody_rules.specs.Notes.{IsNotesOf}
use Rattle.melody_rules.specs.Rows as melody
use Rattle.melody_rules.proofs.LineLemmas.{notes-hold}
use Rattle.score_marker.specs.declared.mark.Mark.{Mark}
use Rattle.score_marker.specs.Cantus as cantus
use Rattle.score_marker.specs.Cantus.{AreCantusMarks, IsCantusBreak, cantus_at, cantus_before, cantus_rule, cantus_rules, is_cantus_broken}
use Rattle.score_marker.specs.Lists.{Test, marks_of_place, marks_of_places}
use Rattle.score_marker.proofs.ListLemmas.{AllPairs-by_test, AllPairs-range, Contains-map, Contains-one, Contains-range, Contains-range_only, range-more}
use Rattle.fux_grid.proofs.Combinations.{AllPairs-map, Contains-map_only}
use Rattle.score_marker.proofs.MarkLemmas.{IsSetBefore, break_is_made, made_in_order, made_of_break, mark-eta}

-- ---- where no note starts, no rule is broken

no_moves : (test : Interval → Interval → Bool) (o : Option Interval) → melody.holds_of_both test o None ≡ false
no_moves test None = refl
no_moves test (Some i) = refl

neither : (b : Bool) {x y : Bool} → x ≡ false → y ≡ false → (if b then x else y) ≡ false
neither true h k = h
neither false h k = k

module _ (ex : Exercise) (i : ℕ) (inside : begins_bar i ≡ false) where
  not_first : (i == 0) ≡ false
  not_first = false_from_ne_true (i == 0) (λ e. let at : begins_bar i ≡ true = ap begins_bar (eqb-true i 0 e) in cc)

  own_forms : (rule : ℕ) (previous : Option Pitch) (now : Cell) (others : Bool) → others ≡ false
      → (if rule == 31 then cantus.begins_elsewhere ex i now
      else (if rule == 32 then cantus.ends_elsewhere ex i now
      else (if rule == 33 then cantus.ends_without_step ex i previous now else others))) ≡ false
  own_forms rule previous now others h =
      neither (rule == 31) (and_left _ (cantus.is_not_final ex now) not_first)
      (neither (rule == 32) (and_left _ _ (and_left _ _ inside))
      (neither (rule == 33) (and_left _ _ (and_left _ _ inside)) h))

  quiet_rest : (rule : ℕ) (before : List Cell) → cantus_rule rule ex i before Rest ≡ false
  quiet_rest rule before =
      neither (rule == 2) refl (neither (rule == 4) refl
      (own_forms rule (previous_pitch before) Rest (melody.window_rule rule (melody.pitches before) Rest)
      (neither (rule == 6) (and_left _ _ (no_moves _ _))
      (neither (rule == 7) (no_moves _ _) (neither (rule == 8) (and_left _ _ (no_moves _ _)) refl)))))

  quiet_hold : (rule : ℕ) (before : List Cell) (p : Pitch) → cantus_rule rule ex i before (Hold p) ≡ false
  quiet_hold rule before p =
      neither (rule == 2) (rw inside refl) (neither (rule == 4) refl
      (own_forms rule (previous_pitch before) (Hold p) (melody.window_rule rule (melody.pitches before) (Hold p))
      (neither (rule == 6) (and_left _ _ (no_moves _ _))
      (neither (rule == 7) (no_moves _ _) (neither (rule == 8) (and_left _ _ (no_moves _ _)) refl)))))

  quiet_at : (rule : ℕ) (before : List Cell) (o : Option Pitch)
      → cantus_rule rule ex i before (option_map_or (cantus_cell i) o Rest) ≡ false
  quiet_at rule before None = quiet_rest rule before
  quiet_at rule before (Some p) = ap (cantus_rule rule ex i before)
      (cantus_cell-hold i p (λ e. not_begun (eq-eqb (slot_of i) 0 e) inside)) ∙ quiet_hold rule before p
    where
      not_begun : {b : Bool} → b ≡ true → b ≡ false → ⊥
      not_begun e f = cc

  quiet : (rule : ℕ) → is_cantus_broken rule ex i ≡ false
  quiet rule = quiet_at rule (cantus_before ex i) (slice_get ex.cantus (i / 8))

-- ---- the line of the cantus, bar by bar

pub starts_at : (ex : Exercise) (i : ℕ) (p : Pitch) → slice_get ex.cantus (i / 8) ≡ Some p → slot_of i ≡ 0 → Start p
    ≡ cantus_at ex i
starts_at ex i p e f = sym (ap (λ o. option_map_or (cantus_cell i) o Rest) e ∙ cantus_cell-start i p f)

holds_at : (ex : Exercise) (i : ℕ) (p : Pitch) → slice_get ex.cantus (i / 8) ≡ Some p → slot_of i ≢ 0 → cantus_at ex i
    ≡ Hold p
holds_at ex i p e f = ap (λ o. option_map_or (cantus_cell i) o Rest) e ∙ cantus_cell-hold i p f

held : (ex : Exercise) (i bar : ℕ) (p : Pitch) (notes : VoiceNotes) → slice_get ex.cantus bar ≡ Some p → i / 8 ≡ bar
    → slot_of i ≢ 0 → IsNotesOf (cantus_before ex i) notes → IsNotesOf (cantus_before ex (suc i)) notes
held ex i bar p notes e f g h =
    let P : Cell → Type 0 = λ c. IsNotesOf (c ∷ cantus_before ex i) notes in
    subst P (sym (holds_at ex i p (ap (slice_get ex.cantus) f ∙ e) g)) (notes-hold p (cantus_before ex i) notes h)

-- the notes after a bar are those after the note that starts it
pub notes_of_bar : (ex : Exercise) (bar : ℕ) (p : Pitch) (notes : VoiceNotes) → slice_get ex.cantus bar ≡ Some p
    → IsNotesOf (Start p ∷ cantus_before ex (8 * bar)) notes → IsNotesOf (cantus_before ex (8 * (bar + 1))) notes
notes_of_bar ex bar p notes e h =
    let n : ℕ = 8 * bar in
    let at : n / 8 ≡ bar = omega arith in
    let P : Cell → Type 0 = λ c. IsNotesOf (c ∷ cantus_before ex n) notes in
    let Q : ℕ → Type 0 = λ i. IsNotesOf (cantus_before ex i) notes in
    let first : Q (suc n) = subst P (starts_at ex n p (ap (slice_get ex.cantus) at ∙ e) (omega arith)) h in
    let end : suc (suc (suc (suc (suc (suc (suc (suc n))))))) ≡ 8 * (bar + 1) = omega arith in
    subst Q end
    (held ex (suc (suc (suc (suc (suc (suc (suc n))))))) bar p notes e (omega arith) (λ k. omega arith)
    (held ex (suc (suc (suc (suc (suc (suc n)))))) bar p notes e (omega arith) (λ k. omega arith)
    (held ex (suc (suc (suc (suc (suc n))))) bar p notes e (omega arith) (λ k. omega arith)
    (held ex (suc (suc (suc (suc n)))) bar p notes e (omega arith) (λ k. omega arith)
    (held ex (suc (suc (suc n))) bar p notes e (omega arith) (λ k. omega arith)
    (held ex (suc (suc n)) bar p notes e (omega arith) (λ k. omega arith)
    (held ex (suc n) bar p notes e (omega arith) (λ k. omega arith)
    first)))))))

-- ---- the marks

rules_ascend : AllPairs (λ a b. a < b) cantus_rules
unfolding cantus_rules
rules_ascend i j d h k = below_from_test _ _ (AllPairs-by_test nat_lt cantus_rules refl i j d h k)

one_set : (voices : ℕ) → AllPairs IsSetBefore (voices ∷ [])
one_set voices i j d h k = absurd (omega arith)

-- the breaks of the cantus as a test
abbrev pub cantus_test : Exercise → Test
cantus_test ex i rule voices = is_cantus_broken rule ex i

-- the first columns of so many bars
abbrev pub bar_lines : ℕ → List ℕ
bar_lines bars = map (λ bar. 8 * bar) (range_with_len 0 bars)

bar_lines-more : (bar : ℕ) → bar_lines (bar + 1) ≡ bar_lines bar ++ (8 * bar) ∷ []
bar_lines-more bar =
    ap (map (λ bar. 8 * bar)) (range-more bar) ∙ map-append (λ bar. 8 * bar) (range_with_len 0 bar) (bar ∷ [])

-- with the marks of a bar, the marks of the bars before it are those of one more
pub bar_marked : (ex : Exercise) (bar : ℕ) (p : Pitch) (before after : List Mark) → slice_get ex.cantus bar ≡ Some p
    → before ≡ marks_of_places (cantus_test ex) (2 ^ ex.cantus_voice ∷ []) cantus_rules (bar_lines bar) → after ≡ before
    ++ marks_of_place (λ i rule voices. cantus_rule rule ex i (cantus_before ex (8 * bar)) (Start p))
    (2 ^ ex.cantus_voice ∷ []) cantus_rules (8 * bar) → after
    ≡ marks_of_places (cantus_test ex) (2 ^ ex.cantus_voice ∷ []) cantus_rules (bar_lines (bar + 1))
bar_marked ex bar p before after e f g =
    let n : ℕ = 8 * bar in
    let at : n / 8 ≡ bar = omega arith in
    let place = marks_of_place (cantus_test ex) (2 ^ ex.cantus_voice ∷ []) cantus_rules in
    g
    ∙ ap (λ now. before ++ marks_of_place (λ i rule voices. cantus_rule rule ex i (cantus_before ex n) now)
    (2 ^ ex.cantus_voice ∷ []) cantus_rules n) (starts_at ex n p (ap (slice_get ex.cantus) at ∙ e) (omega arith))
    ∙ ap (λ marks. marks ++ place n) f ∙ flat_map_more place [] (bar_lines bar) n
    ∙ ap (flat_map place) (sym (bar_lines-more bar))

module _ (ex : Exercise) where
  only_breaks : (mark : Mark) → Contains (marks_of_places (cantus_test ex) (2 ^ ex.cantus_voice ∷ []) cantus_rules
      (bar_lines ex.bars)) mark → IsCantusBreak ex mark
  only_breaks mark h =
      let made = made_of_break (cantus_test ex) (2 ^ ex.cantus_voice ∷ []) cantus_rules (bar_lines ex.bars) mark h in
      let bar = Contains-map_only (λ bar. 8 * bar) (range_with_len 0 ex.bars) made.place made.in_places in
      let there : bar.0 < ex.bars = Contains-range_only ex.bars bar.0 bar.1 in
      subst (IsCantusBreak ex) made.is
      (record {
        place = made.place;
        there = omega (arith, bar.2);
        bar = refl;
        slot = refl;
        rule = made.in_rules;
        voices = sym (Contains-one (2 ^ ex.cantus_voice) made.voices made.in_sets);
        broken = made.holds;
      })

  each_break : (mark : Mark) → IsCantusBreak ex mark
      → Contains (marks_of_places (cantus_test ex) (2 ^ ex.cantus_voice ∷ []) cantus_rules (bar_lines ex.bars)) mark
  each_break mark b =
      let P : Mark → Type 0 = Contains (marks_of_places (cantus_test ex) (2 ^ ex.cantus_voice ∷ []) cantus_rules
      (bar_lines ex.bars)) in
      subst P (mark-eta mark b.place b.bar b.slot)
      (break_is_made (cantus_test ex) (2 ^ ex.cantus_voice ∷ []) cantus_rules (bar_lines ex.bars) b.place mark.rule
      mark.voices.bits (on_bar_line b.place b.there (loud b.broken)) b.rule (0, omega arith, sym b.voices) b.broken)
    where
      loud : is_cantus_broken mark.rule ex b.place ≡ true → slot_of b.place ≡ 0
      loud h = elim (cases_eq (slot_of b.place) 0) [
        | inl e ↦ e
        | inr e ↦ let q = quiet ex b.place (ne_eqb (slot_of b.place) 0 e) mark.rule in absurd (cc)
      ]

      on_bar_line : (i : ℕ) → i < columns_in ex → slot_of i ≡ 0 → Contains (bar_lines ex.bars) i
      on_bar_line i h e =
          let P : ℕ → Type 0 = Contains (bar_lines ex.bars) in
          let same : 8 * (i / 8) ≡ i = omega arith in
          subst P same (Contains-map (λ bar. 8 * bar) (range_with_len 0 ex.bars) (i / 8)
          (Contains-range ex.bars (i / 8) (omega arith)))

  pub are_cantus_marks : AreCantusMarks ex
      (marks_of_places (cantus_test ex) (2 ^ ex.cantus_voice ∷ []) cantus_rules (bar_lines ex.bars))
  are_cantus_marks = record {
    each = λ mark. (only_breaks mark, each_break mark);
    ascend = made_in_order (cantus_test ex) (2 ^ ex.cantus_voice ∷ []) cantus_rules (bar_lines ex.bars)
        (one_set (2 ^ ex.cantus_voice)) rules_ascend
        (AllPairs-map (λ a b. a < b) (λ a b. a < b) (λ bar. 8 * bar) (λ a b h. omega arith) (range_with_len 0 ex.bars)
        (AllPairs-range ex.bars));
  }
