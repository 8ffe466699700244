-- Marks that are made place by place: which they are, and that they ascend.
use Rattle.std.proofs.Common.{◌≡◌, inl, inr, ℕ, ◌<◌, Bool, true, false, List, [], refl, ap, sym, ◌∙◌, subst, arith}
use Rattle.std.specs.List.{AllPairs, Contains}
use Rattle.std.specs.Cmp.Lexicographic.{slice_cmp}
use Rattle.std.specs.Ordering.{ordering_then, nat_cmp}
use Rattle.std.specs.declared.cmp.Ordering.{Ordering}
use Rattle.std.specs.declared.cmp.Ordering.TheVariants.{Less}
use Rattle.std.proofs.lemmas.Bool.{cases_lt}
use Rattle.std.proofs.lemmas.Bool.Decides.{nat_tests}
use Rattle.std.proofs.lemmas.Cmp.{nat_cmp_total, tied_itself}
use Rattle.fux_grid.specs.Exercises.{bar_of, slot_of}
use Rattle.score_marker.specs.declared.mark.Mark.{Mark}
use Rattle.score_marker.specs.Lists.{Test, mark_where, marks_of_rule, marks_of_place, marks_of_places}
use Rattle.score_marker.specs.Marks.{IsBefore, mark_at, voices_in}
use Rattle.score_marker.proofs.ListLemmas.{AllPairs-flat_map, Contains-flat_map, Contains-flat_map_only, Contains-head, Contains-nil, Contains-one}

-- ---- the order of two marks

first_less : (a b : ℕ) (o : Ordering) → a < b → ordering_then (nat_cmp a b) o ≡ Less
first_less a b o h = let e : nat_cmp a b ≡ Less = grind (arith, nat_tests) in ap (λ x. ordering_then x o) e

first_same : (a : ℕ) (o : Ordering) → ordering_then (nat_cmp a a) o ≡ o
first_same a o = ap (λ x. ordering_then x o) (tied_itself nat_cmp_total a)

-- a set of voices comes before another
abbrev pub IsSetBefore : ℕ → ℕ → Type 0
IsSetBefore voices others = slice_cmp nat_cmp (voices_in voices) (voices_in others) ≡ Less

-- what marks of two places are ordered by, where the rest decides nothing
place_less : (i j : ℕ) (o : Ordering) → i < j
    → ordering_then (nat_cmp (bar_of i) (bar_of j)) (ordering_then (nat_cmp (slot_of i) (slot_of j)) o) ≡ Less
place_less i j o h = elim (cases_lt (bar_of i) (bar_of j)) [
  | inl k ↦ first_less (bar_of i) (bar_of j) (ordering_then (nat_cmp (slot_of i) (slot_of j)) o) k
  | inr k ↦
      let same : bar_of j ≡ bar_of i = omega arith in
      let below : slot_of i < slot_of j = omega arith in
      ap (λ b. ordering_then (nat_cmp (bar_of i) b) (ordering_then (nat_cmp (slot_of i) (slot_of j)) o)) same
      ∙ first_same (bar_of i) (ordering_then (nat_cmp (slot_of i) (slot_of j)) o)
      ∙ first_less (slot_of i) (slot_of j) o below
]

place_same : (i : ℕ) (o : Ordering) → ordering_then (nat_cmp (bar_of i) (bar_of i))
    (ordering_then (nat_cmp (slot_of i) (slot_of i)) o) ≡ o
place_same i o = first_same (bar_of i) (ordering_then (nat_cmp (slot_of i) (slot_of i)) o) ∙ first_same (slot_of i) o

by_place : (i j rule other voices others : ℕ) → i < j → IsBefore (mark_at i rule voices) (mark_at j other others)
by_place i j rule other voices others h =
    place_less i j (ordering_then (nat_cmp rule other) (slice_cmp nat_cmp (voices_in voices) (voices_in others))) h

by_rule : (i rule other voices others : ℕ) → rule < other → IsBefore (mark_at i rule voices) (mark_at i other others)
by_rule i rule other voices others h =
    place_same i (ordering_then (nat_cmp rule other) (slice_cmp nat_cmp (voices_in voices) (voices_in others)))
    ∙ first_less rule other (slice_cmp nat_cmp (voices_in voices) (voices_in others)) h

by_voices : (i rule voices others : ℕ) → IsSetBefore voices others
    → IsBefore (mark_at i rule voices) (mark_at i rule others)
by_voices i rule voices others h =
    place_same i (ordering_then (nat_cmp rule rule) (slice_cmp nat_cmp (voices_in voices) (voices_in others)))
    ∙ first_same rule (slice_cmp nat_cmp (voices_in voices) (voices_in others)) ∙ h

-- ---- the marks of one break, of a rule, of a place and of several places

made : (broken : Bool) (i rule voices : ℕ) → broken ≡ true
    → Contains (mark_where broken i rule voices) (mark_at i rule voices)
unfolding mark_where
made true i rule voices h = Contains-head (mark_at i rule voices) []
made false i rule voices h = absurd (cc)

made_only : (broken : Bool) (i rule voices : ℕ) (mark : Mark) → Contains (mark_where broken i rule voices) mark
    → (broken ≡ true) × (mark_at i rule voices ≡ mark)
unfolding mark_where
made_only true i rule voices mark h = (refl, Contains-one (mark_at i rule voices) mark h)
made_only false i rule voices mark h = absurd (Contains-nil mark h)

made_alone : (R : Mark → Mark → Type 0) (broken : Bool) (i rule voices : ℕ)
    → AllPairs R (mark_where broken i rule voices)
unfolding mark_where
made_alone R true i rule voices j k d h l = absurd (omega arith)
made_alone R false i rule voices j k d h l = absurd (omega arith)

-- the mark is that of a break of one of these rules, for one of these sets, at one of these places
pub record IsMade (test : Test) (sets rules places : List ℕ) (mark : Mark) : Type 0 where
  pub place : ℕ
  pub rule : ℕ
  pub voices : ℕ
  pub in_places : Contains places place
  pub in_rules : Contains rules rule
  pub in_sets : Contains sets voices
  pub holds : test place rule voices ≡ true
  pub is : mark_at place rule voices ≡ mark

along : (R : Mark → Mark → Type 0) {a b c d : Mark} → a ≡ c → b ≡ d → R a b → R c d
along R {a} {b} {c} {d} e f h =
    let P : Mark → Type 0 = λ x. R x d in let Q : Mark → Type 0 = λ x. R a x in subst P e (subst Q f h)

module _ (test : Test) (sets : List ℕ) where
  rule_only : (i rule : ℕ) (mark : Mark) → Contains (marks_of_rule test sets i rule) mark → (voices : ℕ)
      × Contains sets voices × (test i rule voices ≡ true) × (mark_at i rule voices ≡ mark)
  rule_only i rule mark h =
      let found = Contains-flat_map_only (λ voices. mark_where (test i rule voices) i rule voices) sets mark h in
      let one = made_only (test i rule found.0) i rule found.0 mark found.2 in
      (found.0, found.1, one.0, one.1)

  rule_ascends : AllPairs IsSetBefore sets → (i rule : ℕ) → AllPairs IsBefore (marks_of_rule test sets i rule)
  rule_ascends ascend i rule =
      AllPairs-flat_map (λ voices. mark_where (test i rule voices) i rule voices) IsSetBefore IsBefore sets ascend
      (λ voices. made_alone IsBefore (test i rule voices) i rule voices)
      (λ voices others mark other before h k.
      along IsBefore (made_only (test i rule voices) i rule voices mark h).1
      (made_only (test i rule others) i rule others other k).1 (by_voices i rule voices others before))

  module _ (rules : List ℕ) where
    place_only : (i : ℕ) (mark : Mark) → Contains (marks_of_place test sets rules i) mark → (rule : ℕ) × (voices : ℕ)
        × Contains rules rule × Contains sets voices × (test i rule voices ≡ true) × (mark_at i rule voices ≡ mark)
    place_only i mark h =
        let found = Contains-flat_map_only (marks_of_rule test sets i) rules mark h in
        let one = rule_only i found.0 mark found.2 in
        (found.0, one.0, found.1, one.1, one.2, one.3)

    place_ascends : AllPairs IsSetBefore sets → AllPairs (λ a b. a < b) rules → (i : ℕ)
        → AllPairs IsBefore (marks_of_place test sets rules i)
    place_ascends by_sets by_rules i =
        AllPairs-flat_map (marks_of_rule test sets i) (λ a b. a < b) IsBefore rules by_rules
        (rule_ascends by_sets i)
        (λ rule later mark other before h k.
        let one = rule_only i rule mark h in
        let two = rule_only i later other k in
        along IsBefore one.3 two.3 (by_rule i rule later one.0 two.0 before))

    -- what is made, is made of a break
    pub made_of_break : (places : List ℕ) (mark : Mark) → Contains (marks_of_places test sets rules places) mark
        → IsMade test sets rules places mark
    made_of_break places mark h =
        let found = Contains-flat_map_only (marks_of_place test sets rules) places mark h in
        let one = place_only found.0 mark found.2 in
        record {
          place = found.0;
          rule = one.0;
          voices = one.1;
          in_places = found.1;
          in_rules = one.2;
          in_sets = one.3;
          holds = one.4;
          is = one.5;
        }

    -- and each break is made
    pub break_is_made : (places : List ℕ) (i rule voices : ℕ) → Contains places i → Contains rules rule
        → Contains sets voices → test i rule voices ≡ true
        → Contains (marks_of_places test sets rules places) (mark_at i rule voices)
    break_is_made places i rule voices in_places in_rules in_sets holds =
        let mark : Mark = mark_at i rule voices in
        Contains-flat_map (marks_of_place test sets rules) places i mark in_places
        (Contains-flat_map (marks_of_rule test sets i) rules rule mark in_rules
        (Contains-flat_map (λ voices. mark_where (test i rule voices) i rule voices) sets voices mark in_sets
        (made (test i rule voices) i rule voices holds)))

    -- in order, where the places, the rules and the sets are
    pub made_in_order : (places : List ℕ) → AllPairs IsSetBefore sets → AllPairs (λ a b. a < b) rules
        → AllPairs (λ a b. a < b) places → AllPairs IsBefore (marks_of_places test sets rules places)
    made_in_order places by_sets by_rules by_places =
        AllPairs-flat_map (marks_of_place test sets rules) (λ a b. a < b) IsBefore places by_places
        (place_ascends by_sets by_rules)
        (λ i j mark other before h k.
        let one = place_only i mark h in
        let two = place_only j other k in
        along IsBefore one.5 two.5 (by_place i j one.0 two.0 one.1 two.1 before))

-- a mark whose bar and slot are those of a place is the mark of that place
pub mark-eta : (mark : Mark) (i : ℕ) → mark.bar ≡ bar_of i → mark.slot ≡ slot_of i
    → mark_at i mark.rule mark.voices.bits ≡ mark
mark-eta mark i e f =
    let at : ℕ → ℕ → Mark = λ bar slot. record
    { bar = bar; slot = slot; rule = mark.rule; voices = record { bits = mark.voices.bits } } in
    ap (λ bar. at bar (slot_of i)) (sym e) ∙ ap (λ slot. at mark.bar slot) (sym f)
