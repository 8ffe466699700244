-- The list that the marker of settings makes is that of the marks.
use Rattle.std.proofs.Common.{◌≡◌, ℕ, ◌<◌, true, List, length, refl, subst}
use Rattle.std.specs.Prelude.{nat_lt}
use Rattle.std.specs.List.{AllPairs, Contains, range_with_len}
use Rattle.std.specs.Cmp.Lexicographic.{slice_cmp}
use Rattle.std.specs.Ordering.{is_lt, nat_cmp}
use Rattle.std.specs.declared.cmp.Ordering.{Ordering}
use Rattle.std.specs.declared.cmp.Ordering.TheVariants.{Less, Equal, Greater}
use Rattle.fux_grid.specs.declared.cell.Cell.{Cell}
use Rattle.fux_grid.specs.declared.exercise.Exercise.{Exercise}
use Rattle.rule_law.specs.Forms as forms
use Rattle.rule_law.specs.Law.{below_from_test}
use Rattle.fux_judge.specs.Rules.{all_sets, rules_read}
use Rattle.score_marker.specs.declared.mark.Mark.{Mark}
use Rattle.score_marker.specs.Lists.{marks_of_places}
use Rattle.score_marker.specs.Marks.{AreMarks, IsBreak, voices_in}
use Rattle.score_marker.specs.Setting.{breaks_of, sets_in_order}
use Rattle.score_marker.proofs.ListLemmas.{AllPairs-by_test, AllPairs-range, Contains-range, Contains-range_only, within_by_test}
use Rattle.score_marker.proofs.MarkLemmas.{IsSetBefore, break_is_made, made_in_order, made_of_break, mark-eta}

less_from_test : (o : Ordering) → is_lt o ≡ true → o ≡ Less
less_from_test Less h = refl
less_from_test Equal h = cc
less_from_test Greater h = cc

sets_ascend : AllPairs IsSetBefore sets_in_order
unfolding sets_in_order
sets_ascend i j d h k = less_from_test _ (AllPairs-by_test
    (λ voices others. is_lt (slice_cmp nat_cmp (voices_in voices) (voices_in others))) sets_in_order refl i j d h k)

rules_ascend : AllPairs (λ a b. a < b) rules_read
unfolding rules_read
rules_ascend i j d h k = below_from_test _ _ (AllPairs-by_test nat_lt rules_read refl i j d h k)

-- the sets in order are all sets
each_set : (voices : ℕ) → Contains all_sets voices → Contains sets_in_order voices
unfolding sets_in_order forms.all_sets
each_set = within_by_test all_sets sets_in_order refl

only_sets : (voices : ℕ) → Contains sets_in_order voices → Contains all_sets voices
unfolding sets_in_order forms.all_sets
only_sets = within_by_test sets_in_order all_sets refl

module _ (ex : Exercise) (s : List (List Cell)) where
  only_breaks : (mark : Mark) → Contains (marks_of_places (breaks_of ex s) sets_in_order rules_read
      (range_with_len 0 (length s))) mark → IsBreak ex s mark
  only_breaks mark h =
      let made = made_of_break (breaks_of ex s) sets_in_order rules_read (range_with_len 0 (length s)) mark h in
      subst (IsBreak ex s) made.is
      (record {
        place = made.place;
        there = Contains-range_only (length s) made.place made.in_places;
        bar = refl;
        slot = refl;
        rule = made.in_rules;
        voices = only_sets made.voices made.in_sets;
        broken = made.holds;
      })

  each_break : (mark : Mark) → IsBreak ex s mark
      → Contains (marks_of_places (breaks_of ex s) sets_in_order rules_read (range_with_len 0 (length s))) mark
  each_break mark b =
      let P : Mark → Type 0 = Contains (marks_of_places (breaks_of ex s) sets_in_order rules_read
      (range_with_len 0 (length s))) in
      subst P (mark-eta mark b.place b.bar b.slot)
      (break_is_made (breaks_of ex s) sets_in_order rules_read (range_with_len 0 (length s)) b.place mark.rule
      mark.voices.bits (Contains-range (length s) b.place b.there) b.rule (each_set mark.voices.bits b.voices)
      b.broken)

  pub are_marks : AreMarks ex s (marks_of_places (breaks_of ex s) sets_in_order rules_read
      (range_with_len 0 (length s)))
  are_marks = record {
    each = λ mark. (only_breaks mark, each_break mark);
    ascend = made_in_order (breaks_of ex s) sets_in_order rules_read (range_with_len 0 (length s)) sets_ascend
        rules_ascend (AllPairs-range (length s));
  }
