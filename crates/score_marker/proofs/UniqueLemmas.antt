-- No two lists are the marks of one setting, or of one cantus: what they contain and their order
-- leave one list.
use Rattle.std.proofs.Common.{◌≡◌, inl, inr, List, [], ◌∷◌, refl, ap, sym, ◌∙◌, subst}
use Rattle.std.specs.List.{AllPairs, Contains}
use Rattle.std.specs.Cmp.Lexicographic.{slice_cmp}
use Rattle.std.specs.Ordering.{nat_cmp}
use Rattle.std.specs.declared.cmp.Ordering.TheVariants.{Equal}
use Rattle.std.proofs.lemmas.Cmp.{nat_list_cmp_total, tied_itself}
use Rattle.fux_grid.specs.declared.cell.Cell.{Cell}
use Rattle.fux_grid.specs.declared.exercise.Exercise.{Exercise}
use Rattle.fux_grid.proofs.Combinations.{AllPairs-head, AllPairs-tail, Contains-cons_cases}
use Rattle.score_marker.specs.declared.mark.Mark.{Mark}
use Rattle.score_marker.specs.Cantus.{AreCantusMarks}
use Rattle.score_marker.specs.Marks.{AreMarks, IsBefore, mark_key}
use Rattle.score_marker.proofs.ListLemmas.{Contains-behind, Contains-head, Contains-nil}

not_before_itself : (mark : Mark) → IsBefore mark mark → ⊥
not_before_itself mark h = let e : slice_cmp nat_cmp (mark_key mark) (mark_key mark)
    ≡ Equal = tied_itself nat_list_cmp_total (mark_key mark) in cc

not_both_ways : (mark other : Mark) → IsBefore mark other → IsBefore other mark → ⊥
not_both_ways mark other h k =
    not_before_itself mark (nat_list_cmp_total.trans (mark_key mark) (mark_key other) (mark_key mark) h k)

module _ (x y : Mark) (xs ys : List Mark) (first : AllPairs IsBefore (x ∷ xs)) (second : AllPairs IsBefore (y ∷ ys))
  where
    same_head : Contains (y ∷ ys) x → Contains (x ∷ xs) y → x ≡ y
    same_head h k = elim (Contains-cons_cases y ys x h) [
      | inl e ↦ sym e
      | inr in_ys ↦ elim (Contains-cons_cases x xs y k) [
        | inl e ↦ e
        | inr in_xs ↦ absurd (not_both_ways x y (AllPairs-head IsBefore x xs y first in_xs)
            (AllPairs-head IsBefore y ys x second in_ys))
      ]
    ]

    -- what comes behind the one head comes behind the other
    behind : x ≡ y → (mark : Mark) → Contains xs mark → Contains (y ∷ ys) mark → Contains ys mark
    behind e mark in_xs h = elim (Contains-cons_cases y ys mark h) [
      | inl f ↦ let P : Mark → Type 0 = IsBefore x in
          absurd (not_before_itself x (subst P (sym f ∙ sym e) (AllPairs-head IsBefore x xs mark first in_xs)))
      | inr k ↦ k
    ]

same_list : (a b : List Mark) → AllPairs IsBefore a → AllPairs IsBefore b
    → ((mark : Mark) → Contains a mark → Contains b mark) → ((mark : Mark) → Contains b mark → Contains a mark) → a ≡ b
same_list [] [] h k f g = refl
same_list [] (y ∷ ys) h k f g = absurd (Contains-nil y (g y (Contains-head y ys)))
same_list (x ∷ xs) [] h k f g = absurd (Contains-nil x (f x (Contains-head x xs)))
same_list (x ∷ xs) (y ∷ ys) h k f g =
    let head : x ≡ y = same_head x y xs ys h k (f x (Contains-head x xs)) (g y (Contains-head y ys)) in
    let tail : xs ≡ ys = same_list xs ys (AllPairs-tail IsBefore x xs h) (AllPairs-tail IsBefore y ys k)
    (λ mark in_xs. behind x y xs ys h k head mark in_xs (f mark (Contains-behind x xs mark in_xs)))
    (λ mark in_ys. behind y x ys xs k h (sym head) mark in_ys (g mark (Contains-behind y ys mark in_ys))) in
    ap (λ z. z ∷ xs) head ∙ ap (λ zs. y ∷ zs) tail

pub marks_are_unique : (ex : Exercise) (s : List (List Cell)) (a b : List Mark) → AreMarks ex s a → AreMarks ex s b → a
    ≡ b
marks_are_unique ex s a b h k =
    same_list a b h.ascend k.ascend (λ mark m. (k.each mark).1 ((h.each mark).0 m))
    (λ mark m. (h.each mark).1 ((k.each mark).0 m))

pub cantus_marks_are_unique : (ex : Exercise) (a b : List Mark) → AreCantusMarks ex a → AreCantusMarks ex b → a ≡ b
cantus_marks_are_unique ex a b h k =
    same_list a b h.ascend k.ascend (λ mark m. (k.each mark).1 ((h.each mark).0 m))
    (λ mark m. (h.each mark).1 ((k.each mark).0 m))
