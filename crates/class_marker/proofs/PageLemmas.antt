-- The page with one name more (`one_more`).
use Rattle.std.proofs.Common.{◌≡◌, ℕ, ◌+◌, ◌&&◌, Bool, true, false, List, [], ◌∷◌, ◌++◌, length, append_assoc, append-nil, length-append, refl, ap, sym, ◌∙◌, arith}
use Rattle.std.specs.List.{list_all}
use Rattle.std.proofs.lemmas.List.Folds.{list_all-append}
use Rattle.class_marker.specs.declared.page.ClassPage.{ClassPage}
use Rattle.class_marker.specs.Pages.{IsPageSoFar, Named, is_right, numbered, row_of, section}

-- what is made of one name more stands behind the others
numbered_more : (made : ℕ → Named → List ℕ) (from : ℕ) (class : List Named) (named : Named)
    → numbered made from (class ++ named ∷ []) ≡ numbered made from class ++ made (from + length class) named
numbered_more made from [] named =
    let same : from ≡ from + 0 = omega arith in
    append-nil (made from named) ∙ ap (λ n. made n named) same
numbered_more made from (first ∷ class) named =
    let same : from + 1 + length class ≡ from + length (first ∷ class) = omega arith in
    ap (λ t. made from first ++ t) (numbered_more made (from + 1) class named)
    ∙ sym (append_assoc (made from first) (numbered made (from + 1) class) (made (from + 1 + length class) named))
    ∙ ap (λ n. (made from first ++ numbered made (from + 1) class) ++ made n named) same

-- so where so many are counted before it
next_row : (made : ℕ → Named → List ℕ) (class : List Named) (named : Named) (count : ℕ) (old new : List ℕ)
    → count ≡ length class → old ≡ numbered made 1 class → new ≡ old ++ made (count + 1) named
    → new ≡ numbered made 1 (class ++ named ∷ [])
next_row made class named count old new many is put =
    let same : count + 1 ≡ 1 + length class = omega (arith, many) in
    put ∙ ap (λ t. t ++ made (count + 1) named) is ∙ ap (λ n. numbered made 1 class ++ made n named) same
    ∙ sym (numbered_more made 1 class named)

and_true : (b : Bool) → (b && true) ≡ b
and_true true = refl
and_true false = refl

right_more : (class : List Named) (named : Named)
    → list_all (λ (n : Named). is_right n.1) (class ++ named ∷ [])
    ≡ (list_all (λ (n : Named). is_right n.1) class && is_right named.1)
right_more class named =
    list_all-append (λ (n : Named). is_right n.1) class (named ∷ [])
    ∙ ap (λ b. list_all (λ (n : Named). is_right n.1) class && b) (and_true (is_right named.1))

pub one_more : (class : List Named) (named : Named) (old new : ClassPage) → IsPageSoFar class old
    → new.rows.items ≡ old.rows.items ++ row_of (old.count + 1) named
    → new.sections.items ≡ old.sections.items ++ section (old.count + 1) named
    → new.count ≡ old.count + 1 → new.all_right ≡ (old.all_right && is_right named.1)
    → IsPageSoFar (class ++ named ∷ []) new
one_more class named old new is rows sections count right = record {
  rows = next_row row_of class named old.count old.rows.items new.rows.items is.count is.rows rows;
  sections = next_row section class named old.count old.sections.items new.sections.items is.count is.sections sections;
  count = omega (arith, count, is.count, length-append class (named ∷ []));
  all_right = right ∙ ap (λ b. b && is_right named.1) is.all_right ∙ sym (right_more class named);
}
