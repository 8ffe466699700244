-- The breaks of a rule in a prefix that is longer by a column (`breaks-push`), and that a prefix is
-- orderly just where it has none of S3 (`shapes_unbroken`, `unbroken_shapes`).
use Rattle.std.proofs.Common.{◌≡◌, ℕ, suc, ◌+◌, ◌<◌, ◌≤◌, Bool, true, false, ◌&&◌, ◌||◌, List, [], ◌∷◌, ◌++◌, length, reverse, slice_index_or, take, refl, ap, sym, ◌∙◌, subst, arith, true≢false}
use Rattle.std.specs.List.{list_any}
use Rattle.std.proofs.Math.ListN.{get_or-append}
use Rattle.std.proofs.Math.Seq.{get_or-append_seam, take-append_seam}
use Rattle.std.proofs.lemmas.Bool.{or_parts}
use Rattle.std.proofs.lemmas.List.{length-append, reverse-append, reverse-reverse, take-append-le}
use Rattle.cert_law.specs.Claims.{has_break_of}
use Rattle.fux_grid.specs.declared.cell.Cell.{Cell}
use Rattle.fux_grid.specs.declared.exercise.Exercise.{Exercise}
use Rattle.fux_grid.specs.Orderly.{IsOrderly}
use Rattle.fux_grid.proofs.OrderlyLemmas.{orderly-fewer}
use Rattle.fux_judge.proofs.Alive.{in_shape}
use Rattle.fux_judge.proofs.Ends.{from_none_below}
use Rattle.fux_judge.specs.Penalties.{is_strict_at, newly_broken, newly_broken_at}
use Rattle.fux_judge.specs.Rules.{all_sets, is_broken, is_read, is_settled, rule_at, rules_read}
use Rattle.rhythm_cadence.proofs.OrderlyReadings.{orderly-unbroken}
use Rattle.rule_law.specs.Growth.{any_below, any_below-same, newly}

pub breaks-push : (ex : Exercise) (p : List (List Cell)) (col : List Cell) (rule : ℕ)
    → has_break_of ex (p ++ col ∷ []) rule ≡ (has_break_of ex p rule || (is_read rule && newly_broken ex p col rule))
breaks-push ex p col rule =
    ap (λ n. is_read rule && any_below after n) size ∙ ap (λ b. is_read rule && (b || after (length p))) earlier
    ∙ ap (λ b. is_read rule && (any_below before (length p) || b)) last
    ∙ shared (is_read rule) (any_below before (length p)) (newly_broken ex p col rule)
  where
    after : ℕ → Bool
    after k = newly_broken ex (take k (p ++ col ∷ [])) (slice_index_or (p ++ col ∷ []) k []) rule

    before : ℕ → Bool
    before k = newly_broken ex (take k p) (slice_index_or p k []) rule

    size : length (p ++ col ∷ []) ≡ suc (length p)
    size = omega (arith, length-append p (col ∷ []))

    same : (k : ℕ) → k < length p → after k ≡ before k
    same k h =
        let fits : k ≤ length p = omega arith in
        ap (λ q. newly_broken ex q (slice_index_or (p ++ col ∷ []) k []) rule) (take-append-le k p (col ∷ []) fits)
        ∙ ap (λ c. newly_broken ex (take k p) c rule) (get_or-append p (col ∷ []) [] k h)

    earlier : any_below after (length p) ≡ any_below before (length p)
    earlier = any_below-same after before (length p) same

    last : after (length p) ≡ newly_broken ex p col rule
    last =
        ap (λ q. newly_broken ex q (slice_index_or (p ++ col ∷ []) (length p) []) rule) (take-append_seam p (col ∷ []))
        ∙ ap (λ c. newly_broken ex p c rule) (get_or-append_seam p col [] [])

    shared : (r a b : Bool) → (r && (a || b)) ≡ ((r && a) || (r && b))
    shared true a b = refl
    shared false a b = refl

pub breaks-none : (ex : Exercise) (rule : ℕ) → has_break_of ex [] rule ≡ false
breaks-none ex rule = none (is_read rule)
  where
    none : (b : Bool) → (b && false) ≡ false
    none true = refl
    none false = refl

three_read : is_read 3 ≡ true
unfolding rules_read
three_read = refl

shape_unbroken : (ex : Exercise) (s : List (List Cell)) → IsOrderly ex s → (voices i : ℕ) → i < length s
    → is_broken 3 ex voices s i ≡ false
unfolding rule_at
shape_unbroken ex s orderly voices i here = orderly-unbroken ex s orderly voices i here

none_of : {X : Type 0} (test : X → Bool) (xs : List X) → ((x : X) → test x ≡ false) → list_any test xs ≡ false
none_of test [] h = refl
none_of test (x ∷ xs) h = ap (λ b. b || list_any test xs) (h x) ∙ none_of test xs h

-- a column by which a list is orderly settles no break of S3
in_shape_unbroken : (ex : Exercise) (p : List (List Cell)) (col : List Cell) → IsOrderly ex (p ++ col ∷ [])
    → newly_broken ex p col 3 ≡ false
in_shape_unbroken ex p col orderly =
    none_of (λ voices. any_below (newly_broken_at 3 ex voices p col) (length p + 1)) all_sets
    (λ voices. from_none_below (newly_broken_at 3 ex voices p col) (length p + 1)
    (λ i h. middle (newly (is_settled 3 ex voices) p col i) (is_broken 3 ex voices (p ++ col ∷ []) i)
    (is_strict_at 3 ex voices i)
    (shape_unbroken ex (p ++ col ∷ []) orderly voices i (omega (arith, length-append p (col ∷ []))))))
  where
    middle : (a b c : Bool) → b ≡ false → (a && b && c) ≡ false
    middle true true c h = absurd (true≢false h)
    middle true false c h = refl
    middle false b c h = refl

module _ (ex : Exercise) (few : ex.voices ≤ 4) where
  shapes_history : (h : List (List Cell)) → IsOrderly ex (reverse h) → has_break_of ex (reverse h) 3 ≡ false
  shapes_history [] orderly = breaks-none ex 3
  shapes_history (col ∷ h) orderly =
      let longer : reverse (col ∷ h) ≡ reverse h ++ col ∷ [] = reverse-append (col ∷ []) h in
      let whole : IsOrderly ex (reverse h ++ col ∷ []) = subst (λ (p : List (List Cell)). IsOrderly ex p) longer orderly
      in
      ap (λ p. has_break_of ex p 3) longer ∙ breaks-push ex (reverse h) col 3
      ∙ ap (λ b. b || (is_read 3 && newly_broken ex (reverse h) col 3))
      (shapes_history h (orderly-fewer ex (reverse h) (col ∷ []) whole))
      ∙ ap (λ b. is_read 3 && b) (in_shape_unbroken ex (reverse h) col whole) ∙ none (is_read 3)
    where
      none : (b : Bool) → (b && false) ≡ false
      none true = refl
      none false = refl

  unbroken_history : (h : List (List Cell)) → has_break_of ex (reverse h) 3 ≡ false → IsOrderly ex (reverse h)
  unbroken_history [] unbroken = λ v bar free begun. absurd (omega (arith, begun.1))
  unbroken_history (col ∷ h) unbroken =
      let longer : reverse (col ∷ h) ≡ reverse h ++ col ∷ [] = reverse-append (col ∷ []) h in
      let parts = or_parts (has_break_of ex (reverse h) 3) (is_read 3 && newly_broken ex (reverse h) col 3)
      (sym (breaks-push ex (reverse h) col 3) ∙ sym (ap (λ p. has_break_of ex p 3) longer) ∙ unbroken) in
      subst (λ (p : List (List Cell)). IsOrderly ex p) (sym longer)
      (in_shape ex few (reverse h) col (unbroken_history h parts.0)
      (sym (ap (λ b. b && newly_broken ex (reverse h) col 3) three_read) ∙ parts.1))

  pub shapes_unbroken : (p : List (List Cell)) → IsOrderly ex p → has_break_of ex p 3 ≡ false
  shapes_unbroken p orderly =
      ap (λ q. has_break_of ex q 3) (sym (reverse-reverse p))
      ∙ shapes_history (reverse p) (subst (λ (q : List (List Cell)). IsOrderly ex q) (sym (reverse-reverse p)) orderly)

  pub unbroken_shapes : (p : List (List Cell)) → has_break_of ex p 3 ≡ false → IsOrderly ex p
  unbroken_shapes p unbroken =
      subst (λ (q : List (List Cell)). IsOrderly ex q) (reverse-reverse p)
      (unbroken_history (reverse p) (ap (λ q. has_break_of ex q 3) (reverse-reverse p) ∙ unbroken))
