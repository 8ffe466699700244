-- Own claims that are true of each prefix are true of each that is owed (`owed_are_true`); where no rule
-- is found broken, no strict break is settled (`unbroken_if_none`); a head that holds is sound
-- (`sound`).
use Rattle.std.proofs.Common.{◌≡◌, ◌⊎◌, inl, inr, ℕ, suc, ◌+◌, ◌<◌, ◌≤◌, Bool, true, false, ◌&&◌, ◌||◌, List, [], ◌∷◌, ◌++◌, length, map, reverse, slice_index_or, take, None, refl, ap, sym, ◌∙◌, arith}
use Rattle.std.specs.List.{AllByRecursion, filter, list_all, list_any}
use Rattle.std.proofs.lemmas.Bool.{and_parts, cases_Bool}
use Rattle.std.proofs.lemmas.List.{length-append}
use Rattle.std.proofs.lemmas.List.Elements.{Contains-get_or, recursion_from_All}
use Rattle.cert_text.specs.declared.answers.CertHead.{CertHead}
use Rattle.cert_text.specs.declared.answers.CertHead.TheVariants.{Best, Nothing}
use Rattle.cert_text.specs.declared.claim.Claim.{Claim}
use Rattle.cert_text.specs.declared.claim.Claim.TheVariants.{Open, Broken, NoChain, Floor, TheScore}
use Rattle.cert_tree.proofs.Finds.{none_found}
use Rattle.cert_tree.proofs.OwnClaims.{true_from}
use Rattle.cert_tree.specs.Trees.{AreTrueFrom, Tree}
use Rattle.cert_law.specs.Certificates.{Holds, IsHeadSound, is_open}
use Rattle.cert_law.specs.Claims.{has_break_of, longer_prefixes}
use Rattle.cert_law.specs.Writer.{least_break}
use Rattle.cert_law.proofs.Prefixes.{prefix-push}
use Rattle.chain_sums.specs.Sums.{column_follows}
use Rattle.chain_sums.proofs.SumLemmas.{column_follows_is}
use Rattle.fux_grid.specs.declared.cell.Cell.{Cell}
use Rattle.fux_grid.specs.declared.exercise.Exercise.{Exercise}
use Rattle.fux_grid.specs.Columns.{ColumnFollows, newest_column}
use Rattle.fux_grid.specs.Exercises.{columns_in}
use Rattle.fux_grid.specs.Menus.{IsInMenu, menu_of}
use Rattle.fux_grid.proofs.MenuLemmas.{menu_of-contains}
use Rattle.fux_judge.specs.Penalties.{has_strict_break, newly_broken}
use Rattle.fux_judge.specs.Rules.{is_read, rules_read}
use Rattle.penalty_sheet.specs.declared.sheet.Sheet.{Sheet}
use Rattle.rule_law.specs.Growth.{any_below, any_below-list_any}
use Rattle.rule_law.specs.Prefixes.{IsPrefix}

-- ---- breaks

-- each rule of the list is read
all_read : list_all is_read rules_read ≡ true
unfolding rules_read
all_read = refl

read-any : (test : ℕ → Bool) (xs : List ℕ) → list_all is_read xs ≡ true
    → list_any (λ rule. is_read rule && test rule) xs ≡ list_any test xs
read-any test [] h = refl
read-any test (x ∷ xs) h =
    let parts = and_parts (is_read x) (list_all is_read xs) h in
    ap (λ b. (b && test x) || list_any (λ rule. is_read rule && test rule) xs) parts.0
    ∙ ap (λ b. test x || b) (read-any test xs parts.1)

-- where no rule is found broken, no strict break is settled
pub unbroken_if_none : (ex : Exercise) (p : List (List Cell)) → least_break ex p ≡ None → has_strict_break ex p ≡ false
unbroken_if_none ex p h =
    any_below-list_any (λ rule k. newly_broken ex (take k p) (slice_index_or p k []) rule) rules_read (length p)
    ∙ sym (read-any (λ rule. any_below (λ k. newly_broken ex (take k p) (slice_index_or p k []) rule) (length p))
    rules_read all_read)
    ∙ none_found (has_break_of ex p) rules_read h

-- ---- heads

pub sound : (ex : Exercise) (sheet : Sheet) (head : CertHead) → Holds ex sheet head → IsHeadSound ex sheet head
sound ex sheet Nothing holds = tt
sound ex sheet (Best penalty score) holds = (holds.0.lawful, holds.1)

-- ---- claims

module _ (ex : Exercise) (IsTrueOf : List (List Cell) → Claim → Type 0) (own : List (List Cell) → Claim)
    (own_true : (p : List (List Cell)) → IsPrefix ex p → IsTrueOf p (own p))
    (open_few : (p : List (List Cell)) → IsTrueOf p Open → length p < columns_in ex) where
  -- the prefixes, with the claims that are true of them by this
  abbrev prefix_tree : Tree (List (List Cell)) Claim
  prefix_tree = record { IsTrueOf = IsTrueOf; is_open = is_open; longer = longer_prefixes ex }

  -- a prefix with so many columns still to come
  record IsPrefixBefore (count : ℕ) (p : List (List Cell)) : Type 0 where
    pub prefix : IsPrefix ex p
    pub size : length p + count ≡ columns_in ex

  longer : (count : ℕ) (p : List (List Cell)) (col : List Cell) → IsPrefixBefore (suc count) p
      → IsInMenu ex (length p) col → ColumnFollows (newest_column (reverse p)) col
      → IsPrefixBefore count (p ++ col ∷ [])
  longer count p col before chosen follows =
      let size : length (p ++ col ∷ []) ≡ length p + 1 = length-append p (col ∷ []) in
      record {
        prefix = prefix-push ex p col before.prefix (omega (arith, before.size)) chosen follows;
        size = omega (arith, size, before.size);
      }

  all_longer : (count : ℕ) (p : List (List Cell)) → IsPrefixBefore (suc count) p → (cols : List (List Cell))
      → AllByRecursion (IsInMenu ex (length p)) cols
      → AllByRecursion (IsPrefixBefore count)
      (map (λ c. p ++ c ∷ []) (filter (column_follows (newest_column (reverse p))) cols))
  all_longer count p before [] chosen = tt
  all_longer count p before (col ∷ cols) chosen =
      at (cases_Bool (column_follows (newest_column (reverse p)) col)) (all_longer count p before cols chosen.1)
    where
      at : (column_follows (newest_column (reverse p)) col ≡ true)
          ⊎ (column_follows (newest_column (reverse p)) col ≡ false)
          → AllByRecursion (IsPrefixBefore count)
          (map (λ c. p ++ c ∷ []) (filter (column_follows (newest_column (reverse p))) cols))
          → AllByRecursion (IsPrefixBefore count)
          (map (λ c. p ++ c ∷ []) (filter (column_follows (newest_column (reverse p))) (col ∷ cols)))
      at (inl t) later =
          rw t (longer count p col before chosen.0 ((column_follows_is (newest_column (reverse p)) col).0 t), later)
      at (inr f) later = rw f later

  each_longer : (count : ℕ) (p : List (List Cell)) → IsPrefixBefore (suc count) p
      → AllByRecursion (IsPrefixBefore count) (longer_prefixes ex p)
  each_longer count p before =
      all_longer count p before (menu_of ex (length p))
      (recursion_from_All (IsInMenu ex (length p)) (menu_of ex (length p))
      (λ k d h. (menu_of-contains ex (length p) (slice_index_or (menu_of ex (length p)) k d)).0
      (Contains-get_or (menu_of ex (length p)) k d h)))

  closed : (p : List (List Cell)) (claim : Claim) → columns_in ex ≤ length p → IsTrueOf p claim
      → is_open claim ≡ false
  closed p Open whole h = let few = open_few p h in absurd (omega (arith, whole, few))
  closed p (Broken rule) whole h = refl
  closed p NoChain whole h = refl
  closed p Floor whole h = refl
  closed p TheScore whole h = refl

  pub owed_are_true : AreTrueFrom prefix_tree own (columns_in ex) []
  owed_are_true =
      let empty : IsPrefix ex [] = record { few = omega arith; menus = λ i h. absurd (omega arith); follows = tt } in
      true_from prefix_tree own IsPrefixBefore (λ count p before. own_true p before.prefix)
      (λ p before. closed p (own p) (omega (arith, before.size)) (own_true p before.prefix)) each_longer (columns_in ex) []
      record { prefix = empty; size = omega arith }
