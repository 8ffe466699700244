-- A prefix in which no strict break is settled is orderly (`alive_orderly`), so what is settled in
-- it is what is settled in the list itself (`agree`). Of a setting no strict break is settled where
-- none is broken (`alive_if_unbroken`, `unbroken_if_alive`), and what is paid of it is its penalty
-- (`paid_at_end`).
use Rattle.std.specs.Prelude.{◌≡◌, ℕ, zero, suc, ◌+◌, ◌-◌, ◌*◌, ◌/◌, ◌^◌, ◌<◌, ◌≤◌, ◌==◌, Bool, true, false, ◌&&◌, ◌||◌, List, [], ◌∷◌, ◌++◌, length, reverse, slice_index_or, refl}
use Rattle.std.specs.List.{list_any}
use Rattle.std.proofs.Common.{ap, sym, ◌∙◌, subst, arith}
use Rattle.std.proofs.Math.ListN.{get_or-append}
use Rattle.std.proofs.lemmas.Bool.{eq-eqb, eqb-true, or_parts}
use Rattle.std.proofs.lemmas.List.{length-append, reverse-append, reverse-reverse}
use Rattle.fux_grid.specs.declared.cell.Cell.{Cell}
use Rattle.fux_grid.specs.declared.exercise.Exercise.{Exercise}
use Rattle.fux_grid.specs.Columns.{HistoryFollows}
use Rattle.fux_grid.specs.Menus.{IsInMenu}
use Rattle.fux_grid.specs.Orderly.{IsOrderly}
use Rattle.fux_grid.proofs.Histories.{reverse-push}
use Rattle.fux_grid.proofs.OrderlyLemmas.{orderly-fewer}
use Rattle.rule_law.specs.Prefixes.{GoesOn, IsPrefix, IsSetting}
use Rattle.rhythm_cadence.proofs.Locality.{rhythm_breaks, rhythm_settles}
use Rattle.rhythm_cadence.specs.Parts.{newest_start}
use Rattle.rhythm_cadence.proofs.OrderlyReadings.{newly_broken as newly_out_of_shape, orderly-step, unbroken-orderly}
use Rattle.penalty_sheet.specs.declared.sheet.Sheet.{Sheet}
use Rattle.fux_judge.specs.Rules.{rules_read, all_sets, rule_at, is_broken}
use Rattle.rule_law.specs.Forms as forms
use Rattle.rule_law.specs.Growth.{newly}
use Rattle.fux_judge.specs.Penalties.{has_strict_break, has_break_settled_in, newly_broken, newly_broken_at, newly_paid, paid, charges_settled_in, charges_of, is_strict_at}
use Rattle.fux_judge.specs.Lawful.{breaks_strictly}
use Rattle.fux_judge.proofs.Ends.{none_below, unbroken_if_none_settled, none_settled_if_unbroken, settled_at_end}
use Rattle.fux_judge.proofs.Grows.{strict_break_grows, paid_grows, break_settled_grows, charges_settled_grow}

-- a prefix without its last column, and with a column more
pub prefix_before : (ex : Exercise) (p : List (List Cell)) (col : List Cell) → IsPrefix ex (p ++ col ∷ [])
    → IsPrefix ex p
prefix_before ex p col longer =
    let size : length (p ++ col ∷ []) ≡ length p + 1 = length-append p (col ∷ []) in
    let H : List (List Cell) → Type 0 = λ h. HistoryFollows h in
    record {
      few = omega (arith, size, longer.few);
      menus = λ i h. let M : List Cell → Type 0 = λ c. IsInMenu ex i c in
          subst M (get_or-append p (col ∷ []) [] i h) (longer.menus i (omega (arith, size)));
      follows = (subst H (reverse-push p col) longer.follows).1;
    }

-- where no element of a list passes, the one at a place doesn't
not_any : {X : Type 0} (f : X → Bool) (xs : List X) (d : X) → list_any f xs ≡ false → (k : ℕ) → k < length xs
    → f (slice_index_or xs k d) ≡ false
not_any f [] d h k lt = absurd (omega arith)
not_any f (x ∷ xs) d h zero lt = (or_parts (f x) (list_any f xs) h).0
not_any f (x ∷ xs) d h (suc k) lt = not_any f xs d (or_parts (f x) (list_any f xs) h).1 k (omega arith)

-- nor does one that is among them
not_this : (f : ℕ → Bool) (n : ℕ) (xs : List ℕ) → list_any f xs ≡ false → list_any (λ x. n == x) xs ≡ true → f n ≡ false
not_this f n [] h there = cc
not_this f n (x ∷ xs) h there = at (n == x) refl there (or_parts (f x) (list_any f xs) h) (not_this f n xs)
  where
    at : (b : Bool) → (n == x) ≡ b → (b || list_any (λ y. n == y) xs) ≡ true → (f x ≡ false) × (list_any f xs ≡ false)
        → (list_any f xs ≡ false → list_any (λ y. n == y) xs ≡ true → f n ≡ false) → f n ≡ false
    at true e m both later = ap f (eqb-true n x e) ∙ both.0
    at false e m both later = later both.1 m

-- the rule of shapes is read
rule_three : (f : ℕ → Bool) → list_any f rules_read ≡ false → f 3 ≡ false
unfolding rules_read
rule_three f h = not_this f 3 rules_read h refl

-- each voice alone is one of the sets
one_voice : (f : ℕ → Bool) → list_any f all_sets ≡ false → (v : ℕ) → v < 4 → f (2 ^ v) ≡ false
unfolding forms.all_sets
one_voice f h zero lt = not_any f all_sets 0 h 0 (omega arith)
one_voice f h (suc zero) lt = not_any f all_sets 0 h 1 (omega arith)
one_voice f h (suc (suc zero)) lt = not_any f all_sets 0 h 3 (omega arith)
one_voice f h (suc (suc (suc zero))) lt = not_any f all_sets 0 h 7 (omega arith)
one_voice f h (suc (suc (suc (suc v)))) lt = absurd (omega arith)

both_strict : (n b : Bool) → (n && b && true) ≡ false → (n && b) ≡ false
both_strict true true h = h
both_strict true false h = refl
both_strict false b h = refl

module _ (ex : Exercise) (few : ex.voices ≤ 4) where
  -- where a column settles no break of S3 the list stays orderly
  pub in_shape : (p : List (List Cell)) (col : List Cell) → IsOrderly ex p → newly_broken ex p col 3 ≡ false
      → IsOrderly ex (p ++ col ∷ [])
  unfolding rule_at
  in_shape p col orderly h =
      orderly-step ex p col few orderly
      (λ v four.
      let start : ℕ = newest_start (p ++ col ∷ []) in
      let size : length (p ++ col ∷ []) ≡ length p + 1 = length-append p (col ∷ []) in
      let within : start < length p + 1 = starts (length p) (length (p ++ col ∷ [])) size in
      let none : newly_broken_at 3 ex (2 ^ v) p col start
      ≡ false = none_below (newly_broken_at 3 ex (2 ^ v) p col) (length p + 1) (one_voice _ h v four) start within
      in
      ap (λ b. b && rhythm_breaks 3 ex (2 ^ v) (p ++ col ∷ []) start) (sym (eq-eqb start start refl))
      ∙ sym (newly_out_of_shape ex p col orderly (2 ^ v) start)
      ∙ both_strict (newly (rhythm_settles 3 ex (2 ^ v)) p col start) (rhythm_breaks 3 ex (2 ^ v) (p ++ col ∷ []) start)
      none)
    where
      starts : (n m : ℕ) → m ≡ n + 1 → 8 * ((m - 1) / 8 + 1 - 1) < n + 1
      starts n m e = omega arith

  orderly_history : (h : List (List Cell)) → has_strict_break ex (reverse h) ≡ false → IsOrderly ex (reverse h)
  orderly_history [] alive = λ v bar free begun. absurd (omega (arith, begun.1))
  orderly_history (col ∷ h) alive =
      let longer : reverse (col ∷ h) ≡ reverse h ++ col ∷ [] = reverse-append (col ∷ []) h in
      let parts = or_parts (has_strict_break ex (reverse h)) (list_any (newly_broken ex (reverse h) col) rules_read)
      (sym (strict_break_grows ex (reverse h) col) ∙ sym (ap (has_strict_break ex) longer) ∙ alive) in
      let P : List (List Cell) → Type 0 = λ p. IsOrderly ex p in
      subst P (sym longer) (in_shape (reverse h) col (orderly_history h parts.0)
      (rule_three (newly_broken ex (reverse h) col) parts.1))

  pub alive_orderly : (p : List (List Cell)) → has_strict_break ex p ≡ false → IsOrderly ex p
  alive_orderly p alive =
      let P : List (List Cell) → Type 0 = λ q. IsOrderly ex q in
      subst P (reverse-reverse p) (orderly_history (reverse p) (ap (has_strict_break ex) (reverse-reverse p) ∙ alive))

-- what is settled in an orderly prefix is what is settled in the list itself
pub record Agrees (ex : Exercise) (p : List (List Cell)) : Type 0 where
  pub breaks : has_strict_break ex p ≡ has_break_settled_in ex p
  pub pays : (sheet : Sheet) → paid ex sheet p ≡ charges_settled_in ex sheet p

agree_history : (ex : Exercise) (h : List (List Cell)) → IsPrefix ex (reverse h) → IsOrderly ex (reverse h)
    → Agrees ex (reverse h)
agree_history ex [] prefix orderly = record { breaks = refl; pays = λ sheet. refl }
agree_history ex (col ∷ h) prefix orderly =
    let longer : reverse (col ∷ h) ≡ reverse h ++ col ∷ [] = reverse-append (col ∷ []) h in
    let O : List (List Cell) → Type 0 = λ p. IsOrderly ex p in
    let F : List (List Cell) → Type 0 = λ p. IsPrefix ex p in
    let A : List (List Cell) → Type 0 = λ p. Agrees ex p in
    let before : IsOrderly ex (reverse h) = orderly-fewer ex (reverse h) (col ∷ []) (subst O longer orderly) in
    let whole : IsPrefix ex (reverse h ++ col ∷ []) = subst F longer prefix in
    let rest : Agrees ex (reverse h) = agree_history ex h (prefix_before ex (reverse h) col whole) before in
    let on : GoesOn ex (reverse h) (col ∷ []) = record { orderly = before; longer = whole } in
    subst A (sym longer) record {
      breaks =
          strict_break_grows ex (reverse h) col
          ∙ ap (λ b. b || list_any (newly_broken ex (reverse h) col) rules_read) rest.breaks
          ∙ sym (break_settled_grows ex (reverse h) col on);
      pays = λ sheet.
          paid_grows ex (reverse h) col sheet ∙ ap (λ n. n + newly_paid ex sheet (reverse h) col) (rest.pays sheet)
          ∙ sym (charges_settled_grow ex sheet (reverse h) col on);
    }

pub agree : (ex : Exercise) (p : List (List Cell)) → IsPrefix ex p → IsOrderly ex p → Agrees ex p
agree ex p prefix orderly =
    let O : List (List Cell) → Type 0 = λ q. IsOrderly ex q in
    let F : List (List Cell) → Type 0 = λ q. IsPrefix ex q in
    let A : List (List Cell) → Type 0 = λ q. Agrees ex q in
    let back : p ≡ reverse (reverse p) = sym (reverse-reverse p) in
    subst A (reverse-reverse p) (agree_history ex (reverse p) (subst F back prefix) (subst O back orderly))

module _ (ex : Exercise) (few : ex.voices ≤ 4) (s : List (List Cell)) (setting : IsSetting ex s) where
  -- a setting in which no strict break is settled has none
  pub unbroken_if_alive : has_strict_break ex s ≡ false → (i : ℕ) → i < length s → breaks_strictly ex s i ≡ false
  unbroken_if_alive alive =
      unbroken_if_none_settled ex s setting.whole
      (sym (agree ex s setting.prefix (alive_orderly ex few s alive)).breaks ∙ alive)

  -- what is paid of it is its penalty
  pub paid_at_end : has_strict_break ex s ≡ false → (sheet : Sheet) → paid ex sheet s ≡ charges_of ex sheet s
  paid_at_end alive sheet =
      (agree ex s setting.prefix (alive_orderly ex few s alive)).pays sheet ∙ settled_at_end ex s setting.whole sheet

  unbroken_three : (voices i : ℕ) → (is_broken 3 ex voices s i && is_strict_at 3 ex voices i) ≡ false
      → rhythm_breaks 3 ex voices s i ≡ false
  unfolding rule_at
  unbroken_three voices i h = from (rhythm_breaks 3 ex voices s i) h
    where
      from : (b : Bool) → (b && true) ≡ false → b ≡ false
      from true e = e
      from false e = refl

  -- and where it has none, none is settled
  pub alive_if_unbroken : ((i : ℕ) → i < length s → breaks_strictly ex s i ≡ false) → has_strict_break ex s ≡ false
  alive_if_unbroken h =
      let orderly : IsOrderly ex s =
      unbroken-orderly ex s few
      (λ v bar four begun.
      unbroken_three (2 ^ v) (8 * (bar - 1))
      (one_voice (λ voices. is_broken 3 ex voices s (8 * (bar - 1)) && is_strict_at 3 ex voices (8 * (bar - 1)))
      (rule_three (λ rule. list_any (λ voices. is_broken rule ex voices s (8 * (bar - 1))
      && is_strict_at rule ex voices (8 * (bar - 1))) all_sets) (h (8 * (bar - 1)) begun.1)) v four)) in
      (agree ex s setting.prefix orderly).breaks ∙ none_settled_if_unbroken ex s setting.whole h
