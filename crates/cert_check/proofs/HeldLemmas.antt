-- In a menu whose columns hold all they sound at most one follows a column (`follower_is_one`); so
-- an entry is true before it where it allows the sum through that one (`true_by_one`).
use Rattle.std.proofs.Common.{◌≡◌, ◌⊎◌, inl, inr, ℕ, suc, ◌<◌, ◌≤◌, Bool, true, false, List, [], ◌∷◌, Option, Some, None, length, refl, sym, ap, ◌∙◌, subst, arith}
use Rattle.std.specs.Prelude.{◌↔◌, IsTrue, if◌then◌else◌}
use Rattle.std.specs.List.{list_all}
use Rattle.std.specs.declared.cmp.Ordering.{Ordering}
use Rattle.std.specs.declared.cmp.Ordering.TheVariants.{Less, Equal, Greater}
use Rattle.std.proofs.lemmas.Bool.{and_parts, cases_lt}
use Rattle.std.proofs.lemmas.List.Elements.{Contains-get_or}
use Rattle.fux_pitch.proofs.PitchLemmas.{equal_from_test}
use Rattle.cert_check.specs.Boards.{FollowsAlone}
use Rattle.cert_law.specs.Entries.{AllowsSum, IsTrueBefore, entry_of, menu_column, number_in, sum_through}
use Rattle.cert_text.specs.declared.potential.Potential.{Potential}
use Rattle.cert_text.specs.declared.potential.Potential.TheVariants.{Least, NoChain}
use Rattle.chain_sums.specs.Chains.{plus}
use Rattle.chain_sums.specs.Still.{IsStill, all_hold}
use Rattle.chain_sums.specs.Sums.{column_follows}
use Rattle.chain_sums.proofs.SumLemmas.{column_follows_is}
use Rattle.fux_grid.specs.declared.cell.Cell.{Cell}
use Rattle.fux_grid.specs.declared.cell.Cell.TheVariants.{Rest, Hold, Start}
use Rattle.fux_grid.specs.declared.exercise.Exercise.{Exercise}
use Rattle.fux_grid.specs.Cells.{cell_follows, is_hold}
use Rattle.fux_grid.specs.Columns.{ColumnFollows}
use Rattle.fux_grid.specs.Menus.{menu_of}
use Rattle.fux_grid.specs.Order.{column_order}
use Rattle.fux_grid.proofs.MenuLemmas.{menu_of-ascends, menu_of-contains}
use Rattle.fux_grid.proofs.OrderLemmas.{column_order-itself}
use Rattle.fux_judge.specs.Links.{link_of}
use Rattle.penalty_sheet.specs.declared.sheet.Sheet.{Sheet}

one_cell : (b c d : Cell) → cell_follows b c ≡ true → cell_follows b d ≡ true → is_hold c ≡ true → is_hold d ≡ true
    → c ≡ d
one_cell b Rest d f g h k = cc
one_cell b (Start p) d f g h k = cc
one_cell b (Hold p) Rest f g h k = cc
one_cell b (Hold p) (Start q) f g h k = cc
one_cell Rest (Hold p) (Hold q) f g h k = cc
one_cell (Hold r) (Hold p) (Hold q) f g h k = ap Hold (sym (equal_from_test r p f) ∙ equal_from_test r q g)
one_cell (Start r) (Hold p) (Hold q) f g h k = ap Hold (sym (equal_from_test r p f) ∙ equal_from_test r q g)

one_column : (before c d : List Cell) → length c ≡ length d → ColumnFollows before c → ColumnFollows before d
    → all_hold c ≡ true → all_hold d ≡ true → c ≡ d
one_column before [] [] e f g h k = refl
one_column before [] (y ∷ d) e f g h k = absurd (omega (arith, e))
one_column before (x ∷ c) [] e f g h k = absurd (omega (arith, e))
one_column [] (x ∷ c) (y ∷ d) e f g h k =
    let hc = and_parts (is_hold x) (list_all is_hold c) h in
    let hd = and_parts (is_hold y) (list_all is_hold d) k in
    ap (λ z. z ∷ c) (one_cell Rest x y (f 0) (g 0) hc.0 hd.0)
    ∙ ap (λ cells. y ∷ cells) (one_column [] c d (omega (arith, e)) (λ v. f (suc v)) (λ v. g (suc v)) hc.1 hd.1)
one_column (b ∷ before) (x ∷ c) (y ∷ d) e f g h k =
    let hc = and_parts (is_hold x) (list_all is_hold c) h in
    let hd = and_parts (is_hold y) (list_all is_hold d) k in
    ap (λ z. z ∷ c) (one_cell b x y (f 0) (g 0) hc.0 hd.0)
    ∙ ap (λ cells. y ∷ cells) (one_column before c d (omega (arith, e)) (λ v. f (suc v)) (λ v. g (suc v)) hc.1 hd.1)

unequal : (o : Ordering) → o ≡ Less → o ≡ Equal → ⊥
unequal Less l e = cc
unequal Equal l e = cc
unequal Greater l e = cc

module _ (ex : Exercise) (i : ℕ) where
  full : (k : ℕ) → k < length (menu_of ex i) → length (menu_column ex i k) ≡ ex.voices
  full k within = ((menu_of-contains ex i (menu_column ex i k)).0 (Contains-get_or (menu_of ex i) k [] within)).full

  ordered : (j k : ℕ) → j < k → k < length (menu_of ex i) → menu_column ex i j ≡ menu_column ex i k → ⊥
  ordered j k before within same =
      unequal (column_order (menu_column ex i j) (menu_column ex i k)) (menu_of-ascends ex i j k [] before within)
      (ap (λ c. column_order c (menu_column ex i k)) same ∙ column_order-itself (menu_column ex i k))

  one_number : (j k : ℕ) → j < length (menu_of ex i) → k < length (menu_of ex i) → menu_column ex i j ≡ menu_column ex i k
      → j ≡ k
  one_number j k short within same = at (cases_lt j k) (cases_lt k j)
    where
      at : (j < k) ⊎ (k ≤ j) → (k < j) ⊎ (j ≤ k) → j ≡ k
      at (inl less) other = absurd (ordered j k less within same)
      at (inr most) (inl less) = absurd (ordered k j less short (sym same))
      at (inr most) (inr least) = omega (arith, most, least)

  pub follower_is_one : (before next : List Cell) (k : ℕ) → IsStill (menu_of ex i) → k < length (menu_of ex i)
      → next ≡ menu_column ex i k → ColumnFollows before next → FollowsAlone ex i before k
  follower_is_one before next k still within is follows = record {
    within = within;
    alone = λ j short test.
        one_number j k short within
        (one_column before (menu_column ex i j) (menu_column ex i k) (full j short ∙ sym (full k within))
        ((column_follows_is before (menu_column ex i j)).0 test)
        (subst (λ (c : List Cell). ColumnFollows before c) is follows) (still j short) (still k within));
  }

allows_nothing : (entry : Potential) → AllowsSum entry None
allows_nothing (Least n) = tt
allows_nothing NoChain = refl

module _ (ex : Exercise) (sheet : Sheet) (entries : List Potential) (i : ℕ) (before : List Cell) (entry : Potential) where
  allows_other : (j : ℕ) (b : Bool) → column_follows before (menu_column ex i j) ≡ b
      → (b ≡ true → AllowsSum entry (sum_through ex sheet entries i (Some before) j))
      → AllowsSum entry (sum_through ex sheet entries i (Some before) j)
  allows_other j true e here = here refl
  allows_other j false e here =
      subst (λ (s : Option ℕ). AllowsSum entry s)
      (sym (ap (λ (t : Bool). if t then plus (link_of ex sheet i (Some before) (menu_column ex i j))
      (number_in (entry_of ex entries i j)) else None) e))
      (allows_nothing entry)

  pub true_by_one : (k : ℕ) (test : Bool) → FollowsAlone ex i before k
      → IsTrue test ↔ AllowsSum entry (sum_through ex sheet entries i (Some before) k)
      → IsTrue test ↔ IsTrueBefore ex sheet entries i (Some before) entry
  true_by_one k test alone tells = (
    λ is j short.
        allows_other j (column_follows before (menu_column ex i j)) refl
        (λ follows.
        subst (λ (n : ℕ). AllowsSum entry (sum_through ex sheet entries i (Some before) n))
        (sym (alone.alone j short follows)) (tells.0 is)),
    λ all. tells.1 (all k alone.within),
  )
