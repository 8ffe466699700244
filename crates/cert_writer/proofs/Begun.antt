-- Lines so far may be stated: one list (`plain_states`), a line behind others (`put_states`), and all
-- at the end (`done_states`).
use Rattle.std.proofs.Common.{◌≡◌, ◌⊎◌, inl, inr, ℕ, ◌+◌, ◌-◌, ◌*◌, ◌<◌, ◌≤◌, nat_lt, Bool, true, false, List, [], ◌∷◌, ◌++◌, Some, None, if◌then◌else◌, map, option_map, refl, ap, sym, ◌∙◌, subst, arith}
use Rattle.std.proofs.lemmas.Bool.{cases_Bool, ltb-true}
use Rattle.std.specs.Bool.{OnTrue}
use Rattle.std.specs.List.{AllByRecursion}
use Rattle.fux_grid.specs.declared.exercise.Exercise.{Exercise}
use Rattle.penalty_sheet.specs.declared.sheet.Sheet.{Sheet}
use Rattle.penalty_sheet.specs.Weights.{weight_of}
use Rattle.price_check.specs.Stated.{first_above, prices_in}
use Rattle.price_check.specs.declared.line.Before.{Before}
use Rattle.price_check.specs.declared.line.PriceLine.{PriceLine}
use Rattle.price_check.specs.Lists.{AreLinesOf, is_last}
use Rattle.price_check.specs.PriceLines.{Keeps, Cases, Price, Claims, AreFalling, Fits, Line, after, line_of, nothing_before}
use Rattle.price_check.proofs.WholeLists.{lists_few}
use Rattle.priced_floors.specs.declared.charges.TheConstants.{SCALE}
use Rattle.cert_writer.specs.declared.stating.Stating.{Stating}
use Rattle.cert_writer.specs.Stating.{AreBegun, CanBeStated, IsStating, IsWithin, behind}

module _ (ex : Exercise) where
  pub begun-more : (before : Before) (lines : List Line) (line : Line) → AreBegun ex before lines
      → Fits ex (behind before lines) line → is_last line ≡ false → AreBegun ex before (lines ++ line ∷ [])
  begun-more before [] line begun fits last = (fits, last, tt)
  begun-more before (one ∷ lines) line begun fits last =
      (begun.0, begun.1, begun-more (after before one) lines line begun.2 fits last)

  pub behind-more : (before : Before) (lines : List Line) (line : Line)
      → behind before (lines ++ line ∷ []) ≡ after (behind before lines) line
  behind-more before [] line = refl
  behind-more before (one ∷ lines) line = behind-more (after before one) lines line

  pub lists_from_begun : (before : Before) (lines : List Line) → AreBegun ex before lines
      → 0 < (behind before lines).lists → AreLinesOf ex before lines
  lists_from_begun before [] begun some = some
  lists_from_begun before (one ∷ lines) begun some =
      (begun.0, begun.1, lists_from_begun (after before one) lines begun.2 some)

  -- so many lists at least
  pub no_fewer : (before : Before) (line : Line) → before.lists ≤ (after before line).lists
  no_fewer before (Keeps turns runs) = omega arith
  no_fewer before (Cases voice keys) = omega arith
  no_fewer before (Price case voice pitch number) = omega arith
  no_fewer before Claims = omega arith

pub all-more : {A : Type 0} (P : A → Type 0) (xs : List A) (x : A) → AllByRecursion P xs → P x
    → AllByRecursion P (xs ++ x ∷ [])
all-more P [] x all p = (p, tt)
all-more P (y ∷ ys) x all p = (all.0, all-more P ys x all.1 p)

-- a key in front of keys that fall from below it
pub falling_more : (b : Bool) (high most key : ℕ) (keys all : List ℕ) → all ≡ key ∷ keys → key < high → 1 ≤ most
    → OnTrue b (AreFalling key (most - 1) keys) → OnTrue b (AreFalling high most all)
falling_more true high most key keys all is low some falls =
    subst (λ (ks : List ℕ). AreFalling high most ks) (sym is) (low, some, falls)
falling_more false high most key keys all is low some falls = tt

-- ---- lines so far

-- what is no higher than a number is no higher than a greater one
pub within_more : (a b : ℕ) (line : Line) → a ≤ b → IsWithin a line → IsWithin b line
within_more a b (Keeps turns runs) more within = tt
within_more a b (Cases voice keys) more within = tt
within_more a b (Price case voice pitch number) more within = omega (arith, more, within)
within_more a b Claims more within = tt

-- a line alone
pub one_line : (all none : List PriceLine) (line : PriceLine) → all ≡ none ++ line ∷ [] → none ≡ []
    → map line_of all ≡ line_of line ∷ []
one_line all none line is empty = ap (map line_of) (is ∙ ap (λ ls. ls ++ line ∷ []) empty)

-- and where no price is above a number, none is the first that is
not_below : (most number : ℕ) → number ≤ most → nat_lt most number ≡ false
not_below most number low = by (cases_Bool (nat_lt most number))
  where
    by : (nat_lt most number ≡ true) ⊎ (nat_lt most number ≡ false) → nat_lt most number ≡ false
    by (inl more) = let above : most < number = ltb-true most number more in absurd (omega (arith, above, low))
    by (inr few) = few

due_from_within : (most : ℕ) (lines : List Line) → AllByRecursion (IsWithin most) lines
    → first_above most (prices_in lines) ≡ None
due_from_within most [] all = refl
due_from_within most (Keeps turns runs ∷ lines) all = due_from_within most lines all.1
due_from_within most (Cases voice keys ∷ lines) all = due_from_within most lines all.1
due_from_within most (Price case voice pitch number ∷ lines) all =
    ap (λ b. if b then Some 0 else option_map (λ n. n + 1) (first_above most (prices_in lines)))
    (not_below most number all.0)
    ∙ ap (option_map (λ n. n + 1)) (due_from_within most lines all.1)
due_from_within most (Claims ∷ lines) all = due_from_within most lines all.1

module _ (ex : Exercise) (sheet : Sheet) where
  pub plain_states : (turns runs : Bool) (stating : Stating) → map line_of stating.lines.items ≡ Keeps turns runs ∷ []
      → stating.before ≡ after nothing_before (Keeps turns runs) → IsStating ex sheet stating
  plain_states turns runs stating items before = record {
    begun = subst (λ (ls : List Line). AreBegun ex nothing_before ls) (sym items) (omega arith, refl, tt);
    within = subst (AllByRecursion (IsWithin (SCALE * weight_of sheet 20))) (sym items) (tt, tt);
    before = before ∙ sym (ap (behind nothing_before) items);
    some = subst (λ (b : Before). 0 < b.lists) (sym before) (omega arith);
    few = subst (λ (b : Before). b.lists ≤ 8) (sym before) (omega arith);
  }

  pub put_states : (old new : Stating) (line : Line) → IsStating ex sheet old
      → map line_of new.lines.items ≡ map line_of old.lines.items ++ line ∷ [] → new.before ≡ after old.before line
      → Fits ex old.before line → is_last line ≡ false → IsWithin (SCALE * weight_of sheet 20) line
      → IsStating ex sheet new
  put_states old new line is items before fits last within =
      let lines = map line_of old.lines.items in
      record {
        begun = subst (λ (ls : List Line). AreBegun ex nothing_before ls) (sym items)
            (begun-more ex nothing_before lines line is.begun (subst (λ (b : Before). Fits ex b line) is.before fits) last);
        within = subst (AllByRecursion (IsWithin (SCALE * weight_of sheet 20))) (sym items)
            (all-more (IsWithin (SCALE * weight_of sheet 20)) lines line is.within within);
        before = before ∙ ap (λ b. after b line) is.before ∙ sym (behind-more ex nothing_before lines line)
            ∙ sym (ap (behind nothing_before) items);
        some = subst (λ (b : Before). 0 < b.lists) (sym before) (omega (arith, no_fewer ex old.before line, is.some));
        few = subst (λ (b : Before). b.lists ≤ 8) (sym before) (lists_few ex old.before line fits is.few);
      }

  pub done_states : (stating : Stating) → IsStating ex sheet stating → CanBeStated ex sheet (map line_of stating.lines.items)
  done_states stating is = record {
    lists = lists_from_begun ex nothing_before (map line_of stating.lines.items) is.begun
        (subst (λ (b : Before). 0 < b.lists) is.before is.some);
    due = due_from_within (SCALE * weight_of sheet 20) (map line_of stating.lines.items) is.within;
  }
