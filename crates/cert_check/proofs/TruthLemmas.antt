-- The entry of a number is true where that of its place is (`entry_at_place`), and the first one
-- that isn't true is found by numbers (`found_of`).
use Rattle.std.proofs.Common.{◌≡◌, ℕ, suc, ◌+◌, ◌<◌, Option, Some, None, List, length, refl, subst, arith}
use Rattle.std.specs.Prelude.{◌↔◌, Bool, IsTrue, Result, Ok, Err, IfOk}
use Rattle.cert_check.specs.Boards.{IsTrueAt}
use Rattle.cert_check.specs.Listings.{Listing, TellsFirstFalse}
use Rattle.cert_check.proofs.PlaceLemmas.{number_within, place_is_one}
use Rattle.cert_law.specs.Entries.{AreTrueEntries, IsTrueBefore, IsTrueEntry, columns_before, entry_at, entry_count, entry_of, menu_column}
use Rattle.cert_text.specs.declared.potential.Potential.{Potential}
use Rattle.cert_check.specs.First.{IsFirstFailing}
use Rattle.fux_grid.specs.declared.cell.Cell.{Cell}
use Rattle.fux_grid.specs.declared.exercise.Exercise.{Exercise}
use Rattle.fux_grid.specs.Exercises.{columns_in}
use Rattle.fux_grid.specs.Menus.{menu_of}
use Rattle.penalty_sheet.specs.declared.sheet.Sheet.{Sheet}

module _ (ex : Exercise) (sheet : Sheet) (entries : List Potential) where
  pub entry_at_place : (n i k : ℕ) → n ≡ 1 + (columns_before ex i + k) → k < length (menu_of ex i)
      → IsTrueAt ex sheet entries i k ↔ IsTrueEntry ex sheet entries n
  entry_at_place n i k is within = (
    λ here. record {
      start = λ none. absurd (omega (arith, none, is));
      each = λ j l e later short.
          let one = place_is_one ex i k j l within short (omega (arith, is, e)) in
          (moved here j l one.0 one.1).each later;
      last = λ j l e end short.
          let one = place_is_one ex i k j l within short (omega (arith, is, e)) in
          (moved here j l one.0 one.1).last end;
    },
    λ entry. record {
      each = λ later. entry.each i k (omega (arith, is)) later within;
      last = λ end. entry.last i k (omega (arith, is)) end within;
    },
  )
    where
      moved : IsTrueAt ex sheet entries i k → (j l : ℕ) → i ≡ j → k ≡ l → IsTrueAt ex sheet entries j l
      moved here j l place number =
          subst (λ (m : ℕ). IsTrueAt ex sheet entries m l) place
          (subst (λ (m : ℕ). IsTrueAt ex sheet entries i m) number here)

  -- the entry of a column that isn't of the last place, by a test of it before the next place
  pub true_behind : (i k j : ℕ) (col : List Cell) (entry : Potential) (test : Bool) → j ≡ suc i → suc i < columns_in ex
      → col ≡ menu_column ex i k → entry ≡ entry_of ex entries i k
      → IsTrue test ↔ IsTrueBefore ex sheet entries j (Some col) entry
      → IsTrue test ↔ IsTrueAt ex sheet entries i k
  true_behind i k j col entry test place later column own tells =
      let here =
      subst (λ (n : ℕ). IsTrue test ↔ IsTrueBefore ex sheet entries n (Some (menu_column ex i k)) (entry_of ex entries i k)) place
      (subst (λ (c : List Cell). IsTrue test ↔ IsTrueBefore ex sheet entries j (Some c) (entry_of ex entries i k)) column
      (subst (λ (e : Potential). IsTrue test ↔ IsTrueBefore ex sheet entries j (Some col) e) own tells)) in (
        λ is. record { each = λ within. here.0 is; last = λ end. absurd (omega (arith, end, later)) },
        λ at. here.1 (at.each later),
      )

  pub entry_at_start : IsTrueBefore ex sheet entries 0 None (entry_at entries 0) ↔ IsTrueEntry ex sheet entries 0
  entry_at_start = (
    λ here. record {
      start = λ none. here;
      each = λ i k e later within. absurd (omega (arith, e));
      last = λ i k e end within. absurd (omega (arith, e));
    },
    λ entry. entry.start refl,
  )

  all_true : length entries ≡ entry_count ex → ((n : ℕ) → n < entry_count ex → IsTrueEntry ex sheet entries n)
      → AreTrueEntries ex sheet entries
  all_true whole all = record {
    whole = whole;
    start = (all 0 (omega arith)).start refl;
    each = λ i k later within.
        (all (1 + columns_before ex i + k) (omega (arith, number_within ex i k (omega (arith, later)) within))).each
        i k refl later within;
    last = λ i k end within.
        (all (1 + columns_before ex i + k) (omega (arith, number_within ex i k (omega (arith, end)) within))).last
        i k refl end within;
  }

first_false_of : (it : Listing) (found : Option ℕ) → length it.entries ≡ entry_count it.exercise
    → IsFirstFailing (IsTrueEntry it.exercise it.sheet it.entries) (entry_count it.exercise) found
    → TellsFirstFalse it found
first_false_of it None whole all = all_true it.exercise it.sheet it.entries whole all
first_false_of it (Some n) whole first =
    record { whole = whole; within = first.0; untrue = first.1; before = first.2 }

pub found_of : {E : Type 0} (it : Listing) (found : Result (Option ℕ) E) → length it.entries ≡ entry_count it.exercise
    → IfOk found (IsFirstFailing (IsTrueEntry it.exercise it.sheet it.entries) (entry_count it.exercise))
    → IfOk found (TellsFirstFalse it)
found_of it (Ok found) whole is = first_false_of it found whole is
found_of it (Err fault) whole is = tt
