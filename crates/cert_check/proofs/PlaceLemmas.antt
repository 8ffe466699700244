-- Each number of an entry has one place (`place_is_one`), and each place one within the count
-- (`number_within`). The numbers are small (`few_numbers`).
use Rattle.std.proofs.Common.{◌≡◌, ◌⊎◌, inl, inr, ℕ, zero, suc, ◌+◌, ◌^◌, ◌<◌, ◌≤◌, length, sym, ap, subst, arith}
use Rattle.std.proofs.lemmas.Bool.{cases_lt}
use Rattle.cert_check.specs.declared.menus.Menus.{Menus}
use Rattle.cert_check.specs.Menus.{AreMenus}
use Rattle.cert_law.specs.Entries.{columns_before}
use Rattle.fux_grid.specs.declared.exercise.Exercise.{Exercise}
use Rattle.fux_grid.specs.Exercises.{IsValid, columns_in}
use Rattle.fux_grid.specs.Menus.{menu_of}

module _ (ex : Exercise) where
  grows : (i j : ℕ) → i ≤ j → columns_before ex i ≤ columns_before ex j
  grows i zero h = let none : i ≡ 0 = omega (arith, h) in
      subst (λ (n : ℕ). columns_before ex n ≤ 0) (sym none) (omega arith)
  grows i (suc j) h = at (cases_lt j i) (grows i j)
    where
      at : (j < i) ⊎ (i ≤ j) → (i ≤ j → columns_before ex i ≤ columns_before ex j)
          → columns_before ex i ≤ columns_before ex (suc j)
      at (inl over) shorter = let same : suc j ≡ i = omega (arith, over, h) in
          subst (λ (n : ℕ). columns_before ex n ≤ columns_before ex (suc j)) same (omega arith)
      at (inr below) shorter = omega (arith, shorter below)

  -- the columns of an earlier place come before those of a later one
  earlier : (i k j l : ℕ) → k < length (menu_of ex i) → i < j → columns_before ex i + k < columns_before ex j + l
  earlier i k j l within before = omega (arith, within, grows (suc i) j before)

  pub place_is_one : (i k j l : ℕ) → k < length (menu_of ex i) → l < length (menu_of ex j)
      → columns_before ex i + k ≡ columns_before ex j + l → (i ≡ j) × (k ≡ l)
  place_is_one i k j l within short same = at (cases_lt i j) (cases_lt j i)
    where
      at : (i < j) ⊎ (j ≤ i) → (j < i) ⊎ (i ≤ j) → (i ≡ j) × (k ≡ l)
      at (inl less) other = absurd (omega (arith, same, earlier i k j l within less))
      at (inr most) (inl less) = absurd (omega (arith, same, earlier j l i k short less))
      at (inr most) (inr least) =
          let here : i ≡ j = omega (arith, most, least) in
          (here, omega (arith, same, ap (columns_before ex) here))

  pub number_within : (i k : ℕ) → i < columns_in ex → k < length (menu_of ex i)
      → columns_before ex i + k < columns_before ex (columns_in ex)
  number_within i k here within = omega (arith, within, grows (suc i) (columns_in ex) here)

  pub few_numbers : (menus : Menus) → IsValid ex → AreMenus ex menus → (i k : ℕ) → i < columns_in ex
      → k < length (menu_of ex i) → 1 + columns_before ex i + k < 2 ^ 32
  few_numbers menus valid are i k here within =
      omega (arith, number_within i k here within, are.total, are.few, valid.most_bars)
