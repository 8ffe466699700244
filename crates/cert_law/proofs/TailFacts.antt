-- By its tail each prefix that begins a lawful setting has a floor, which is at most the setting's
-- penalty (`tails_hold`): the tail is the least sum over chains, or a true entry, and that is at
-- most the least sum.
use Rattle.std.proofs.Common.{◌≡◌, ℕ, ◌+◌, ◌≤◌, ◌⊎◌, inl, inr, List, [], ◌∷◌, ◌++◌, Option, Some, None, length, refl, sym, subst, arith}
use Rattle.std.specs.Prelude.{IfSome, IsSomeAnd, option_map}
use Rattle.cert_text.specs.declared.potential.Potential.{Potential}
use Rattle.cert_law.specs.Entries.{AreTrueEntries, EntriesAreLow, IsLow, menu_column}
use Rattle.cert_law.specs.Tails.{number_of, tail_of, used_floor}
use Rattle.cert_law.proofs.EntryLemmas.{entries_are_low}
use Rattle.cert_law.proofs.FloorFacts.{floors_hold}
use Rattle.cert_law.proofs.TailLemmas.{HasLast, last_in_menu, last_or_none, last_place, number_found, stated-push, used-floor}
use Rattle.floor_tables.specs.Floors.{floor_of, rest_of}
use Rattle.floor_tables.proofs.RestLemmas.{last_column-push}
use Rattle.fux_grid.specs.declared.cell.Cell.{Cell}
use Rattle.fux_grid.specs.declared.exercise.Exercise.{Exercise}
use Rattle.fux_grid.specs.Exercises.{IsValid}
use Rattle.fux_grid.specs.Menus.{menu_of}
use Rattle.fux_judge.specs.Gauges.{least_of}
use Rattle.fux_judge.specs.Lawful.{IsLawful}
use Rattle.fux_judge.specs.Penalties.{paid, penalty_of}
use Rattle.penalty_sheet.specs.declared.sheet.Sheet.{Sheet}
use Rattle.rule_law.specs.Prefixes.{IsPrefix}
use Rattle.std.proofs.lemmas.List.{length-append}

pub record TailsHold (ex : Exercise) (sheet : Sheet) (stated : Option (List Potential)) : Type 0 where
  pub below : (p rest : List (List Cell)) → IsLawful ex (p ++ rest)
      → IsSomeAnd (used_floor ex sheet stated p) (λ floor. floor ≤ penalty_of ex sheet (p ++ rest))

-- the tail of a prefix by true entries is at most the least sum over the chains that go on
tail_is_low : (ex : Exercise) (sheet : Sheet) (entries : List Potential) → EntriesAreLow ex sheet entries
    → (p : List (List Cell)) → IsPrefix ex p → IsLow (tail_of ex sheet (Some entries) p) (rest_of ex sheet p)
tail_is_low ex sheet entries low p prefix = at (last_or_none p)
  where
    longer : (q : List (List Cell)) (col : List Cell) → IsPrefix ex (q ++ col ∷ [])
        → IsLow (tail_of ex sheet (Some entries) (q ++ col ∷ [])) (rest_of ex sheet (q ++ col ∷ []))
    longer q col whole =
        let found = number_found (menu_of ex (length q)) col (last_in_menu ex q col whole) in
        let k = number_of (menu_of ex (length q)) col in
        let it = menu_column ex (length q) k in
        let room = last_place ex q col whole in
        subst (λ (c : List Cell). IsLow (tail_of ex sheet (Some entries) (q ++ c ∷ [])) (rest_of ex sheet (q ++ c ∷ [])))
        found.1
        (subst (λ (tail : Option ℕ). IsLow tail (rest_of ex sheet (q ++ it ∷ [])))
        (sym (stated-push ex sheet entries q (length q) k refl found.0))
        (low.each (q ++ it ∷ []) (length q) k (omega (arith, room)) found.0 (omega (arith, length-append q (it ∷ [])))
        (last_column-push q it)))

    at : (p ≡ []) ⊎ HasLast p → IsLow (tail_of ex sheet (Some entries) p) (rest_of ex sheet p)
    at (inl none) =
        subst (λ (q : List (List Cell)). IsLow (tail_of ex sheet (Some entries) q) (rest_of ex sheet q)) (sym none) low.start
    at (inr has) =
        subst (λ (q : List (List Cell)). IsLow (tail_of ex sheet (Some entries) q) (rest_of ex sheet q)) (sym has.is)
        (longer has.shorter has.last (subst (λ (q : List (List Cell)). IsPrefix ex q) has.is prefix))

-- a floor by a low tail is low
lower : (spent most : ℕ) (tail rest : Option ℕ) → IsLow tail rest
    → IsSomeAnd (option_map (λ r. spent + r) rest) (λ floor. floor ≤ most)
    → IsSomeAnd (option_map (λ r. spent + r) tail) (λ floor. floor ≤ most)
lower spent most tail None low few = absurd few
lower spent most None (Some r) low few = absurd low
lower spent most (Some n) (Some r) low few = let sum : spent + n ≤ most = omega (arith, low, few) in sum

lower_floor : (ex : Exercise) (sheet : Sheet) (stated : Option (List Potential)) (p : List (List Cell)) (most : ℕ)
    → IsLow (tail_of ex sheet stated p) (rest_of ex sheet p)
    → IsSomeAnd (floor_of ex sheet p) (λ floor. floor ≤ most)
    → IsSomeAnd (used_floor ex sheet stated p) (λ floor. floor ≤ most)
unfolding used_floor floor_of
lower_floor ex sheet stated p most low few =
    lower (paid ex sheet p + least_of ex sheet p) most (tail_of ex sheet stated p) (rest_of ex sheet p) low few

pub tails_hold : (ex : Exercise) (valid : IsValid ex) (sheet : Sheet) (stated : Option (List Potential))
    → IfSome stated (AreTrueEntries ex sheet) → TailsHold ex sheet stated
tails_hold ex valid sheet None are = record {
  below = λ p rest lawful.
      subst (λ (floor : Option ℕ). IsSomeAnd floor (λ f. f ≤ penalty_of ex sheet (p ++ rest)))
      (sym (used-floor ex sheet None p refl)) ((floors_hold ex valid sheet).below p rest lawful);
}
tails_hold ex valid sheet (Some entries) are = record {
  below = λ p rest lawful.
      lower_floor ex sheet (Some entries) p (penalty_of ex sheet (p ++ rest))
      (tail_is_low ex sheet entries (entries_are_low ex sheet entries valid are) p ((floors_hold ex valid sheet).prefix p rest lawful))
      ((floors_hold ex valid sheet).below p rest lawful);
}
