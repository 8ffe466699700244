-- Each prefix that begins a lawful setting has a floor, which is at most the setting's penalty, and
-- that of a lawful setting is its penalty (`floors_hold`).
use Rattle.std.proofs.Common.{◌≡◌, ℕ, ◌+◌, ◌≤◌, false, List, [], ◌∷◌, ◌++◌, Option, Some, None, refl, ap, sym, ◌∙◌, subst, arith}
use Rattle.std.specs.Prelude.{IsSome, IsSomeAnd, option_map}
use Rattle.cert_law.proofs.Prefixes.{append-middle}
use Rattle.floor_tables.specs.Floors.{IsLive, floor_of}
use Rattle.floor_tables.proofs.Grows.{floor_grows, live_before, rest_at_end}
use Rattle.fux_grid.specs.declared.cell.Cell.{Cell}
use Rattle.fux_grid.specs.declared.exercise.Exercise.{Exercise}
use Rattle.fux_grid.specs.Exercises.{IsValid}
use Rattle.fux_judge.proofs.Alive.{alive_if_unbroken}
use Rattle.fux_judge.specs.Gauges.{least_of}
use Rattle.fux_judge.specs.Lawful.{IsLawful}
use Rattle.fux_judge.proofs.LeastLaws.{least_grows, paid_and_least_at_end}
use Rattle.fux_judge.specs.Penalties.{has_strict_break, paid, penalty_of}
use Rattle.penalty_sheet.specs.declared.sheet.Sheet.{Sheet}
use Rattle.rule_law.specs.Prefixes.{IsPrefix}

pub record FloorsHold (ex : Exercise) (sheet : Sheet) : Type 0 where
  pub prefix : (p rest : List (List Cell)) → IsLawful ex (p ++ rest) → IsPrefix ex p
  pub below : (p rest : List (List Cell)) → IsLawful ex (p ++ rest)
      → IsSomeAnd (floor_of ex sheet p) (λ floor. floor ≤ penalty_of ex sheet (p ++ rest))
  pub at_end : (s : List (List Cell)) → IsLawful ex s → floor_of ex sheet s ≡ Some (penalty_of ex sheet s)

-- a live prefix has a floor of at most so much
record IsBelow (ex : Exercise) (sheet : Sheet) (most : ℕ) (p : List (List Cell)) : Type 0 where
  pub live : IsLive ex sheet p
  pub low : IsSomeAnd (floor_of ex sheet p) (λ floor. floor ≤ most)

module _ (ex : Exercise) (valid : IsValid ex) (sheet : Sheet) where
  alive : (s : List (List Cell)) → IsLawful ex s → has_strict_break ex s ≡ false
  alive s lawful = alive_if_unbroken ex valid.most_voices s lawful.setting lawful.unbroken

  at_end : (s : List (List Cell)) → IsLawful ex s → floor_of ex sheet s ≡ Some (penalty_of ex sheet s)
  unfolding floor_of
  at_end s lawful =
      let sum : paid ex sheet s + least_of ex sheet s ≡ penalty_of ex sheet s =
      paid_and_least_at_end ex valid.most_voices sheet s lawful.setting (alive s lawful) in
      let all : paid ex sheet s + least_of ex sheet s + 0 ≡ penalty_of ex sheet s = omega (arith, sum) in
      ap (option_map (λ rest. paid ex sheet s + least_of ex sheet s + rest))
      (rest_at_end ex sheet s lawful.setting.whole) ∙ ap Some all

  -- the floor of the shorter prefix is no higher
  shorter : (most : ℕ) (p : List (List Cell)) (col : List Cell) → IsBelow ex sheet most (p ++ col ∷ [])
      → IsBelow ex sheet most p
  shorter most p col below = record {
    live = live_before ex valid.most_voices valid.cantus_there sheet p col below.live;
    low = at (floor_of ex sheet (p ++ col ∷ [])) refl below.low;
  }
    where
      lower : (o : Option ℕ) (floor : ℕ) → floor ≤ most → IsSomeAnd o (λ own. own ≤ floor)
          → IsSomeAnd o (λ own. own ≤ most)
      lower None floor h low = low
      lower (Some own) floor h low = omega (arith, h, low)

      at : (o : Option ℕ) → floor_of ex sheet (p ++ col ∷ []) ≡ o → IsSomeAnd o (λ floor. floor ≤ most)
          → IsSomeAnd (floor_of ex sheet p) (λ floor. floor ≤ most)
      at None e low = absurd low
      at (Some floor) e low =
          lower (floor_of ex sheet p) floor low
          (floor_grows ex valid.most_voices valid.cantus_there sheet p col below.live
          (least_grows ex sheet p col below.live.prefix) floor e)

  back : (most : ℕ) (p rest : List (List Cell)) → IsBelow ex sheet most (p ++ rest) → IsBelow ex sheet most p
  back most p [] below = subst (λ (q : List (List Cell)). IsBelow ex sheet most q) (append_none p) below
    where
      append_none : (s : List (List Cell)) → s ++ [] ≡ s
      append_none [] = refl
      append_none (c ∷ s) = ap (λ t. c ∷ t) (append_none s)
  back most p (col ∷ rest) below =
      shorter most p col (back most (p ++ col ∷ []) rest
      (subst (λ (q : List (List Cell)). IsBelow ex sheet most q) (sym (append-middle p col rest)) below))

  whole : (s : List (List Cell)) → IsLawful ex s → IsBelow ex sheet (penalty_of ex sheet s) s
  whole s lawful = record {
    live = record {
      prefix = lawful.setting.prefix;
      unbroken = alive s lawful;
      goes_on = subst (λ (o : Option ℕ). IsSome o) (sym (rest_at_end ex sheet s lawful.setting.whole)) refl;
    };
    low = subst (λ (o : Option ℕ). IsSomeAnd o (λ floor. floor ≤ penalty_of ex sheet s)) (sym (at_end s lawful))
        (omega arith);
  }

  pub floors_hold : FloorsHold ex sheet
  floors_hold = record {
    prefix = λ p rest lawful. (back (penalty_of ex sheet (p ++ rest)) p rest (whole (p ++ rest) lawful)).live.prefix;
    below = λ p rest lawful. (back (penalty_of ex sheet (p ++ rest)) p rest (whole (p ++ rest) lawful)).low;
    at_end = at_end;
  }
