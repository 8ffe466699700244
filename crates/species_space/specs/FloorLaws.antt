-- What a floor is made of (`floor_parts`). A prefix that is longer by a column has no lower one
-- (`floor_grows`), and that of a setting without a strict break is its penalty (`floor_at_end`); so
-- it is without chains (`floor_with_grows`, `floor_with_at_end`).
use Rattle.std.specs.Prelude.{◌≡◌, Bool, true, false, ℕ, ◌+◌, ◌<◌, ◌≤◌, List, [], ◌∷◌, ◌++◌, Option, Some, None, IsSome, IsSomeAnd, option_map, refl}
use Rattle.std.proofs.Common.{ap, sym, ◌∙◌, subst, arith}
use Rattle.fux_grid.specs.declared.cell.Cell.{Cell}
use Rattle.fux_grid.specs.declared.exercise.Exercise.{Exercise}
use Rattle.rule_law.specs.Prefixes.{IsSetting}
use Rattle.penalty_sheet.specs.declared.sheet.Sheet.{Sheet}
use Rattle.fux_judge.specs.Gauges.{least_of}
use Rattle.fux_judge.specs.Lawful.{IsAlive}
use Rattle.fux_judge.proofs.LeastLaws.{least_grows, paid_and_least_at_end}
use Rattle.fux_judge.specs.Penalties.{paid, penalty_of}
use Rattle.floor_tables.specs.Floors.{IsLive, floor_of, rest_of}
use Rattle.floor_tables.proofs.Grows as grows
use Rattle.fux_judge.proofs.Grows.{paid_grows}
use Rattle.species_space.specs.Chained.{floor_with}

-- what a floor is of
pub record FloorParts (ex : Exercise) (sheet : Sheet) (p : List (List Cell)) (floor : ℕ) : Type 0 where
  pub rest : ℕ
  pub is_rest : rest_of ex sheet p ≡ Some rest
  pub sum : paid ex sheet p + least_of ex sheet p + rest ≡ floor

-- ---- what holds of them

same_number : {m n : ℕ} → Some m ≡ Some n → m ≡ n
same_number h = cc

mapped_if_some : (f : ℕ → ℕ) (o : Option ℕ) → IsSome o → IsSome (option_map f o)
mapped_if_some f None h = cc
mapped_if_some f (Some x) h = refl

module _ (ex : Exercise) (sheet : Sheet) where
  -- a prefix has a floor exactly where a chain goes on from it
  pub floor_parts : (p : List (List Cell)) (floor : ℕ) → floor_of ex sheet p ≡ Some floor → FloorParts ex sheet p floor
  unfolding floor_of
  floor_parts p floor h = at (rest_of ex sheet p) refl h
    where
      at : (o : Option ℕ) → rest_of ex sheet p ≡ o → option_map (λ rest. paid ex sheet p + least_of ex sheet p + rest) o
          ≡ Some floor → FloorParts ex sheet p floor
      at None e h = cc
      at (Some rest) e h = record { rest = rest; is_rest = e; sum = cc }

  pub floor_of_rest : (p : List (List Cell)) (rest : ℕ) → rest_of ex sheet p ≡ Some rest → floor_of ex sheet p
      ≡ Some (paid ex sheet p + least_of ex sheet p + rest)
  unfolding floor_of
  floor_of_rest p rest h = ap (option_map (λ rest. paid ex sheet p + least_of ex sheet p + rest)) h

  pub no_floor : (p : List (List Cell)) → rest_of ex sheet p ≡ None → floor_of ex sheet p ≡ None
  unfolding floor_of
  no_floor p h = ap (option_map (λ rest. paid ex sheet p + least_of ex sheet p + rest)) h

  pub floor_if_rest : (p : List (List Cell)) → IsSome (rest_of ex sheet p) → IsSome (floor_of ex sheet p)
  unfolding floor_of
  floor_if_rest p h = mapped_if_some (λ rest. paid ex sheet p + least_of ex sheet p + rest) (rest_of ex sheet p) h

  pub floor_grows : (p : List (List Cell)) (col : List Cell) → ex.voices ≤ 4 → ex.cantus_voice < ex.voices
      → IsAlive ex (p ++ col ∷ []) → (floor : ℕ)
      → floor_of ex sheet (p ++ col ∷ []) ≡ Some floor → IsSomeAnd (floor_of ex sheet p) (λ own. own ≤ floor)
  floor_grows p col few there alive floor h =
      let live : IsLive ex sheet (p ++ col ∷ []) = record {
        prefix = alive.prefix;
        unbroken = alive.unbroken;
        goes_on = subst IsSome (sym (floor_parts (p ++ col ∷ []) floor h).is_rest) refl;
      } in
      grows.floor_grows ex few there sheet p col live (least_grows ex sheet p col alive.prefix) floor h

  pub floor_at_end : (s : List (List Cell)) → ex.voices ≤ 4 → IsSetting ex s → IsAlive ex s → floor_of ex sheet s
      ≡ Some (penalty_of ex sheet s)
  floor_at_end s few setting alive =
      let sum : paid ex sheet s + least_of ex sheet s
      ≡ penalty_of ex sheet s = paid_and_least_at_end ex few sheet s setting alive.unbroken in
      let all : paid ex sheet s + least_of ex sheet s + 0 ≡ penalty_of ex sheet s = omega (arith, sum) in
      floor_of_rest s 0 (grows.rest_at_end ex sheet s setting.whole) ∙ ap Some all

  pub floor_with_grows : (chained : Bool) (p : List (List Cell)) (col : List Cell) → ex.voices ≤ 4
      → ex.cantus_voice < ex.voices → IsAlive ex (p ++ col ∷ []) → (floor : ℕ)
      → floor_with chained ex sheet (p ++ col ∷ []) ≡ Some floor
      → IsSomeAnd (floor_with chained ex sheet p) (λ own. own ≤ floor)
  floor_with_grows true p col few there alive floor h = floor_grows p col few there alive floor h
  floor_with_grows false p col few there alive floor h =
      let sum = same_number h in
      omega (arith, paid_grows ex p col sheet, least_grows ex sheet p col alive.prefix, sum)

  pub floor_with_at_end : (chained : Bool) (s : List (List Cell)) → ex.voices ≤ 4 → IsSetting ex s → IsAlive ex s
      → floor_with chained ex sheet s ≡ Some (penalty_of ex sheet s)
  floor_with_at_end true s few setting alive = floor_at_end s few setting alive
  floor_with_at_end false s few setting alive = ap Some (paid_and_least_at_end ex few sheet s setting alive.unbroken)
