-- From the end of a lawful setting back to its beginning floors don't rise (`floors_hold`).
use Rattle.std.proofs.Common.{◌≡◌, ℕ, ◌≤◌, List, [], ◌∷◌, ◌++◌, Option, Some, None, refl, sym, ◌∙◌, subst, arith}
use Rattle.std.specs.Prelude.{IsSome, IsSomeAnd}
use Rattle.std.specs.List.{list_any}
use Rattle.std.proofs.lemmas.List.{append_assoc, append-nil}
use Rattle.std.proofs.lemmas.Bool.{or_parts}
use Rattle.fux_grid.specs.declared.cell.Cell.{Cell}
use Rattle.fux_grid.specs.declared.exercise.Exercise.{Exercise}
use Rattle.fux_grid.specs.Exercises.{IsValid}
use Rattle.penalty_sheet.specs.declared.sheet.Sheet.{Sheet}
use Rattle.fux_judge.proofs.Alive.{alive_if_unbroken, prefix_before}
use Rattle.fux_judge.proofs.Grows.{strict_break_grows}
use Rattle.fux_judge.specs.Lawful.{IsAlive, IsLawful}
use Rattle.fux_judge.specs.Penalties.{has_strict_break, newly_broken, penalty_of}
use Rattle.fux_judge.specs.Rules.{rules_read}
use Rattle.floor_tables.specs.Floors.{IsLive, floor_of}
use Rattle.species_space.specs.FloorLaws.{floor_at_end, floor_grows, floor_parts}
use Rattle.species_space.specs.Floors.{HasFloors}

module _ (ex : Exercise) (sheet : Sheet) (valid : IsValid ex) where
  -- in the prefix no strict break is settled, and its floor is at most so much
  record IsLow (most : ℕ) (p : List (List Cell)) : Type 0 where
    alive : IsAlive ex p
    low : IsSomeAnd (floor_of ex sheet p) (λ floor. floor ≤ most)

  alive_before : (p : List (List Cell)) (col : List Cell) → IsAlive ex (p ++ col ∷ []) → IsAlive ex p
  alive_before p col alive = record {
    prefix = prefix_before ex p col alive.prefix;
    unbroken = (or_parts (has_strict_break ex p) (list_any (newly_broken ex p col) rules_read)
        (sym (strict_break_grows ex p col) ∙ alive.unbroken)).0;
  }

  low_before : (most : ℕ) (p : List (List Cell)) (col : List Cell) → IsLow most (p ++ col ∷ []) → IsLow most p
  low_before most p col longer = record {
    alive = alive_before p col longer.alive;
    low = at (floor_of ex sheet (p ++ col ∷ [])) refl longer.low;
  }
    where
      lower : (o : Option ℕ) (n : ℕ) → n ≤ most → IsSomeAnd o (λ own. own ≤ n) → IsSomeAnd o (λ own. own ≤ most)
      lower None n h is = is
      lower (Some own) n h is = omega (arith, h, is)

      at : (o : Option ℕ) → floor_of ex sheet (p ++ col ∷ []) ≡ o → IsSomeAnd o (λ floor. floor ≤ most)
          → IsSomeAnd (floor_of ex sheet p) (λ floor. floor ≤ most)
      at None e low = absurd low
      at (Some floor) e low = lower (floor_of ex sheet p) floor low
          (floor_grows ex sheet p col valid.most_voices valid.cantus_there longer.alive floor e)

  low_begun : (most : ℕ) (p more : List (List Cell)) → IsLow most (p ++ more) → IsLow most p
  low_begun most p [] whole = subst (λ (q : List (List Cell)). IsLow most q) (append-nil p) whole
  low_begun most p (col ∷ more) whole =
      low_before most p col (low_begun most (p ++ col ∷ []) more
      (subst (λ (q : List (List Cell)). IsLow most q) (sym (append_assoc p (col ∷ []) more)) whole))

  lawful_alive : (s : List (List Cell)) → IsLawful ex s → IsAlive ex s
  lawful_alive s lawful = record {
    prefix = lawful.setting.prefix;
    unbroken = alive_if_unbroken ex valid.most_voices s lawful.setting lawful.unbroken;
  }

  lawful_low : (s : List (List Cell)) → IsLawful ex s → IsLow (penalty_of ex sheet s) s
  lawful_low s lawful =
      let e = floor_at_end ex sheet s valid.most_voices lawful.setting (lawful_alive s lawful) in
      record {
        alive = lawful_alive s lawful;
        low = subst (λ (o : Option ℕ). IsSomeAnd o (λ floor. floor ≤ penalty_of ex sheet s)) (sym e) (omega arith);
      }

  live_if_low : (most : ℕ) (p : List (List Cell)) → IsLow most p → IsLive ex sheet p
  live_if_low most p low = at (floor_of ex sheet p) refl low.low
    where
      at : (o : Option ℕ) → floor_of ex sheet p ≡ o → IsSomeAnd o (λ floor. floor ≤ most) → IsLive ex sheet p
      at None e h = absurd h
      at (Some floor) e h = record {
        prefix = low.alive.prefix;
        unbroken = low.alive.unbroken;
        goes_on = subst IsSome (sym (floor_parts ex sheet p floor e).is_rest) refl;
      }

  pub floors_hold : HasFloors ex sheet
  floors_hold = record {
    live = λ p more lawful.
        live_if_low (penalty_of ex sheet (p ++ more)) p
        (low_begun (penalty_of ex sheet (p ++ more)) p more (lawful_low (p ++ more) lawful));
    low = λ p more lawful. (low_begun (penalty_of ex sheet (p ++ more)) p more (lawful_low (p ++ more) lawful)).low;
    grow = λ p col floor live e. floor_grows ex sheet p col valid.most_voices valid.cantus_there record
        { prefix = live.prefix; unbroken = live.unbroken } floor e;
    end = λ s lawful. floor_at_end ex sheet s valid.most_voices lawful.setting (lawful_alive s lawful);
  }
