-- A rule is broken for no set of voices that isn't of its form, so only those sets need be tried.
use Rattle.std.proofs.Common.{◌≡◌, ℕ, ◌&&◌, Bool, true, false, List, [], length, reverse, refl, ap, sym, ◌∙◌}
use Rattle.std.specs.Prelude.{if◌then◌else◌, nat_lt}
use Rattle.std.specs.List.{list_any, sum_by}
use Rattle.fux_grid.specs.declared.cell.Cell.{Cell}
use Rattle.fux_grid.specs.declared.exercise.Exercise.{Exercise}
use Rattle.rule_law.specs.Growth.{list_any-same, sum_by-same, sum_by-none}
use Rattle.rule_law.specs.Law.{reading-at_end}
use Rattle.fux_judge.specs.declared.moment.Moment.{Moment}
use Rattle.fux_judge.proofs.Facts.{rule_keeps}
use Rattle.fux_judge.specs.Rules.{breaks, all_sets}
use Rattle.fux_judge.specs.Steps.{sets_of_rule}
use Rattle.fux_judge.specs.Moments.{is_broken_then, is_strictly_broken_then, prices_then}
use Rattle.fux_judge.specs.Penalties.{is_strict_at, price_at_place}

-- without relax lines nothing has a price
pub priceless : (rule : ℕ) (ex : Exercise) (voices i : ℕ) → ex.relax ≡ [] → price_at_place rule ex voices i ≡ 0
priceless rule ex voices i e = at (nat_lt rule 4) refl
  where
    at : (b : Bool) → nat_lt rule 4 ≡ b → price_at_place rule ex voices i ≡ 0
    at true f = rw f refl
    at false f = rw (f, e) refl

module _ (rule : ℕ) (p : List (List Cell)) (m : Moment) where
  at_end : (voices : ℕ) → is_broken_then rule voices p m
      ≡ breaks rule m.exercise.now voices (length p) (reverse p) m.column.now []
  at_end voices = reading-at_end (breaks rule m.exercise.now voices) p m.column.now

  strictly_read : (sets : List ℕ) → is_strictly_broken_then sets rule p m
      ≡ list_any (λ voices. breaks rule m.exercise.now voices (length p) (reverse p) m.column.now []
      && is_strict_at rule m.exercise.now voices (length p)) sets
  strictly_read sets =
      list_any-same (λ voices. is_broken_then rule voices p m && is_strict_at rule m.exercise.now voices (length p))
      (λ voices. breaks rule m.exercise.now voices (length p) (reverse p) m.column.now []
      && is_strict_at rule m.exercise.now voices (length p)) sets
      (λ voices. ap (λ b. b && is_strict_at rule m.exercise.now voices (length p)) (at_end voices))

  prices_read : (sets : List ℕ) → prices_then sets rule p m
      ≡ sum_by (λ voices. if breaks rule m.exercise.now voices (length p) (reverse p) m.column.now []
      then price_at_place rule m.exercise.now voices (length p) else 0) sets
  prices_read sets =
      sum_by-same (λ voices. if is_broken_then rule voices p m then price_at_place rule m.exercise.now voices (length p)
      else 0) (λ voices. if breaks rule m.exercise.now voices (length p) (reverse p) m.column.now []
      then price_at_place rule m.exercise.now voices (length p) else 0) sets
      (λ voices. ap (λ b. if b then price_at_place rule m.exercise.now voices (length p) else 0) (at_end voices))

  -- so only the sets of its form need be tried
  pub strictly_for_all : is_strictly_broken_then (sets_of_rule rule m.exercise.now) rule p m
      ≡ is_strictly_broken_then all_sets rule p m
  strictly_for_all =
      strictly_read (sets_of_rule rule m.exercise.now)
      ∙ sym (((rule_keeps rule).form m.exercise.now (length p) (reverse p) m.column.now []).any
      (λ voices. is_strict_at rule m.exercise.now voices (length p))) ∙ sym (strictly_read all_sets)

  pub prices_for_all : prices_then (sets_of_rule rule m.exercise.now) rule p m ≡ prices_then all_sets rule p m
  prices_for_all =
      prices_read (sets_of_rule rule m.exercise.now)
      ∙ sym (((rule_keeps rule).form m.exercise.now (length p) (reverse p) m.column.now []).sum
      (λ voices. price_at_place rule m.exercise.now voices (length p))) ∙ sym (prices_read all_sets)

  no_price : (voices : ℕ) → m.exercise.now.relax ≡ [] → price_at_place rule m.exercise.now voices (length p) ≡ 0
  no_price voices e = priceless rule m.exercise.now voices (length p) e

  pub nothing_relaxed : m.exercise.now.relax ≡ [] → 0 ≡ prices_then all_sets rule p m
  nothing_relaxed e =
      sym (sum_by-none (λ voices. if is_broken_then rule voices p m
      then price_at_place rule m.exercise.now voices (length p) else 0) all_sets
      (λ voices. free (is_broken_then rule voices p m) (no_price voices e)))
    where
      free : (b : Bool) {n : ℕ} → n ≡ 0 → (if b then n else 0) ≡ 0
      free true h = h
      free false h = refl
