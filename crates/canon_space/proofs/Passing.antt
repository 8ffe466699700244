-- Which children are passed over.
use Rattle.std.specs.Prelude.{◌≡◌, ℕ, zero, suc, ◌+◌, ◌*◌, ◌/◌, ◌%◌, ◌<◌, ◌≤◌, ◌==◌, Bool, true, false, not, ◌&&◌, nat_lt, [], ◌∷◌, ◌++◌, List, Some, length, if◌then◌else◌, refl}
use Rattle.std.proofs.Common.{arith, sym, ap, ◌∙◌, subst, inl, inr}
use Rattle.std.proofs.lemmas.Bool.{and_from, cases_lt}
use Rattle.std.proofs.lemmas.Bool.Decides.{nat_tests}
use Rattle.fux_grid.specs.declared.cell.Cell.{Cell}
use Rattle.fux_grid.specs.Cells.{cell_in}
use Rattle.rule_law.specs.Law.{first_true, second_true}
use Rattle.penalty_sheet.specs.declared.sheet.Sheet.{Sheet}
use Rattle.canon_space.specs.declared.canon.Canon.{Canon}
use Rattle.canon_space.specs.Canons.{Bars, fits, follower, follower_fits, has_note, is_canon_bar, opens_on_final}
use Rattle.canon_space.specs.Grows.{goes_on, live_value}
use Rattle.canon_space.specs.Paths.{both_fit, history_at, live_at, numbered_bar, upper_from}
use Rattle.canon_space.specs.Rules.{breaks_some_rule}

lesser_rest : (from k : ℕ) → from ≤ k → from / 74 ≡ k / 74 → from % 74 ≤ k % 74
lesser_rest from k h e = omega (arith, h, e)

-- numbers whose parts are passed over
pub parts_passed : (first second : ℕ → Bool) (from lower upper : ℕ) → upper ≤ 74
    → ((n : ℕ) → from / 74 ≤ n → n < lower → first n ≡ false)
    → ((n : ℕ) → upper_from from lower ≤ n → n < upper → second n ≡ false)
    → (k : ℕ) → from ≤ k → k < 74 * lower + upper → (first (k / 74) && second (k % 74)) ≡ false
parts_passed first second from lower upper most low high k h w = elim (cases_lt (k / 74) lower) [
  | inl below ↦ no_first (first (k / 74)) (second (k % 74)) (low (k / 74) (omega (arith, h)) below)
  | inr above ↦ (let same : k / 74 ≡ lower = omega (arith, above, w, most) in
      no_second (first (k / 74)) (second (k % 74))
      (high (k % 74) (begins (lower == from / 74) refl same) (omega (arith, same, w))))
]
  where
    no_first : (a b : Bool) → a ≡ false → (a && b) ≡ false
    no_first false b e = refl
    no_first true b e = cc

    no_second : (a b : Bool) → b ≡ false → (a && b) ≡ false
    no_second true b e = e
    no_second false b e = refl

    begins : (b : Bool) → (lower == from / 74) ≡ b → k / 74 ≡ lower → upper_from from lower ≤ k % 74
    begins true e same =
        let equal : lower ≡ from / 74 = grind (arith, nat_tests) in
        rw e (lesser_rest from k h (sym equal ∙ sym same))
    begins false e same = rw e (omega arith)

module _ (canon : Canon) (behind : Bars) where
  fits_of_bar : (now : List Cell) → canon.leader < 2 → is_canon_bar canon behind now ≡ true
      → (fits canon behind 0 (cell_in now 0) && fits canon behind 1 (cell_in now 1)) ≡ true
  fits_of_bar now small h =
      let room = nat_lt (length behind) canon.bars in
      let two = length now == 2 in
      let leads = has_note canon behind canon.leader (cell_in now canon.leader) in
      let follows = follower_fits canon behind (cell_in now (follower canon)) in
      by_leader canon.leader refl small
      (second_true (room && two) leads (first_true (room && two && leads) follows h))
      (second_true (room && two && leads) follows h)
    where
      leader_fits : (v : ℕ) → canon.leader ≡ v → has_note canon behind v (cell_in now v) ≡ true
          → fits canon behind v (cell_in now v) ≡ true
      leader_fits v e note =
          let test : (v == canon.leader) ≡ true = grind (arith, nat_tests) in
          ap (λ b. if b then has_note canon behind v (cell_in now v) else follower_fits canon behind (cell_in now v)) test
          ∙ note

      other_fits : (v : ℕ) → (v == canon.leader) ≡ false → follower_fits canon behind (cell_in now v) ≡ true
          → fits canon behind v (cell_in now v) ≡ true
      other_fits v test does =
          ap (λ b. if b then has_note canon behind v (cell_in now v) else follower_fits canon behind (cell_in now v)) test
          ∙ does

      by_leader : (v : ℕ) → canon.leader ≡ v → v < 2 → has_note canon behind canon.leader (cell_in now canon.leader) ≡ true
          → follower_fits canon behind (cell_in now (follower canon)) ≡ true
          → (fits canon behind 0 (cell_in now 0) && fits canon behind 1 (cell_in now 1)) ≡ true
      by_leader zero e w note does =
          let other : follower canon ≡ 1 = omega (arith, e) in
          let P : ℕ → Type 0 = λ v. has_note canon behind v (cell_in now v) ≡ true in
          let Q : ℕ → Type 0 = λ v. follower_fits canon behind (cell_in now v) ≡ true in
          and_from (fits canon behind 0 (cell_in now 0)) (fits canon behind 1 (cell_in now 1))
          (leader_fits 0 e (subst P e note)) (other_fits 1 (grind (arith, nat_tests)) (subst Q other does))
      by_leader (suc zero) e w note does =
          let other : follower canon ≡ 0 = omega (arith, e) in
          let one : canon.leader ≡ 1 = e in
          let P : ℕ → Type 0 = λ v. has_note canon behind v (cell_in now v) ≡ true in
          let Q : ℕ → Type 0 = λ v. follower_fits canon behind (cell_in now v) ≡ true in
          and_from (fits canon behind 0 (cell_in now 0)) (fits canon behind 1 (cell_in now 1))
          (other_fits 0 (grind (arith, nat_tests)) (subst Q other does)) (leader_fits 1 one (subst P one note))
      by_leader (suc (suc v)) e w note does = absurd (omega (arith, w))

-- the cells of a live child's bar fit
pub live_child_fits : (canon : Canon) (sheet : Sheet) (path : List ℕ) (k floor : ℕ) → canon.leader < 2
    → live_at canon sheet (path ++ k ∷ []) ≡ Some floor → both_fit canon (history_at path) k ≡ true
live_child_fits canon sheet path k floor small h =
    let behind = history_at path in
    let now = numbered_bar k in
    let on = goes_on canon path k (live_value canon sheet (path ++ k ∷ []) floor h).0 in
    let bar : is_canon_bar canon behind now ≡ true = first_true (is_canon_bar canon behind now)
    (opens_on_final canon behind now)
    (first_true (is_canon_bar canon behind now && opens_on_final canon behind now)
    (not (breaks_some_rule canon behind now)) on.comes) in
    fits_of_bar canon behind now small bar
