-- What bars cost doesn't fall along a path, as a search asks of a space (`canons_grow`).
use Rattle.std.specs.Prelude.{◌≡◌, ℕ, ◌+◌, ◌<◌, ◌++◌, Bool, true, false, not, ◌==◌, ◌&&◌, nat_lt, [], ◌∷◌, List, Some, None, length, reverse, if◌then◌else◌, refl}
use Rattle.std.proofs.Common.{arith, sym, ap, ◌∙◌}
use Rattle.std.proofs.lemmas.List.{length-map, length-reverse, map-append, reverse-append}
use Rattle.std.proofs.lemmas.List.Folds.{list_all-append}
use Rattle.fux_grid.specs.declared.cell.Cell.{Cell}
use Rattle.fux_grid.specs.Cells.{cell_in}
use Rattle.rule_law.specs.Law.{below_from_test, first_true}
use Rattle.tree_search.specs.Space.{FloorsGrow}
use Rattle.penalty_sheet.specs.declared.sheet.Sheet.{Sheet}
use Rattle.canon_space.specs.declared.canon.Canon.{Canon}
use Rattle.canon_space.specs.Canons.{Bars, follower, follower_fits, has_note, is_canon_bar, opens_on_final}
use Rattle.canon_space.specs.Paths.{WIDTH, are_numbers, bars_at, history_at, is_live_path, live_at, numbered_bar}
use Rattle.canon_space.specs.Rules.{bar_cost, breaks_some_rule, is_live, may_come, paid}

-- a child's bar is the newest
pub history-push : (path : List ℕ) (k : ℕ) → history_at (path ++ k ∷ []) ≡ numbered_bar k ∷ history_at path
history-push path k =
    ap reverse (map-append numbered_bar path (k ∷ [])) ∙ reverse-append (bars_at path) (numbered_bar k ∷ [])

pub history-length : (path : List ℕ) → length (history_at path) ≡ length path
history-length path = length-reverse (bars_at path) ∙ length-map path numbered_bar

-- a bar may come only while there is room
pub room_from_coming : (canon : Canon) (behind : Bars) (now : List Cell) → may_come canon behind now ≡ true → length behind
    < canon.bars
room_from_coming canon behind now h =
    let room = nat_lt (length behind) canon.bars in
    let two = length now == 2 in
    let leads = has_note canon behind canon.leader (cell_in now canon.leader) in
    let follows = follower_fits canon behind (cell_in now (follower canon)) in
    let bar : is_canon_bar canon behind now ≡ true = first_true (is_canon_bar canon behind now)
    (opens_on_final canon behind now)
    (first_true (is_canon_bar canon behind now && opens_on_final canon behind now)
    (not (breaks_some_rule canon behind now)) h) in
    below_from_test (length behind) canon.bars
    (first_true room two (first_true (room && two) leads (first_true (room && two && leads) follows bar)))

-- what makes a longer path live
pub record GoesOn (canon : Canon) (path : List ℕ) (k : ℕ) : Type 0 where
  pub before : is_live_path canon path ≡ true
  pub within : nat_lt k WIDTH ≡ true
  pub comes : may_come canon (history_at path) (numbered_bar k) ≡ true

-- a path that is longer by a number
pub longer_path : (canon : Canon) (path : List ℕ) (k : ℕ) → is_live_path canon (path ++ k ∷ [])
    ≡ ((are_numbers path && (nat_lt k WIDTH && true))
    && (is_live canon (history_at path) && may_come canon (history_at path) (numbered_bar k)))
longer_path canon path k =
    ap (λ b. b && is_live canon (history_at (path ++ k ∷ []))) (list_all-append (λ j. nat_lt j WIDTH) path (k ∷ []))
    ∙ ap (λ behind. (are_numbers path && (nat_lt k WIDTH && true)) && is_live canon behind) (history-push path k)

pub goes_on : (canon : Canon) (path : List ℕ) (k : ℕ) → is_live_path canon (path ++ k ∷ []) ≡ true → GoesOn canon path k
goes_on canon path k h =
    parts (are_numbers path) (nat_lt k WIDTH) (is_live canon (history_at path))
    (may_come canon (history_at path) (numbered_bar k)) refl refl refl refl (sym (longer_path canon path k) ∙ h)
  where
    parts : (a w l m : Bool) → are_numbers path ≡ a → nat_lt k WIDTH ≡ w → is_live canon (history_at path) ≡ l
        → may_come canon (history_at path) (numbered_bar k) ≡ m → ((a && (w && true)) && (l && m)) ≡ true
        → GoesOn canon path k
    parts true true true true e f g i h = record { before = rw (e, g) refl; within = f; comes = i }
    parts true true true false e f g i h = cc
    parts true true false m e f g i h = cc
    parts true false l m e f g i h = cc
    parts false w l m e f g i h = cc

-- what is chosen is there where the test holds
chosen : (b : Bool) (x y : ℕ) → (if b then Some x else None) ≡ Some y → (b ≡ true) × (x ≡ y)
chosen true x y h = (refl, cc)
chosen false x y h = cc

pub live_value : (canon : Canon) (sheet : Sheet) (path : List ℕ) (floor : ℕ) → live_at canon sheet path ≡ Some floor
    → (is_live_path canon path ≡ true) × (paid canon sheet (history_at path) ≡ floor)
unfolding live_at
live_value canon sheet path floor h = chosen (is_live_path canon path) (paid canon sheet (history_at path)) floor h

pub live_some : (canon : Canon) (sheet : Sheet) (path : List ℕ) → is_live_path canon path ≡ true
    → live_at canon sheet path ≡ Some (paid canon sheet (history_at path))
unfolding live_at
live_some canon sheet path h = ap (λ b. if b then Some (paid canon sheet (history_at path)) else None) h

pub live_none : (canon : Canon) (sheet : Sheet) (path : List ℕ) → is_live_path canon path ≡ false
    → live_at canon sheet path ≡ None
unfolding live_at
live_none canon sheet path h = ap (λ b. if b then Some (paid canon sheet (history_at path)) else None) h

pub canons_grow : (canon : Canon) (sheet : Sheet) → FloorsGrow (live_at canon sheet) (λ path. WIDTH) canon.bars
canons_grow canon sheet path k floor h =
    let here = live_value canon sheet (path ++ k ∷ []) floor h in
    let on = goes_on canon path k here.0 in
    let cost : paid canon sheet (history_at path) + bar_cost canon sheet (history_at path) (numbered_bar k) ≡ floor =
    sym (ap (paid canon sheet) (history-push path k)) ∙ here.1
    in
    record {
      own_floor = paid canon sheet (history_at path);
      is_live = live_some canon sheet path on.before;
      no_higher = omega (arith, cost);
      within = below_from_test k WIDTH on.within;
      above =
          omega (arith, history-length path, room_from_coming canon (history_at path) (numbered_bar k) on.comes);
    }
