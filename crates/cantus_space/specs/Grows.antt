-- What pitches cost at least doesn't fall along a path, as a search asks of a space
-- (`floors_grow`).
use Rattle.std.specs.Prelude.{◌≡◌, ℕ, ◌+◌, ◌<◌, ◌≤◌, ◌++◌, Bool, true, false, not, ◌&&◌, nat_lt, [], ◌∷◌, List, Some, None, length, reverse, if◌then◌else◌, refl}
use Rattle.std.proofs.Common.{arith, sym, ap, ◌∙◌}
use Rattle.std.proofs.lemmas.List.{length-map, length-reverse, map-append, reverse-append}
use Rattle.std.proofs.lemmas.List.Folds.{list_all-append}
use Rattle.fux_pitch.specs.declared.pitch.Pitch.{Pitch}
use Rattle.rule_law.specs.Law.{below_from_test, first_true, second_true}
use Rattle.tree_search.specs.Space.{FloorsGrow}
use Rattle.cantus_space.specs.declared.plan.CantusPlan.{CantusPlan}
use Rattle.cantus_space.specs.Ahead.{gauges_grow, no_ends}
use Rattle.cantus_space.specs.Cantus.{is_in_pool}
use Rattle.cantus_space.specs.Numbers.{WIDTH, numbered_pitch}
use Rattle.cantus_space.specs.Paths.{are_numbers, history_at, is_live_path, live_at, pitches_at}
use Rattle.cantus_space.specs.Rules.{breaks_some_rule, floor_of, is_live, may_come}

-- a child's pitch is the newest
pub history-push : (plan : CantusPlan) (path : List ℕ) (k : ℕ) → history_at plan (path ++ k ∷ [])
    ≡ numbered_pitch plan k ∷ history_at plan path
history-push plan path k =
    ap reverse (map-append (numbered_pitch plan) path (k ∷ []))
    ∙ reverse-append (pitches_at plan path) (numbered_pitch plan k ∷ [])

pub history-length : (plan : CantusPlan) (path : List ℕ) → length (history_at plan path) ≡ length path
history-length plan path = length-reverse (pitches_at plan path) ∙ length-map path (numbered_pitch plan)

-- what lets a pitch come
pub record Comes (plan : CantusPlan) (behind : List Pitch) (p : Pitch) : Type 0 where
  pub room : length behind < plan.bars
  pub pool : is_in_pool plan (length behind + 1) p ≡ true
  pub unbroken : not (breaks_some_rule behind p) ≡ true

pub comes : (plan : CantusPlan) (behind : List Pitch) (p : Pitch) → may_come plan behind p ≡ true → Comes plan behind p
comes plan behind p h =
    let room = nat_lt (length behind) plan.bars in
    let pool = is_in_pool plan (length behind + 1) p in
    let unbroken = not (breaks_some_rule behind p) in
    let both = first_true (room && pool) unbroken h in
    record {
      room = below_from_test (length behind) plan.bars (first_true room pool both);
      pool = second_true room pool both;
      unbroken = second_true (room && pool) unbroken h;
    }

-- what makes a longer path live
pub record GoesOn (plan : CantusPlan) (path : List ℕ) (k : ℕ) : Type 0 where
  pub before : is_live_path plan path ≡ true
  pub within : nat_lt k WIDTH ≡ true
  pub comes : may_come plan (history_at plan path) (numbered_pitch plan k) ≡ true

-- a path that is longer by a number
pub longer_path : (plan : CantusPlan) (path : List ℕ) (k : ℕ) → is_live_path plan (path ++ k ∷ [])
    ≡ ((are_numbers path && (nat_lt k WIDTH && true))
    && (is_live plan (history_at plan path) && may_come plan (history_at plan path) (numbered_pitch plan k)))
longer_path plan path k =
    ap (λ b. b && is_live plan (history_at plan (path ++ k ∷ []))) (list_all-append (λ j. nat_lt j WIDTH) path (k ∷ []))
    ∙ ap (λ behind. (are_numbers path && (nat_lt k WIDTH && true)) && is_live plan behind) (history-push plan path k)

pub goes_on : (plan : CantusPlan) (path : List ℕ) (k : ℕ) → is_live_path plan (path ++ k ∷ []) ≡ true
    → GoesOn plan path k
goes_on plan path k h =
    parts (are_numbers path) (nat_lt k WIDTH) (is_live plan (history_at plan path))
    (may_come plan (history_at plan path) (numbered_pitch plan k)) refl refl refl refl
    (sym (longer_path plan path k) ∙ h)
  where
    parts : (a w l m : Bool) → are_numbers path ≡ a → nat_lt k WIDTH ≡ w → is_live plan (history_at plan path) ≡ l
        → may_come plan (history_at plan path) (numbered_pitch plan k) ≡ m
        → ((a && (w && true)) && (l && m)) ≡ true → GoesOn plan path k
    parts true true true true e f g i h = record { before = rw (e, g) refl; within = f; comes = i }
    parts true true true false e f g i h = cc
    parts true true false m e f g i h = cc
    parts true false l m e f g i h = cc
    parts false w l m e f g i h = cc

-- what is chosen is there where the test holds
chosen : (b : Bool) (x y : ℕ) → (if b then Some x else None) ≡ Some y → (b ≡ true) × (x ≡ y)
chosen true x y h = (refl, cc)
chosen false x y h = cc

pub live_value : (plan : CantusPlan) (path : List ℕ) (floor : ℕ) → live_at plan path ≡ Some floor
    → (is_live_path plan path ≡ true) × (floor_of plan (history_at plan path) ≡ floor)
unfolding live_at
live_value plan path floor h = chosen (is_live_path plan path) (floor_of plan (history_at plan path)) floor h

pub live_some : (plan : CantusPlan) (path : List ℕ) → is_live_path plan path ≡ true
    → live_at plan path ≡ Some (floor_of plan (history_at plan path))
unfolding live_at
live_some plan path h = ap (λ b. if b then Some (floor_of plan (history_at plan path)) else None) h

pub live_none : (plan : CantusPlan) (path : List ℕ) → is_live_path plan path ≡ false → live_at plan path ≡ None
unfolding live_at
live_none plan path h = ap (λ b. if b then Some (floor_of plan (history_at plan path)) else None) h

-- the floor of pitches is no higher than that of one more
pub floor_grows : (plan : CantusPlan) (behind : List Pitch) (p : Pitch) → may_come plan behind p ≡ true
    → floor_of plan behind ≤ floor_of plan (p ∷ behind)
floor_grows plan behind p h =
    let on = comes plan behind p h in
    let gauges = gauges_grow plan behind p on.room on.pool in
    omega (arith, gauges, no_ends plan behind on.room)

pub floors_grow : (plan : CantusPlan) → FloorsGrow (live_at plan) (λ path. WIDTH) plan.bars
floors_grow plan path k floor h =
    let here = live_value plan (path ++ k ∷ []) floor h in
    let on = goes_on plan path k here.0 in
    let there : floor_of plan (numbered_pitch plan k ∷ history_at plan path) ≡ floor =
    sym (ap (floor_of plan) (history-push plan path k)) ∙ here.1
    in
    let room = (comes plan (history_at plan path) (numbered_pitch plan k) on.comes).room in
    record {
      own_floor = floor_of plan (history_at plan path);
      is_live = live_some plan path on.before;
      no_higher = omega (arith, floor_grows plan (history_at plan path) (numbered_pitch plan k) on.comes, there);
      within = below_from_test k WIDTH on.within;
      above = omega (arith, history-length plan path, room);
    }
