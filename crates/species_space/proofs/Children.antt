-- Which children of an alive path are live, and which are no better than the best leaf so far.
use Rattle.std.specs.Prelude.{IsSomeAnd}
use Rattle.std.proofs.Common.{slice_index_or, ◌≡◌, ◌+◌, ◌≤◌, Option, Some, None, ℕ, ◌<◌, Bool, true, false, not, ◌&&◌, nat_lt, nat_le, List, [], ◌∷◌, ◌++◌, length, reverse, refl, ap, sym, ◌∙◌, subst, true≢false, arith}
use Rattle.std.specs.List.{list_any}
use Rattle.std.proofs.lemmas.Bool.Decides.{nat_tests}
use Rattle.std.proofs.lemmas.Bool.{and_from}
use Rattle.std.proofs.lemmas.List.{length-append}
use Rattle.fux_grid.specs.declared.cell.Cell.{Cell}
use Rattle.fux_grid.specs.declared.exercise.Exercise.{Exercise}
use Rattle.fux_grid.specs.Columns.{newest_column, ColumnFollows}
use Rattle.fux_grid.specs.Exercises.{IsValid, columns_in}
use Rattle.fux_grid.specs.Menus.{menu_of}
use Rattle.rule_law.specs.Law.{test_from_below}
use Rattle.rule_law.specs.Prefixes.{IsPrefix}
use Rattle.penalty_sheet.specs.declared.sheet.Sheet.{Sheet}
use Rattle.fux_judge.specs.Gauges.{least_of}
use Rattle.fux_judge.proofs.Grows.{paid_grows}
use Rattle.fux_judge.proofs.LeastLaws.{least_grows}
use Rattle.fux_judge.specs.Rules.{rules_read}
use Rattle.fux_judge.specs.Penalties.{newly_broken, newly_paid, paid}
use Rattle.fux_judge.specs.States.{IsStateOf}
use Rattle.fux_judge.specs.Verdicts.{PaysMore}
use Rattle.floor_tables.specs.Floors.{rest_of}
use Rattle.floor_tables.specs.Tables.{IsRest}
use Rattle.floor_tables.proofs.RestLemmas.{rest_is}
use Rattle.species_space.specs.declared.node.Node.{Node}
use Rattle.species_space.specs.Chained.{IsRestWith, floor_with}
use Rattle.species_space.specs.Exact.{menus_are_exact}
use Rattle.species_space.specs.Grows.{live_none, live_some, live_value, with_none, with_some, with_value}
use Rattle.species_space.specs.Leaves.{follows_from_test, prefix_is_alive, test_from_follows}
use Rattle.species_space.specs.FloorLaws.{floor_of_rest, floor_parts, no_floor}
use Rattle.species_space.specs.Nodes.{IsNodeOf}
use Rattle.species_space.specs.Paths.{IsNoBetter, prefix_at, column_at, width_at, column_follows, is_alive_path, live_at, live_with, alive_goes_on, alive_from_parts, length-columns_on, prefix_at-append}

third_false : (a b c d : Bool) → c ≡ false → (a && b && c && d) ≡ false
third_false true true c d e = rw e refl
third_false true false c d e = refl
third_false false b c d e = refl

last_false : (a b c d : Bool) → d ≡ true → (a && b && c && not d) ≡ false
last_false true true true d e = rw e refl
last_false true true false d e = refl
last_false true false c d e = refl
last_false false b c d e = refl

all_four : (a b c d : Bool) → a ≡ true → b ≡ true → c ≡ true → d ≡ false → (a && b && c && not d) ≡ true
all_four a b c d e f g h = rw (e, f, g, h) refl

-- a node knows how long its path is
pub as_long : (ex : Exercise) (sheet : Sheet) (node : Node) (path : List ℕ) → IsNodeOf ex sheet node path
    → node.state.newest.len ≡ length path
as_long ex sheet node path at = at.state.newest.count ∙ length-columns_on ex 0 path

-- what is at most one number is at most a greater one
pub some_lower : (best : Option ℕ) (n m : ℕ) → n ≤ m → IsSomeAnd best (λ value. value ≤ n)
    → IsSomeAnd best (λ value. value ≤ m)
some_lower None n m h is = is
some_lower (Some value) n m h is = omega (arith, h, is)

module _ (ex : Exercise) (path : List ℕ) (k : ℕ) (alive : is_alive_path ex path ≡ true) where
  abbrev before : List Cell
  before = newest_column (reverse (prefix_at ex path))

  -- one whose column doesn't follow is dead
  pub strays : (chained : Bool) (sheet : Sheet) → (ColumnFollows before (column_at ex path k) → ⊥)
      → live_with chained ex sheet (path ++ k ∷ []) ≡ None
  strays chained sheet h = with_none chained ex sheet (path ++ k ∷ [])
      (alive_goes_on ex path k alive ∙ third_false (nat_lt (length path) (columns_in ex)) (nat_lt k (width_at ex path))
      (column_follows before (column_at ex path k)) _ (at (column_follows before (column_at ex path k)) refl))
    where
      at : (b : Bool) → column_follows before (column_at ex path k) ≡ b → b ≡ false
      at true e = absurd (h (follows_from_test before (column_at ex path k) e))
      at false e = refl

  -- one that settles a strict break is dead
  pub breaks : (chained : Bool) (sheet : Sheet)
      → list_any (newly_broken ex (prefix_at ex path) (column_at ex path k)) rules_read ≡ true
      → live_with chained ex sheet (path ++ k ∷ []) ≡ None
  breaks chained sheet h = with_none chained ex sheet (path ++ k ∷ [])
      (alive_goes_on ex path k alive ∙ last_false (nat_lt (length path) (columns_in ex)) (nat_lt k (width_at ex path))
      (column_follows before (column_at ex path k)) _ h)

  -- every other one is alive
  pub goes : length path < columns_in ex → k < width_at ex path → ColumnFollows before (column_at ex path k)
      → list_any (newly_broken ex (prefix_at ex path) (column_at ex path k)) rules_read ≡ false
      → is_alive_path ex (path ++ k ∷ []) ≡ true
  goes room within follows unbroken =
      alive_goes_on ex path k alive
      ∙ all_four (nat_lt (length path) (columns_in ex)) (nat_lt k (width_at ex path))
      (column_follows before (column_at ex path k)) _
      (test_from_below (length path) (columns_in ex) room) (test_from_below k (width_at ex path) within)
      (test_from_follows before (column_at ex path k) follows) unbroken

  module _ (sheet : Sheet) where
    not_both : (o : Option ℕ) (floor : ℕ) → o ≡ None → o ≡ Some floor → ⊥
    not_both None floor e f = cc
    not_both (Some n) floor e f = cc

    -- a dead one is no better
    pub no_better_if_dead : (chained : Bool) (best : Option ℕ)
        → (ColumnFollows before (column_at ex path k)
        → list_any (newly_broken ex (prefix_at ex path) (column_at ex path k)) rules_read ≡ true)
        → IsNoBetter chained ex sheet path best k
    no_better_if_dead chained best dead floor there = at (column_follows before (column_at ex path k)) refl
      where
        at : (b : Bool) → column_follows before (column_at ex path k) ≡ b → IsSomeAnd best (λ value. value ≤ floor)
        at true e = absurd (not_both (live_with chained ex sheet (path ++ k ∷ [])) floor
            (breaks chained sheet (dead (follows_from_test before (column_at ex path k) e))) there)
        at false e = absurd (not_both (live_with chained ex sheet (path ++ k ∷ [])) floor
            (strays chained sheet (λ follows. true≢false (sym (test_from_follows before (column_at ex path k) follows) ∙ e)))
            there)

    -- the rest of its prefix is that of its column
    pub rest_there : (rest : Option ℕ) → length path < columns_in ex
        → IsRest ex sheet (length path) (column_at ex path k) rest → rest
        ≡ rest_of ex sheet (prefix_at ex (path ++ k ∷ []))
    rest_there rest room is =
        let size : length (prefix_at ex path) ≡ length path = length-columns_on ex 0 path in
        rest_is ex sheet (prefix_at ex path) (column_at ex path k) rest (omega (arith, size, room))
        (subst (λ n. IsRest ex sheet n (column_at ex path k) rest) (sym size) is)
        ∙ sym (ap (rest_of ex sheet) (prefix_at-append ex path k))

    -- one without a rest is dead
    pub ends : rest_of ex sheet (prefix_at ex (path ++ k ∷ [])) ≡ None → live_at ex sheet (path ++ k ∷ []) ≡ None
    ends none = at (is_alive_path ex (path ++ k ∷ [])) refl
      where
        at : (b : Bool) → is_alive_path ex (path ++ k ∷ []) ≡ b → live_at ex sheet (path ++ k ∷ []) ≡ None
        at true e = live_some ex sheet (path ++ k ∷ []) e ∙ no_floor ex sheet (prefix_at ex (path ++ k ∷ [])) none
        at false e = live_none ex sheet (path ++ k ∷ []) e

    -- what an alive one pays more, and what its lines cost at least
    record Pays : Type 0 where
      pays : paid ex sheet (prefix_at ex (path ++ k ∷ []))
          ≡ paid ex sheet (prefix_at ex path) + newly_paid ex sheet (prefix_at ex path) (column_at ex path k)
      lines : least_of ex sheet (prefix_at ex path) ≤ least_of ex sheet (prefix_at ex (path ++ k ∷ []))

    pays_more : is_alive_path ex (path ++ k ∷ []) ≡ true → Pays
    pays_more live =
        let p = prefix_at ex path in
        let col = column_at ex path k in
        let next : prefix_at ex (path ++ k ∷ []) ≡ p ++ col ∷ [] = prefix_at-append ex path k in
        let longer : IsPrefix ex (p ++ col ∷ []) = subst (λ q. IsPrefix ex q) next
        (prefix_is_alive ex (menus_are_exact ex) (path ++ k ∷ []) live).prefix in
        record {
          pays = ap (paid ex sheet) next ∙ paid_grows ex p col sheet;
          lines = subst (λ n. least_of ex sheet p ≤ n) (sym (ap (least_of ex sheet) next))
              (least_grows ex sheet p col longer);
        }

    -- what a live one costs at least
    pub record Costs (floor : ℕ) : Type 0 where
      pub rest : ℕ
      pub is_rest : rest_of ex sheet (prefix_at ex (path ++ k ∷ [])) ≡ Some rest
      pub low : paid ex sheet (prefix_at ex path) + newly_paid ex sheet (prefix_at ex path) (column_at ex path k) +
          least_of ex sheet (prefix_at ex path) + rest ≤ floor

    pub costs : (floor : ℕ) → live_at ex sheet (path ++ k ∷ []) ≡ Some floor → Costs floor
    costs floor there =
        let own = live_value ex sheet (path ++ k ∷ []) floor there in
        let parts = floor_parts ex sheet (prefix_at ex (path ++ k ∷ [])) floor own.1 in
        let more = pays_more own.0 in
        record {
          rest = parts.rest;
          is_rest = parts.is_rest;
          low = sum_of _ _ _ _ _ parts.rest floor parts.sum more.pays more.lines;
        }
      where
        sum_of : (a b c d f rest floor : ℕ) → a + b + rest ≡ floor → a ≡ c + d → f ≤ b
            → c + d + f + rest ≤ floor
        sum_of a b c d f rest floor s p m = omega (arith, s, p, m)

    -- with chains or without
    low_cost : (chained : Bool) (floor : ℕ) → live_with chained ex sheet (path ++ k ∷ []) ≡ Some floor
        → paid ex sheet (prefix_at ex path) + least_of ex sheet (prefix_at ex path) +
        newly_paid ex sheet (prefix_at ex path) (column_at ex path k) ≤ floor
    low_cost true floor there = let all = costs floor there in omega (arith, all.low)
    low_cost false floor there =
        let own = with_value false ex sheet (path ++ k ∷ []) floor there in
        let more = pays_more own.0 in
        sum_of _ _ _ _ _ floor (same_number own.1) more.pays more.lines
      where
        same_number : {m n : ℕ} → Some m ≡ Some n → m ≡ n
        same_number h = cc

        sum_of : (a b c d f floor : ℕ) → a + b ≡ floor → a ≡ c + d → f ≤ b → c + f + d ≤ floor
        sum_of a b c d f floor s p m = omega (arith, s, p, m)

    -- one that costs too much is no better
    pub no_better_if_costly : (chained : Bool) (best : Option ℕ)
        → IsSomeAnd best (λ value. value ≤ paid ex sheet (prefix_at ex path) + least_of ex sheet (prefix_at ex path) +
        newly_paid ex sheet (prefix_at ex path) (column_at ex path k)) → IsNoBetter chained ex sheet path best k
    no_better_if_costly chained best costly floor there =
        some_lower best _ floor (low_cost chained floor there) costly

    -- one without a rest is no better, nor is one whose rest costs too much
    pub no_better_by_rest : (rest best : Option ℕ) → length path < columns_in ex
        → IsRest ex sheet (length path) (column_at ex path k) rest
        → ((x : ℕ) → rest ≡ Some x → IsSomeAnd best
        (λ value. value ≤ paid ex sheet (prefix_at ex path) + least_of ex sheet (prefix_at ex path) + x))
        → IsNoBetter true ex sheet path best k
    no_better_by_rest rest best room is costly floor there =
        let all = costs floor there in
        some_lower best _ floor (omega (arith, all.low)) (costly all.rest (rest_there rest room is ∙ all.is_rest))

-- one whose column no chain goes on from is dead
pub no_chain : (ex : Exercise) (sheet : Sheet) (node : Node) (path : List ℕ) (k : ℕ) → IsNodeOf ex sheet node path
    → node.state.newest.len < columns_in ex
    → IsRest ex sheet node.state.newest.len (slice_index_or (menu_of ex node.state.newest.len) k []) None
    → live_at ex sheet (path ++ k ∷ []) ≡ None
no_chain ex sheet node path k at room is =
    let long = as_long ex sheet node path at in
    ends ex path k at.alive sheet
    (sym (rest_there ex path k at.alive sheet None (omega (arith, long, room))
    (subst (λ n. IsRest ex sheet n (slice_index_or (menu_of ex n) k []) None) long is)))

-- the floor of an alive child, by the rest of its column
floor_there : (chained : Bool) (ex : Exercise) (sheet : Sheet) (path : List ℕ) (k rest : ℕ)
    → is_alive_path ex path ≡ true → length path < columns_in ex
    → IsRestWith chained ex sheet (length path) (column_at ex path k) rest
    → floor_with chained ex sheet (prefix_at ex (path ++ k ∷ []))
    ≡ Some (paid ex sheet (prefix_at ex (path ++ k ∷ [])) + least_of ex sheet (prefix_at ex (path ++ k ∷ [])) + rest)
floor_there true ex sheet path k rest alive room is =
    floor_of_rest ex sheet (prefix_at ex (path ++ k ∷ [])) rest
    (sym (rest_there ex path k alive sheet (Some rest) room is))
floor_there false ex sheet path k rest alive room is =
    let none : paid ex sheet (prefix_at ex (path ++ k ∷ [])) + least_of ex sheet (prefix_at ex (path ++ k ∷ []))
    ≡ paid ex sheet (prefix_at ex (path ++ k ∷ [])) + least_of ex sheet (prefix_at ex (path ++ k ∷ [])) + rest =
    omega (arith, is) in
    ap Some none

-- a node that is made of its parent's, with what its column costs, stands for an alive child, and
-- its floor is the sum with the rest
pub made_of : (ex : Exercise) (sheet : Sheet) (path : List ℕ) (k : ℕ) (node made : Node) (col : List Cell)
    (more rest : ℕ) → IsNodeOf ex sheet node path → col ≡ column_at ex path k → length path < columns_in ex
    → is_alive_path ex (path ++ k ∷ []) ≡ true → (chained : Bool)
    → IsRestWith chained ex sheet node.state.newest.len col rest
    → IsStateOf ex (prefix_at ex path ++ col ∷ []) made.state → made.paid ≡ node.paid + more
    → PaysMore ex sheet (prefix_at ex path) col more → more ≤ 134217728
    → made.least ≡ least_of ex sheet (prefix_at ex path ++ col ∷ []) → made.least ≤ 334490640
    → IsNodeOf ex sheet made (path ++ k ∷ [])
    × (live_with chained ex sheet (path ++ k ∷ []) ≡ Some (made.paid + made.least + rest))
made_of ex sheet path k node made col more rest at same room live chained is state pays more_is bound lines small =
    let q : List (List Cell) = prefix_at ex (path ++ k ∷ []) in
    let next : prefix_at ex path ++ col ∷ [] ≡ q =
    ap (λ c. prefix_at ex path ++ c ∷ []) same ∙ sym (prefix_at-append ex path k) in
    let cost : made.paid ≡ paid ex sheet q =
    pays ∙ ap (λ n. n + more) at.paid ∙ sym more_is ∙ ap (paid ex sheet) next in
    let least : made.least ≡ least_of ex sheet q = lines ∙ ap (least_of ex sheet) next in
    let own : IsRestWith chained ex sheet (length path) (column_at ex path k) rest =
    subst (λ (n : ℕ). IsRestWith chained ex sheet n (column_at ex path k) rest) (as_long ex sheet node path at)
    (subst (λ (c : List Cell). IsRestWith chained ex sheet node.state.newest.len c rest) same is) in
    let sum : paid ex sheet q + least_of ex sheet q + rest ≡ made.paid + made.least + rest =
    omega (arith, cost, least) in (
      record {
        state = subst (λ p. IsStateOf ex p made.state) next state;
        alive = live;
        paid = cost;
        least = least;
        few = omega (arith, pays, at.few, bound, length-append path (k ∷ []));
        little = small;
      },
      with_some chained ex sheet (path ++ k ∷ []) live
          ∙ floor_there chained ex sheet path k rest at.alive room own ∙ ap Some sum,
    )

-- the empty path is alive
pub begun_alive : (ex : Exercise) → IsValid ex → is_alive_path ex [] ≡ true
begun_alive ex valid = alive_from_parts ex [] record {
  voices = and_from (nat_le ex.voices 4) (nat_lt ex.cantus_voice ex.voices) (test ex.voices 4 valid.most_voices)
      (test_from_below ex.cantus_voice ex.voices valid.cantus_there);
  room = test 0 (columns_in ex) (omega arith);
  menus = refl;
  follows = refl;
  alive = refl;
}
  where
    test : (n m : ℕ) → n ≤ m → nat_le n m ≡ true
    test n m h = grind (arith, nat_tests)
