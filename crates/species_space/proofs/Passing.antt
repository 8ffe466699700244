-- Which columns blocks and holds pass over.
use Rattle.std.proofs.Common.{◌≡◌, nat_lt, ℕ, zero, suc, ◌+◌, ◌*◌, ◌/◌, ◌<◌, ◌≤◌, Bool, true, false, not, All, List, [], ◌∷◌, ◌++◌, replicate, IsTrue, length, slice_index_or, take, refl, ap, sym, ◌∙◌, subst, arith, true≢false}
use Rattle.std.specs.declared.cmp.Ordering.{Ordering}
use Rattle.std.specs.declared.cmp.Ordering.TheVariants.{Less, Equal}
use Rattle.std.proofs.lemmas.List.{length-replicate, same_lists, get_or_default, get_or-replicate}
use Rattle.std.proofs.lemmas.Bool.Decides.{nat_tests}
use Rattle.fux_pitch.proofs.PitchLemmas.{equal_from_test}
use Rattle.fux_grid.specs.declared.cell.Cell.{Cell}
use Rattle.fux_grid.specs.declared.cell.Cell.TheVariants.{Rest, Hold, Start}
use Rattle.fux_grid.specs.declared.exercise.Exercise.{Exercise}
use Rattle.fux_grid.specs.Cells.{cell_in, cell_follows, is_hold}
use Rattle.fux_grid.specs.Columns.{ColumnFollows}
use Rattle.fux_grid.specs.Menus.{IsAscending}
use Rattle.fux_grid.proofs.Combinations.{AllPairs-place, IsColumnBefore}
use Rattle.fux_grid.proofs.OrderLemmas.{column_order-itself}
use Rattle.rule_law.specs.Law.{below_from_test}
use Rattle.fux_judge.specs.Always.{IsSound}
use Rattle.species_space.specs.Blocks.{AreAlwaysDead, AreHeldFirst, HasOneWidth, IsBlockEnd, IsNext, IsOnlyHolds, IsWithoutHolds, KeepsCell, SkipDead, same_cell}

-- ---- blocks

pub same_from_test : (c d : Cell) → same_cell c d ≡ true → c ≡ d
same_from_test Rest Rest h = refl
same_from_test (Hold p) (Hold q) h = ap Hold (equal_from_test p q h)
same_from_test (Start p) (Start q) h = ap Start (equal_from_test p q h)
same_from_test Rest (Hold q) h = cc
same_from_test Rest (Start q) h = cc
same_from_test (Hold p) Rest h = cc
same_from_test (Hold p) (Start q) h = cc
same_from_test (Start p) Rest h = cc
same_from_test (Start p) (Hold q) h = cc

-- within a block a voice has one cell
pub one_cell : (menu : List (List Cell)) (v size j k : ℕ) → KeepsCell menu v size → j < length menu → k < length menu
    → j / size ≡ k / size → cell_in (slice_index_or menu j []) v ≡ cell_in (slice_index_or menu k []) v
one_cell menu v size j k kept a b e =
    kept j a ∙ ap (λ n. cell_in (slice_index_or menu (n * size) []) v) e ∙ sym (kept k b)

-- so that a column in which it doesn't follow tells it of its block
pub strays_in_block : (menu : List (List Cell)) (before : List Cell) (v size j k : ℕ) → KeepsCell menu v size
    → j < length menu → k < length menu → j / size ≡ k / size
    → cell_follows (cell_in before v) (cell_in (slice_index_or menu k []) v) ≡ false
    → ColumnFollows before (slice_index_or menu j []) → ⊥
strays_in_block menu before v size j k kept a b e stray follows =
    let same = one_cell menu v size j k kept a b e in
    let P : Cell → Type 0 = λ c. IsTrue (cell_follows (cell_in before v) c) in
    true≢false (sym (subst P same (follows v)) ∙ stray)

-- ---- columns of holds

holds_alike : (b c d : Cell) → IsTrue (cell_follows b c) → IsTrue (cell_follows b d) → IsTrue (is_hold c)
    → IsTrue (is_hold d) → c ≡ d
holds_alike b Rest d h k e f = cc
holds_alike b (Start p) d h k e f = cc
holds_alike b (Hold p) Rest h k e f = cc
holds_alike b (Hold p) (Start q) h k e f = cc
holds_alike Rest (Hold p) (Hold q) h k e f = cc
holds_alike (Hold r) (Hold p) (Hold q) h k e f = ap Hold (sym (equal_from_test r p h) ∙ equal_from_test r q k)
holds_alike (Start r) (Hold p) (Hold q) h k e f = ap Hold (sym (equal_from_test r p h) ∙ equal_from_test r q k)

-- two columns of holds that follow are one
columns_alike : (before c d : List Cell) → length c ≡ length d
    → ((v : ℕ) → v < length c → IsTrue (is_hold (cell_in c v)))
    → ((v : ℕ) → v < length d → IsTrue (is_hold (cell_in d v))) → ColumnFollows before c → ColumnFollows before d → c
    ≡ d
columns_alike before c d long holds its_holds follows its =
    same_lists c d long
    (λ v x lt.
    let there : v < length d = omega (arith, long, lt) in
    get_or_default c v x Rest lt
    ∙ holds_alike (cell_in before v) (cell_in c v) (cell_in d v) (follows v) (its v) (holds v lt) (its_holds v there)
    ∙ sym (get_or_default d v x Rest there))

-- of the columns of holds in a menu only one follows
one_held_follows : (menu : List (List Cell)) (before : List Cell) (j k : ℕ) → IsOnlyHolds (slice_index_or menu j [])
    → IsOnlyHolds (slice_index_or menu k []) → IsAscending menu → HasOneWidth menu → j < length menu → k < length menu
    → ColumnFollows before (slice_index_or menu j []) → ColumnFollows before (slice_index_or menu k []) → j ≡ k
one_held_follows menu before j k held its_held order full a b follows its =
    AllPairs-place IsColumnBefore menu order (λ c h. apart (column_order-itself c) h) j k [] a b
    (columns_alike before (slice_index_or menu j []) (slice_index_or menu k []) (full.1 j [] a ∙ sym (full.1 k [] b))
    (λ v few. held v Rest few) (λ v few. its_held v Rest few) follows its)
  where
    apart : {o : Ordering} → o ≡ Equal → o ≡ Less → ⊥
    apart e h = let f : Equal ≡ Less = sym e ∙ h in absurd (cc)

-- so only one does in a menu of holds
pub only_one_follows : (menu : List (List Cell)) (before : List Cell) (j k : ℕ) → All IsOnlyHolds menu
    → IsAscending menu → HasOneWidth menu → j < length menu → k < length menu
    → ColumnFollows before (slice_index_or menu j []) → ColumnFollows before (slice_index_or menu k []) → j ≡ k
only_one_follows menu before j k held order full a b follows its =
    one_held_follows menu before j k (held j [] a) (held k [] b) order full a b follows its

-- and of the columns of holds that begin a menu no other than one that does
pub no_other_held : (menu : List (List Cell)) (before : List Cell) (held hint : ℕ) → AreHeldFirst menu held
    → IsAscending menu → HasOneWidth menu → hint < held → hint < length menu
    → ColumnFollows before (slice_index_or menu hint []) → (k : ℕ) → k < held → k < length menu → (k ≡ hint → ⊥)
    → ColumnFollows before (slice_index_or menu k []) → ⊥
no_other_held menu before held hint first order full early there follows k lower within other its =
    other (one_held_follows menu before k hint (first k lower within) (first hint early there) order full within there
    its follows)

-- ---- columns without holds

free_cells : (before : ℕ → Cell) (cs : List Cell) → All (λ c. IsTrue (not (is_hold c))) cs → (v : ℕ)
    → IsTrue (cell_follows (before v) (cell_in cs v))
free_cells before [] free v = refl
free_cells before (c ∷ cs) free zero = free_cell c (free 0 c (omega arith))
  where
    free_cell : (c : Cell) → IsTrue (not (is_hold c)) → IsTrue (cell_follows (before 0) c)
    free_cell Rest h = refl
    free_cell (Start p) h = refl
    free_cell (Hold p) h = cc
free_cells before (c ∷ cs) free (suc v) =
    free_cells (λ w. before (suc w)) cs (λ j d lt. free (suc j) d (omega (arith, lt))) v

-- where the column of a number follows, it is the first one from there on that does
pub here_is_next : (menu : List (List Cell)) (before : List Cell) (from : ℕ) → from ≤ length menu
    → (from < length menu → ColumnFollows before (slice_index_or menu from [])) → IsNext menu before from from
here_is_next menu before from le here = record {
  onward = omega arith;
  within = le;
  follows = here;
  passed = λ k a b follows. absurd (omega (arith, a, b));
}

-- at a menu without holds every column follows
pub all_are_next : (menu : List (List Cell)) (before : List Cell) (from : ℕ) → All IsWithoutHolds menu
    → from ≤ length menu → IsNext menu before from from
all_are_next menu before from free le =
    here_is_next menu before from le
    (λ lt. free_cells (cell_in before) (slice_index_or menu from []) (free from [] lt))

-- ---- a walk by blocks

-- what holds up to a place, and from it on up to another, holds up to that one
pub passed_on : (P : ℕ → Type 0) (from k end : ℕ) → ((j : ℕ) → from ≤ j → j < k → P j)
    → ((j : ℕ) → k ≤ j → j < end → P j) → (j : ℕ) → from ≤ j → j < end → P j
passed_on P from k end before block j le lt = go (nat_lt j k) refl
  where
    beyond : nat_lt j k ≡ false → k ≤ j
    beyond e = grind (arith, nat_tests)

    go : (b : Bool) → nat_lt j k ≡ b → P j
    go true e = before j le (below_from_test j k e)
    go false e = block j (beyond e) lt

-- so where a column is known that follows, it is the first one that does, from any number up to it
pub hint_is_next : (menu : List (List Cell)) (before : List Cell) (from hint : ℕ) → All IsOnlyHolds menu
    → IsAscending menu → HasOneWidth menu → hint < length menu → ColumnFollows before (slice_index_or menu hint [])
    → from ≤ hint → IsNext menu before from hint
hint_is_next menu before from hint held order full there follows le = record {
  onward = le;
  within = omega (arith, there);
  follows = λ b. follows;
  passed = λ k a b its.
      let same : k ≡ hint = only_one_follows menu before k hint held order full (omega (arith, there, b)) there its
      follows in
      absurd (omega (arith, same, b));
}

-- and beyond it there is none
pub none_is_next : (menu : List (List Cell)) (before : List Cell) (from hint end : ℕ) → All IsOnlyHolds menu
    → IsAscending menu → HasOneWidth menu → hint < length menu → ColumnFollows before (slice_index_or menu hint [])
    → hint < from → from ≤ length menu → end ≡ length menu → IsNext menu before from end
none_is_next menu before from hint end held order full there follows lt le last = record {
  onward = omega (arith, le, last);
  within = omega (arith, last);
  follows = λ b. absurd (omega (arith, last, b));
  passed = λ k a b its.
      let same : k ≡ hint = only_one_follows menu before k hint held order full (omega (arith, last, b)) there its
      follows in
      absurd (omega (arith, same, a, lt));
}

-- what holds below a number and at it holds below the next
pub one_more : (P : ℕ → Type 0) (k : ℕ) → ((j : ℕ) → j < k → P j) → P k → (j : ℕ) → j < k + 1 → P j
one_more P k below here j lt = go (nat_lt j k) refl
  where
    at_end : nat_lt j k ≡ false → k ≡ j
    at_end e = grind (arith, nat_tests)

    go : (b : Bool) → nat_lt j k ≡ b → P j
    go true e = below j (below_from_test j k e)
    go false e = subst P (at_end e) here

-- what holds of each of four numbers and its place
pub four : (P : ℕ → ℕ → Type 0) (a b c d : ℕ) → P 0 a → P 1 b → P 2 c → P 3 d → (v : ℕ) → v < 4
    → P v (slice_index_or (a ∷ b ∷ c ∷ d ∷ []) v 0)
four P a b c d w x y z zero lt = w
four P a b c d w x y z (suc zero) lt = x
four P a b c d w x y z (suc (suc zero)) lt = y
four P a b c d w x y z (suc (suc (suc zero))) lt = z
four P a b c d w x y z (suc (suc (suc (suc v)))) lt = absurd (omega arith)

-- columns that agree in their lowest cells have the same beginning
pub same_takes : (n : ℕ) (c d : List Cell) → length c ≡ length d → ((v : ℕ) → v < n → cell_in c v ≡ cell_in d v)
    → take n c ≡ take n d
same_takes zero c d long same = refl
same_takes (suc n) [] [] long same = refl
same_takes (suc n) [] (y ∷ d) long same = absurd (omega (arith, long))
same_takes (suc n) (x ∷ c) [] long same = absurd (omega (arith, long))
same_takes (suc n) (x ∷ c) (y ∷ d) long same =
    ap (λ cell. cell ∷ take n c) (same 0 (omega arith))
    ∙ ap (λ cells. y ∷ cells) (same_takes n c d (omega (arith, long)) (λ v lt. same (suc v) (omega (arith, lt))))

-- one voice more keeps its cell, as far as its block goes
pub agree_more : (menu : List (List Cell)) (v size k old block end : ℕ) → KeepsCell menu v size
    → IsBlockEnd k size block → end ≤ old → end ≤ block → k < end → end ≤ length menu
    → ((u : ℕ) → u < v → (j : ℕ) → k ≤ j → j < old → cell_in (slice_index_or menu j []) u
    ≡ cell_in (slice_index_or menu k []) u) → (u : ℕ) → u < v + 1 → (j : ℕ) → k ≤ j → j < end
    → cell_in (slice_index_or menu j []) u ≡ cell_in (slice_index_or menu k []) u
agree_more menu v size k old block end kept ends fewer in_block onward within before =
    one_more (λ u. (j : ℕ) → k ≤ j → j < end → cell_in (slice_index_or menu j []) u
    ≡ cell_in (slice_index_or menu k []) u) v
    (λ u lt j le b. before u lt j le (omega (arith, b, fewer)))
    (λ j le b. one_cell menu v size j k kept (omega (arith, b, within)) (omega (arith, onward, within))
    (ends.one_block j le (omega (arith, b, in_block))))

-- ---- columns that are dead after every prefix, and sound ones

-- what holds of the numbers of a list, and of one number at each later place, holds of all once
-- that number is put behind them
filled : (P : ℕ → ℕ → Type 0) (numbers : List ℕ) (count number : ℕ)
    → ((k : ℕ) → k < length numbers → P k (slice_index_or numbers k 0)) → ((k : ℕ) → length numbers ≤ k → P k number)
    → (k : ℕ) → k < length (numbers ++ replicate count number)
    → P k (slice_index_or (numbers ++ replicate count number) k 0)
filled P [] count number old new k lt = subst (P k)
    (sym (get_or-replicate count k number 0 (omega (arith, lt, length-replicate count number)))) (new k (omega arith))
filled P (x ∷ numbers) count number old new zero lt = old 0 (omega arith)
filled P (x ∷ numbers) count number old new (suc k) lt =
    filled (λ j. P (suc j)) numbers count number (λ j b. old (suc j) (omega (arith, b)))
    (λ j b. new (suc j) (omega (arith, b))) k (omega (arith, lt))

pub skip_more : (ex : Exercise) (i : ℕ) (menu : List (List Cell)) (numbers : List ℕ) (count number : ℕ)
    → SkipDead ex i menu numbers → number ≤ length menu → AreAlwaysDead ex i menu (length numbers) number
    → SkipDead ex i menu (numbers ++ replicate count number)
skip_more ex i menu numbers count number skip small dead = record {
  within = filled (λ k to. to ≤ length menu) numbers count number skip.within (λ k le. small);
  dead = filled (λ k to. AreAlwaysDead ex i menu k to) numbers count number skip.dead
      (λ k le j from lt. dead j (omega (arith, le, from)) lt);
}

-- of the columns that have a number, those that have no later one are sound
abbrev pub AreSoundSoFar : Exercise → ℕ → List (List Cell) → List ℕ → Type 0
AreSoundSoFar ex i menu numbers =
    (j : ℕ) → j < length numbers → slice_index_or numbers j 0 ≤ j → IsSound ex i (slice_index_or menu j [])

pub sound_more : (ex : Exercise) (i : ℕ) (menu : List (List Cell)) (numbers : List ℕ) (count number n : ℕ)
    → AreSoundSoFar ex i menu numbers
    → ((j : ℕ) → length numbers ≤ j → j < n → number ≤ j → IsSound ex i (slice_index_or menu j []))
    → length (numbers ++ replicate count number) ≤ n
    → AreSoundSoFar ex i menu (numbers ++ replicate count number)
sound_more ex i menu numbers count number n old new few j lt le =
    filled (λ k to. k < n → to ≤ k → IsSound ex i (slice_index_or menu k [])) numbers count number
    (λ k b small own. old k b own) (λ k from small own. new k from small own) j lt (omega (arith, lt, few)) le
