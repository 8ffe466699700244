-- The law of locality for rows that wait for later columns, and what holds of lists of all columns.
use Rattle.std.specs.Prelude.{◌≡◌, ℕ, ◌+◌, ◌<◌, ◌≤◌, Bool, true, false, ◌||◌, nat_lt, List, [], ◌++◌, IsTrue, length, drop, slice_index_or, refl}
use Rattle.std.proofs.Common.{ap, ◌∙◌, arith}
use Rattle.std.proofs.lemmas.Bool.Decides.{nat_tests}
use Rattle.std.proofs.lemmas.List.{append-nil, length-append, length-drop, nil_from_length}
use Rattle.std.proofs.lemmas.Bool.{and_from}
use Rattle.fux_grid.specs.declared.cell.Cell.{Cell}
use Rattle.fux_grid.specs.declared.exercise.Exercise.{Exercise}
use Rattle.fux_grid.specs.Columns.{earlier}
use Rattle.fux_grid.specs.Exercises.{columns_in}
use Rattle.rule_law.specs.Law.{first_true, second_true, below_from_test, test_from_below, reading-append}
use Rattle.rule_law.specs.Places.{Row, IsLocal, IsUndisturbed, SettlesAtEnd, reading_of, settled_by}
use Rattle.rule_law.specs.Prefixes.{GoesOn}
use Rattle.rule_law.specs.Whole.{is_whole}

-- in prefixes that go on, and where enough columns are there, the columns that come later change
-- nothing
abbrev pub StaysAhead : {R : Type 0} → Exercise → Row R → Row Bool → Type 0
StaysAhead ex row enough =
    (p t : List (List Cell)) (i : ℕ) → GoesOn ex p t → i < length p → IsTrue (reading_of enough p i)
    → row i (earlier p i) (slice_index_or p i []) (drop (i + 1) p ++ t) ≡ reading_of row p i

pub local_from_ahead : {R : Type 0} (ex : Exercise) (row : Row R) (enough : Row Bool) → StaysAhead ex row enough
    → IsLocal ex (reading_of row) (settled_by enough)
local_from_ahead ex row enough same p t i on settled =
    let here : i < length p = below_from_test i (length p)
    (first_true (nat_lt i (length p)) (reading_of enough p i) settled) in
    reading-append row p t i here ∙ same p t i on here
    (second_true (nat_lt i (length p)) (reading_of enough p i) settled)

-- a list of all columns doesn't go on
at_end : (ex : Exercise) (i : ℕ) (ahead : List (List Cell)) → is_whole ex i ahead ≡ true
    → columns_in ex ≤ i + 1 + length ahead
at_end ex i ahead h = grind (arith, nat_tests)

pub whole_ends : (ex : Exercise) (p t : List (List Cell)) (i : ℕ) → GoesOn ex p t → i < length p
    → is_whole ex i (drop (i + 1) p) ≡ true → t ≡ []
whole_ends ex p t i on here whole =
    nil_from_length t (omega (
      arith,
      at_end ex i (drop (i + 1) p) whole,
      length-drop (i + 1) p,
      length-append p t,
      on.longer.few,
      here,
    ))

-- so nothing comes later
pub whole_same : {R : Type 0} (ex : Exercise) (row : Row R) (p t : List (List Cell)) (i : ℕ) → GoesOn ex p t
    → i < length p → is_whole ex i (drop (i + 1) p) ≡ true
    → row i (earlier p i) (slice_index_or p i []) (drop (i + 1) p ++ t) ≡ reading_of row p i
whole_same ex row p t i on here whole =
    ap (λ cols. row i (earlier p i) (slice_index_or p i []) cols)
    (ap (λ more. drop (i + 1) p ++ more) (whole_ends ex p t i on here whole) ∙ append-nil (drop (i + 1) p))

-- one of two tests passes
pub by_either : {P : Type 0} (a b : Bool) → IsTrue (a || b) → (IsTrue a → P) → (IsTrue b → P) → P
by_either true b h f g = f refl
by_either false b h f g = g h

-- where columns after the place, or a whole list, are enough, a row is local that columns after
-- those don't disturb
abbrev pub or_whole : Exercise → Row Bool → Row Bool
or_whole ex enough i behind now ahead = enough i behind now ahead || is_whole ex i ahead

pub local_or_whole : {R : Type 0} (ex : Exercise) (row : Row R) (enough : Row Bool) → IsUndisturbed row enough
    → IsLocal ex (reading_of row) (settled_by (or_whole ex enough))
local_or_whole ex row enough same =
    local_from_ahead ex row (or_whole ex enough) (λ p t i on here h.
    by_either (reading_of enough p i) (is_whole ex i (drop (i + 1) p)) h
    (λ k. same i (earlier p i) (slice_index_or p i []) (drop (i + 1) p) t k)
    (λ k. whole_same ex row p t i on here k))

-- a list of all columns is whole at each place
pub whole_at_end : (ex : Exercise) (s : List (List Cell)) (i : ℕ) → length s ≡ columns_in ex → i < length s
    → is_whole ex i (drop (i + 1) s) ≡ true
whole_at_end ex s i whole here =
    let reached : columns_in ex ≤ i + 1 + length (drop (i + 1) s) = omega (arith, length-drop (i + 1) s, whole, here) in
    grind (arith, nat_tests)

-- what is enough in whole lists settles at their end
pub ends_when_whole : (ex : Exercise) (enough : Row Bool)
    → ((i : ℕ) (behind : List (List Cell)) (now : List Cell) (ahead : List (List Cell)) → is_whole ex i ahead ≡ true
    → IsTrue (enough i behind now ahead)) → SettlesAtEnd ex (settled_by enough)
ends_when_whole ex enough f s i whole here =
    and_from (nat_lt i (length s)) (reading_of enough s i) (test_from_below i (length s) here)
    (f i (earlier s i) (slice_index_or s i []) (drop (i + 1) s) (whole_at_end ex s i whole here))

-- a whole list is whole with more columns
pub whole_stays : (ex : Exercise) (i : ℕ) (ahead t : List (List Cell)) → is_whole ex i ahead ≡ true
    → is_whole ex i (ahead ++ t) ≡ true
whole_stays ex i ahead t h =
    let reached : columns_in ex ≤ i + 1 + length (ahead ++ t) = omega
    (arith, at_end ex i ahead h, length-append ahead t) in
    grind (arith, nat_tests)
