-- The range line that counts in a bar.
use Rattle.std.proofs.Common.{◌≡◌, ◌==◌, ◌&&◌, ℕ, Bool, true, false, List, [], ◌∷◌, filter, Some, None, IsSome, refl, ap, sym, subst}
use Rattle.std.specs.List.{last_or}
use Rattle.fux_grid.specs.declared.exercise.RangeLine.{RangeLine}
use Rattle.fux_grid.specs.declared.exercise.Exercise.{Exercise}
use Rattle.fux_grid.specs.Exercises.{BeginsWithWhole, range_lines}
use Rattle.fux_grid.specs.Menus.{covers, range_line}

-- a filter by two tests, one after the other
filter-filter : {X : Type 0} (p q : X → Bool) (xs : List X) → filter (λ x. p x && q x) xs ≡ filter q (filter p xs)
filter-filter p q [] = refl
filter-filter p q (x ∷ xs) = by_tests (p x) (q x) refl refl (filter-filter p q xs)
  where
    by_tests : (a b : Bool) → p x ≡ a → q x ≡ b → filter (λ x. p x && q x) xs ≡ filter q (filter p xs)
        → filter (λ x. p x && q x) (x ∷ xs) ≡ filter q (filter p (x ∷ xs))
    by_tests true true e f h = rw (e, f) (ap (λ t. x ∷ t) h)
    by_tests true false e f h = rw (e, f) h
    by_tests false b e f h = rw e h

last_or-some : {X : Type 0} (x : X) (xs : List X) → IsSome (last_or (Some x) xs)
last_or-some x [] = refl
last_or-some x (y ∷ ys) = last_or-some y ys

-- lines that begin with one for all bars have one that covers this bar
covered_from_whole : (bar : ℕ) (lines : List RangeLine) → BeginsWithWhole lines
    → IsSome (last_or None (filter (λ line. covers line.bars bar) lines))
covered_from_whole bar [] h = absurd h
covered_from_whole bar (line ∷ lines) h =
    let e : covers line.bars bar ≡ true = ap (λ bars. covers bars bar) h.0 in
    rw e (last_or-some line (filter (λ line. covers line.bars bar) lines))

-- a voice whose lines begin with one for all bars has a line that counts in this bar
pub range_line-some : (ex : Exercise) (v bar : ℕ) → BeginsWithWhole (range_lines ex v) → IsSome (range_line ex v bar)
range_line-some ex v bar h =
    let P : List RangeLine → Type 0 = λ t. IsSome (last_or None t) in
    subst P (sym (filter-filter (λ line. line.voice == v) (λ line. covers line.bars bar) ex.ranges))
    (covered_from_whole bar _ h)
