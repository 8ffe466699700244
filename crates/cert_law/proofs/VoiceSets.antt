-- The least rule that some voice breaks is the least of what voices were told (`least_of_four`), and
-- what a voice was told to break it breaks (`told_cell`).
use Rattle.std.proofs.Common.{◌≡◌, ℕ, min, ◌<◌, Bool, true, false, ◌||◌, List, [], ◌∷◌, Option, refl, ap, sym, ◌∙◌, arith}
use Rattle.std.specs.Prelude.{IsSomeAnd, None, Some, ◌&&◌, cond, nat_lt}
use Rattle.std.specs.List.{find, list_all}
use Rattle.std.proofs.lemmas.Bool.{ltb-true}
use Rattle.cert_law.specs.VoicesTold.{IsVoiceTold}
use Rattle.cert_law.specs.declared.voices_told.VoiceTold.{VoiceTold}
use Rattle.chain_sums.specs.Sums.{lesser}
use Rattle.fux_grid.specs.declared.cell.Cell.{Cell}
use Rattle.fux_grid.specs.declared.exercise.Exercise.{Exercise}
use Rattle.fux_judge.specs.States.{IsStateOf}
use Rattle.fux_judge.specs.Told.{least_by_cell}
use Rattle.fux_judge.specs.declared.state.State.{State}
use Rattle.rule_law.specs.Law.{first_true, second_true}

-- the numbers of a list ascend
abbrev pub is_ascending : List ℕ → Bool
is_ascending [] = true
is_ascending (x ∷ xs) = list_all (nat_lt x) xs && is_ascending xs

-- what is found of numbers above another is above it, so that is the lesser one
found_above : (f : ℕ → Bool) (x : ℕ) (xs : List ℕ) (y : ℕ) → list_all (nat_lt x) xs ≡ true → find f xs ≡ Some y → x < y
found_above f x [] y above e = cc
found_above f x (z ∷ zs) y above e = at (f z) e (found_above f x zs y (second_true (nat_lt x z) (list_all (nat_lt x) zs) above))
  where
    at : (b : Bool) → cond b (Some z) (find f zs) ≡ Some y → (find f zs ≡ Some y → x < y) → x < y
    at true k later =
        let same : z ≡ y = cc in
        let low : x < z = ltb-true x z (first_true (nat_lt x z) (list_all (nat_lt x) zs) above) in
        omega (arith, same, low)
    at false k later = later k

first_lesser : (x : ℕ) (o : Option ℕ) → ((y : ℕ) → o ≡ Some y → x < y) → lesser (Some x) o ≡ Some x
first_lesser x None above = refl
first_lesser x (Some y) above =
    let low : x < y = above y refl in
    let same : min x y ≡ x = omega (arith, low) in
    ap Some same

second_lesser : (x : ℕ) (o : Option ℕ) → ((y : ℕ) → o ≡ Some y → x < y) → lesser o (Some x) ≡ Some x
second_lesser x None above = refl
second_lesser x (Some y) above =
    let low : x < y = above y refl in
    let same : min y x ≡ x = omega (arith, low) in
    ap Some same

-- the least that passes one of two tests is the lesser one of those that pass each
find_either : (f g : ℕ → Bool) (xs : List ℕ) → is_ascending xs ≡ true
    → lesser (find f xs) (find g xs) ≡ find (λ r. f r || g r) xs
find_either f g [] up = refl
find_either f g (x ∷ xs) up =
    let above = first_true (list_all (nat_lt x) xs) (is_ascending xs) up in
    at (f x) (g x) (λ y e. found_above f x xs y above e) (λ y e. found_above g x xs y above e)
    (find_either f g xs (second_true (list_all (nat_lt x) xs) (is_ascending xs) up))
  where
    itself : min x x ≡ x
    itself = omega arith

    at : (a b : Bool) → ((y : ℕ) → find f xs ≡ Some y → x < y) → ((y : ℕ) → find g xs ≡ Some y → x < y)
        → lesser (find f xs) (find g xs) ≡ find (λ r. f r || g r) xs
        → lesser (cond a (Some x) (find f xs)) (cond b (Some x) (find g xs))
        ≡ cond (a || b) (Some x) (find (λ r. f r || g r) xs)
    at true true low high later = ap Some itself
    at true false low high later = first_lesser x (find g xs) high
    at false true low high later = second_lesser x (find f xs) low
    at false false low high later = later

-- so the least of what four voices were told is the least that passes one of four
pub least_of_four : (r0 r1 r2 r3 lower upper all : Option ℕ) (f g h k : ℕ → Bool) (xs : List ℕ)
    → is_ascending xs ≡ true → all ≡ lesser lower upper → lower ≡ lesser r0 r1 → upper ≡ lesser r2 r3
    → r0 ≡ find f xs → r1 ≡ find g xs → r2 ≡ find h xs → r3 ≡ find k xs
    → all ≡ find (λ r. (f r || g r) || (h r || k r)) xs
least_of_four r0 r1 r2 r3 lower upper all f g h k xs up e l u e0 e1 e2 e3 =
    e ∙ ap (λ (o : Option ℕ). lesser o upper) l ∙ ap (lesser (lesser r0 r1)) u
    ∙ ap (λ (o : Option ℕ). lesser (lesser o r1) (lesser r2 r3)) e0
    ∙ ap (λ (o : Option ℕ). lesser (lesser (find f xs) o) (lesser r2 r3)) e1
    ∙ ap (λ (o : Option ℕ). lesser (lesser (find f xs) (find g xs)) (lesser o r3)) e2
    ∙ ap (λ (o : Option ℕ). lesser (lesser (find f xs) (find g xs)) (lesser (find h xs) o)) e3
    ∙ ap (λ (o : Option ℕ). lesser o (lesser (find h xs) (find k xs))) (find_either f g xs up)
    ∙ ap (lesser (find (λ r. f r || g r) xs)) (find_either h k xs up)
    ∙ find_either (λ r. f r || g r) (λ r. h r || k r) xs up

pub regroup : (a b c d : Bool) → ((a || b) || (c || d)) ≡ (a || (b || (c || (d || false))))
regroup true b c d = refl
regroup false true c d = refl
regroup false false true d = refl
regroup false false false true = refl
regroup false false false false = refl

pub told_cell : (ex : Exercise) (state : State) (p : List (List Cell)) (v : ℕ) (told : Option VoiceTold) (cell : Cell)
    (rule : ℕ) → IsSomeAnd told (λ it. (it.cell ≡ cell) × (it.least ≡ Some rule)) → IsVoiceTold ex state v told
    → IsStateOf ex p state → least_by_cell ex p v cell ≡ Some rule
told_cell ex state p v None cell rule has tells is = absurd has
told_cell ex state p v (Some it) cell rule has tells is =
    ap (least_by_cell ex p v) (sym has.0) ∙ sym (tells p is) ∙ has.1
