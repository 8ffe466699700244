-- One more degree of the walk.
use Rattle.std.proofs.Common.{◌≡◌, ℕ, zero, suc, length, ◌+◌, ◌-◌, ◌/◌, ◌<◌, List, [], ◌∷◌, ◌++◌, refl, sym, ap, ◌∙◌, append_assoc, arith}
use Rattle.std.proofs.lemmas.List.{length-append}
use Rattle.drill_exercise.specs.Drill.{drill_degrees, moved, next_number, walk}

walk-next : (b k x degree : ℕ) → k < b
    → walk (b - k) x degree
    ≡ moved (next_number x / 256) degree ∷ walk (b - (k + 1)) (next_number x) (moved (next_number x / 256) degree)
unfolding walk
walk-next b k x degree h =
    let more : b - k ≡ suc (b - (k + 1)) = omega arith in
    rw more refl

-- a degree that was appended is left no more
pub walked : (before after : List ℕ) (b k x y degree next : ℕ) (whole : List ℕ) → k < b → after ≡ before ++ next ∷ []
    → y ≡ next_number x → next ≡ moved (y / 256) degree
    → before ++ walk (b - k) x degree ≡ whole → after ++ walk (b - (k + 1)) y next ≡ whole
walked before after b k x y degree next whole h e number choice so_far =
    let choice' : next ≡ moved (next_number x / 256) degree = choice ∙ ap (λ n. moved (n / 256) degree) number in
    ap (λ t. t ++ walk (b - (k + 1)) y next) e
    ∙ append_assoc before (next ∷ []) (walk (b - (k + 1)) y next)
    ∙ ap (λ n. before ++ next ∷ walk (b - (k + 1)) n next) number
    ∙ ap (λ d. before ++ d ∷ walk (b - (k + 1)) (next_number x) d) choice'
    ∙ ap (λ t. before ++ t) (sym (walk-next b k x degree h))
    ∙ so_far

-- a walk that is at its end
pub walk-end : (bars x degree : ℕ) → bars ≡ 0 → walk bars x degree ≡ []
unfolding walk
walk-end bars x degree e = rw e refl

length-walk : (bars x degree : ℕ) → length (walk bars x degree) ≡ bars
unfolding walk
length-walk zero x degree = refl
length-walk (suc bars) x degree =
    ap suc (length-walk bars (next_number x) (moved (next_number x / 256) degree))

-- a cantus firmus has 24 degrees
pub length-drill_degrees : (n : ℕ) → length (drill_degrees n) ≡ 24
unfolding drill_degrees
length-drill_degrees n =
    length-append (29 ∷ walk 21 n 29) (30 ∷ 29 ∷ []) ∙ ap (λ k. suc k + 2) (length-walk 21 n 29)
