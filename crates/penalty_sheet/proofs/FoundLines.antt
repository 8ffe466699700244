-- What holds of each line holds of the one that is found.
use Rattle.std.proofs.Common.{◌≡◌, suc, Bool, true, false, List, [], ◌∷◌, subst, arith}
use Rattle.std.specs.Prelude.{Option, Some, All, find, if◌then◌else◌}

taken_or_later : {X : Type 0} (b : Bool) (o : Option X) (x found : X) (P : X → Type 0) → (if b then Some x else o)
    ≡ Some found → P x → (o ≡ Some found → P found) → P found
taken_or_later true o x found P e h f = let same : x ≡ found = cc in subst P same h
taken_or_later false o x found P e h f = f e

pub found_holds : {X : Type 0} (test : X → Bool) (P : X → Type 0) (xs : List X) (found : X) → find test xs ≡ Some found
    → All P xs → P found
found_holds test P [] found e all = cc
found_holds test P (x ∷ xs) found e all = taken_or_later (test x) (find test xs) x found P e (all 0 x (omega arith))
    (λ f. found_holds test P xs found f (λ k d h. all (suc k) d (omega arith)))
