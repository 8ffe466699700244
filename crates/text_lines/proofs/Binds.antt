-- What follows where a chain of steps gives a value.
use Rattle.std.proofs.Common.{◌≡◌, Option, Some, None, Result, Ok, Err, refl, arith}
use Rattle.std.specs.Option.{ok_or}
use Rattle.text_lines.specs.Faults.{◌>>=◌}

-- the first step gives a value, and the others go on from it
pub bind_ok : {A B E : Type 0} (r : Result A E) (f : A → Result B E) (y : B) → (r >>= f) ≡ Ok y
    → (x : A) × (r ≡ Ok x) × (f x ≡ Ok y)
bind_ok (Ok x) f y e = (x, refl, e)
bind_ok (Err g) f y e = grind (arith, e)

-- an option that is there
pub ok_or_ok : {A E : Type 0} (o : Option A) (fault : E) (x : A) → ok_or o fault ≡ Ok x → o ≡ Some x
ok_or_ok (Some y) fault x e = grind (arith, e)
ok_or_ok None fault x e = grind (arith, e)
