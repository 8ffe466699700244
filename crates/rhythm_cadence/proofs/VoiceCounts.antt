-- Four tests, one for each voice, count the free voices that pass them (`counted`).
use Rattle.std.specs.Prelude.{◌≡◌, ℕ, ◌+◌, ◌&&◌, Bool, true, false, cond}
use Rattle.std.specs.Int.{from_bool}
use Rattle.std.proofs.Common.{ap, arith}
use Rattle.fux_grid.specs.declared.exercise.Exercise.{Exercise}
use Rattle.rule_law.specs.Voices.{count_free, is_free}

one : (a b : Bool) → a ≡ b → from_bool a ≡ cond b 1 0
one a true e = ap from_bool e
one a false e = ap from_bool e

pub counted : (ex : Exercise) (test : ℕ → Bool) (a b d e : Bool) → a ≡ (is_free ex 0 && test 0)
    → b ≡ (is_free ex 1 && test 1) → d ≡ (is_free ex 2 && test 2) → e ≡ (is_free ex 3 && test 3)
    → from_bool a + from_bool b + from_bool d + from_bool e ≡ count_free ex test
counted ex test a b d e p q r s =
    omega (
      arith,
      one a (is_free ex 0 && test 0) p,
      one b (is_free ex 1 && test 1) q,
      one d (is_free ex 2 && test 2) r,
      one e (is_free ex 3 && test 3) s,
    )
