-- The rules of a list are in range where a test of the whole list says so (`rule_in_range`).
use Rattle.std.proofs.Common.{◌≡◌, ℕ, zero, suc, ◌<◌, ◌&&◌, Bool, true, IsTrue, List, [], ◌∷◌, length, get_or, arith, false}
use Rattle.std.specs.Prelude.{nat_lt, not}
use Rattle.std.specs.List.{list_all}
use Rattle.std.proofs.lemmas.Bool.Decides.{nat_tests}
use Rattle.rule_law.specs.Law.{first_true, second_true}
use Rattle.fux_judge.specs.Rules.{is_late}
use Rattle.std.proofs.lemmas.Bool.{not-true}

-- what each item of a list passes, one of them passes
pub passes : (test : ℕ → Bool) (xs : List ℕ) (i : ℕ) → list_all test xs ≡ true → i < length xs → test (get_or xs i 0)
    ≡ true
passes test [] i h k = absurd (omega arith)
passes test (x ∷ xs) zero h k = first_true (test x) (list_all test xs) h
passes test (x ∷ xs) (suc i) h k = passes test xs i (second_true (test x) (list_all test xs) h) (omega arith)

pub rule_in_range : (rules : List ℕ) (i : ℕ) → IsTrue (list_all (λ rule. nat_lt rule 32 && not (is_late rule)) rules)
    → i < length rules → (get_or rules i 0 < 32) × (is_late (get_or rules i 0) ≡ false)
rule_in_range rules i h k = both (get_or rules i 0) (passes (λ rule. nat_lt rule 32 && not (is_late rule)) rules i h k)
  where
    both : (rule : ℕ) → (nat_lt rule 32 && not (is_late rule)) ≡ true → (rule < 32) × (is_late rule ≡ false)
    both rule e = (
      below rule (first_true (nat_lt rule 32) (not (is_late rule)) e),
      not-true (is_late rule)
          (second_true (nat_lt rule 32) (not (is_late rule)) e),
    )
      where
        below : (rule : ℕ) → nat_lt rule 32 ≡ true → rule < 32
        below rule e = grind (arith, nat_tests)
