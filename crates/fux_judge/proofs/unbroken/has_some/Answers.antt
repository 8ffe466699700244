use Rattle.std.proofs.Common.{◌≡◌, ℕ, ◌==◌, ◌||◌, false, List, [], ◌∷◌, refl, ap, sym, ◌∙◌, arith}
use Rattle.std.proofs.lemmas.Bool.{eq-eqb}
use Rattle.std.proofs.lemmas.Nat.Bits.{bit_at-zero}
use Rattle.std.specs.Prelude.{not}
use Rattle.std.specs.List.{list_any}
use Rattle.rule_law.specs.Voices.{has_rule}
use Rattle.fux_judge.specs.Rules.{rules_at_once}
use Rattle.fux_judge.proofs.unbroken.has_some.Goals as goal

none_in_empty : (rules : List ℕ) → list_any (has_rule 0) rules ≡ false
none_in_empty [] = refl
none_in_empty (rule ∷ rules) =
    ap (λ n. (n == 1) || list_any (has_rule 0) rules) (bit_at-zero rule) ∙ none_in_empty rules

pub returns-else-set-ne0 : goal.returns-else-set-ne0
returns-else-set-ne0 c =
    let empty : c.args.set.bits ≡ 0 = omega (arith, c.if-set-ne0.false) in
    ap not (eq-eqb c.args.set.bits 0 empty)
    ∙ sym (ap (λ n. list_any (has_rule n) rules_at_once) empty ∙ none_in_empty rules_at_once)
