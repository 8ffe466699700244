use Rattle.std.proofs.Common.{◌≡◌, ◌++◌, ℕ, Bool, List, true, sym, ◌∙◌}
use Rattle.std.specs.List.{list_all}
use Rattle.std.proofs.lemmas.List.Folds.{list_all-append}
use Rattle.rule_law.specs.Law.{first_true, second_true}
use Rattle.rule_law.proofs.both.BothRuleCrate.asks_some.Goals as goal

all_in_front : (test : ℕ → Bool) (xs ys : List ℕ) → list_all test (xs ++ ys) ≡ true → list_all test xs ≡ true
all_in_front test xs ys h =
    first_true (list_all test xs) (list_all test ys) (sym (list_all-append test xs ys) ∙ h)

all_behind : (test : ℕ → Bool) (xs ys : List ℕ) → list_all test (xs ++ ys) ≡ true → list_all test ys ≡ true
all_behind test xs ys h =
    second_true (list_all test xs) (list_all test ys) (sym (list_all-append test xs ys) ∙ h)

pub asks_some-requires-clause-rules : goal.asks_some-requires-clause-rules
asks_some-requires-clause-rules g c =
    all_in_front (g.Q.LateQuestion.may_ask c.args.question.now) g.B.RuleCrate.book.late_rules
    g.A.RuleCrate.book.late_rules c.requires.rules

pub asks_some-requires-else-asks_some-clause-rules : goal.asks_some-requires-else-asks_some-clause-rules
asks_some-requires-else-asks_some-clause-rules g c =
    all_behind (g.Q.LateQuestion.may_ask c.args.question.now) g.B.RuleCrate.book.late_rules
    g.A.RuleCrate.book.late_rules c.requires.rules
