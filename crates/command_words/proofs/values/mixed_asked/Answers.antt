use Rattle.std.proofs.Common.{refl}
use Rattle.command_words.proofs.values.mixed_asked.Goals as goal

pub returns-in_err-name-clause-asked : goal.returns-in_err-name-clause-asked
returns-in_err-name-clause-asked c = rw (c.from_residual.ensures, ← c.in_err-name.ensures) refl

pub returns-in_err-list-clause-asked : goal.returns-in_err-list-clause-asked
returns-in_err-list-clause-asked c =
    rw (c.from_residual-in_err-list.ensures, ← c.in_ok-name.ensures, ← c.in_err-list.ensures) refl

pub returns-in_err-budget-clause-asked : goal.returns-in_err-budget-clause-asked
returns-in_err-budget-clause-asked c =
    rw (
      c.from_residual-in_err-budget.ensures,
      ← c.in_ok-name.ensures,
      ← c.in_ok-list.ensures,
      ← c.value-3.ensures,
      ← c.in_err-budget.ensures,
    ) refl

pub returns-clause-asked : goal.returns-clause-asked
returns-clause-asked c =
    rw (
      c.mixed_by.ensures.asked,
      c.mixing.ensures,
      ← c.in_ok-name.ensures,
      ← c.in_ok-list.ensures,
      ← c.value-3.ensures,
      ← c.in_ok-budget.ensures,
      ← c.value-sheet.ensures,
      ← c.is_set-by_sharper.ensures,
    ) refl
