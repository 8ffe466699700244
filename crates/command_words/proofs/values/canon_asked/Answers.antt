use Rattle.std.proofs.Common.{refl}
use Rattle.command_words.proofs.values.canon_asked.Goals as goal

pub returns-in_err-name-clause-asked : goal.returns-in_err-name-clause-asked
returns-in_err-name-clause-asked c = rw (c.from_residual.ensures, ← c.in_err-name.ensures) refl

pub returns-in_err-search-clause-asked : goal.returns-in_err-search-clause-asked
returns-in_err-search-clause-asked c =
    rw (c.from_residual-in_err-search.ensures, ← c.in_ok-name.ensures, ← c.in_err-search.ensures) refl

pub returns-clause-asked : goal.returns-clause-asked
returns-clause-asked c =
    rw (← c.in_ok-name.ensures, ← c.in_ok-search.ensures, ← c.value-sheet.ensures) refl
