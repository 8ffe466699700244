use Rattle.works.proofs.CostLawLemmas.{canon_costs_are_the_books, canon_penalty_is_the_books}
use Rattle.works.proofs.canon_laws.canons_pay_by_the_book.Goals as goal

pub returns-clause-bar : goal.returns-clause-bar
returns-clause-bar c = canon_costs_are_the_books

pub returns-clause-whole : goal.returns-clause-whole
returns-clause-whole c = canon_penalty_is_the_books
