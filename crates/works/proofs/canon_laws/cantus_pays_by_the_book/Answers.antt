use Rattle.works.proofs.CantusLawLemmas.{cantus_floor_is_the_books, cantus_penalty_is_the_books, note_costs_are_the_books}
use Rattle.works.proofs.canon_laws.cantus_pays_by_the_book.Goals as goal

pub returns-clause-note : goal.returns-clause-note
returns-clause-note c = note_costs_are_the_books

pub returns-clause-whole : goal.returns-clause-whole
returns-clause-whole c = cantus_penalty_is_the_books

pub returns-clause-floor : goal.returns-clause-floor
returns-clause-floor c = cantus_floor_is_the_books
