use Rattle.works.proofs.BookLawLemmas.{canon_rules_are_the_book}
use Rattle.works.proofs.canon_laws.canons_keep_the_book.Goals as goal

pub returns : goal.returns
returns c = canon_rules_are_the_book
