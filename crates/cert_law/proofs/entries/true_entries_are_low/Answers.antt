use Rattle.cert_law.proofs.EntryLemmas.{entries_are_low}
use Rattle.cert_law.proofs.entries.true_entries_are_low.Goals as goal

pub returns : goal.returns
returns c = entries_are_low
