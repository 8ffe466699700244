use Rattle.cert_writer.proofs.Written.{all_true, written_is_valid}
use Rattle.cert_writer.proofs.law.written_by_prices.Goals as goal

pub returns-clause-told : goal.returns-clause-told
returns-clause-told c = λ ex sheet head lists valid holds. all_true ex valid sheet lists head holds

pub returns-clause-valid : goal.returns-clause-valid
returns-clause-valid c = λ ex sheet head lists valid holds fair. written_is_valid ex valid sheet lists head holds fair
