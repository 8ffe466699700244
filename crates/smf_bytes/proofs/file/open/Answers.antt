use Rattle.std.proofs.Common.{Ok, rules}
use Rattle.smf_bytes.proofs.FileLemmas.{opened}
use Rattle.smf_bytes.proofs.file.open.Goals as goal

pub returns-in_err-header-clause-value : goal.returns-in_err-header-clause-value
returns-in_err-header-clause-value c =
    opened c.args.bytes.now c.from_residual.result (search rules)

pub returns-clause-value : goal.returns-clause-value
returns-clause-value c = opened c.args.bytes.now (Ok c.behind.result) (search rules)
