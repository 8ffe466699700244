use Rattle.std.proofs.Common.{arith}
use Rattle.std.proofs.lemmas.List.{length-take-le}
use Rattle.cert_file.proofs.FileLemmas.{if_ok}
use Rattle.cert_file.proofs.filling.read_piece.Goals as goal

pub returns-clause-end : goal.returns-clause-end
returns-clause-end g c =
    if_ok c.read_at.result _ _ c.read_at.ensures.end (λ count known zero some file told.
    known zero (omega (arith, length-take-le c.args.wanted c.args.buf.now c.requires, some)) file told)
