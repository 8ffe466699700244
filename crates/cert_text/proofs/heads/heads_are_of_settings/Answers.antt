use Rattle.cert_text.proofs.HeadBacks.{one-heads, short-texts}
use Rattle.cert_text.proofs.HeadLaws.{best-heads_written, best-texts_written, texts-of_heads}
use Rattle.cert_text.proofs.SungScores.{written-lines_read}
use Rattle.cert_text.proofs.heads.heads_are_of_settings.Goals as goal

pub returns-clause-read : goal.returns-clause-read
returns-clause-read c = written-lines_read

pub returns-clause-best : goal.returns-clause-best
returns-clause-best c = best-texts_written

pub returns-clause-heads : goal.returns-clause-heads
returns-clause-heads c = best-heads_written

pub returns-clause-texts : goal.returns-clause-texts
returns-clause-texts c = texts-of_heads

pub returns-clause-one : goal.returns-clause-one
returns-clause-one c = one-heads

pub returns-clause-short : goal.returns-clause-short
returns-clause-short c = short-texts
