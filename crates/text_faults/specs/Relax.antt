-- A `relax` line, judged by itself.
use Rattle.std.specs.Prelude.{Ok}
use Rattle.fux_text.specs.Relaxing.{relax_of}
use Rattle.text_lines.specs.Faults.{◌>>=◌}
use Rattle.text_lines.specs.Rows.{row_in}
use Rattle.text_lines.specs.Words.{LineWords}
use Rattle.text_faults.specs.declared.known.Known.{Known}
use Rattle.text_faults.specs.HeadLines.{Judged}
use Rattle.text_faults.specs.Range.{bars_of}

-- where no line tells how many bars there are, it is judged as if there were as many as may be
unfoldable pub relax_judged : Known → LineWords → Judged
relax_judged known at = row_in (relax_of known.voices (bars_of known.bars)) at >>= λ line. Ok known
