use Rattle.fux_text.proofs.OwnText.{note_text-back, sing_lines-back}
use Rattle.fux_text.proofs.read_back.text_reads_back.Goals as goal

pub returns-clause-note_text : goal.returns-clause-note_text
returns-clause-note_text c = note_text-back

pub returns-clause-sing_lines : goal.returns-clause-sing_lines
returns-clause-sing_lines c = sing_lines-back
