use Rattle.fux_text.proofs.ReadTexts.{faults-read, sing_faults-read, sing_texts-read, texts-faultless, texts-one_fault, texts-of_one, texts-or_faults, texts-read}
use Rattle.fux_text.proofs.read_back.texts_are_read.Goals as goal

pub returns-clause-texts : goal.returns-clause-texts
returns-clause-texts c = texts-read

pub returns-clause-each : goal.returns-clause-each
returns-clause-each c = texts-or_faults

pub returns-clause-one : goal.returns-clause-one
returns-clause-one c = texts-of_one

pub returns-clause-faultless : goal.returns-clause-faultless
returns-clause-faultless c = texts-faultless

pub returns-clause-faults : goal.returns-clause-faults
returns-clause-faults c = faults-read

pub returns-clause-one_fault : goal.returns-clause-one_fault
returns-clause-one_fault c = texts-one_fault

pub returns-clause-sing_lines : goal.returns-clause-sing_lines
returns-clause-sing_lines c = sing_texts-read

pub returns-clause-sing_faults : goal.returns-clause-sing_faults
returns-clause-sing_faults c = sing_faults-read
