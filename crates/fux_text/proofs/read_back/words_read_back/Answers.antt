use Rattle.fux_text.proofs.NumberWords.{number-own}
use Rattle.fux_text.proofs.OwnWords.{mode-own, pitch-own, rule-own, set-own}
use Rattle.fux_text.proofs.read_back.words_read_back.Goals as goal

pub returns-clause-modes : goal.returns-clause-modes
returns-clause-modes c = mode-own

pub returns-clause-pitches : goal.returns-clause-pitches
returns-clause-pitches c = pitch-own

pub returns-clause-numbers : goal.returns-clause-numbers
returns-clause-numbers c = number-own

pub returns-clause-rules : goal.returns-clause-rules
returns-clause-rules c = rule-own

pub returns-clause-sets : goal.returns-clause-sets
returns-clause-sets c = set-own
