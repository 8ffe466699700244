use Rattle.works.proofs.gathering.report_names.Goals as goal

pub returns-in-Text-clause-reported : goal.returns-in-Text-clause-reported
returns-in-Text-clause-reported g c = rw c.in-Text.is c.told_names.ensures.reported

pub returns-in-Page-clause-reported : goal.returns-in-Page-clause-reported
returns-in-Page-clause-reported g c = rw c.in-Page.is c.page_names.ensures.paged

pub returns-in-Midi-clause-reported : goal.returns-in-Midi-clause-reported
returns-in-Midi-clause-reported g c = rw c.in-Midi.is c.told_names-in-Midi.ensures.reported
