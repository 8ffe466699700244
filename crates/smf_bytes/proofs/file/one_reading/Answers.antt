use Rattle.smf_bytes.specs.Events.{file_in, to_come}
use Rattle.smf_bytes.proofs.FileLemmas.{file_is, file_told, to_come_is, to_come_told}
use Rattle.smf_bytes.proofs.file.one_reading.Goals as goal

pub returns-clause-file : goal.returns-clause-file
returns-clause-file c = λ bytes. (file_in bytes, file_told bytes, file_is bytes)

pub returns-clause-to_come : goal.returns-clause-to_come
returns-clause-to_come c = λ events. (to_come events, to_come_told events, to_come_is events)
