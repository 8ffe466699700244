use Rattle.score_picture.proofs.Beside.{notes-apart, parts-apart}
use Rattle.score_picture.proofs.laws.notes_stand_apart.Goals as goal

pub returns-clause-notes : goal.returns-clause-notes
returns-clause-notes c = notes-apart

pub returns-clause-parts : goal.returns-clause-parts
returns-clause-parts c = parts-apart
