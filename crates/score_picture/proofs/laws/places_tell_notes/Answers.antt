use Rattle.score_picture.proofs.Told.{places-tell}
use Rattle.score_picture.proofs.laws.places_tell_notes.Goals as goal

pub returns : goal.returns
returns c = places-tell
