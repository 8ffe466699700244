use Rattle.priced_paths.proofs.Spots.{sound_from_web}
use Rattle.price_check.proofs.woven.numbers_of_case.Goals as goal

pub numbers_in-requires-clause-sound : goal.numbers_in-requires-clause-sound
numbers_in-requires-clause-sound c = sound_from_web c.args.web.now c.requires.web
