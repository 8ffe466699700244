use Rattle.std.proofs.Common.{false}
use Rattle.species_space.specs.Grows.{with_value}
use Rattle.works.proofs.mixing.MixedSettingsTelling.tell.Goals as goal

pub best_at-requires-clause-alive : goal.best_at-requires-clause-alive
best_at-requires-clause-alive c =
    let space = c.args.self.now.space.now in
    (with_value false space.exercise space.sheet c.args.path.now c.args.penalty c.requires.leaf.1).0

pub best_at-requires-clause-setting : goal.best_at-requires-clause-setting
best_at-requires-clause-setting c = c.requires.lawful.setting
