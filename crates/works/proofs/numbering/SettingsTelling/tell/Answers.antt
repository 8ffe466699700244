use Rattle.std.proofs.Common.{true}
use Rattle.species_space.specs.Grows.{with_value}
use Rattle.works.proofs.numbering.SettingsTelling.tell.Goals as goal

pub nth_text-requires-clause-alive : goal.nth_text-requires-clause-alive
nth_text-requires-clause-alive c =
    let space = c.args.self.now.space.now in
    (with_value true space.exercise space.sheet c.args.path.now c.args.penalty c.requires.leaf.1).0

pub nth_text-requires-clause-setting : goal.nth_text-requires-clause-setting
nth_text-requires-clause-setting c = c.requires.lawful.setting
