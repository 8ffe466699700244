use Rattle.species_space.specs.Blocks.{columns_seen}
use Rattle.species_space.proofs.Passing.{all_are_next, here_is_next}
use Rattle.species_space.proofs.blocks.MenuView.next_that_follows.Goals as goal

pub returns-then-self : goal.returns-then-self
returns-then-self c =
    all_are_next (columns_seen c.args.self.now) c.args.before.now c.args.from (c.requires.cut.no_holds c.if-self.true)
    c.requires.within

pub returns-then-follows_at : goal.returns-then-follows_at
returns-then-follows_at c =
    here_is_next (columns_seen c.args.self.now) c.args.before.now c.args.from c.requires.within
    (λ lt. c.follows_at.ensures c.if-follows_at.true)
