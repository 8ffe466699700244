use Rattle.std.proofs.Common.{◌<◌, length, arith}
use Rattle.species_space.specs.Blocks.{columns_seen}
use Rattle.species_space.proofs.Passing.{no_other_held}
use Rattle.species_space.proofs.blocks.MenuView.past_holds.Goals as goal

pub returns-then-from-held-clause-passed : goal.returns-then-from-held-clause-passed
returns-then-from-held-clause-passed c = λ k a b its. absurd (omega (arith, a, b))

pub returns-then-hint-held-clause-passed : goal.returns-then-hint-held-clause-passed
returns-then-hint-held-clause-passed c = λ k a b its. absurd (omega (arith, a, b))

pub returns-then-not-may_follow-clause-passed : goal.returns-then-not-may_follow-clause-passed
returns-then-not-may_follow-clause-passed c = λ k a b its. absurd (omega (arith, a, b))

pub returns-then-from-hint-clause-passed : goal.returns-then-from-hint-clause-passed
returns-then-from-hint-clause-passed c = λ k a b.
    let menu = columns_seen c.args.self.now in
    let cut = c.requires.cut in
    let held = c.args.self.now.blocks.now.held in
    let early : c.args.hint < held = omega (arith, c.min-held.ensures, c.if-hint-held.false) in
    let there : c.args.hint < length menu = omega (arith, c.min-held.ensures, c.len.ensures, c.if-hint-held.false) in
    no_other_held menu c.args.before.now held c.args.hint cut.held cut.order cut.full early there
    (c.may_follow.ensures c.if-not-may_follow.false) k (omega (arith, b, early)) (omega (arith, b, there))
    (λ same. omega (arith, same, b))

pub returns-clause-passed : goal.returns-clause-passed
returns-clause-passed c = λ k a b.
    let menu = columns_seen c.args.self.now in
    let cut = c.requires.cut in
    let held = c.args.self.now.blocks.now.held in
    let early : c.args.hint < held = omega (arith, c.min-held.ensures, c.if-hint-held.false) in
    let there : c.args.hint < length menu = omega (arith, c.min-held.ensures, c.len.ensures, c.if-hint-held.false) in
    no_other_held menu c.args.before.now held c.args.hint cut.held cut.order cut.full early there
    (c.may_follow.ensures c.if-not-may_follow.false) k (omega (arith, b, c.min-held.ensures))
    (omega (arith, b, c.min-held.ensures, c.len.ensures)) (λ same. omega (arith, same, a, c.if-from-hint.false))
