use Rattle.std.proofs.Common.{◌≡◌, ◌-◌, ℕ, [], slice_index_or, subst, arith}
use Rattle.species_space.specs.Blocks.{AreAlike, columns_seen}
use Rattle.species_space.proofs.walk.alike_before.Goals as goal

pub returns-then-from-eq0-clause-alike : goal.returns-then-from-eq0-clause-alike
returns-then-from-eq0-clause-alike c = λ j e. absurd (omega (arith, e, c.if-from-eq0.true))

pub returns-clause-alike : goal.returns-clause-alike
returns-clause-alike c = λ j e.
    let menu = columns_seen c.args.menu.now in
    let same : c.args.from - 1 ≡ j = omega (arith, e) in
    subst
    (λ (n : ℕ). AreAlike c.lowest_alike.result (slice_index_or menu n []) (slice_index_or menu c.args.k []))
    same c.lowest_alike.ensures.alike
