use Rattle.std.proofs.Common.{◌≡◌, ◌+◌, ◌++◌, ◌∷◌, [], Some, ap, sym, ◌∙◌, subst, true, false, length}
use Rattle.cantus_space.specs.declared.plan.CantusPlan.{CantusPlan}
use Rattle.cantus_space.specs.Cantus.{is_in_pool}
use Rattle.cantus_space.specs.Numbers.{numbered_pitch}
use Rattle.cantus_space.specs.Paths.{IsNodeAt, history_at, live_at}
use Rattle.cantus_space.proofs.Children.{live_child_in_pool}
use Rattle.cantus_space.proofs.space.CantusSpaceSpace.next_child.Goals as goal

pub returns-clause-passed : goal.returns-clause-passed
returns-clause-passed c = λ path here child floor from below live.
    let node = c.args.node.now in
    let Dies : CantusPlan → Type 0 = λ t. IsNodeAt t node path → live_at t (path ++ child ∷ []) ≡ Some floor → ⊥ in
    absurd (subst Dies c.self.view_is (λ there lives.
    let plan = c.self.inside.plan in
    let outside : is_in_pool plan (length (history_at plan path) + 1) (numbered_pitch plan child) ≡ false =
    ap (λ n. is_in_pool plan (n + 1) (numbered_pitch plan child)) (sym there.here.kept.count)
    ∙ c.next_of_pool.ensures.passed child from below in
    let clash : true ≡ false = sym (live_child_in_pool plan path child floor lives) ∙ outside in
    cc) here live)
