use Rattle.std.proofs.Common.{◌≡◌, ◌++◌, ◌∷◌, [], Some, ap, sym, ◌∙◌, subst, true, false}
use Rattle.canon_space.specs.Kept.{history_of}
use Rattle.canon_space.specs.Paths.{IsNodeAt, both_fit, history_at, live_at}
use Rattle.canon_space.specs.Tasks.{CanonTask}
use Rattle.canon_space.proofs.Passing.{live_child_fits}
use Rattle.canon_space.proofs.space.CanonSpaceSpace.next_child.Goals as goal

pub returns-clause-passed : goal.returns-clause-passed
returns-clause-passed c = λ path here child floor from below live.
    let node = c.args.node.now in
    let Dies : CanonTask → Type 0 = λ t. IsNodeAt t.canon t.sheet node path
    → live_at t.canon t.sheet (path ++ child ∷ []) ≡ Some floor → ⊥ in
    absurd (subst Dies c.self.view_is (λ there lives.
    let canon = c.self.inside.canon in
    let kept : history_of c.bars.result.now ≡ history_at path = ap history_of c.bars.ensures ∙ there.here.kept.bars in
    let misfit = ap (λ behind. both_fit canon behind child) (sym kept) ∙ c.next_bar.ensures.passed child from below in
    let both = live_child_fits canon c.self.inside.sheet path child floor c.self.invariant.two_voices lives in
    let clash : true ≡ false = sym both ∙ misfit in
    cc) here live)
