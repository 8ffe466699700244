use Rattle.std.proofs.Common.{◌&&◌, ap, sym, ◌∙◌}
use Rattle.rule_law.specs.Pairs.{sound_perfect}
use Rattle.rule_law.specs.Terms.{same_way}
use Rattle.motion_rules.proofs.WayLemmas.{badly_by_ways, still_is_fine}
use Rattle.motion_rules.proofs.clear.move_badly.Goals as goal

pub returns-in_default-other : goal.returns-in_default-other
returns-in_default-other c =
    sym (still_is_fine c.args.ex.now c.args.before.now c.args.now.now c.args.v c.args.w c.if-w-ex.false
    (sym c.cross.ensures ∙ c.if-cross.false) (sym c.requires.other ∙ c.in_default-other.is))

pub returns-then-same_way : goal.returns-then-same_way
returns-then-same_way c =
    let now = c.args.now.now in
    let i = c.in-Some.i in
    let j = c.in-Some-other.j in
    c.sound_perfect.ensures
    ∙ sym (badly_by_ways c.args.ex.now c.args.before.now now c.args.v c.args.w i j c.if-w-ex.false
    (sym c.cross.ensures ∙ c.if-cross.false) (sym c.requires.one ∙ c.in-Some.is)
    (sym c.requires.other ∙ c.in-Some-other.is) (sym c.stay_equal.ensures ∙ c.if-stay_equal.false)
    ∙ ap (λ b. b && (same_way i j && sound_perfect now c.args.v c.args.w))
    (sym c.are_outer.ensures ∙ c.if-are_outer.true)
    ∙ ap (λ b. b && sound_perfect now c.args.v c.args.w) (sym c.same_way.ensures ∙ c.if-same_way.true))

pub returns-else-same_way : goal.returns-else-same_way
returns-else-same_way c =
    let now = c.args.now.now in
    let i = c.in-Some.i in
    let j = c.in-Some-other.j in
    c.if-same_way.false
    ∙ sym (badly_by_ways c.args.ex.now c.args.before.now now c.args.v c.args.w i j c.if-w-ex.false
    (sym c.cross.ensures ∙ c.if-cross.false) (sym c.requires.one ∙ c.in-Some.is)
    (sym c.requires.other ∙ c.in-Some-other.is) (sym c.stay_equal.ensures ∙ c.if-stay_equal.false)
    ∙ ap (λ b. b && (same_way i j && sound_perfect now c.args.v c.args.w))
    (sym c.are_outer.ensures ∙ c.if-are_outer.true)
    ∙ ap (λ b. b && sound_perfect now c.args.v c.args.w) (sym c.same_way.ensures ∙ c.if-same_way.false))
