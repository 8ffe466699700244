use Rattle.std.proofs.Common.{◌≡◌, ◌||◌, Bool, true, false, refl, sym, ◌∙◌}
use Rattle.rule_law.specs.Voices.{voice_pairs}
use Rattle.motion_rules.specs.Clear.{move_badly}
use Rattle.motion_rules.proofs.clear.some_move_badly.Goals as goal

or_none : (b : Bool) → (b || false) ≡ b
or_none true = refl
or_none false = refl

pub returns-then-move_badly : goal.returns-then-move_badly
unfolding voice_pairs
returns-then-move_badly c =
    rw (sym c.move_badly.ensures ∙ c.if-move_badly.true)
    c.if-move_badly.true

pub returns-then-move_badly-2 : goal.returns-then-move_badly-2
unfolding voice_pairs
returns-then-move_badly-2 c =
    rw (sym c.move_badly.ensures ∙ c.if-move_badly.false, sym c.move_badly-else-move_badly.ensures ∙ c.if-move_badly-2.true)
    c.if-move_badly-2.true

pub returns-then-move_badly-3 : goal.returns-then-move_badly-3
unfolding voice_pairs
returns-then-move_badly-3 c =
    rw (sym c.move_badly.ensures ∙ c.if-move_badly.false, sym c.move_badly-else-move_badly.ensures ∙ c.if-move_badly-2.false, sym c.move_badly-else-move_badly-2.ensures ∙ c.if-move_badly-3.true)
    c.if-move_badly-3.true

pub returns-then-move_badly-4 : goal.returns-then-move_badly-4
unfolding voice_pairs
returns-then-move_badly-4 c =
    rw (sym c.move_badly.ensures ∙ c.if-move_badly.false, sym c.move_badly-else-move_badly.ensures ∙ c.if-move_badly-2.false, sym c.move_badly-else-move_badly-2.ensures ∙ c.if-move_badly-3.false, sym c.move_badly-else-move_badly-3.ensures ∙ c.if-move_badly-4.true)
    c.if-move_badly-4.true

pub returns-then-move_badly-5 : goal.returns-then-move_badly-5
unfolding voice_pairs
returns-then-move_badly-5 c =
    rw (sym c.move_badly.ensures ∙ c.if-move_badly.false, sym c.move_badly-else-move_badly.ensures ∙ c.if-move_badly-2.false, sym c.move_badly-else-move_badly-2.ensures ∙ c.if-move_badly-3.false, sym c.move_badly-else-move_badly-3.ensures ∙ c.if-move_badly-4.false, sym c.move_badly-else-move_badly-4.ensures ∙ c.if-move_badly-5.true)
    c.if-move_badly-5.true

pub returns-else-move_badly-5 : goal.returns-else-move_badly-5
unfolding voice_pairs
returns-else-move_badly-5 c =
    rw (sym c.move_badly.ensures ∙ c.if-move_badly.false, sym c.move_badly-else-move_badly.ensures ∙ c.if-move_badly-2.false, sym c.move_badly-else-move_badly-2.ensures ∙ c.if-move_badly-3.false, sym c.move_badly-else-move_badly-3.ensures ∙ c.if-move_badly-4.false, sym c.move_badly-else-move_badly-4.ensures ∙ c.if-move_badly-5.false)
    (c.move_badly-else-move_badly-5.ensures
    ∙ sym (or_none (move_badly c.args.ex.now c.args.before.now c.args.now.now 2 3)))
