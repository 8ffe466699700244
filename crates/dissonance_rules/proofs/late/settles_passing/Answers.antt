use Rattle.std.specs.Prelude.{◌∷◌, ◌++◌, [], not}
use Rattle.std.proofs.Common.{ap, sym, ◌∙◌, arith}
use Rattle.dissonance_rules.proofs.LateReadings.{settles_none, settles_open, settles_own}
use Rattle.dissonance_rules.proofs.late.settles_passing.Goals as goal

pub returns-then-newest-place : goal.returns-then-newest-place
returns-then-newest-place c = λ p col first is from.
    ap not (c.is_passing_open.ensures (p ++ col ∷ []) first is from)
    ∙ settles_own c.args.ex.now c.args.voices.bits p col c.args.place c.args.newest.now.len is.newest.count
    c.requires.place (omega (arith, c.if-newest-place.true))

pub returns-then-not-is_passing_open : goal.returns-then-not-is_passing_open
returns-then-not-is_passing_open c = λ p col first is from.
    settles_none c.args.ex.now c.args.voices.bits p col c.args.place c.args.newest.now.len is.newest.count
    c.requires.place (λ e. c.if-newest-place.false (sym e)) (c.if-not-is_passing_open.ensures (p ++ col ∷ []) first is from)

pub returns : goal.returns
returns c = λ p col first is from.
    ap not (c.is_passing_open-3.ensures (p ++ col ∷ []) first is from)
    ∙ settles_open c.args.ex.now c.args.voices.bits p col c.args.place c.args.newest.now.len is.newest.count
    c.requires.place (λ e. c.if-newest-place.false (sym e)) (c.if-not-is_passing_open.ensures (p ++ col ∷ []) first is from)
