use Rattle.std.specs.Prelude.{◌-◌, ◌∷◌, ◌++◌, []}
use Rattle.std.proofs.Common.{sym, ◌∙◌, arith}
use Rattle.dissonance_rules.proofs.LateReadings.{as_late, broken_as, kept_around, newly-told, settled_at_place, unsettled}
use Rattle.dissonance_rules.proofs.book.DissonanceRuleCrate.breaks_late.Goals as goal

pub returns-then-not-is_told_later : goal.returns-then-not-is_told_later
returns-then-not-is_told_later c = λ late p col part newest on among.
    c.breaks_clash.ensures (p ++ col ∷ []) (c.args.place - 3)
    (kept_around c.args.rule c.args.ex.now p col c.args.place on c.args.newest.now newest late among)
    (omega arith) (omega (arith, c.if-place-newest.false, newest.count))
    ∙ broken_as c.args.rule c.args.ex.now p col c.args.place on c.args.voices.bits late
    (settled_at_place c.args.rule c.args.ex.now p col c.args.place on c.args.voices.bits late
    (sym c.is_told_later.ensures ∙ c.if-not-is_told_later.true) among)

pub returns-then-not-reaches_last_bar : goal.returns-then-not-reaches_last_bar
returns-then-not-reaches_last_bar c = λ late p col part newest on among.
    c.breaks_told.ensures p col part
    (kept_around c.args.rule c.args.ex.now p col c.args.place on c.args.newest.now newest late among) on
    ∙ sym (as_late c.args.rule c.args.ex.now p col c.args.place on c.args.voices.bits late)

pub returns-then-not-settles_passing : goal.returns-then-not-settles_passing
returns-then-not-settles_passing c = λ late p col part newest on among.
    let is = kept_around c.args.rule c.args.ex.now p col c.args.place on c.args.newest.now newest late among in
    let told = sym c.is_told_later.ensures ∙ c.if-not-is_told_later.false in
    unsettled c.args.rule c.args.ex.now p col c.args.place on c.args.voices.bits late
    (newly-told c.args.rule c.args.ex.now c.args.voices.bits p col c.args.place told
    ∙ sym (c.settles_passing.ensures p col (c.args.place - 3) is (omega arith)) ∙ c.if-not-settles_passing.true)

pub returns : goal.returns
returns c = λ late p col part newest on among.
    let is = kept_around c.args.rule c.args.ex.now p col c.args.place on c.args.newest.now newest late among in
    let told = sym c.is_told_later.ensures ∙ c.if-not-is_told_later.false in
    c.breaks_clash-2.ensures (p ++ col ∷ []) (c.args.place - 3) is (omega arith)
    (omega (arith, c.if-place-newest.false, newest.count))
    ∙ broken_as c.args.rule c.args.ex.now p col c.args.place on c.args.voices.bits late
    (newly-told c.args.rule c.args.ex.now c.args.voices.bits p col c.args.place told
    ∙ sym (c.settles_passing.ensures p col (c.args.place - 3) is (omega arith)) ∙ c.if-not-settles_passing.false)
