use Rattle.std.specs.Prelude.{◌-◌, [], ◌∷◌, ◌++◌}
use Rattle.std.proofs.Common.{sym, ◌∙◌, arith}
use Rattle.std.proofs.lemmas.List.{length-append}
use Rattle.rule_law.proofs.AroundLemmas.{kept_after}
use Rattle.motion_rules.proofs.AfterbeatLemmas.{newly_bare}
use Rattle.motion_rules.proofs.book.MotionRuleCrate.breaks_late.Goals as goal

pub returns : goal.returns
returns c = λ late p col part newest on among.
    let ex = c.args.ex.now in
    let place = c.args.place in
    let there = newly_bare c.args._rule ex c.args.voices.bits p col place late among in
    let shown = kept_after ex p col on c.args.newest.now (place - 8) newest (omega (arith, there.0)) in
    c.breaks_afterbeat.ensures (p ++ col ∷ []) (place - 8) shown (omega arith)
    (omega (arith, there.0, length-append p (col ∷ [])))
    ∙ sym there.1
