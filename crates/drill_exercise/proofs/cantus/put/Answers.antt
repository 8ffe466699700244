use Rattle.std.proofs.Common.{◌≡◌, pos, subst, sym}
use Rattle.std.proofs.lemmas.List.Elements.{All-push}
use Rattle.fux_pitch.specs.declared.pitch.Pitch.{Pitch}
use Rattle.fux_pitch.specs.Pitch.{alter_of}
use Rattle.drill_exercise.specs.Drill.{AreNaturals}
use Rattle.drill_exercise.proofs.cantus.put.Goals as goal

pub returns-clause-naturals : goal.returns-clause-naturals
returns-clause-naturals c = λ before.
    subst AreNaturals (sym c.in_ok-push.ensures.items)
    (All-push (λ (p : Pitch). alter_of p ≡ pos 0) c.args.line.now.items c.natural.result before c.natural.ensures.alter)
