use Rattle.std.proofs.Common.{◌≡◌, List, None, subst}
use Rattle.cert_law.specs.Cases.{Matter}
use Rattle.cert_law.specs.Certificates.{Begins, Refutes}
use Rattle.cert_law.specs.Known.{tailed_of}
use Rattle.cert_tree.specs.Trees.{OwesRefuting}
use Rattle.cert_file.specs.Checking.{Checking}
use Rattle.cert_file.proofs.CheckingLemmas.{none_seen}
use Rattle.cert_check.specs.Settings.{Asked, IsSound, Opening}
use Rattle.cert_check.proofs.CheckerLemmas.{are_excluded, opening_sound, owes_all}
use Rattle.fux_grid.specs.declared.cell.Cell.{Cell}
use Rattle.cert_check.proofs.checker.Checker.kept.Goals as goal

pub returns-clause-sound : goal.returns-clause-sound
returns-clause-sound g c =
    let t : Matter = record {
      exercise = c.self.inside.exercise.now;
      sheet = c.self.inside.sheet.now;
      head = c.self.inside.head;
    } in
    let tailed = tailed_of t (g.T.Tails.basis c.self.inside.tails) in
    subst (λ (s : Checking Asked Opening (List (List Cell))). IsSound s.asked.exercise s.asked.sheet s.head) c.self.view_is
    (opening_sound tailed c.self.invariant.case c.self.invariant.entries)

pub returns-clause-owes : goal.returns-clause-owes
returns-clause-owes g c =
    let t : Matter = record {
      exercise = c.self.inside.exercise.now;
      sheet = c.self.inside.sheet.now;
      head = c.self.inside.head;
    } in
    let tailed = tailed_of t (g.T.Tails.basis c.self.inside.tails) in
    subst
    (λ (s : Checking Asked Opening (List (List Cell))).
    s.refusal ≡ None → OwesRefuting Begins (Refutes s.asked.exercise s.asked.sheet s.head.head) s.owed)
    c.self.view_is
    (λ unrefused. owes_all tailed _ (are_excluded tailed c.self.invariant.case c.self.invariant.entries)
    (c.self.invariant.kept.owes (none_seen c.self.inside.judging.refusal unrefused)))
