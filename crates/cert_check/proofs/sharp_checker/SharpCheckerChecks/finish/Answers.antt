use Rattle.std.proofs.Common.{List, subst}
use Rattle.cert_law.specs.Certificates.{Holds}
use Rattle.cert_law.specs.Known.{ways_of}
use Rattle.cert_tree.specs.Judgings.{standing_of}
use Rattle.cert_file.specs.Checking.{Checking}
use Rattle.cert_file.proofs.CheckingLemmas.{certificate_seen, none_certified}
use Rattle.cert_check.specs.Settings.{Asked, Opening, setting_subject}
use Rattle.cert_check.proofs.SharpChecks.{sharp_asked, sharp_holds, sharp_opening, sharp_sound}
use Rattle.fux_grid.specs.declared.cell.Cell.{Cell}
use Rattle.cert_check.proofs.sharp_checker.SharpCheckerChecks.finish.Goals as goal

pub finish-requires-clause-kept : goal.finish-requires-clause-kept
finish-requires-clause-kept c = c.self.invariant.kept

pub returns-in-Ok-clause-shown : goal.returns-in-Ok-clause-shown
returns-in-Ok-clause-shown c =
    subst (λ (k : Checking Asked Opening (List (List Cell))). Holds k.asked.exercise k.asked.sheet k.head.head) c.self.view_is
    (sharp_holds c.self.inside.it c.self.invariant.case c.self.invariant.excluded c.in-Ok.ensures.shown)

pub returns-in-Ok-clause-certified : goal.returns-in-Ok-clause-certified
returns-in-Ok-clause-certified c =
    let s = c.self.inside.it in
    certificate_seen setting_subject (sharp_asked s) (sharp_opening s) c.args.self.now
    (standing_of (ways_of s.case.exercise) c.self.inside.judging) c.self.view_is
    (sharp_sound s c.self.invariant.case c.self.invariant.due) c.in-Ok.ensures.certified

pub returns-in-Err-clause-uncertified : goal.returns-in-Err-clause-uncertified
returns-in-Err-clause-uncertified c =
    let s = c.self.inside.it in
    none_certified setting_subject (sharp_asked s) (sharp_opening s) c.args.self.now
    (standing_of (ways_of s.case.exercise) c.self.inside.judging) c.self.view_is c.in-Err.ensures.uncertified
