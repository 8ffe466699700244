use Rattle.cantus_check.proofs.scan.+names.Given as goal

abbrev pub decreases-names : goal.decreases-names
decreases-names l = l.most
