use Rattle.fux_run.proofs.MakingLemmas.{each_end, no_causes}
use Rattle.fux_run.proofs.perform.perform.Goals as goal

pub returns-in-Make-clause-causes : goal.returns-in-Make-clause-causes
returns-in-Make-clause-causes g c = rw c.in-Make.is (no_causes c.in-Make.making _ _ _ _)

pub returns-in-Make-clause-near : goal.returns-in-Make-clause-near
returns-in-Make-clause-near g c = rw c.in-Make.is c.perform_making.ensures.near

pub returns-in-WholeClass-clause-near : goal.returns-in-WholeClass-clause-near
returns-in-WholeClass-clause-near g c = rw c.in-WholeClass.is (each_end c.perform_class.result)

pub returns-in-Certify-clause-near : goal.returns-in-Certify-clause-near
returns-in-Certify-clause-near g c = rw c.in-Certify.is (each_end c.perform_certify.result)

pub returns-in-CertifyCantus-clause-near : goal.returns-in-CertifyCantus-clause-near
returns-in-CertifyCantus-clause-near g c = rw c.in-CertifyCantus.is (each_end c.perform_cantus.result)

pub returns-in-WholeFiles-clause-near : goal.returns-in-WholeFiles-clause-near
returns-in-WholeFiles-clause-near g c = rw c.in-WholeFiles.is (each_end c.perform_files.result)

pub returns-in-WholeFiles-clause-causes : goal.returns-in-WholeFiles-clause-causes
returns-in-WholeFiles-clause-causes g c = rw c.in-WholeFiles.is c.perform_files.ensures.causes
