use Rattle.works.proofs.explaining.cantus_output.Goals as goal

pub returns : goal.returns
returns c = record { told = c.in_ok-told.told; holds = c.in_ok-told.ensures; is = c.output_of.ensures }
