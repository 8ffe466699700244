use Rattle.cert_writer.proofs.stating.+are_falling.Given as goal

abbrev pub decreases-are_falling : goal.decreases-are_falling
decreases-are_falling l = l.most
