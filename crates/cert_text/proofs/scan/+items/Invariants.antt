use Rattle.cert_text.proofs.scan.+items.Given as goal

abbrev pub decreases-items : goal.decreases-items
decreases-items l = l.most
