use Rattle.price_check.proofs.reading.+keys_in.Given as goal

abbrev pub decreases-keys_in : goal.decreases-keys_in
decreases-keys_in l = l.most
