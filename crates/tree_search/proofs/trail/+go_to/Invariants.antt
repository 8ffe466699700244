use Rattle.tree_search.proofs.trail.+go_to.Given as goal

abbrev pub decreases-go_to : goal.decreases-go_to
decreases-go_to g l = l.entry
