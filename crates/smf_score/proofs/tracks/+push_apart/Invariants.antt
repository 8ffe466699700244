use Rattle.smf_score.proofs.tracks.+push_apart.Given as goal

abbrev pub decreases-push_apart : goal.decreases-push_apart
decreases-push_apart l = l.most
