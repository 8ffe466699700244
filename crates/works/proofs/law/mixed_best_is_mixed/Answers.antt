use Rattle.works.proofs.MixedAgree as agree
use Rattle.works.proofs.law.mixed_best_is_mixed.Goals as goal

pub returns : goal.returns
returns c = record { same = agree.mixed_best_is_mixed; ends = agree.mixed_best_ends_as_mixed }
