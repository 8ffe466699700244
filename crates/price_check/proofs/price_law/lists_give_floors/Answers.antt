use Rattle.price_check.proofs.ListSums.{list_floors, sharp_floors}
use Rattle.price_check.proofs.price_law.lists_give_floors.Goals as goal

pub returns : goal.returns
returns c = record { each = list_floors; all = sharp_floors }
