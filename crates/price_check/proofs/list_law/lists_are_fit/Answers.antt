use Rattle.price_check.proofs.Fit.{lists_fit}
use Rattle.price_check.proofs.Keys.{lists_have_keys}
use Rattle.price_check.proofs.SameFloors.{stated_floors_are_one}
use Rattle.price_check.proofs.list_law.lists_are_fit.Goals as goal

pub returns-clause-keys : goal.returns-clause-keys
returns-clause-keys c = lists_have_keys

pub returns-clause-fit : goal.returns-clause-fit
returns-clause-fit c = lists_fit

pub returns-clause-one : goal.returns-clause-one
returns-clause-one c = stated_floors_are_one
