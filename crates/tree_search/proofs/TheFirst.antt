-- What a search for the leaf of the number 1 tells is what a search for the first leaf of least
-- value tells.
use Rattle.std.proofs.Common.{ℕ, List, Option}
use Rattle.tree_search.specs.Numbered.{first_of}
use Rattle.tree_search.specs.declared.outcome.Numbered.{Numbered}
use Rattle.tree_search.specs.declared.outcome.Numbered.TheVariants.{Found, Only, Spent}
use Rattle.tree_search.proofs.Nth.{IsNumbered, first_bound, first_from, first_over, none_from_only, over_first}
use Rattle.tree_search.proofs.Quests.{IsFrontAnswer}

pub first_answers : (live : List ℕ → Option ℕ) (height budget : ℕ) (numbered : Numbered)
    → IsNumbered live height 1 budget numbered → IsFrontAnswer live height budget (first_of numbered)
first_answers live height budget (Found path value) it = record {
  found = first_from live height path value it.found;
  nothing = tt;
  over = ((λ spent. absurd spent), (λ over. it.over.1 (first_over live height budget over)));
  found_load = it.found_load;
  nothing_load = tt;
  spent = tt;
  least = tt;
  bound = tt;
}
first_answers live height budget (Only count) it = record {
  found = tt;
  nothing = none_from_only live height count it.only;
  over = ((λ spent. absurd spent), (λ over. it.over.1 (first_over live height budget over)));
  found_load = tt;
  nothing_load = it.only_load;
  spent = tt;
  least = tt;
  bound = tt;
}
first_answers live height budget (Spent bound) it = record {
  found = tt;
  nothing = tt;
  over = ((λ _. over_first live height budget (it.over.0 tt)), (λ _. tt));
  found_load = tt;
  nothing_load = tt;
  spent = it.spent;
  least = it.least;
  bound = first_bound live height bound it.bound;
}
