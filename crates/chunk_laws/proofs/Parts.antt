-- One part more is gathered (`one_part`).
use Rattle.std.proofs.Common.{◌≡◌, ℕ, ◌+◌, ◌<◌, List, [], ◌∷◌, ◌++◌, length, take, get_or, Result, Ok, Vec, Global, ap, sym, ◌∙◌, refl}
use Rattle.std.specs.List.{flat_map}
use Rattle.std.specs.Result.{IsOk}
use Rattle.std.proofs.lemmas.List.{flat_map_more, take_more}
use Rattle.std.proofs.lemmas.List.Elements.{All-more}
use Rattle.fux_pitch.specs.declared.memory.Memory.{Memory}
use Rattle.chunk_laws.specs.Gathered.{AreGathered, items_in}

pub one_part : {X : Type 0} (parts : List (Result (Vec X Global) Memory)) (n : ℕ) (d : Result (Vec X Global) Memory)
    (more : Vec X Global) (all longer : List X) → n < length parts → get_or parts n d ≡ Ok more
    → AreGathered (take n parts) all → longer ≡ all ++ more.items → AreGathered (take (n + 1) parts) longer
one_part parts n d more all longer within here done is = record {
  each = All-more IsOk parts n d within done.each (rw here refl);
  all = is
      ∙ (ap (λ r. r ++ more.items) done.all
      ∙ (ap (λ r. flat_map items_in (take n parts) ++ items_in r) (sym here)
      ∙ (flat_map_more items_in [] (take n parts) (get_or parts n d)
      ∙ ap (flat_map items_in) (sym (take_more parts n d within)))));
}
