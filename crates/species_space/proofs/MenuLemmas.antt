-- What is kept of menus stays so behind others (`place_kept`).
use Rattle.std.proofs.Common.{◌≡◌, ℕ, ◌-◌, List, ◌++◌, length, slice_index_or, ap, sym, ◌∙◌, subst, arith}
use Rattle.std.proofs.Math.ListN.{get_or-append}
use Rattle.std.proofs.lemmas.List.{length-append}
use Rattle.fux_grid.specs.declared.exercise.Exercise.{Exercise}
use Rattle.fux_grid.specs.Menus.{menu_of}
use Rattle.species_space.specs.declared.menus.Menu.{Menu}
use Rattle.species_space.specs.declared.menus.PlaceMenu.{PlaceMenu}
use Rattle.species_space.specs.MixedMenus.{IsMenuOf, IsPlaceMenu}

pub place_kept : (ex : Exercise) (i : ℕ) (menus others more : List Menu) (place : PlaceMenu) → more ≡ menus ++ others
    → IsPlaceMenu ex menus i place → IsPlaceMenu ex more i place
place_kept ex i menus others more place is kept =
    let same : (d : Menu) → slice_index_or more place.menu d ≡ slice_index_or menus place.menu d = λ d.
    ap (λ (ms : List Menu). slice_index_or ms place.menu d) is ∙ get_or-append menus others d place.menu kept.there in
    record {
      there = omega (arith, kept.there, ap length is, length-append menus others);
      menu = λ d. subst (λ (m : Menu). IsMenuOf (menu_of ex i) m) (sym (same d)) (kept.menu d);
      skip = kept.skip;
      idle = kept.idle;
    }
