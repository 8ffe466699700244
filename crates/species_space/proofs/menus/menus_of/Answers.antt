use Rattle.std.proofs.Common.{◌≡◌, ◌+◌, ◌-◌, length, slice_index_or, ap, sym, ◌∙◌, subst, arith}
use Rattle.std.proofs.lemmas.List.{length_push}
use Rattle.fux_grid.specs.Grid.{items_of}
use Rattle.fux_grid.specs.Menus.{menu_of}
use Rattle.chain_sums.proofs.TableLemmas.{each_pushed}
use Rattle.species_space.specs.Blocks.{AreUndead}
use Rattle.species_space.specs.declared.menus.PlaceMenu.{PlaceMenu}
use Rattle.species_space.specs.MixedMenus.{ArePlaces, IsMenuOf, IsPlaceMenu}
use Rattle.species_space.proofs.MenuLemmas.{place_kept}
use Rattle.species_space.proofs.menus.menus_of.Goals as goal

pub loop-i-preserved : goal.loop-i-preserved
loop-i-preserved c =
    let ex = c.args.ex.now in
    let i = c.loop-i.i in
    let old = c.loop-i.invariant in
    let menus = c.loop-i.menus.items in
    let more = c.number_at.new.menus.items in
    let places = c.loop-i.places.items in
    let number = c.in_ok-menu.ensures in
    let place : PlaceMenu = record {
      menu = c.in_ok-menu.menu;
      undead = c.in_ok-undead.undead;
      idle = c.idle_rules-idle.result;
    } in
    let this = subst (IsMenuOf (menu_of ex i)) (sym c.index.ensures) (number.menu c.index.result.now) in
    let columns : items_of c.deref.result.now ≡ menu_of ex i = ap items_of c.deref.ensures.value ∙ this.columns_are in
    let next : IsPlaceMenu ex more i place = record {
      there = omega (arith, number.last);
      menu = number.menu;
      skip = subst (λ cols. AreUndead ex i cols place.undead.items) columns c.in_ok-undead.ensures;
      idle = c.idle_rules-idle.ensures;
    } in
    let same : i ≡ i + 1 - 1 = omega arith in
    let last : place.menu ≡ length more - 1 = omega (arith, number.last) in
    record {
      counted = omega (arith, ap length c.in_ok-push.ensures.items, length_push places place, old.counted);
      kept = subst (ArePlaces ex more) (sym c.in_ok-push.ensures.items)
          (λ j d lt. each_pushed (IsPlaceMenu ex more) i places place d old.counted
          (λ k b. place_kept ex k menus number.others more (slice_index_or places k d) number.kept
          (old.kept k d (omega (arith, b, old.counted)))) next j
          (omega (arith, lt, length_push places place, old.counted)));
      latest = λ d after some.
          subst (λ n. IsMenuOf (menu_of ex n) (slice_index_or more (length more - 1) d)) same
          (subst (λ n. IsMenuOf (menu_of ex i) (slice_index_or more n d)) last (number.menu d));
    }
