use Rattle.std.proofs.Common.{All, length, ap, sym, ◌∙◌, subst, arith}
use Rattle.std.proofs.lemmas.List.{length_push}
use Rattle.fux_grid.specs.declared.exercise.Exercise.{Exercise}
use Rattle.fux_grid.specs.Menus.{menu_of}
use Rattle.chain_sums.proofs.TableLemmas.{each_pushed}
use Rattle.species_space.specs.declared.blocks.BlockMenu.{BlockMenu}
use Rattle.species_space.specs.Blocks.{AreBlocksOf, AreUndead, IsOnlyHolds}
use Rattle.species_space.specs.Task.{AreMenus, IsBlockMenuOf}
use Rattle.species_space.proofs.space.menus_of.Goals as goal

pub is_still_place-still-requires-clause-held : goal.is_still_place-still-requires-clause-held
is_still_place-still-requires-clause-held c = λ yes.
    subst (λ (e : Exercise). All IsOnlyHolds (menu_of e c.loop-i.i)) c.requires.tables (c.blocks_at-blocks.ensures.holds yes)

pub loop-i-preserved : goal.loop-i-preserved
loop-i-preserved c =
    let ex = c.args.exercise.now in
    let i = c.loop-i.i in
    let old = c.loop-i.invariant in
    let menus = c.loop-i.menus.items in
    let columns = c.columns.result.now in
    let menu : BlockMenu = record {
      blocks = c.blocks_at-blocks.result;
      undead = c.in_ok-undead.undead;
      idle = c.idle_rules-idle.result;
      still = c.is_still_place-still.result;
    } in
    let is = c.columns.ensures ∙ ap (λ (e : Exercise). menu_of e i) c.requires.tables in
    let next : IsBlockMenuOf ex i menu = record {
      blocks = subst (λ (e : Exercise). AreBlocksOf (menu_of e i) menu.blocks) c.requires.tables
          c.blocks_at-blocks.ensures;
      skip = subst (λ cols. AreUndead ex i cols menu.undead.items) is c.in_ok-undead.ensures;
      idle = c.idle_rules-idle.ensures;
      still = c.is_still_place-still.ensures;
    } in
    record {
      room = c.push_reserved.ensures.capacity ∙ old.room;
      counted = omega (arith, ap length c.push_reserved.ensures.items, length_push menus menu, old.counted);
      kept = subst (AreMenus ex) (sym c.push_reserved.ensures.items)
          (λ j d lt. each_pushed (IsBlockMenuOf ex) i menus menu d old.counted
          (λ k b. old.kept k d (omega (arith, b, old.counted))) next j
          (omega (arith, lt, length_push menus menu, old.counted)));
    }
