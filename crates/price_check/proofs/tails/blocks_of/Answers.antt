use Rattle.std.proofs.Common.{◌<◌, length, ap, sym, subst, arith}
use Rattle.std.proofs.lemmas.List.{length_push}
use Rattle.chain_sums.proofs.TableLemmas.{each_pushed}
use Rattle.floor_tables.specs.Tables.{AreNarrow}
use Rattle.fux_grid.specs.declared.exercise.Exercise.{Exercise}
use Rattle.fux_grid.specs.Exercises.{columns_in}
use Rattle.fux_grid.specs.Menus.{menu_of}
use Rattle.price_check.specs.Blocks.{AreFirstBlocks}
use Rattle.species_space.specs.Blocks.{AreBlocksOf}
use Rattle.species_space.specs.declared.blocks.Blocks.{Blocks}
use Rattle.price_check.proofs.tails.blocks_of.Goals as goal

pub blocks_at-cut-requires-clause-narrow : goal.blocks_at-cut-requires-clause-narrow
blocks_at-cut-requires-clause-narrow c = subst AreNarrow (sym c.requires.same) c.requires.narrow

pub blocks_at-cut-requires-clause-place : goal.blocks_at-cut-requires-clause-place
blocks_at-cut-requires-clause-place c =
    let within : c.loop-i.i < columns_in c.args.ex.now = omega arith in
    subst (λ (ex : Exercise). c.loop-i.i < columns_in ex) (sym c.requires.same) within

pub loop-i-preserved : goal.loop-i-preserved
loop-i-preserved c =
    let ex = c.args.ex.now in
    let i = c.loop-i.i in
    let old = c.loop-i.invariant in
    let items = c.loop-i.blocks.items in
    let cut : Blocks = c.blocks_at-cut.result in
    let next : AreBlocksOf (menu_of ex i) cut = subst (λ (e : Exercise). AreBlocksOf (menu_of e i) cut) c.requires.same
    c.blocks_at-cut.ensures in
    record {
      counted = omega (arith, ap length c.push_reserved.ensures.items, length_push items cut, old.counted);
      room = omega (arith, old.room, c.push_reserved.ensures.capacity);
      kept = subst (AreFirstBlocks ex) (sym c.push_reserved.ensures.items)
          (λ j d lt. each_pushed (λ k b. AreBlocksOf (menu_of ex k) b) i items cut d old.counted
          (λ k below. old.kept k d (omega (arith, below, old.counted))) next j
          (omega (arith, lt, length_push items cut, old.counted)));
    }

pub returns : goal.returns
returns c = record {
  counted = omega (arith, c.loop-i.invariant.counted);
  kept = c.loop-i.invariant.kept;
}
