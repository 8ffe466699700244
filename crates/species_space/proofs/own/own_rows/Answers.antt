use Rattle.std.proofs.Common.{ℕ, length, ap, sym, ◌∙◌, subst, arith}
use Rattle.std.proofs.lemmas.List.{length_push}
use Rattle.fux_grid.specs.declared.exercise.Exercise.{Exercise}
use Rattle.fux_grid.specs.Menus.{menu_of}
use Rattle.chain_sums.proofs.TableLemmas.{each_pushed}
use Rattle.species_space.specs.declared.own.OwnCosts.{OwnCosts}
use Rattle.species_space.specs.Own.{AreOwnCosts, KeepOwnCosts}
use Rattle.species_space.proofs.own.own_rows.Goals as goal

pub loop-i-preserved : goal.loop-i-preserved
loop-i-preserved c =
    let ex = c.args.exercise.now in
    let sheet = c.args.sheet.now in
    let i = c.loop-i.i in
    let old = c.loop-i.invariant in
    let rows = c.loop-i.rows.items in
    let row = c.in_ok-row.row in
    let is = c.columns.ensures ∙ ap (λ (e : Exercise). menu_of e i) c.requires.tables in
    let next : AreOwnCosts ex sheet i (menu_of ex i) row.costs.items =
    subst (λ cols. AreOwnCosts ex sheet i cols row.costs.items) is c.in_ok-row.ensures in
    record {
      room = c.push_reserved.ensures.capacity ∙ old.room;
      counted = omega (arith, ap length c.push_reserved.ensures.items, length_push rows row, old.counted);
      kept = subst (KeepOwnCosts ex sheet) (sym c.push_reserved.ensures.items)
          (λ j d lt. each_pushed (λ (k : ℕ) (r : OwnCosts). AreOwnCosts ex sheet k (menu_of ex k) r.costs.items) i rows
          row d old.counted
          (λ k b. old.kept k d (omega (arith, b, old.counted))) next j
          (omega (arith, lt, length_push rows row, old.counted)));
    }
