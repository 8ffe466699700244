use Rattle.std.proofs.Common.{◌≡◌, [], List, false, slice_index_or, sym, ◌∙◌, subst}
use Rattle.fux_grid.specs.declared.cell.Cell.{Cell}
use Rattle.fux_grid.specs.Menus.{IsInMenu}
use Rattle.fux_judge.specs.Lawful.{breaks_strictly}
use Rattle.cert_check.proofs.HeadLemmas.{below_more}
use Rattle.cert_check.proofs.head.is_lawful.Goals as goal

pub loop-i-preserved : goal.loop-i-preserved
loop-i-preserved c =
    let ex = c.args.ex.now in
    let s = c.args.score.now.columns in
    let i = c.loop-i.i in
    record {
      menus =
          below_more (λ j. IsInMenu ex j (slice_index_or s j [])) i c.loop-i.invariant.menus
          (subst (λ (col : List Cell). IsInMenu ex i col) c.column.ensures.value
          (c.is_outside_menu.ensures.within c.if-is_outside_menu.false));
      unbroken =
          below_more (λ j. breaks_strictly ex s j ≡ false) i c.loop-i.invariant.unbroken
          (sym c.breaks_at.ensures ∙ c.if-breaks_at.false);
    }
