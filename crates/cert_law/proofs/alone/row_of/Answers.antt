use Rattle.std.proofs.Common.{◌≡◌, ◌+◌, ◌<◌, ◌∷◌, [], ℕ, List, None, Option, ap, length, slice_index_or, ◌∙◌, subst, sym, arith, length-append}
use Rattle.cert_law.specs.Alone.{IsAloneRow}
use Rattle.fux_grid.specs.declared.cell.Cell.{Cell}
use Rattle.fux_grid.specs.declared.exercise.Exercise.{Exercise}
use Rattle.fux_grid.specs.Exercises.{columns_in}
use Rattle.fux_grid.specs.Menus.{menu_of}
use Rattle.fux_judge.specs.Told.{least_alone}
use Rattle.cert_law.proofs.AloneLemmas.{each_more}
use Rattle.cert_law.proofs.alone.row_of.Goals as goal

pub width-width-requires : goal.width-width-requires
width-width-requires c =
    subst (λ (ex : Exercise). c.args.i < columns_in ex) (sym c.requires.same) c.requires.place

pub column-requires-clause-place : goal.column-requires-clause-place
column-requires-clause-place c =
    subst (λ (ex : Exercise). c.args.i < columns_in ex) (sym c.requires.same) c.requires.place

pub loop-k-preserved : goal.loop-k-preserved
loop-k-preserved c =
    let ex = c.args.ex.now in
    let i = c.args.i in
    let before = c.loop-k.invariant in
    let pushed = c.push_reserved.ensures.items in
    let told = c.alone_of-told.result in
    let P : ℕ → Option ℕ → Type 0 = λ k o. o ≡ least_alone ex i (slice_index_or (menu_of ex i) k []) in
    let col : c.column.result.now.items ≡ slice_index_or (menu_of ex i) c.loop-k.k [] =
    c.column.ensures ∙ ap (λ (e : Exercise). slice_index_or (menu_of e i) c.loop-k.k []) c.requires.same in
    record {
      each = ap length pushed ∙ length-append c.loop-k.row.items (_ ∷ []) ∙ ap (λ n. n + 1) before.each;
      room = omega (arith, before.room, c.push_reserved.ensures.capacity);
      alone = each_more P c.loop-k.row.items _ told None c.loop-k.k before.each pushed before.alone
          (subst (λ (d : List Cell). told ≡ least_alone ex i d) col c.alone_of-told.ensures);
    }

pub returns : goal.returns
returns c =
    subst (IsAloneRow c.args.ex.now c.args.i) (sym c.new.ensures)
    (λ k within. c.loop-k.invariant.alone k (omega (arith, within, c.loop-k.invariant.each)))
