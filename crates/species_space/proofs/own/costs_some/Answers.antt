use Rattle.std.proofs.Common.{ℕ, ⊎_elim, ◌≡◌, List, [], slice_index_or, subst, arith}
use Rattle.std.proofs.lemmas.Bool.{cases_lt}
use Rattle.std.proofs.lemmas.List.{length-map}
use Rattle.fux_grid.specs.declared.cell.Cell.{Cell}
use Rattle.fux_grid.specs.Grid.{items_of}
use Rattle.fux_judge.specs.Links.{IsOwnCost}
use Rattle.species_space.proofs.own.costs_some.Goals as goal

pub loop-k-init : goal.loop-k-init
loop-k-init c = λ j lt. absurd (omega (arith, lt))

pub loop-k-preserved : goal.loop-k-preserved
loop-k-preserved c = λ j lt.
    let ex = c.args.exercise.now in
    let sheet = c.args.sheet.now in
    let i = c.args.i in
    let menu = items_of c.args.columns.now in
    let k = c.loop-k.k in
    ⊎_elim (λ less. c.loop-k.invariant j less)
    (λ le.
    let same : k ≡ j = omega (arith, lt, le) in
    let free : c.own_charge-cost.result ≡ 0 = omega (arith, c.if-cost-ne0.false) in
    subst (λ (n : ℕ). IsOwnCost ex sheet i (slice_index_or menu n []) 0) same
    (subst (λ (d : List Cell). IsOwnCost ex sheet i d 0) c.column_at.ensures
    (subst (λ (n : ℕ). IsOwnCost ex sheet i c.column_at.result.now.items n) free c.own_charge-cost.ensures)))
    (cases_lt j k)

pub returns : goal.returns
returns c = λ j lt.
    c.loop-k.invariant j (omega (arith, lt, length-map c.args.columns.now (λ col. col.items), c.loop-k-test.false))
