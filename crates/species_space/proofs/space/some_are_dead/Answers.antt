use Rattle.std.proofs.Common.{ℕ, ⊎_elim, ◌≡◌, [], slice_index_or, subst, arith}
use Rattle.std.proofs.lemmas.Bool.{OnFalse_at, cases_lt}
use Rattle.std.proofs.lemmas.List.{length-map}
use Rattle.fux_grid.specs.Grid.{items_of}
use Rattle.fux_judge.specs.Always.{IsSound}
use Rattle.species_space.proofs.space.some_are_dead.Goals as goal

pub loop-k-init : goal.loop-k-init
loop-k-init c = λ j lt. absurd (omega (arith, lt))

pub loop-k-preserved : goal.loop-k-preserved
loop-k-preserved c = λ j lt.
    let ex = c.args.exercise.now in
    let i = c.args.i in
    let menu = items_of c.args.columns.now in
    let k = c.loop-k.k in
    ⊎_elim (λ less. c.loop-k.invariant j less)
    (λ le.
    let same : k ≡ j = omega (arith, lt, le) in
    subst (λ (n : ℕ). IsSound ex i (slice_index_or menu n [])) same
    (subst (IsSound ex i) c.column_at.ensures (OnFalse_at c.if-is_always_dead.false c.is_always_dead.ensures.sound)))
    (cases_lt j k)

pub returns : goal.returns
returns c = λ j lt.
    c.loop-k.invariant j (omega (arith, lt, length-map c.args.columns.now (λ col. col.items), c.loop-k-test.false))
