use Rattle.std.proofs.Common.{[], slice_index_or, ◌∙◌, subst, arith}
use Rattle.std.proofs.lemmas.List.{length-map}
use Rattle.fux_grid.specs.Grid.{items_of}
use Rattle.species_space.specs.Blocks.{IsOnlyHolds}
use Rattle.species_space.proofs.Passing.{one_more}
use Rattle.species_space.proofs.blocks.held_first.Goals as goal

pub loop-k-init : goal.loop-k-init
loop-k-init c = λ j lt. absurd (omega (arith, lt))

pub loop-k-preserved : goal.loop-k-preserved
loop-k-preserved c =
    one_more (λ j. IsOnlyHolds (slice_index_or (items_of c.args.columns.now) j [])) c.loop-k.k c.loop-k.invariant
    (subst IsOnlyHolds (c.as_slice.ensures.value ∙ c.column_at.ensures)
    (c.is_held_column.ensures.0 c.if-not-is_held_column.false))

pub returns-then-not-is_held_column : goal.returns-then-not-is_held_column
returns-then-not-is_held_column c = λ j lt within.
    c.loop-k.invariant j (omega (arith, lt, c.loop-k-test.true, c.requires))

pub returns : goal.returns
returns c = λ j lt within.
    c.loop-k.invariant j
    (omega (arith, within, length-map c.args.columns.now (λ col. col.items), c.loop-k-test.false))
