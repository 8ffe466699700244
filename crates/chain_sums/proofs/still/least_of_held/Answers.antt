use Rattle.std.proofs.Common.{◌≡◌, ◌<◌, ◌↔◌, ℕ, List, [], Some, None, length, map, get_or, ap, sym, ◌∙◌, subst, arith}
use Rattle.std.specs.List.{Contains}
use Rattle.fux_grid.specs.declared.cell.Cell.{Cell}
use Rattle.fux_grid.specs.Cells.{held}
use Rattle.chain_sums.specs.Chains.{AreFull}
use Rattle.chain_sums.specs.Rows.{IsSumAt, IsSumOf}
use Rattle.chain_sums.proofs.LeastLemmas.{length-columns, row_is_enough}
use Rattle.chain_sums.proofs.StillLemmas.{none_held, one_held}
use Rattle.chain_sums.proofs.still.least_of_held.Goals as goal

pub returns-in_err-k-clause-least : goal.returns-in_err-k-clause-least
returns-in_err-k-clause-least g c =
    let chains = g.L.Links.chains c.args.links.now in
    let prev = c.args.prev.now.items in
    let full : AreFull chains.voices (chains.menu c.args.i) = subst (AreFull chains.voices) c.requires.menu
    c.requires.packed.full in
    rw c.from_residual.ensures
    (row_is_enough chains c.args.i (Some prev) c.args.row.now None c.requires.place c.requires.row
    (none_held chains c.args.i prev c.args.row.now full c.requires.full c.requires.still
    (λ there. c.in_err-k.ensures chains.voices c.requires.packed
    (subst (λ (columns : List (List Cell)). Contains columns (map held prev)) (sym c.requires.menu) there))))

pub returns-then-k-len-clause-least : goal.returns-then-k-len-clause-least
returns-then-k-len-clause-least g c =
    let chains = g.L.Links.chains c.args.links.now in
    let prev = c.args.prev.now.items in
    let full : AreFull chains.voices (chains.menu c.args.i) = subst (AreFull chains.voices) c.requires.menu
    c.requires.packed.full in
    row_is_enough chains c.args.i (Some prev) c.args.row.now None c.requires.place c.requires.row
    (none_held chains c.args.i prev c.args.row.now full c.requires.full c.requires.still
    (λ there.
    let found = c.in_ok-k.ensures chains.voices c.requires.packed
    (subst (λ (columns : List (List Cell)). Contains columns (map held prev)) (sym c.requires.menu) there) in
    absurd (omega (arith, found.0, c.if-k-len.true, c.len.ensures))))

pub returns-clause-least : goal.returns-clause-least
returns-clause-least g c =
    let chains = g.L.Links.chains c.args.links.now in
    let prev = c.args.prev.now.items in
    let full : AreFull chains.voices (chains.menu c.args.i) = subst (AreFull chains.voices) c.requires.menu
    c.requires.packed.full in
    let within : c.in_ok-k.k < length (chains.menu c.args.i) =
    omega (
      arith,
      c.if-k-len.false,
      c.len.ensures,
      length-columns c.args.menu.now.columns.items (chains.menu c.args.i)
          c.requires.menu,
    ) in
    let same : c.column.result.now.items ≡ get_or (chains.menu c.args.i) c.in_ok-k.k [] = c.column.ensures
    ∙ ap (λ xs. get_or xs c.in_ok-k.k []) c.requires.menu in
    let sum : (x : ℕ) → (c.sum_of.result ≡ Some x) ↔ IsSumAt chains c.args.i (Some prev) c.args.row.now c.in_ok-k.k x =
    subst (λ (d : List Cell). (x : ℕ) → (c.sum_of.result ≡ Some x)
    ↔ IsSumOf chains c.args.i (Some prev) d (get_or c.args.row.now c.in_ok-k.k None) x) same c.sum_of.ensures.value
    in
    row_is_enough chains c.args.i (Some prev) c.args.row.now c.sum_of.result c.requires.place c.requires.row
    (one_held chains c.args.i prev c.args.row.now full c.requires.full c.requires.still c.in_ok-k.k c.sum_of.result
    c.requires.row within
    (λ there.
    let found = c.in_ok-k.ensures chains.voices c.requires.packed
    (subst (λ (columns : List (List Cell)). Contains columns (map held prev)) (sym c.requires.menu) there) in
    sym (ap (λ xs. get_or xs c.in_ok-k.k []) c.requires.menu) ∙ found.1) sum)
