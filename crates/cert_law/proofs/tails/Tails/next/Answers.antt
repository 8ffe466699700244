use Rattle.std.proofs.Common.{◌≡◌, ◌<◌, sym, ◌∙◌, arith, false, true≢false}
use Rattle.std.proofs.lemmas.Bool.{false_from_ne_true}
use Rattle.chain_sums.specs.Sums.{column_follows}
use Rattle.cert_law.proofs.NumberLemmas.{follow_from, follow_test, passing_here, passing_later}
use Rattle.fux_grid.specs.Menus.{menu_of}
use Rattle.std.proofs.Common.{slice_index_or, [], length}
use Rattle.cert_law.proofs.tails.Tails.next.Goals as goal

pub returns-then-cells_follow : goal.returns-then-cells_follow
returns-then-cells_follow g c =
    let menu = menu_of (g.Self.Tails.basis c.args.self.now).exercise c.args.i in
    let within : c.loop-k.k < length menu = omega (arith, c.loop-k-test.true, c.width-width.ensures) in
    let test = follow_test c.args.before.now c.as_slice.result.now (slice_index_or menu c.loop-k.k [])
    (c.as_slice.ensures.value ∙ c.column.ensures) (c.cells_follow.ensures.0 c.if-cells_follow.true) in
    (within, test, sym c.loop-k.invariant ∙ passing_here (column_follows c.args.before.now) menu c.loop-k.k within test)

pub loop-k-preserved : goal.loop-k-preserved
loop-k-preserved g c =
    let menu = menu_of (g.Self.Tails.basis c.args.self.now).exercise c.args.i in
    let within : c.loop-k.k < length menu = omega (arith, c.loop-k-test.true, c.width-width.ensures) in
    let test : column_follows c.args.before.now (slice_index_or menu c.loop-k.k []) ≡ false =
    false_from_ne_true (column_follows c.args.before.now (slice_index_or menu c.loop-k.k [])) (λ t.
    true≢false (sym (c.cells_follow.ensures.1
    (follow_from c.args.before.now c.as_slice.result.now (slice_index_or menu c.loop-k.k [])
    (c.as_slice.ensures.value ∙ c.column.ensures) t)) ∙ c.if-cells_follow.false)) in
    sym (passing_later (column_follows c.args.before.now) menu c.loop-k.k within test) ∙ c.loop-k.invariant
