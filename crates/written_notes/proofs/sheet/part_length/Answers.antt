use Rattle.std.proofs.Common.{◌≡◌, ℕ, Bool, true, not, ◌+◌, ◌-◌, ap, sym, ◌∙◌, cond, arith}
use Rattle.std.specs.List.{prefix_len, range_with_len}
use Rattle.written_notes.proofs.Steps.{range-next}
use Rattle.written_notes.specs.Sheets.{part_begins}
use Rattle.written_notes.proofs.sheet.part_length.Goals as goal

pub loop-next-preserved : goal.loop-next-preserved
loop-next-preserved c =
    let slot = c.args.slot in
    let next = c.loop-next.next in
    let test : ℕ → Bool = λ k. not (part_begins c.args.ex.now c.args.v c.args.bar c.args.cells.now k) in
    let rest = range_with_len (next + 1) (8 - (next + 1)) in
    let goes_on : test next ≡ true = ap not (sym c.part_begins.ensures ∙ c.if-part_begins.false) in
    let more : prefix_len test (range_with_len next (8 - next)) ≡ 1 + prefix_len test rest =
    ap (prefix_len test) (range-next next 8 c.loop-next-test.true)
    ∙ ap (λ b. cond b (1 + prefix_len test rest) 0) goes_on in
    let step : ((next + 1) - slot) + prefix_len test rest ≡ (next - slot) + prefix_len test (range_with_len next (8 - next)) =
    omega (arith, more, c.loop-next.auto.next) in
    step ∙ c.loop-next.invariant
