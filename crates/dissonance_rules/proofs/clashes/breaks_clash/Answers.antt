use Rattle.std.specs.Prelude.{◌+◌, [], drop, slice_index_or}
use Rattle.std.proofs.Common.{sym, ◌∙◌, arith}
use Rattle.fux_grid.specs.Columns.{earlier}
use Rattle.dissonance_rules.proofs.LateReadings.{pair_found}
use Rattle.dissonance_rules.proofs.clashes.breaks_clash.Goals as goal

pub returns : goal.returns
returns g c = λ s first shown from there.
    c.breaks_pair.ensures s first shown from there
    ∙ sym (pair_found c.args.rule c.args.ex.now c.args.voices.bits c.args.i c.in-Some.v c.in-Some.w (earlier s c.args.i)
    (slice_index_or s c.args.i []) (drop (c.args.i + 1) s) c.in-Some.ensures (omega (arith, c.if-w-ex.false)))
