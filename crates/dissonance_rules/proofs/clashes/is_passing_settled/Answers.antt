use Rattle.std.specs.Prelude.{◌+◌, ◌&&◌, List, [], drop, length, not, slice_index_or, refl}
use Rattle.std.proofs.Common.{ap, sym, ◌∙◌, arith}
use Rattle.std.proofs.lemmas.Bool.{lt-ltb}
use Rattle.std.proofs.lemmas.List.{take_all}
use Rattle.fux_grid.specs.declared.cell.Cell.{Cell}
use Rattle.rule_law.specs.Ways.{on_some_way}
use Rattle.dissonance_rules.specs.Passing.{is_open_clash}
use Rattle.dissonance_rules.proofs.clashes.is_passing_settled.Goals as goal

pub returns : goal.returns
returns c =
    let ex = c.args.ex.now in
    let s = c.args.score.now.columns in
    ap not (c.is_passing_open.ensures s 0 refl (omega arith)
    ∙ ap (λ (cols : List (List Cell)). on_some_way ex (is_open_clash ex c.args.i (slice_index_or s c.args.i [])
    (drop (c.args.i + 1) cols)) c.args.voices.bits)
    (take_all c.len.result s (omega (arith, c.len.ensures.value))))
    ∙ sym (ap (λ b. b && not (on_some_way ex (is_open_clash ex c.args.i (slice_index_or s c.args.i [])
    (drop (c.args.i + 1) s)) c.args.voices.bits)) (lt-ltb c.args.i (length s) c.requires.place))
