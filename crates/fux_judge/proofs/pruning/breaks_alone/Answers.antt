use Rattle.std.proofs.Common.{◌≡◌, Bool, true, false, List, not, reverse, refl, ap, sym, ◌∙◌, subst}
use Rattle.std.proofs.lemmas.Bool.{OnFalse_from, eqb-true}
use Rattle.std.proofs.lemmas.List.{nil_from_length}
use Rattle.fux_grid.specs.declared.cell.Cell.{Cell}
use Rattle.melody_rules.specs.Smooth.{is_rough_at}
use Rattle.fux_judge.specs.Pruning.{AllBreak}
use Rattle.fux_judge.proofs.KeptLemmas.{not_rough}
use Rattle.fux_judge.proofs.RoughLemmas.{rough_is_dead}
use Rattle.fux_judge.proofs.SmoothLemmas.{filled}
use Rattle.fux_judge.proofs.pruning.breaks_alone.Goals as goal

-- what isn't smooth is rough
is_rough : (a b : Bool) → a ≡ not b → a ≡ false → b ≡ true
is_rough a true e h = refl
is_rough a false e h = cc

pub returns-then-is_empty-clause-dead : goal.returns-then-is_empty-clause-dead
returns-then-is_empty-clause-dead c = λ n below p is.
    let ex = c.args.ex.now in
    let cells : List Cell = c.as_slice-cells.result.now in
    subst (λ (d : List Cell). AllBreak n ex p d) c.as_slice-cells.ensures.value
    (rough_is_dead ex c.args.voices.bits c.args.voice n p cells c.requires.alone c.requires.low
    (sym c.as_slice.ensures ∙ nil_from_length c.as_slice.result.now
    (eqb-true _ 0 (sym c.is_empty.ensures ∙ c.if-is_empty.true)))
    (is_rough c.is_smooth_in.result _ (c.is_smooth_in.ensures (reverse p) is.past.melody) c.if-is_smooth_in.false)
    below)

pub returns-then-is_smooth_in-clause-smooth : goal.returns-then-is_smooth_in-clause-smooth
returns-then-is_smooth_in-clause-smooth c = λ nothing p is.
    ap (λ (d : List Cell). is_rough_at c.args.ex.now (reverse p) d c.args.voice) (sym c.as_slice-cells.ensures.value)
    ∙ not_rough _ (c.if-is_smooth_in.ensures (reverse p) is.past.melody)

pub returns-clause-smooth : goal.returns-clause-smooth
returns-clause-smooth c =
    OnFalse_from c.breaks_one.result _
    (λ no nothing p is. absurd (filled c.as_slice.result.now c.if-is_empty.ensures (c.as_slice.ensures ∙ nothing)))
