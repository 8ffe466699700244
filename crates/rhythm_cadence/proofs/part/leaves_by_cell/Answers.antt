use Rattle.std.proofs.Common.{◌==◌, length, ap, ◌∙◌}
use Rattle.std.specs.Prelude.{nat_lt, slice_index}
use Rattle.rule_law.specs.Voices.{is_free}
use Rattle.rhythm_cadence.specs.Parts.{shapes_after, shapes_begun}
use Rattle.rhythm_cadence.proofs.PartLemmas.{free_voice, only_free, set-same}
use Rattle.rhythm_cadence.proofs.part.leaves_by_cell.Goals as goal

pub returns : goal.returns
returns c = λ p long shapes.
    let ex = c.args.ex.now in
    let v = c.args.v in
    let cell = c.args.cell in
    let possible = slice_index c.args.part.now.possible v in
    c.has_none_left.ensures
    ∙ only_free (nat_lt v ex.voices) (is_free ex v) (c.kept-left.result == 0)
    (shapes_after ex v (length p) (shapes_begun ex v p) cell == 0)
    (λ there free. ap (λ n. n == 0)
    (c.kept-left.ensures
    ∙ set-same ex p v c.args.i possible cell long (λ some. shapes v some (free_voice ex v there free))))
