use Rattle.std.proofs.Common.{◌&&◌, []}
use Rattle.std.specs.Prelude.{nat_lt, slice_index_or}
use Rattle.fux_grid.specs.Columns.{earlier}
use Rattle.rhythm_cadence.specs.Inflections.{inflection_toll, is_inflected}
use Rattle.rhythm_cadence.proofs.VoiceCounts.{counted}
use Rattle.rhythm_cadence.proofs.inflections.inflection_cost.Goals as goal

pub returns-clause-value : goal.returns-clause-value
unfolding inflection_toll
returns-clause-value g c = λ s first shown from within.
    let ex = c.args.ex.now in
    let i = c.args.i in
    rw (c.from.ensures, c.from-2.ensures, c.from-3.ensures, c.from-4.ensures)
    (counted ex (λ v. nat_lt v ex.voices && is_inflected v (earlier s i) (slice_index_or s i []))
    c.is_inflected.result c.is_inflected-2.result c.is_inflected-3.result c.is_inflected-4.result
    (c.is_inflected.ensures s first shown from within)
    (c.is_inflected-2.ensures s first shown from within)
    (c.is_inflected-3.ensures s first shown from within)
    (c.is_inflected-4.ensures s first shown from within))
