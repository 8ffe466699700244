use Rattle.std.proofs.Common.{◌∙◌}
use Rattle.std.specs.Prelude.{slice_index}
use Rattle.rhythm_cadence.proofs.PartLemmas.{none_left}
use Rattle.rhythm_cadence.proofs.part.breaks_shape.Goals as goal

-- a voice has left the shapes where none is left
pub returns : goal.returns
returns c p some part =
    c.has_none_left.ensures ∙ none_left c.args.ex.now p c.args.v (slice_index c.args.part.now.possible c.args.v)
    c.requires some (part c.args.v some)
