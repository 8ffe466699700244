use Rattle.std.proofs.Common.{sym, ◌∙◌}
use Rattle.species_space.proofs.StillPlaces.{still_place}
use Rattle.species_space.proofs.space.is_still_place.Goals as goal

pub returns : goal.returns
returns c = λ yes.
    still_place c.args.exercise.now c.args.i (sym c.begins_bar.ensures ∙ c.if-begins_bar.false)
    (c.requires.held c.if-not-held.false) (c.do_shapes_hold.ensures yes)
