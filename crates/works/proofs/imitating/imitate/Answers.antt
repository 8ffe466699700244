use Rattle.works.proofs.CanonLemmas.{tells_canon}
use Rattle.works.proofs.imitating.imitate.Goals as goal

pub returns : goal.returns
returns c =
    tells_canon c.args.text.now c.new-space.result c.args.canon.now c.args.sheet.now c.args.search _ _ c.new-space.ensures
    c.in_ok-told.ensures
