use Rattle.std.proofs.Common.{ap, ◌∙◌}
use Rattle.cantus_space.specs.Nodes.{started}
use Rattle.cantus_space.specs.Rules.{note_cost}
use Rattle.cantus_space.proofs.NodeLemmas.{pitches-started}
use Rattle.cantus_space.proofs.node.CantusNode.cost.Goals as goal

pub returns-clause-value : goal.returns-clause-value
returns-clause-value c = λ behind kept.
    c.note_cost.ensures.value (started behind) kept.notes
    ∙ ap (λ ps. note_cost c.args.sheet.now ps c.args.pitch) (pitches-started behind)
