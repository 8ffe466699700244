use Rattle.std.proofs.Common.{ap, ◌∙◌}
use Rattle.penalty_sheet.specs.declared.sheet.Sheet.{Sheet}
use Rattle.penalty_sheet.proofs.SheetLemmas.{default_sheet_in}
use Rattle.penalty_sheet.proofs.sheet.default_sheet.Goals as goal

pub returns : goal.returns
returns c = ap (λ (s : Sheet). s.weights) (c.sheet_with.ensures ∙ default_sheet_in)
