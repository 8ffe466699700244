use Rattle.std.proofs.Common.{refl}
use Rattle.penalty_sheet.specs.Sheets.{sheet_in}
use Rattle.penalty_sheet.proofs.sheet.sheet_with.Goals as goal

pub returns : goal.returns
unfolding sheet_in
returns c = refl
