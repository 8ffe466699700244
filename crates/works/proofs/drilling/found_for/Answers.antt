use Rattle.std.proofs.Common.{◌≡◌, ap}
use Rattle.works.specs.Searched.{usual_sheet}
use Rattle.works.proofs.drilling.found_for.Goals as goal

pub returns-else-by_sharper : goal.returns-else-by_sharper
returns-else-by_sharper g c =
    let same : c.default_sheet-sheet.result ≡ usual_sheet = ap (λ weights. record { weights = weights })
    c.default_sheet-sheet.ensures in
    rw c.if-by_sharper.false (rw same at c.best_setting.ensures)
