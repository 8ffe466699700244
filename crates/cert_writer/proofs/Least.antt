-- The least list may be stated behind the text of any head (`least_fits`).
use Rattle.std.proofs.Common.{◌≡◌, ℕ, ◌≤◌, List, length, refl, arith, length-append}
use Rattle.fux_grid.specs.declared.exercise.Exercise.{Exercise}
use Rattle.cert_writer.specs.Stating.{FitBehind, least_list}
use Rattle.penalty_sheet.specs.declared.sheet.Sheet.{Sheet}
use Rattle.price_check.specs.Lists.{lists_text}

least_short : length (lists_text least_list) ≡ 13
least_short = refl

pub least_fits : (ex : Exercise) (sheet : Sheet) (front : List ℕ) → length front ≤ 4876 → FitBehind ex sheet front least_list
least_fits ex sheet front brief = record {
  stated = record { lists = (omega arith, refl, omega arith); due = refl };
  fits = omega (arith, length-append front (lists_text least_list), least_short, brief);
}
