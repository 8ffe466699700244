-- What contracts see of a space.
use Rattle.penalty_sheet.specs.declared.sheet.Sheet.{Sheet}
use Rattle.canon_space.specs.declared.canon.Canon.{Canon}

-- canons that are as one asks, by a sheet
pub record CanonTask : Type 0 where
  pub canon : Canon
  pub sheet : Sheet
