use Rattle.std.proofs.Common.{arith}
use Rattle.sheet_layout.proofs.shape_laws.heights_tell_degrees.Goals as goal

pub returns : goal.returns
returns c = λ middle degree few. omega (arith, few)
