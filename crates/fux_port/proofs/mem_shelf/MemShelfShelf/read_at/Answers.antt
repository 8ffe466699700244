use Rattle.std.proofs.Common.{refl, inr, rules}
use Rattle.fux_port.proofs.mem_shelf.MemShelfShelf.read_at.Goals as goal

pub returns-then-contains-clause-fails : goal.returns-then-contains-clause-fails
returns-then-contains-clause-fails c = (λ _. inr (search rules), λ _. refl)
