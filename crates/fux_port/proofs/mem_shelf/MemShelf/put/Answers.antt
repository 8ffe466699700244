use Rattle.std.proofs.Common.{◌≡◌, refl, rules}
use Rattle.fux_port.proofs.Names.{file_at-put_same, file_at-put_other}
use Rattle.fux_port.proofs.mem_shelf.MemShelf.put.Goals as goal

pub returns-clause-ok : goal.returns-clause-ok
returns-clause-ok c =
    let old = c.self.inside.files in
    let new = c.insert.new.self in
    let updates = c.in_ok-insert.ensures.updates in
    let name = c.in_ok-key.ensures.ok in
    let file : c.new-file.result ≡ c.args.bytes.now = search rules in
    rw (← c.self.view_is, ← name, ← file) (record {
      named = file_at-put_same old new _ _ updates;
      others = file_at-put_other old new _ _ updates;
      same_fail_at = refl;
      same_piece = refl;
      same_calls = refl;
      same_faults = refl;
      same_given = refl;
    })
