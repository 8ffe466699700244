use Rattle.std.proofs.Common.{arith, refl, length}
use Rattle.std.proofs.lemmas.Option.{slice_get_read}
use Rattle.priced_paths.proofs.web.leads_on.Goals as goal

pub returns : goal.returns
returns g c =
    let found = c.in-Some.ensures.lookup in
    let read = slice_get_read c.deref.result.now (length c.deref.result.now) c.args.edge.to c.in-Some.next.now refl
    found.3.0 found.1 in
    record {
      later = omega arith;
      next = c.in-Some.next.now;
      is_next = rw c.deref.ensures.value at read;
      deeper = omega arith;
      same = c.if-not-is_same.ensures;
      costs = omega arith;
    }
