use Rattle.std.proofs.Common.{◌∙◌, subst, arith}
use Rattle.fux_port.specs.Counts.{Rose}
use Rattle.fux_port.proofs.Rises.{rose_later}
use Rattle.std.specs.Prelude.{string_bytes}
use Rattle.works.proofs.BlameLemmas.{name_served, whole_kept}
use Rattle.fux_port.specs.Promises.{ServesWhole}
use Rattle.works.proofs.ClassLemmas.{named_at, next_read, place_unread}
use Rattle.works.proofs.classing.read_texts.Goals as goal

pub loop-place-preserved : goal.loop-place-preserved
loop-place-preserved g c =
    let old = c.loop-place.invariant in
    record {
      read = next_read (g.F.Shelf.files c.args.shelf.now) (g.F.Shelf.files c.loop-place.shelf) c.args.names.now
          c.loop-place.place c.index-names-place.result c.loop-place.texts.items c.loop-place-test.true
          c.index-names-place.is old.read old.same c.in-Ok.text c.push.new.self.items
          (rw c.as_str.ensures.value at c.in-Ok.ensures.reads) c.in_ok-push-in-Ok.ensures.items;
      same = c.read_content.ensures.files ∙ old.same;
      serving = λ name offset promised. c.read_content.ensures.serving name offset (old.serving name offset promised);
      later = omega (arith, old.later, c.read_content.ensures.faults);
      little = omega (arith, old.little, c.read_content.ensures.little);
    }

pub returns-in-Err-Unreadable-clause-reads : goal.returns-in-Err-Unreadable-clause-reads
returns-in-Err-Unreadable-clause-reads g c =
    let files = g.F.Shelf.files in
    let faults = g.F.Shelf.faults in
    let old = c.loop-place.invariant in
    let known = rw (c.in-Err-Unreadable.field-0-is, c.as_str.ensures.value) at c.in-Err-Unreadable.ensures.reads in
    place_unread (files c.args.shelf.now) (files c.loop-place.shelf) c.args.names.now c.loop-place.place
    c.index-names-place.result c.loop-place.texts.items c.loop-place-test.true c.index-names-place.is old.read old.same
    (Rose (faults c.args.shelf.now) (faults c.read_content.new.shelf))
    (Rose (faults c.loop-place.shelf) (faults c.read_content.new.shelf)) (rose_later _ _ _ old.later) known.1

pub returns-in-Err-Unreadable-clause-served : goal.returns-in-Err-Unreadable-clause-served
returns-in-Err-Unreadable-clause-served g c = λ promised.
    let serves = g.F.Shelf.serves in
    let old = c.loop-place.invariant in
    let name = c.index-names-place.result in
    let known = rw (c.in-Err-Unreadable.field-0-is, c.as_str.ensures.value) at c.in-Err-Unreadable.ensures.served in
    known (whole_kept (serves c.args.shelf.now) (serves c.loop-place.shelf) (string_bytes name) 65536 old.serving
    (name_served (serves c.args.shelf.now) 65536 c.loop-place.place c.args.names.now name c.loop-place-test.true
    c.index-names-place.is promised))

pub returns-in-Err-Unreadable-clause-blamed : goal.returns-in-Err-Unreadable-clause-blamed
returns-in-Err-Unreadable-clause-blamed g c = λ promised.
    let files = g.F.Shelf.files in
    let serves = g.F.Shelf.serves in
    let old = c.loop-place.invariant in
    let name = c.index-names-place.result in
    let known = rw (c.in-Err-Unreadable.field-0-is, c.as_str.ensures.value) at c.in-Err-Unreadable.ensures.served in
    let is = named_at (files c.args.shelf.now) (files c.loop-place.shelf) c.args.names.now c.loop-place.place name
    c.loop-place.texts.items c.loop-place-test.true c.index-names-place.is old.read old.same in
    known (whole_kept (serves c.args.shelf.now) (serves c.loop-place.shelf) (string_bytes name) 65536 old.serving
    (subst (λ named. ServesWhole (serves c.args.shelf.now) named 65536) is promised))
