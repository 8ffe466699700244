use Rattle.std.proofs.Common.{◌≤◌, ◌++◌, ◌∷◌, [], List, Ok, map, take, length, subst, ◌∙◌, arith}
use Rattle.std.specs.Prelude.{string_bytes}
use Rattle.std.specs.Option.{option_copied}
use Rattle.std.proofs.lemmas.List.{length-map, length-take, take_all}
use Rattle.class_marker.specs.Entries.{IsEntryOf}
use Rattle.class_marker.specs.Pages.{IsPageSoFar, Named}
use Rattle.fux_port.specs.Counts.{Rose}
use Rattle.fux_port.proofs.Rises.{rose_later}
use Rattle.works.specs.ClassPages.{ArePaged}
use Rattle.works.specs.Works.{ReadsOrNot}
use Rattle.works.proofs.PageLemmas.{few_paged, next_paged, none_paged}
use Rattle.works.proofs.WholeLemmas.{rose_sooner}
use Rattle.works.proofs.paging.paged_names.Goals as goal

pub loop-place-init : goal.loop-place-init
loop-place-init g c = record {
  paged = none_paged (g.F.Shelf.files c.args.shelf.now) _ (option_copied c.args.lesson) c.new-page.result c.new-page.ensures;
  same = search;
  later = omega arith;
  little = omega arith;
}

pub put_entry-requires : goal.put_entry-requires
put_entry-requires g c =
    omega (
      arith,
      few_paged _ _ _ _ _ c.loop-place.invariant.paged,
      length-take c.loop-place.place (map string_bytes c.args.names.now),
    )

pub loop-place-preserved : goal.loop-place-preserved
loop-place-preserved g c =
    let files = g.F.Shelf.files in
    let faults = g.F.Shelf.faults in
    let old = c.loop-place.invariant in
    let start = faults c.args.shelf.now in
    let mid = faults c.loop-place.shelf in
    let end = faults c.content_or_none.new.shelf in
    record {
      paged = next_paged (files c.args.shelf.now) (files c.loop-place.shelf) (option_copied c.args.lesson) c.args.names.now
          c.loop-place.place c.index-names-place.result c.loop-place-test.true c.index-names-place.is old.same
          (Rose start mid) (Rose mid end) (Rose start end)
          (rose_sooner start mid end old.later c.content_or_none.ensures.faults) (rose_later start mid end old.later)
          c.in_ok-found.found c.in_ok-entry.entry c.loop-place.page _ old.paged
          (subst (λ n. ReadsOrNot 65536 (files c.loop-place.shelf) (Rose mid end) n (Ok c.in_ok-found.found))
          c.as_str-name.ensures.value c.in_ok-found.ensures.reads)
          (subst (λ n. IsEntryOf (option_copied c.args.lesson) n c.in_ok-found.found c.in_ok-entry.entry)
          c.as_str-name.ensures.value c.in_ok-entry.ensures)
          (subst (λ n. (class : List Named) → IsPageSoFar class c.loop-place.page
          → IsPageSoFar (class ++ (n, c.in_ok-entry.entry) ∷ []) c.put_entry.new.page)
          c.as_str-name.ensures.value c.in_ok-put_entry.ensures);
      same = c.content_or_none.ensures.files ∙ old.same;
      later = omega (arith, old.later, c.content_or_none.ensures.faults);
      little = omega (arith, old.little, c.content_or_none.ensures.little);
    }

pub returns-clause-paged : goal.returns-clause-paged
returns-clause-paged g c =
    let names = map string_bytes c.args.names.now in
    let all : length names ≤ c.loop-place.place = simp length-map (omega arith) in
    subst (λ ns. ArePaged (g.F.Shelf.files c.args.shelf.now)
    (Rose (g.F.Shelf.faults c.args.shelf.now) (g.F.Shelf.faults c.loop-place.shelf)) (option_copied c.args.lesson) ns
    c.loop-place.page)
    (take_all c.loop-place.place names all) c.loop-place.invariant.paged
