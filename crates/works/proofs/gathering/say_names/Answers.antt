use Rattle.std.proofs.Common.{◌+◌, ◌≤◌, ◌++◌, ◌∷◌, [], List, Ok, map, take, length, subst, ◌∙◌, arith}
use Rattle.std.specs.Prelude.{string_bytes}
use Rattle.std.specs.Option.{option_copied}
use Rattle.std.proofs.lemmas.List.{length-map, length-take, take_all}
use Rattle.fux_port.specs.Counts.{Rose}
use Rattle.fux_port.proofs.Rises.{rose_later}
use Rattle.class_marker.specs.WholeReports.{IsReportOf, Saying}
use Rattle.works.specs.WholeClasses.{AreSaid, limit_of, sought_in}
use Rattle.works.specs.Works.{ReadsOrNot}
use Rattle.works.proofs.LittleLemmas.{one_little}
use Rattle.works.proofs.WholeLemmas.{few_said, next_said, none_said, rose_sooner}
use Rattle.works.proofs.gathering.say_names.Goals as goal

pub loop-place-init : goal.loop-place-init
loop-place-init g c = record {
  said = none_said (g.F.Shelf.files c.args.shelf.now) _ (sought_in c.args.kind (option_copied c.args.lesson)) c.new-report.result c.new-report.ensures;
  same = search;
  later = omega arith;
  little = omega arith;
}

pub put_said-requires-clause-marked : goal.put_said-requires-clause-marked
put_said-requires-clause-marked g c =
    omega (
      arith,
      (few_said _ _ _ _ _ c.loop-place.invariant.said).0,
      length-take c.loop-place.place (map string_bytes c.args.names.now),
    )

pub put_said-requires-clause-refused : goal.put_said-requires-clause-refused
put_said-requires-clause-refused g c =
    omega (
      arith,
      (few_said _ _ _ _ _ c.loop-place.invariant.said).1,
      length-take c.loop-place.place (map string_bytes c.args.names.now),
    )

pub put_said-requires-clause-others : goal.put_said-requires-clause-others
put_said-requires-clause-others g c =
    omega (
      arith,
      (few_said _ _ _ _ _ c.loop-place.invariant.said).2,
      length-take c.loop-place.place (map string_bytes c.args.names.now),
    )

pub loop-place-preserved : goal.loop-place-preserved
loop-place-preserved g c =
    let files = g.F.Shelf.files in
    let faults = g.F.Shelf.faults in
    let given = g.F.Shelf.given in
    let old = c.loop-place.invariant in
    let start = faults c.args.shelf.now in
    let mid = faults c.loop-place.shelf in
    let end = faults c.content_or_none.new.shelf in
    record {
      said = next_said (limit_of c.args.kind) (files c.args.shelf.now) (files c.loop-place.shelf) (sought_in c.args.kind (option_copied c.args.lesson)) c.args.names.now
          c.loop-place.place c.index-names-place.result c.loop-place-test.true c.index-names-place.is old.same
          (Rose start mid) (Rose mid end) (Rose start end)
          (rose_sooner start mid end old.later c.content_or_none.ensures.faults) (rose_later start mid end old.later)
          c.in_ok-found.found c.in_ok-said.said c.loop-place.report _ old.said
          (subst (λ n. ReadsOrNot (limit_of c.args.kind) (files c.loop-place.shelf) (Rose mid end) n (Ok c.in_ok-found.found))
          c.as_str-name.ensures.value
          (subst (λ l. ReadsOrNot l (files c.loop-place.shelf) (Rose mid end) c.as_str-name.result.now (Ok c.in_ok-found.found))
          c.limit_of.ensures c.in_ok-found.ensures.reads)) c.in_ok-said.ensures
          (subst (λ n. (sayings : List Saying) → IsReportOf sayings c.loop-place.report
          → IsReportOf (sayings ++ (n, c.in_ok-said.said) ∷ []) c.put_said.new.report)
          c.as_str-name.ensures.value c.in_ok-put_said.ensures);
      same = c.content_or_none.ensures.files ∙ old.same;
      later = omega (arith, old.later, c.content_or_none.ensures.faults);
      little = one_little c.args.kind _ _ _ c.loop-place.place old.little
          (subst (λ l. given c.content_or_none.new.shelf ≤ given c.loop-place.shelf + (l + 1)) c.limit_of.ensures
          c.content_or_none.ensures.little);
    }

pub returns-clause-said : goal.returns-clause-said
returns-clause-said g c =
    let names = map string_bytes c.args.names.now in
    let all : length names ≤ c.loop-place.place = simp length-map (omega arith) in
    subst (λ ns. AreSaid (g.F.Shelf.files c.args.shelf.now)
    (Rose (g.F.Shelf.faults c.args.shelf.now) (g.F.Shelf.faults c.loop-place.shelf)) (sought_in c.args.kind (option_copied c.args.lesson)) ns
    c.loop-place.report)
    (take_all c.loop-place.place names all) c.loop-place.invariant.said
