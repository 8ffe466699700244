use Rattle.std.proofs.Common.{inl, length, refl, arith}
use Rattle.std.proofs.lemmas.List.{length-map}
use Rattle.std.proofs.lemmas.Result.{err_from_is_err_and}
use Rattle.fux_port.specs.Counts.{Rose}
use Rattle.fux_port.proofs.Rises.{rose_later}
use Rattle.command_words.specs.Commands.{sheet_named, texts, whole_files}
use Rattle.works.specs.Blame.{IsUnserved}
use Rattle.works.specs.TaskFiles.{as_list}
use Rattle.works.proofs.BlameLemmas.{result_blames_none, sheet_blames}
use Rattle.works.proofs.CantusLemmas.{alone_unread_of}
use Rattle.works.proofs.LittleLemmas.{named_little}
use Rattle.works.proofs.MakeLemmas.{made_said}
use Rattle.works.proofs.WholeLemmas.{named_told, of_named}
use Rattle.works.proofs.gathering.whole_files.Goals as goal

pub returns-in_err-given-clause-made : goal.returns-in_err-given-clause-made
returns-in_err-given-clause-made g c =
    let told = err_from_is_err_and c.from_residual.result c.from_residual.ensures.1 in
    let lesson = sheet_named c.args.lesson in
    rw (told.1, told.2) (alone_unread_of (whole_files (texts c.args.names.now) lesson c.args.kind) lesson
    (g.F.Shelf.files c.args.shelf.now) _ _ refl c.in_err-given.ensures.reads)

pub returns-clause-made : goal.returns-clause-made
returns-clause-made g c =
    let names = texts c.args.names.now in
    let lesson = sheet_named c.args.lesson in
    let given = c.in_ok-given.given in
    made_said (whole_files names lesson c.args.kind) (g.F.Shelf.files c.args.shelf.now) _
    (as_list given) c.of_lesson.result c.said.result c.in_ok-given.ensures.reads
    (of_named (g.F.Shelf.files c.args.shelf.now) _ names lesson c.args.kind given c.of_lesson.result
    (rw c.in_ok-given.ensures.files at c.of_lesson.ensures.reported))
    c.said.ensures.says

pub returns-in_err-given-clause-served : goal.returns-in_err-given-clause-served
returns-in_err-given-clause-served g c =
    let told = err_from_is_err_and c.from_residual.result c.from_residual.ensures.1 in
    rw (told.1, told.2) (λ promised. c.in_err-given.ensures.served promised.before)

pub returns-clause-served : goal.returns-clause-served
returns-clause-served g c = λ _. c.said.ensures.reads

pub returns-in_err-given-clause-causes : goal.returns-in_err-given-clause-causes
returns-in_err-given-clause-causes g c =
    let told = err_from_is_err_and c.from_residual.result c.from_residual.ensures.1 in
    rw told.1 tt

pub returns-clause-causes : goal.returns-clause-causes
returns-clause-causes g c =
    let files = g.F.Shelf.files in
    let faults = g.F.Shelf.faults in
    named_told (files c.args.shelf.now) (Rose (faults c.read_weights.new.shelf) (faults c.of_lesson.new.shelf))
    (texts c.args.names.now) (sheet_named c.args.lesson) c.args.kind c.in_ok-given.given
    (Rose (faults c.args.shelf.now) (faults c.of_lesson.new.shelf)) c.of_lesson.result c.said.result
    (λ later. rose_later _ _ _ c.in_ok-given.ensures.faults later) c.in_ok-given.ensures.reads
    (rw c.in_ok-given.ensures.files at c.of_lesson.ensures.reported) c.said.ensures.says

pub returns-in_err-given-clause-blamed : goal.returns-in_err-given-clause-blamed
returns-in_err-given-clause-blamed g c =
    let told = err_from_is_err_and c.from_residual.result c.from_residual.ensures.1 in
    let serves = g.F.Shelf.serves c.args.shelf.now in
    rw (told.1, told.2) (sheet_blames (IsUnserved serves (g.F.Shelf.files c.args.shelf.now)
    (whole_files (texts c.args.names.now) (sheet_named c.args.lesson) c.args.kind)) _ _ serves serves (sheet_named c.args.lesson) _
    c.in_err-given.ensures.reads (λ name offset promised. promised) c.in_err-given.ensures.served
    (λ name one. inl one))

pub returns-clause-blamed : goal.returns-clause-blamed
returns-clause-blamed g c =
    result_blames_none (IsUnserved (g.F.Shelf.serves c.args.shelf.now) (g.F.Shelf.files c.args.shelf.now)
    (whole_files (texts c.args.names.now) (sheet_named c.args.lesson) c.args.kind)) c.said.result c.said.ensures.reads

pub returns-in_err-given-clause-little : goal.returns-in_err-given-clause-little
returns-in_err-given-clause-little g c = inl (omega (arith, c.read_weights.ensures.little))

pub returns-clause-little : goal.returns-clause-little
returns-clause-little g c =
    let given = g.F.Shelf.given in
    named_little (g.F.Shelf.files c.args.shelf.now) (texts c.args.names.now) (sheet_named c.args.lesson) c.args.kind
    c.in_ok-given.given (given c.args.shelf.now) (given c.read_weights.new.shelf) (given c.of_lesson.new.shelf)
    c.in_ok-given.ensures.reads c.read_weights.ensures.little
    (rw length-map c.of_lesson.ensures.little)
