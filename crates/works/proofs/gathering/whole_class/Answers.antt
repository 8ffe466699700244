use Rattle.std.proofs.Common.{Err, inl, refl, ◌∷◌, arith}
use Rattle.std.proofs.lemmas.Result.{err_from_is_err_and}
use Rattle.fux_port.specs.Counts.{Rose}
use Rattle.fux_port.proofs.Rises.{rose_later}
use Rattle.works.specs.TaskFiles.{as_list}
use Rattle.command_words.specs.Commands.{sheet_named, whole_class}
use Rattle.works.specs.Endings.{IsMade}
use Rattle.works.specs.Blame.{IsUnserved}
use Rattle.works.proofs.BlameLemmas.{names_kept, result_blames_none, served_later, sheet_blames, text_blames}
use Rattle.works.proofs.LittleLemmas.{whole_little}
use Rattle.works.proofs.MakeLemmas.{first_unread, made_said, read_same, sheet_unread}
use Rattle.works.proofs.WholeLemmas.{causes_told, of_whole}
use Rattle.works.proofs.gathering.whole_class.Goals as goal

pub returns-in_err-text-clause-made : goal.returns-in_err-text-clause-made
returns-in_err-text-clause-made g c =
    let files = g.F.Shelf.files c.args.shelf.now in
    let rose = Rose (g.F.Shelf.faults c.args.shelf.now) (g.F.Shelf.faults c.read_content.new.shelf) in
    let task = whole_class c.args.list.now (sheet_named c.args.lesson) c.args.kind in
    let told = err_from_is_err_and c.from_residual.result c.from_residual.ensures.1 in
    rw (told.1, told.2) (first_unread c.args.list.now (as_list (sheet_named c.args.lesson)) files rose 65536 _
    (λ complaint. IsMade task files rose (Err complaint)) (λ file is. inl is) tt c.in_err-text.ensures.reads)

pub returns-in_err-given-clause-made : goal.returns-in_err-given-clause-made
returns-in_err-given-clause-made g c =
    let files = g.F.Shelf.files in
    let faults = g.F.Shelf.faults in
    let task = whole_class c.args.list.now (sheet_named c.args.lesson) c.args.kind in
    let told = err_from_is_err_and c.from_residual-in_err-given.result c.from_residual-in_err-given.ensures.1 in
    rw (told.1, told.2) (sheet_unread c.args.list.now (sheet_named c.args.lesson)
    (files c.args.shelf.now) (files c.read_content.new.shelf)
    (Rose (faults c.args.shelf.now) (faults c.read_weights.new.shelf))
    (Rose (faults c.read_content.new.shelf) (faults c.read_weights.new.shelf)) 65536 c.in_ok-text.text _
    (λ complaint. IsMade task (files c.args.shelf.now)
    (Rose (faults c.args.shelf.now) (faults c.read_weights.new.shelf)) (Err complaint))
    (λ file is. inl is) tt
    c.in_ok-text.ensures.reads c.in_ok-text.ensures.files
    (rose_later _ _ _ c.in_ok-text.ensures.faults) c.in_err-given.ensures.reads)

pub returns-clause-made : goal.returns-clause-made
returns-clause-made g c =
    let list = c.args.list.now in
    let lesson = sheet_named c.args.lesson in
    let text = c.in_ok-text.text in
    let given = c.in_ok-given.given in
    made_said (whole_class list lesson c.args.kind) (g.F.Shelf.files c.args.shelf.now) _
    (text ∷ as_list given) c.of_texts.result c.said.result (
      c.in_ok-text.ensures.reads,
      read_same 65536 (g.F.Shelf.files c.args.shelf.now) _ (as_list lesson) (as_list given)
          c.in_ok-text.ensures.files c.in_ok-given.ensures.reads,
    )
    (of_whole (g.F.Shelf.files c.args.shelf.now) _ list lesson c.args.kind text given c.of_texts.result
    (rw (c.in_ok-given.ensures.files, c.in_ok-text.ensures.files) at c.of_texts.ensures.reported))
    c.said.ensures.says

pub returns-in_err-text-clause-served : goal.returns-in_err-text-clause-served
returns-in_err-text-clause-served g c =
    let told = err_from_is_err_and c.from_residual.result c.from_residual.ensures.1 in
    rw (told.1, told.2) (λ promised. c.in_err-text.ensures.served promised.before.0)

pub returns-in_err-given-clause-served : goal.returns-in_err-given-clause-served
returns-in_err-given-clause-served g c =
    let told = err_from_is_err_and c.from_residual-in_err-given.result c.from_residual-in_err-given.ensures.1 in
    rw (told.1, told.2) (λ promised. c.in_err-given.ensures.served
    (names_kept (g.F.Shelf.serves c.args.shelf.now) (g.F.Shelf.serves c.read_content.new.shelf) 65536
    (as_list (sheet_named c.args.lesson)) c.in_ok-text.ensures.serving promised.before.1))

pub returns-clause-served : goal.returns-clause-served
returns-clause-served g c = λ _. c.said.ensures.reads

pub returns-in_err-text-clause-causes : goal.returns-in_err-text-clause-causes
returns-in_err-text-clause-causes g c =
    let told = err_from_is_err_and c.from_residual.result c.from_residual.ensures.1 in
    rw told.1 tt

pub returns-in_err-given-clause-causes : goal.returns-in_err-given-clause-causes
returns-in_err-given-clause-causes g c =
    let told = err_from_is_err_and c.from_residual-in_err-given.result c.from_residual-in_err-given.ensures.1 in
    rw told.1 tt

pub returns-clause-causes : goal.returns-clause-causes
returns-clause-causes g c =
    let files = g.F.Shelf.files in
    let faults = g.F.Shelf.faults in
    let lesson = sheet_named c.args.lesson in
    let text = c.in_ok-text.text in
    let given = c.in_ok-given.given in
    causes_told (files c.args.shelf.now) (Rose (faults c.read_weights.new.shelf) (faults c.of_texts.new.shelf))
    c.args.list.now lesson c.args.kind text given (Rose (faults c.args.shelf.now) (faults c.of_texts.new.shelf)) c.of_texts.result
    c.said.result
    (λ later. rose_later _ _ _ c.in_ok-text.ensures.faults (rose_later _ _ _ c.in_ok-given.ensures.faults later)) (
      c.in_ok-text.ensures.reads,
      read_same 65536 (files c.args.shelf.now) _ (as_list lesson) (as_list given)
          c.in_ok-text.ensures.files c.in_ok-given.ensures.reads,
    )
    (rw (c.in_ok-given.ensures.files, c.in_ok-text.ensures.files) at c.of_texts.ensures.reported)
    c.said.ensures.says

pub returns-in_err-text-clause-blamed : goal.returns-in_err-text-clause-blamed
returns-in_err-text-clause-blamed g c =
    let told = err_from_is_err_and c.from_residual.result c.from_residual.ensures.1 in
    rw (told.1, told.2) (text_blames (IsUnserved (g.F.Shelf.serves c.args.shelf.now) (g.F.Shelf.files c.args.shelf.now)
    (whole_class c.args.list.now (sheet_named c.args.lesson) c.args.kind)) 65536 _ _
    (g.F.Shelf.serves c.args.shelf.now) c.args.list.now _
    c.in_err-text.ensures.reads c.in_err-text.ensures.served (λ denied. inl ((0, omega arith, refl), denied)))

pub returns-in_err-given-clause-blamed : goal.returns-in_err-given-clause-blamed
returns-in_err-given-clause-blamed g c =
    let told = err_from_is_err_and c.from_residual-in_err-given.result c.from_residual-in_err-given.ensures.1 in
    rw (told.1, told.2) (sheet_blames (IsUnserved (g.F.Shelf.serves c.args.shelf.now) (g.F.Shelf.files c.args.shelf.now)
    (whole_class c.args.list.now (sheet_named c.args.lesson) c.args.kind)) _ _
    (g.F.Shelf.serves c.args.shelf.now) (g.F.Shelf.serves c.read_content.new.shelf) (sheet_named c.args.lesson) _
    c.in_err-given.ensures.reads c.in_ok-text.ensures.serving c.in_err-given.ensures.served
    (λ name one. inl (served_later (g.F.Shelf.serves c.args.shelf.now) 65536 c.args.list.now (as_list (sheet_named c.args.lesson)) name one)))

pub returns-clause-blamed : goal.returns-clause-blamed
returns-clause-blamed g c =
    result_blames_none (IsUnserved (g.F.Shelf.serves c.args.shelf.now) (g.F.Shelf.files c.args.shelf.now)
    (whole_class c.args.list.now (sheet_named c.args.lesson) c.args.kind)) c.said.result c.said.ensures.reads

pub returns-in_err-text-clause-little : goal.returns-in_err-text-clause-little
returns-in_err-text-clause-little g c = inl (omega (arith, c.read_content.ensures.little))

pub returns-in_err-given-clause-little : goal.returns-in_err-given-clause-little
returns-in_err-given-clause-little g c =
    inl (omega (arith, c.read_content.ensures.little, c.read_weights.ensures.little))

pub returns-clause-little : goal.returns-clause-little
returns-clause-little g c =
    let files = g.F.Shelf.files in
    let given = g.F.Shelf.given in
    let lesson = sheet_named c.args.lesson in
    whole_little (files c.args.shelf.now) c.args.list.now lesson c.args.kind c.in_ok-text.text c.in_ok-given.given
    (given c.args.shelf.now) (given c.read_content.new.shelf) (given c.read_weights.new.shelf)
    (given c.of_texts.new.shelf) (
      c.in_ok-text.ensures.reads,
      read_same 65536 (files c.args.shelf.now) _ (as_list lesson) (as_list c.in_ok-given.given)
          c.in_ok-text.ensures.files c.in_ok-given.ensures.reads,
    ) c.read_content.ensures.little c.read_weights.ensures.little c.of_texts.ensures.little
