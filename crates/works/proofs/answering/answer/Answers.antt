use Rattle.std.proofs.Common.{[], ◌∷◌, Some, Err, inl, refl, arith}
use Rattle.std.proofs.lemmas.Result.{err_from_is_err_and}
use Rattle.fux_port.specs.Counts.{Rose}
use Rattle.fux_port.proofs.Rises.{rose_later}
use Rattle.command_words.specs.Commands.{mark_answer}
use Rattle.works.specs.Endings.{IsMade}
use Rattle.works.proofs.AnsweredLemmas.{of_answer}
use Rattle.works.specs.Blame.{IsUnserved}
use Rattle.works.proofs.BlameLemmas.{result_blames_none, text_blames, whole_kept}
use Rattle.works.proofs.MakeLemmas.{first_unread, made_said, read_same, sheet_unread}
use Rattle.works.proofs.answering.answer.Goals as goal

pub returns-in_err-text-clause-made : goal.returns-in_err-text-clause-made
returns-in_err-text-clause-made g c =
    let files = g.F.Shelf.files c.args.shelf.now in
    let rose = Rose (g.F.Shelf.faults c.args.shelf.now) (g.F.Shelf.faults c.read_content.new.shelf) in
    let task = mark_answer c.args.name.now c.args.lesson.now in
    let told = err_from_is_err_and c.from_residual.result c.from_residual.ensures.1 in
    rw (told.1, told.2) (first_unread c.args.name.now (c.args.lesson.now ∷ []) files rose 65536 _
    (λ complaint. IsMade task files rose (Err complaint)) (λ file is. inl is) tt c.in_err-text.ensures.reads)

pub returns-in_err-given-clause-made : goal.returns-in_err-given-clause-made
returns-in_err-given-clause-made g c =
    let files = g.F.Shelf.files in
    let faults = g.F.Shelf.faults in
    let task = mark_answer c.args.name.now c.args.lesson.now in
    let told = err_from_is_err_and c.from_residual-in_err-given.result c.from_residual-in_err-given.ensures.1 in
    rw (told.1, told.2) (sheet_unread c.args.name.now (Some c.args.lesson.now)
    (files c.args.shelf.now) (files c.read_content.new.shelf)
    (Rose (faults c.args.shelf.now) (faults c.read_content-2.new.shelf))
    (Rose (faults c.read_content.new.shelf) (faults c.read_content-2.new.shelf)) 65536 c.in_ok-text.text _
    (λ complaint. IsMade task (files c.args.shelf.now)
    (Rose (faults c.args.shelf.now) (faults c.read_content-2.new.shelf)) (Err complaint))
    (λ file is. inl is) tt
    c.in_ok-text.ensures.reads c.in_ok-text.ensures.files
    (rose_later _ _ _ c.in_ok-text.ensures.faults) c.in_err-given.ensures.reads)

pub returns-clause-made : goal.returns-clause-made
returns-clause-made g c =
    let name = c.args.name.now in
    let lesson = c.args.lesson.now in
    let text = c.in_ok-text.text in
    let given = c.in_ok-given.given in
    made_said (mark_answer name lesson) (g.F.Shelf.files c.args.shelf.now) _
    (text ∷ given ∷ []) c.of_texts.result c.said.result (
      c.in_ok-text.ensures.reads,
      read_same 65536 (g.F.Shelf.files c.args.shelf.now) _ (lesson ∷ []) (given ∷ [])
          c.in_ok-text.ensures.files (c.in_ok-given.ensures.reads, tt),
    )
    (of_answer (g.F.Shelf.files c.args.shelf.now) name lesson text given c.of_texts.result c.of_texts.ensures)
    c.said.ensures.says

pub returns-in_err-text-clause-served : goal.returns-in_err-text-clause-served
returns-in_err-text-clause-served g c =
    let told = err_from_is_err_and c.from_residual.result c.from_residual.ensures.1 in
    rw (told.1, told.2) (λ promised. c.in_err-text.ensures.served promised.before.0)

pub returns-in_err-given-clause-served : goal.returns-in_err-given-clause-served
returns-in_err-given-clause-served g c =
    let told = err_from_is_err_and c.from_residual-in_err-given.result c.from_residual-in_err-given.ensures.1 in
    rw (told.1, told.2) (λ promised. c.in_err-given.ensures.served
    (whole_kept (g.F.Shelf.serves c.args.shelf.now) (g.F.Shelf.serves c.read_content.new.shelf) c.args.lesson.now 65536
    c.in_ok-text.ensures.serving promised.before.1.0))

pub returns-clause-served : goal.returns-clause-served
returns-clause-served g c = λ _. c.said.ensures.reads

pub returns-in_err-text-clause-blamed : goal.returns-in_err-text-clause-blamed
returns-in_err-text-clause-blamed g c =
    let told = err_from_is_err_and c.from_residual.result c.from_residual.ensures.1 in
    rw (told.1, told.2) (text_blames (IsUnserved (g.F.Shelf.serves c.args.shelf.now) (g.F.Shelf.files c.args.shelf.now)
    (mark_answer c.args.name.now c.args.lesson.now)) 65536 _ _
    (g.F.Shelf.serves c.args.shelf.now) c.args.name.now _
    c.in_err-text.ensures.reads c.in_err-text.ensures.served (λ denied. inl ((0, omega arith, refl), denied)))

pub returns-in_err-given-clause-blamed : goal.returns-in_err-given-clause-blamed
returns-in_err-given-clause-blamed g c =
    let told = err_from_is_err_and c.from_residual-in_err-given.result c.from_residual-in_err-given.ensures.1 in
    rw (told.1, told.2) (text_blames (IsUnserved (g.F.Shelf.serves c.args.shelf.now) (g.F.Shelf.files c.args.shelf.now)
    (mark_answer c.args.name.now c.args.lesson.now)) 65536 _ _
    (g.F.Shelf.serves c.read_content.new.shelf) c.args.lesson.now _
    c.in_err-given.ensures.reads c.in_err-given.ensures.served (λ denied. inl (
      (1, omega arith, refl),
      λ promised. denied (whole_kept (g.F.Shelf.serves c.args.shelf.now) (g.F.Shelf.serves c.read_content.new.shelf)
          c.args.lesson.now 65536 c.in_ok-text.ensures.serving promised),
    )))

pub returns-clause-blamed : goal.returns-clause-blamed
returns-clause-blamed g c =
    result_blames_none (IsUnserved (g.F.Shelf.serves c.args.shelf.now) (g.F.Shelf.files c.args.shelf.now)
    (mark_answer c.args.name.now c.args.lesson.now)) c.said.result c.said.ensures.reads

pub returns-in_err-text-clause-little : goal.returns-in_err-text-clause-little
returns-in_err-text-clause-little g c = inl (omega (arith, c.read_content.ensures.little))

pub returns-in_err-given-clause-little : goal.returns-in_err-given-clause-little
returns-in_err-given-clause-little g c =
    inl (omega (arith, c.read_content.ensures.little, c.read_content-2.ensures.little))

pub returns-clause-little : goal.returns-clause-little
returns-clause-little g c = inl (omega (arith, c.read_content.ensures.little, c.read_content-2.ensures.little))
