use Rattle.std.proofs.Common.{Err, inl, refl, ◌∷◌, arith}
use Rattle.std.proofs.lemmas.Result.{err_from_is_err_and}
use Rattle.fux_port.specs.Counts.{Rose}
use Rattle.fux_port.proofs.Rises.{rose_later}
use Rattle.works.specs.TaskFiles.{as_list}
use Rattle.command_words.specs.Commands.{on_mixed, sheet_named}
use Rattle.works.specs.Endings.{IsMade}
use Rattle.works.specs.Blame.{IsUnserved}
use Rattle.works.proofs.BlameLemmas.{names_kept, result_blames_none, served_later, sheet_blames, text_blames}
use Rattle.works.proofs.MixedLemmas.{of_mixed_texts}
use Rattle.works.proofs.MakeLemmas.{first_unread, made_said, read_same, sheet_unread}
use Rattle.works.proofs.mixing.on_mixed.Goals as goal

pub returns-in_err-text-clause-made : goal.returns-in_err-text-clause-made
returns-in_err-text-clause-made g c =
    let files = g.F.Shelf.files c.args.shelf.now in
    let rose = Rose (g.F.Shelf.faults c.args.shelf.now) (g.F.Shelf.faults c.read_content.new.shelf) in
    let task = on_mixed c.args.name.now (sheet_named c.args.sheet) c.args.named.now c.args.job in
    let told = err_from_is_err_and c.from_residual.result c.from_residual.ensures.1 in
    rw (told.1, told.2) (first_unread c.args.name.now (as_list (sheet_named c.args.sheet)) files rose 65536 _
    (λ complaint. IsMade task files rose (Err complaint)) (λ file is. inl is) tt c.in_err-text.ensures.reads)

pub returns-in_err-weights-clause-made : goal.returns-in_err-weights-clause-made
returns-in_err-weights-clause-made g c =
    let files = g.F.Shelf.files in
    let faults = g.F.Shelf.faults in
    let task = on_mixed c.args.name.now (sheet_named c.args.sheet) c.args.named.now c.args.job in
    let told = err_from_is_err_and c.from_residual-in_err-weights.result c.from_residual-in_err-weights.ensures.1 in
    rw (told.1, told.2) (sheet_unread c.args.name.now (sheet_named c.args.sheet)
    (files c.args.shelf.now) (files c.read_content.new.shelf)
    (Rose (faults c.args.shelf.now) (faults c.read_weights.new.shelf))
    (Rose (faults c.read_content.new.shelf) (faults c.read_weights.new.shelf)) 65536 c.in_ok-text.text _
    (λ complaint. IsMade task (files c.args.shelf.now)
    (Rose (faults c.args.shelf.now) (faults c.read_weights.new.shelf)) (Err complaint))
    (λ file is. inl is) tt
    c.in_ok-text.ensures.reads c.in_ok-text.ensures.files
    (rose_later _ _ _ c.in_ok-text.ensures.faults) c.in_err-weights.ensures.reads)

pub returns-clause-made : goal.returns-clause-made
returns-clause-made g c =
    let name = c.args.name.now in
    let sheet = sheet_named c.args.sheet in
    let text = c.in_ok-text.text in
    let weights = c.in_ok-weights.weights in
    made_said (on_mixed name sheet c.args.named.now c.args.job) (g.F.Shelf.files c.args.shelf.now) _
    (text ∷ as_list weights) c.of_texts.result c.said.result (
      c.in_ok-text.ensures.reads,
      read_same 65536 (g.F.Shelf.files c.args.shelf.now) _ (as_list sheet) (as_list weights)
          c.in_ok-text.ensures.files c.in_ok-weights.ensures.reads,
    )
    (of_mixed_texts (g.F.Shelf.files c.args.shelf.now) name sheet c.args.named.now c.args.job text weights c.of_texts.result
    c.of_texts.ensures)
    c.said.ensures.says

pub returns-in_err-text-clause-served : goal.returns-in_err-text-clause-served
returns-in_err-text-clause-served g c =
    let told = err_from_is_err_and c.from_residual.result c.from_residual.ensures.1 in
    rw (told.1, told.2) (λ promised. c.in_err-text.ensures.served promised.before.0)

pub returns-in_err-weights-clause-served : goal.returns-in_err-weights-clause-served
returns-in_err-weights-clause-served g c =
    let told = err_from_is_err_and c.from_residual-in_err-weights.result c.from_residual-in_err-weights.ensures.1 in
    rw (told.1, told.2) (λ promised. c.in_err-weights.ensures.served
    (names_kept (g.F.Shelf.serves c.args.shelf.now) (g.F.Shelf.serves c.read_content.new.shelf) 65536
    (as_list (sheet_named c.args.sheet)) c.in_ok-text.ensures.serving promised.before.1))

pub returns-clause-served : goal.returns-clause-served
returns-clause-served g c = λ _. c.said.ensures.reads

pub returns-in_err-text-clause-blamed : goal.returns-in_err-text-clause-blamed
returns-in_err-text-clause-blamed g c =
    let told = err_from_is_err_and c.from_residual.result c.from_residual.ensures.1 in
    rw (told.1, told.2) (text_blames (IsUnserved (g.F.Shelf.serves c.args.shelf.now) (g.F.Shelf.files c.args.shelf.now)
    (on_mixed c.args.name.now (sheet_named c.args.sheet) c.args.named.now c.args.job)) 65536 _ _
    (g.F.Shelf.serves c.args.shelf.now) c.args.name.now _
    c.in_err-text.ensures.reads c.in_err-text.ensures.served (λ denied. inl ((0, omega arith, refl), denied)))

pub returns-in_err-weights-clause-blamed : goal.returns-in_err-weights-clause-blamed
returns-in_err-weights-clause-blamed g c =
    let told = err_from_is_err_and c.from_residual-in_err-weights.result c.from_residual-in_err-weights.ensures.1 in
    rw (told.1, told.2) (sheet_blames (IsUnserved (g.F.Shelf.serves c.args.shelf.now) (g.F.Shelf.files c.args.shelf.now)
    (on_mixed c.args.name.now (sheet_named c.args.sheet) c.args.named.now c.args.job)) _ _
    (g.F.Shelf.serves c.args.shelf.now) (g.F.Shelf.serves c.read_content.new.shelf) (sheet_named c.args.sheet) _
    c.in_err-weights.ensures.reads c.in_ok-text.ensures.serving c.in_err-weights.ensures.served
    (λ name one. inl (served_later (g.F.Shelf.serves c.args.shelf.now) 65536 c.args.name.now (as_list (sheet_named c.args.sheet)) name one)))

pub returns-clause-blamed : goal.returns-clause-blamed
returns-clause-blamed g c =
    result_blames_none (IsUnserved (g.F.Shelf.serves c.args.shelf.now) (g.F.Shelf.files c.args.shelf.now)
    (on_mixed c.args.name.now (sheet_named c.args.sheet) c.args.named.now c.args.job)) c.said.result c.said.ensures.reads

pub returns-in_err-text-clause-little : goal.returns-in_err-text-clause-little
returns-in_err-text-clause-little g c = inl (omega (arith, c.read_content.ensures.little))

pub returns-in_err-weights-clause-little : goal.returns-in_err-weights-clause-little
returns-in_err-weights-clause-little g c =
    inl (omega (arith, c.read_content.ensures.little, c.read_weights.ensures.little))

pub returns-clause-little : goal.returns-clause-little
returns-clause-little g c = inl (omega (arith, c.read_content.ensures.little, c.read_weights.ensures.little))
