use Rattle.std.proofs.Common.{inl, arith}
use Rattle.std.proofs.lemmas.Result.{err_from_is_err_and}
use Rattle.works.specs.TaskFiles.{as_list}
use Rattle.command_words.specs.Commands.{find_cantus, sheet_named}
use Rattle.works.specs.Blame.{IsUnserved}
use Rattle.works.proofs.BlameLemmas.{result_blames_none, sheet_blames}
use Rattle.works.proofs.CantusLemmas.{of_cantus, sheet_alone_unread}
use Rattle.works.proofs.MakeLemmas.{made_said}
use Rattle.works.proofs.inventing.new_cantus.Goals as goal

pub returns-in_err-weights-clause-made : goal.returns-in_err-weights-clause-made
returns-in_err-weights-clause-made g c =
    let told = err_from_is_err_and c.from_residual.result c.from_residual.ensures.1 in
    rw (told.1, told.2) (sheet_alone_unread c.args.wanted (sheet_named c.args.sheet) c.args.search
    (g.F.Shelf.files c.args.shelf.now) _ _ c.in_err-weights.ensures.reads)

pub returns-clause-made : goal.returns-clause-made
returns-clause-made g c =
    let sheet = sheet_named c.args.sheet in
    let weights = c.in_ok-weights.weights in
    made_said (find_cantus c.args.wanted sheet c.args.search) (g.F.Shelf.files c.args.shelf.now) _
    (as_list weights) c.of_weights.result c.said.result c.in_ok-weights.ensures.reads
    (of_cantus (g.F.Shelf.files c.args.shelf.now) c.args.wanted sheet c.args.search weights c.of_weights.result
    c.of_weights.ensures)
    c.said.ensures.says

pub returns-in_err-weights-clause-served : goal.returns-in_err-weights-clause-served
returns-in_err-weights-clause-served g c =
    let told = err_from_is_err_and c.from_residual.result c.from_residual.ensures.1 in
    rw (told.1, told.2) (λ promised. c.in_err-weights.ensures.served promised.before)

pub returns-clause-served : goal.returns-clause-served
returns-clause-served g c = λ _. c.said.ensures.reads

pub returns-in_err-weights-clause-blamed : goal.returns-in_err-weights-clause-blamed
returns-in_err-weights-clause-blamed g c =
    let told = err_from_is_err_and c.from_residual.result c.from_residual.ensures.1 in
    let serves = g.F.Shelf.serves c.args.shelf.now in
    rw (told.1, told.2) (sheet_blames (IsUnserved serves (g.F.Shelf.files c.args.shelf.now)
    (find_cantus c.args.wanted (sheet_named c.args.sheet) c.args.search)) _ _ serves serves (sheet_named c.args.sheet) _
    c.in_err-weights.ensures.reads (λ name offset promised. promised) c.in_err-weights.ensures.served
    (λ name one. inl one))

pub returns-clause-blamed : goal.returns-clause-blamed
returns-clause-blamed g c =
    result_blames_none (IsUnserved (g.F.Shelf.serves c.args.shelf.now) (g.F.Shelf.files c.args.shelf.now)
    (find_cantus c.args.wanted (sheet_named c.args.sheet) c.args.search)) c.said.result c.said.ensures.reads

pub returns-in_err-weights-clause-little : goal.returns-in_err-weights-clause-little
returns-in_err-weights-clause-little g c = inl (omega (arith, c.read_weights.ensures.little))

pub returns-clause-little : goal.returns-clause-little
returns-clause-little g c = inl (omega (arith, c.read_weights.ensures.little))
