use Rattle.std.proofs.Common.{Err, inl, refl, ◌∷◌, arith}
use Rattle.std.proofs.lemmas.Result.{err_from_is_err_and}
use Rattle.fux_port.specs.Counts.{Rose}
use Rattle.fux_port.specs.Promises.{Fails}
use Rattle.fux_port.proofs.Rises.{rose_later}
use Rattle.works.specs.TaskFiles.{as_list}
use Rattle.command_words.specs.Commands.{certify, sheet_named}
use Rattle.works.specs.Endings.{Ended}
use Rattle.works.specs.Blame.{IsUnserved}
use Rattle.works.proofs.BlameLemmas.{names_kept, result_blames_none, served_later, sheet_blames, text_blames}
use Rattle.works.proofs.CertifyLemmas.{ended_said, of_texts}
use Rattle.works.proofs.MakeLemmas.{read_same, sheet_unread}
use Rattle.works.proofs.certifying.perform_certify.Goals as goal

pub returns-in_err-weights-clause-ended : goal.returns-in_err-weights-clause-ended
returns-in_err-weights-clause-ended g c =
    let files = g.F.Shelf.files in
    let faults = g.F.Shelf.faults in
    let name = c.args.name.now in
    let sheet = sheet_named c.args.sheet in
    let told = err_from_is_err_and c.from_residual-in_err-weights.result c.from_residual-in_err-weights.ensures.1 in
    rw (told.1, told.2) (sheet_unread name sheet (files c.args.shelf.now) (files c.read_content.new.shelf)
    (Rose (faults c.args.shelf.now) (faults c.read_weights.new.shelf))
    (Rose (faults c.read_content.new.shelf) (faults c.read_weights.new.shelf))
    65536 c.in_ok-text.text _
    (λ complaint. Ended (certify name sheet c.args.budget c.args.form) (files c.args.shelf.now)
    (Rose (faults c.args.shelf.now) (faults c.read_weights.new.shelf))
    (Fails g.K.Sink.faults g.K.Sink.serves c.args.out.now c.args.out.now) (g.K.Sink.written c.args.out.now)
    (g.K.Sink.written c.args.out.now) (Err complaint))
    (λ file is. (refl, inl is)) refl
    c.in_ok-text.ensures.reads c.in_ok-text.ensures.files (rose_later _ _ _ c.in_ok-text.ensures.faults)
    c.in_err-weights.ensures.reads)

pub returns-clause-ended : goal.returns-clause-ended
returns-clause-ended g c =
    let name = c.args.name.now in
    let sheet = sheet_named c.args.sheet in
    let files = g.F.Shelf.files in
    let text = c.in_ok-text.text in
    let weights = c.in_ok-weights.weights in
    let cut = Fails g.K.Sink.faults g.K.Sink.serves c.args.out.now c.certify_texts.new.out in
    ended_said (certify name sheet c.args.budget c.args.form) (files c.args.shelf.now) _ cut (text ∷ as_list weights) _ _
    c.certify_texts.result c.said_of.result (
      c.in_ok-text.ensures.reads,
      read_same 65536 (files c.args.shelf.now) _ (as_list sheet) (as_list weights) c.in_ok-text.ensures.files
          c.in_ok-weights.ensures.reads,
    )
    (of_texts (files c.args.shelf.now) name sheet c.args.budget c.args.form text weights cut _ _ c.certify_texts.result
    c.certify_texts.ensures) c.said_of.ensures.says

pub returns-in_err-text-clause-served : goal.returns-in_err-text-clause-served
returns-in_err-text-clause-served g c =
    let told = err_from_is_err_and c.from_residual.result c.from_residual.ensures.1 in
    rw (told.1, told.2) (λ promised. c.in_err-text.ensures.served promised.0)

pub returns-in_err-weights-clause-served : goal.returns-in_err-weights-clause-served
returns-in_err-weights-clause-served g c =
    let serves = g.F.Shelf.serves in
    let told = err_from_is_err_and c.from_residual-in_err-weights.result c.from_residual-in_err-weights.ensures.1 in
    rw (told.1, told.2) (λ promised. c.in_err-weights.ensures.served (names_kept (serves c.args.shelf.now)
    (serves c.read_content.new.shelf) 65536 (as_list (sheet_named c.args.sheet)) c.in_ok-text.ensures.serving promised.1))

pub returns-clause-served : goal.returns-clause-served
returns-clause-served g c = λ _. c.said_of.ensures.reads

pub returns-in_err-text-clause-blamed : goal.returns-in_err-text-clause-blamed
returns-in_err-text-clause-blamed g c =
    let told = err_from_is_err_and c.from_residual.result c.from_residual.ensures.1 in
    rw (told.1, told.2) (text_blames (IsUnserved (g.F.Shelf.serves c.args.shelf.now) (g.F.Shelf.files c.args.shelf.now)
    (certify c.args.name.now (sheet_named c.args.sheet) c.args.budget c.args.form)) 65536 _ _
    (g.F.Shelf.serves c.args.shelf.now) c.args.name.now _
    c.in_err-text.ensures.reads c.in_err-text.ensures.served (λ denied. inl ((0, omega arith, refl), denied)))

pub returns-in_err-weights-clause-blamed : goal.returns-in_err-weights-clause-blamed
returns-in_err-weights-clause-blamed g c =
    let told = err_from_is_err_and c.from_residual-in_err-weights.result c.from_residual-in_err-weights.ensures.1 in
    rw (told.1, told.2) (sheet_blames (IsUnserved (g.F.Shelf.serves c.args.shelf.now) (g.F.Shelf.files c.args.shelf.now)
    (certify c.args.name.now (sheet_named c.args.sheet) c.args.budget c.args.form)) _ _
    (g.F.Shelf.serves c.args.shelf.now) (g.F.Shelf.serves c.read_content.new.shelf) (sheet_named c.args.sheet) _
    c.in_err-weights.ensures.reads c.in_ok-text.ensures.serving c.in_err-weights.ensures.served
    (λ name one. inl (served_later (g.F.Shelf.serves c.args.shelf.now) 65536 c.args.name.now (as_list (sheet_named c.args.sheet)) name one)))

pub returns-clause-blamed : goal.returns-clause-blamed
returns-clause-blamed g c =
    result_blames_none (IsUnserved (g.F.Shelf.serves c.args.shelf.now) (g.F.Shelf.files c.args.shelf.now)
    (certify c.args.name.now (sheet_named c.args.sheet) c.args.budget c.args.form)) c.said_of.result c.said_of.ensures.reads

pub returns-in_err-text-clause-little : goal.returns-in_err-text-clause-little
returns-in_err-text-clause-little g c = inl (omega (arith, c.read_content.ensures.little))

pub returns-in_err-weights-clause-little : goal.returns-in_err-weights-clause-little
returns-in_err-weights-clause-little g c =
    inl (omega (arith, c.read_content.ensures.little, c.read_weights.ensures.little))

pub returns-clause-little : goal.returns-clause-little
returns-clause-little g c = inl (omega (arith, c.read_content.ensures.little, c.read_weights.ensures.little))
