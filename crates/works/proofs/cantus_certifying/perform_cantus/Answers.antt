use Rattle.std.proofs.Common.{inl, refl, arith}
use Rattle.std.proofs.lemmas.Result.{err_from_is_err_and}
use Rattle.fux_port.specs.Promises.{Fails}
use Rattle.works.specs.TaskFiles.{as_list}
use Rattle.command_words.specs.Commands.{certify_cantus, sheet_named}
use Rattle.works.specs.Blame.{IsUnserved}
use Rattle.works.proofs.BlameLemmas.{result_blames_none, sheet_blames}
use Rattle.works.proofs.CantusLemmas.{alone_ended}
use Rattle.works.proofs.CertifyLemmas.{ended_said}
use Rattle.works.proofs.cantus_certifying.perform_cantus.Goals as goal

pub returns-in_err-weights-clause-ended : goal.returns-in_err-weights-clause-ended
returns-in_err-weights-clause-ended g c =
    let sheet = sheet_named c.args.sheet in
    let told = err_from_is_err_and c.from_residual.result c.from_residual.ensures.1 in
    rw (told.1, told.2)
    (alone_ended (certify_cantus c.args.wanted sheet c.args.budget) sheet (g.F.Shelf.files c.args.shelf.now) _ _ _ _ refl
    c.in_err-weights.ensures.reads)

pub returns-clause-ended : goal.returns-clause-ended
returns-clause-ended g c =
    let sheet = sheet_named c.args.sheet in
    let weights = c.in_ok-weights.weights in
    ended_said (certify_cantus c.args.wanted sheet c.args.budget) (g.F.Shelf.files c.args.shelf.now) _
    (Fails g.K.Sink.faults g.K.Sink.serves c.args.out.now c.certify_over.new.out) (as_list weights) _ _
    c.certify_over.result c.said_of.result c.in_ok-weights.ensures.reads c.certify_over.ensures
    c.said_of.ensures.says

pub returns-in_err-weights-clause-served : goal.returns-in_err-weights-clause-served
returns-in_err-weights-clause-served g c =
    let told = err_from_is_err_and c.from_residual.result c.from_residual.ensures.1 in
    rw (told.1, told.2) (λ promised. c.in_err-weights.ensures.served promised)

pub returns-clause-served : goal.returns-clause-served
returns-clause-served g c = λ _. c.said_of.ensures.reads

pub returns-in_err-weights-clause-blamed : goal.returns-in_err-weights-clause-blamed
returns-in_err-weights-clause-blamed g c =
    let told = err_from_is_err_and c.from_residual.result c.from_residual.ensures.1 in
    let serves = g.F.Shelf.serves c.args.shelf.now in
    rw (told.1, told.2) (sheet_blames (IsUnserved serves (g.F.Shelf.files c.args.shelf.now)
    (certify_cantus c.args.wanted (sheet_named c.args.sheet) c.args.budget)) _ _ serves serves (sheet_named c.args.sheet) _
    c.in_err-weights.ensures.reads (λ name offset promised. promised) c.in_err-weights.ensures.served
    (λ name one. inl one))

pub returns-clause-blamed : goal.returns-clause-blamed
returns-clause-blamed g c =
    result_blames_none (IsUnserved (g.F.Shelf.serves c.args.shelf.now) (g.F.Shelf.files c.args.shelf.now)
    (certify_cantus c.args.wanted (sheet_named c.args.sheet) c.args.budget)) c.said_of.result c.said_of.ensures.reads

pub returns-in_err-weights-clause-little : goal.returns-in_err-weights-clause-little
returns-in_err-weights-clause-little g c = inl (omega (arith, c.read_weights.ensures.little))

pub returns-clause-little : goal.returns-clause-little
returns-clause-little g c = inl (omega (arith, c.read_weights.ensures.little))
