use Rattle.std.proofs.Common.{◌≡◌, [], inl, inr, refl, subst, arith}
use Rattle.std.specs.Prelude.{IfErr}
use Rattle.std.proofs.lemmas.Result.{err_from_is_err_and}
use Rattle.fux_port.specs.Counts.{Rose}
use Rattle.fux_port.proofs.Rises.{rose_later}
use Rattle.works.specs.CantusChecked.{ChecksCantusBy}
use Rattle.works.specs.TaskFiles.{as_list}
use Rattle.command_words.specs.Commands.{check_cantus, sheet_named}
use Rattle.works.specs.Works.{IsReadySheet}
use Rattle.works.specs.Blame.{IsReadWithin, IsUnserved}
use Rattle.works.proofs.BlameLemmas.{blames_within, sheet_blames, whole_kept}
use Rattle.works.proofs.CantusLemmas.{alone_unread_of}
use Rattle.works.proofs.CheckLemmas.{within_said, within_same}
use Rattle.works.proofs.LittleLemmas.{cantus_little, reads_on_alone}
use Rattle.works.proofs.MakeLemmas.{have_bytes}
use Rattle.works.proofs.NearLemmas.{cantus_stops, said_near}
use Rattle.works.proofs.cantus_checking.checked_cantus.Goals as goal

pub returns-in_err-weights-clause-made : goal.returns-in_err-weights-clause-made
returns-in_err-weights-clause-made g c =
    let sheet = sheet_named c.args.sheet in
    let told = err_from_is_err_and c.from_residual.result c.from_residual.ensures.1 in
    rw (told.1, told.2)
    (alone_unread_of (check_cantus c.args.wanted c.args.certificate.now sheet) sheet (g.F.Shelf.files c.args.shelf.now) _ _
    refl c.in_err-weights.ensures.reads)

pub returns-clause-made : goal.returns-clause-made
returns-clause-made g c =
    let files = g.F.Shelf.files in
    let faults = g.F.Shelf.faults in
    let certificate = c.args.certificate.now in
    let task = check_cantus c.args.wanted certificate (sheet_named c.args.sheet) in
    let weights = c.in_ok-weights.weights in
    let rose = Rose (faults c.args.shelf.now) (faults c.check_over.new.shelf) in
    within_said task certificate (files c.args.shelf.now) rose (λ bytes. refl) (as_list weights) c.check_over.result
    c.said_within.result c.in_ok-weights.ensures.reads
    (λ sheets content. within_same (λ told. ChecksCantusBy c.args.wanted told certificate sheets) (IsReadySheet sheets)
    (Rose (faults c.read_weights.new.shelf) (faults c.check_over.new.shelf)) rose (files c.args.shelf.now)
    (files c.read_weights.new.shelf) certificate c.check_over.result c.in_ok-weights.ensures.files
    (λ later. rose_later _ _ _ c.in_ok-weights.ensures.faults later) (c.check_over.ensures.checks sheets content))
    c.said_within.ensures.says

pub returns-in_err-weights-clause-served : goal.returns-in_err-weights-clause-served
returns-in_err-weights-clause-served g c =
    let told = err_from_is_err_and c.from_residual.result c.from_residual.ensures.1 in
    rw (told.1, told.2) (λ promised. c.in_err-weights.ensures.served promised.before)

pub returns-clause-served : goal.returns-clause-served
returns-clause-served g c = λ promised.
    let known = have_bytes 65536 (g.F.Shelf.files c.args.shelf.now) (as_list (sheet_named c.args.sheet))
    (as_list c.in_ok-weights.weights) c.in_ok-weights.ensures.reads in
    c.said_within.ensures.reads (c.check_over.ensures.served
    (whole_kept (g.F.Shelf.serves c.args.shelf.now) (g.F.Shelf.serves c.read_weights.new.shelf) c.args.certificate.now
    1073741824 c.in_ok-weights.ensures.serving (promised.within known.bytes known.had).0))

pub returns-in_err-weights-clause-blamed : goal.returns-in_err-weights-clause-blamed
returns-in_err-weights-clause-blamed g c =
    let told = err_from_is_err_and c.from_residual.result c.from_residual.ensures.1 in
    let serves = g.F.Shelf.serves c.args.shelf.now in
    rw (told.1, told.2) (sheet_blames (IsUnserved serves (g.F.Shelf.files c.args.shelf.now)
    (check_cantus c.args.wanted c.args.certificate.now (sheet_named c.args.sheet))) _ _ serves serves
    (sheet_named c.args.sheet) _ c.in_err-weights.ensures.reads (λ name offset promised. promised)
    c.in_err-weights.ensures.served (λ name one. inl one))

pub returns-clause-blamed : goal.returns-clause-blamed
returns-clause-blamed g c =
    let files = g.F.Shelf.files c.args.shelf.now in
    let serves = g.F.Shelf.serves in
    let certificate = c.args.certificate.now in
    let sheet = sheet_named c.args.sheet in
    let weights = c.in_ok-weights.weights in
    blames_within (IsUnserved (serves c.args.shelf.now) files (check_cantus c.args.wanted certificate sheet)) [] certificate
    c.check_over.result c.said_within.result c.said_within.ensures.says
    (λ is. inr (
      reads_on_alone files c.args.wanted certificate sheet weights
          (ChecksCantusBy c.args.wanted (g.F.Shelf.files c.read_weights.new.shelf) certificate) _ c.check_over.result
          c.in_ok-weights.ensures.reads c.check_over.ensures.checks is,
      λ promised. subst (λ answer. IfErr answer IsReadWithin) is (c.check_over.ensures.served
          (whole_kept (serves c.args.shelf.now) (serves c.read_weights.new.shelf) certificate 1073741824
          c.in_ok-weights.ensures.serving promised)),
    ))

pub returns-in_err-weights-clause-little : goal.returns-in_err-weights-clause-little
returns-in_err-weights-clause-little g c = inl (omega (arith, c.read_weights.ensures.little))

pub returns-clause-little : goal.returns-clause-little
returns-clause-little g c =
    let sheet = sheet_named c.args.sheet in
    let known = have_bytes 65536 (g.F.Shelf.files c.args.shelf.now) (as_list sheet)
    (as_list c.in_ok-weights.weights) c.in_ok-weights.ensures.reads in
    cantus_little (g.F.Shelf.files c.args.shelf.now) c.args.wanted c.args.certificate.now sheet known.bytes
    (g.F.Shelf.given c.args.shelf.now) (g.F.Shelf.given c.read_weights.new.shelf)
    (g.F.Shelf.given c.check_over.new.shelf) known.had c.read_weights.ensures.little c.check_over.ensures.little

pub returns-clause-near : goal.returns-clause-near
returns-clause-near g c =
    said_near [] c.args.certificate.now _ c.check_over.result c.said_within.result
    (cantus_stops (g.F.Shelf.files c.args.shelf.now) (g.F.Shelf.files c.read_weights.new.shelf) c.args.wanted
    c.args.certificate.now (sheet_named c.args.sheet) c.in_ok-weights.weights (g.F.Shelf.given c.args.shelf.now)
    (g.F.Shelf.given c.read_weights.new.shelf) (g.F.Shelf.given c.check_over.new.shelf)
    (λ output line. output.bytes ≡ line) c.check_over.result c.in_ok-weights.ensures.reads c.in_ok-weights.ensures.files
    c.read_weights.ensures.little c.check_over.ensures.near) c.said_within.ensures.says
