use Rattle.works.specs.Endings.{IsMade}
use Rattle.std.proofs.Common.{[], ◌∷◌, inl, inr, map, refl, subst, arith, Err}
use Rattle.std.specs.Prelude.{string_bytes}
use Rattle.std.proofs.lemmas.Result.{err_from_is_err_and}
use Rattle.fux_port.specs.Counts.{Rose}
use Rattle.fux_port.proofs.Rises.{rose_later}
use Rattle.command_words.specs.Commands.{class_report}
use Rattle.works.specs.Blame.{IsUnserved, IsUnservedIn, ServesNames}
use Rattle.works.specs.TaskFiles.{names_listed}
use Rattle.works.proofs.BlameLemmas.{blames_none, blames_so, names_kept, text_blames, whole_kept}
use Rattle.works.proofs.ClassLemmas.{class_made, list_refused}
use Rattle.works.proofs.LittleLemmas.{class_little, list_reads_on}
use Rattle.works.proofs.MakeLemmas.{first_unread}
use Rattle.works.proofs.classing.class.Goals as goal

pub returns-in_err-text-clause-made : goal.returns-in_err-text-clause-made
returns-in_err-text-clause-made g c =
    let files = g.F.Shelf.files c.args.shelf.now in
    let rose = Rose (g.F.Shelf.faults c.args.shelf.now) (g.F.Shelf.faults c.read_content.new.shelf) in
    let task = class_report c.args.list.now in
    let told = err_from_is_err_and c.from_residual.result c.from_residual.ensures.1 in
    rw (told.1, told.2) (first_unread c.args.list.now [] files rose 65536 _
    (λ complaint. IsMade task files rose (Err complaint)) (λ file is. inl is) tt c.in_err-text.ensures.reads)

pub returns-in-Ok-clause-made : goal.returns-in-Ok-clause-made
returns-in-Ok-clause-made g c =
    let files = g.F.Shelf.files in
    let faults = g.F.Shelf.faults in
    class_made c.args.list.now (files c.args.shelf.now)
    (Rose (faults c.args.shelf.now) (faults c.report_files.new.shelf)) c.in_ok-text.text c.in_ok-text.ensures.reads
    (files c.read_content.new.shelf) (Rose (faults c.read_content.new.shelf) (faults c.report_files.new.shelf))
    (map string_bytes c.in-Ok.names.items) c.report_files.result (λ bytes content. c.in-Ok.ensures bytes content)
    c.in_ok-text.ensures.files (rose_later _ _ _ c.in_ok-text.ensures.faults) c.report_files.ensures.reports

pub returns-in-Err-At-clause-made : goal.returns-in-Err-At-clause-made
returns-in-Err-At-clause-made g c =
    let files = g.F.Shelf.files in
    let faults = g.F.Shelf.faults in
    list_refused c.args.list.now (files c.args.shelf.now)
    (Rose (faults c.args.shelf.now) (faults c.read_content.new.shelf)) c.in_ok-text.text c.in_ok-text.ensures.reads
    c.in-Err-At.line c.refused.result (λ bytes content. rw c.in-Err-At.field-0-is at (c.in-Err-At.ensures bytes content)) c.refused.ensures.says

pub returns-in-Ok-clause-served : goal.returns-in-Ok-clause-served
returns-in-Ok-clause-served g c = λ promised.
    let serves = g.F.Shelf.serves in
    let read = c.in_ok-text.ensures.reads in
    let names = map string_bytes c.in-Ok.names.items in
    c.report_files.ensures.served (names_kept (serves c.args.shelf.now) (serves c.read_content.new.shelf) 65536 names
    c.in_ok-text.ensures.serving (subst (λ listed. ServesNames (serves c.args.shelf.now) 65536 (names_listed listed))
    (c.in-Ok.ensures read.bytes read.content) (promised.within (read.bytes ∷ []) (read.had, tt))))

pub returns-in_err-text-clause-blamed : goal.returns-in_err-text-clause-blamed
returns-in_err-text-clause-blamed g c =
    let told = err_from_is_err_and c.from_residual.result c.from_residual.ensures.1 in
    rw (told.1, told.2) (text_blames (IsUnserved (g.F.Shelf.serves c.args.shelf.now) (g.F.Shelf.files c.args.shelf.now)
    (class_report c.args.list.now)) 65536 _ _
    (g.F.Shelf.serves c.args.shelf.now) c.args.list.now _
    c.in_err-text.ensures.reads c.in_err-text.ensures.served (λ denied. inl ((0, omega arith, refl), denied)))

pub returns-in-Ok-clause-blamed : goal.returns-in-Ok-clause-blamed
returns-in-Ok-clause-blamed g c =
    let files = g.F.Shelf.files c.args.shelf.now in
    let serves = g.F.Shelf.serves in
    let list = c.args.list.now in
    let names = c.in-Ok.names.items in
    blames_so (IsUnservedIn (serves c.read_content.new.shelf) 65536 (map string_bytes names))
    (IsUnserved (serves c.args.shelf.now) files (class_report list)) c.report_files.result
    (λ name one. inr (
      list_reads_on files list c.in_ok-text.text names name c.in_ok-text.ensures.reads
          (λ bytes content. c.in-Ok.ensures bytes content) one.0,
      λ promised. one.1 (whole_kept (serves c.args.shelf.now) (serves c.read_content.new.shelf) name 65536
          c.in_ok-text.ensures.serving promised),
    ))
    c.report_files.ensures.blamed

pub returns-in-Err-At-clause-blamed : goal.returns-in-Err-At-clause-blamed
returns-in-Err-At-clause-blamed g c =
    blames_none (IsUnserved (g.F.Shelf.serves c.args.shelf.now) (g.F.Shelf.files c.args.shelf.now)
    (class_report c.args.list.now)) c.refused.result c.refused.ensures.reads

pub returns-in_err-text-clause-little : goal.returns-in_err-text-clause-little
returns-in_err-text-clause-little g c = inl (omega (arith, c.read_content.ensures.little))

pub returns-in-Ok-clause-little : goal.returns-in-Ok-clause-little
returns-in-Ok-clause-little g c =
    class_little (g.F.Shelf.files c.args.shelf.now) c.args.list.now c.in_ok-text.text c.in-Ok.names.items
    (g.F.Shelf.given c.args.shelf.now) (g.F.Shelf.given c.read_content.new.shelf)
    (g.F.Shelf.given c.report_files.new.shelf) c.in_ok-text.ensures.reads
    (λ bytes content. c.in-Ok.ensures bytes content) c.read_content.ensures.little c.report_files.ensures.little

pub returns-in-Err-At-clause-little : goal.returns-in-Err-At-clause-little
returns-in-Err-At-clause-little g c = inl (omega (arith, c.read_content.ensures.little))
