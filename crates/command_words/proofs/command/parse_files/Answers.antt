use Rattle.clap.specs.Words.{app_of, found_of, rows_of}
use Rattle.command_words.specs.Commands.{texts}
use Rattle.command_words.proofs.Taken.{files_so, no_files}
use Rattle.command_words.proofs.command.parse_files.Goals as goal

pub returns-in_default-clause-asked : goal.returns-in_default-clause-asked
returns-in_default-clause-asked c =
    no_files (texts c.args.names.now) (texts c.args.words.now) (app_of c.in_ok-files_form.field-0)
    (rw c.in_default.is at c.in_ok-matches.ensures) c.in_ok-files_form.ensures

pub returns-clause-asked : goal.returns-clause-asked
returns-clause-asked c =
    files_so (texts c.args.names.now) (texts c.args.words.now) (app_of c.in_ok-files_form.field-0)
    (rows_of (found_of c.in-Some.matches)) _ (rw c.in-Some.is at c.in_ok-matches.ensures)
    c.in_ok-files_form.ensures c.files_asked.ensures.asked
