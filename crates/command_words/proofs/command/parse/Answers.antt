use Rattle.std.proofs.Common.{◌≡◌, IfOk, option_map, subst}
use Rattle.command_words.specs.Commands.{task_of}
use Rattle.command_words.proofs.FilesLemmas.{asked_files}
use Rattle.command_words.proofs.command.parse.Goals as goal

pub returns-in-Some-files_at-clause-asked : goal.returns-in-Some-files_at-clause-asked
returns-in-Some-files_at-clause-asked c =
    subst (λ asked. IfOk c.parse_files.result (λ found. option_map task_of found ≡ asked))
    (asked_files c.args.words.now c.in-Some.rest.now c.cut_at.result.0.now c.cut_at.result.1.now c.in-Some.word.now
    c.as_str.result.now c.in-Some-files_at.place c.in-Some.ensures.cases.0 c.as_str.ensures.value
    c.in-Some-files_at.ensures.place c.cut_at.ensures.before c.cut_at.ensures.behind)
    c.parse_files.ensures.asked
