use Rattle.std.proofs.Common.{refl}
use Rattle.clap.specs.Words.{app_of}
use Rattle.command_words.specs.Forms.{needed_word}
use Rattle.command_words.proofs.FormLemmas.{added, is_needed}
use Rattle.command_words.proofs.forms.with_word.Goals as goal

pub returns : goal.returns
returns c =
    added c.arg.result c.args.command (app_of c.args.command) c.required-needed.result (needed_word c.args.word.now)
    refl
    (rw c.required-needed.ensures c.new.ensures.optional.1)
    (is_needed c.args.word.now c.new.result c.required-needed.result c.new.ensures.rule c.required-needed.ensures)
    c.arg.ensures
